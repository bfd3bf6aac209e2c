-- The trees of the event blocks, as their text has them.
use Rattle.std.proofs.Common.{ℕ, true, false, List, [], ◌∷◌, Option, Some, None}
use Rattle.std.specs.Prelude.{codes}
use Rattle.fb_words.specs.declared.elem_type.ElemType.TheVariants.{Bool, Uint}
use Rattle.fb_words.specs.declared.operator.Operator.TheVariants.{Plus, Less, GreaterEqual}
use Rattle.fb_model.specs.Names.{Name}
use Rattle.fb_model.specs.Productions.{Word}
use Rattle.fb_model.specs.Trees.{Whole, Truth}
use Rattle.fb_model.specs.Declarations.{BlockTree, ChartTree, Chart, SourceTree}
use Rattle.fb_model.specs.StructuredText.{literal, variable, inverse, binary, assign, no_statement, statement}

abbrev pub word : Name → ℕ → Word
word text place = record { text = text; at = place }

abbrev pub e_split_chart : ChartTree
e_split_chart = record {
  internals = [];
  states = record { name = word (codes "START") 93; actions = [] } ∷ record { name = word (codes "ACT") 100; actions = record { algorithm = None; output = Some (word (codes "EO1") 109) } ∷ record { algorithm = None; output = Some (word (codes "EO2") 117) } ∷ [] } ∷ [];
  transitions =
      record { source = word (codes "START") 148; target = word (codes "ACT") 157; event = Some (word (codes "EI") 164); guard = None }
      ∷ record { source = word (codes "ACT") 168; target = word (codes "START") 175; event = None; guard = None }
      ∷ [];
  algorithms = [];
}

abbrev pub e_split_tree : BlockTree
e_split_tree = record {
  name = word (codes "E_SPLIT") 16;
  event_inputs = record { name = word (codes "EI") 36; carries = [] } ∷ [];
  event_outputs = record { name = word (codes "EO1") 63; carries = [] } ∷ record { name = word (codes "EO2") 68; carries = [] } ∷ [];
  inputs = [];
  outputs = [];
  body = Chart e_split_chart;
}

abbrev pub e_merge_chart : ChartTree
e_merge_chart = record {
  internals = [];
  states = record { name = word (codes "START") 315; actions = [] } ∷ record { name = word (codes "ACT") 322; actions = record { algorithm = None; output = Some (word (codes "EO") 331) } ∷ [] } ∷ [];
  transitions =
      record { source = word (codes "START") 361; target = word (codes "ACT") 370; event = Some (word (codes "EI1") 377); guard = None }
      ∷ record { source = word (codes "START") 382; target = word (codes "ACT") 391; event = Some (word (codes "EI2") 398); guard = None }
      ∷ record { source = word (codes "ACT") 403; target = word (codes "START") 410; event = None; guard = None }
      ∷ [];
  algorithms = [];
}

abbrev pub e_merge_tree : BlockTree
e_merge_tree = record {
  name = word (codes "E_MERGE") 238;
  event_inputs = record { name = word (codes "EI1") 258; carries = [] } ∷ record { name = word (codes "EI2") 263; carries = [] } ∷ [];
  event_outputs = record { name = word (codes "EO") 291; carries = [] } ∷ [];
  inputs = [];
  outputs = [];
  body = Chart e_merge_chart;
}

abbrev pub e_permit_chart : ChartTree
e_permit_chart = record {
  internals = [];
  states = record { name = word (codes "START") 590; actions = [] } ∷ record { name = word (codes "ACT") 597; actions = record { algorithm = None; output = Some (word (codes "EO") 606) } ∷ [] } ∷ [];
  transitions =
      record { source = word (codes "START") 636; target = word (codes "ACT") 645; event = Some (word (codes "EI") 652); guard = Some (record { at = 655; condition = variable (word (codes "PERMIT") 656) }) }
      ∷ record { source = word (codes "ACT") 665; target = word (codes "START") 672; event = None; guard = None }
      ∷ [];
  algorithms = [];
}

abbrev pub e_permit_tree : BlockTree
e_permit_tree = record {
  name = word (codes "E_PERMIT") 473;
  event_inputs = record { name = word (codes "EI") 494; carries = (word (codes "PERMIT") 502) ∷ [] } ∷ [];
  event_outputs = record { name = word (codes "EO") 533; carries = [] } ∷ [];
  inputs = record { names = (word (codes "PERMIT") 557) ∷ []; bounds = None; type = Bool; start = None } ∷ [];
  outputs = [];
  body = Chart e_permit_chart;
}

abbrev pub e_select_chart : ChartTree
e_select_chart = record {
  internals = [];
  states = record { name = word (codes "START") 855; actions = [] } ∷ record { name = word (codes "ACT") 862; actions = record { algorithm = None; output = Some (word (codes "EO") 871) } ∷ [] } ∷ [];
  transitions =
      record { source = word (codes "START") 901; target = word (codes "ACT") 910; event = Some (word (codes "EI0") 917); guard = Some (record { at = 921; condition = inverse 922 (variable (word (codes "G") 926)) }) }
      ∷ record { source = word (codes "START") 930; target = word (codes "ACT") 939; event = Some (word (codes "EI1") 946); guard = Some (record { at = 950; condition = variable (word (codes "G") 951) }) }
      ∷ record { source = word (codes "ACT") 955; target = word (codes "START") 962; event = None; guard = None }
      ∷ [];
  algorithms = [];
}

abbrev pub e_select_tree : BlockTree
e_select_tree = record {
  name = word (codes "E_SELECT") 735;
  event_inputs = record { name = word (codes "EI0") 756; carries = (word (codes "G") 765) ∷ [] } ∷ record { name = word (codes "EI1") 768; carries = (word (codes "G") 777) ∷ [] } ∷ [];
  event_outputs = record { name = word (codes "EO") 803; carries = [] } ∷ [];
  inputs = record { names = (word (codes "G") 827) ∷ []; bounds = None; type = Bool; start = None } ∷ [];
  outputs = [];
  body = Chart e_select_chart;
}

abbrev pub e_switch_chart : ChartTree
e_switch_chart = record {
  internals = [];
  states = record { name = word (codes "START") 1138; actions = [] } ∷ record { name = word (codes "OUT0") 1145; actions = record { algorithm = None; output = Some (word (codes "EO0") 1155) } ∷ [] } ∷ record { name = word (codes "OUT1") 1160; actions = record { algorithm = None; output = Some (word (codes "EO1") 1170) } ∷ [] } ∷ [];
  transitions =
      record { source = word (codes "START") 1201; target = word (codes "OUT0") 1210; event = Some (word (codes "EI") 1218); guard = Some (record { at = 1221; condition = inverse 1222 (variable (word (codes "G") 1226)) }) }
      ∷ record { source = word (codes "START") 1230; target = word (codes "OUT1") 1239; event = Some (word (codes "EI") 1247); guard = Some (record { at = 1250; condition = variable (word (codes "G") 1251) }) }
      ∷ record { source = word (codes "OUT0") 1255; target = word (codes "START") 1263; event = None; guard = None }
      ∷ record { source = word (codes "OUT1") 1275; target = word (codes "START") 1283; event = None; guard = None }
      ∷ [];
  algorithms = [];
}

abbrev pub e_switch_tree : BlockTree
e_switch_tree = record {
  name = word (codes "E_SWITCH") 1025;
  event_inputs = record { name = word (codes "EI") 1046; carries = (word (codes "G") 1054) ∷ [] } ∷ [];
  event_outputs = record { name = word (codes "EO0") 1080; carries = [] } ∷ record { name = word (codes "EO1") 1085; carries = [] } ∷ [];
  inputs = record { names = (word (codes "G") 1110) ∷ []; bounds = None; type = Bool; start = None } ∷ [];
  outputs = [];
  body = Chart e_switch_chart;
}

abbrev pub e_sr_chart : ChartTree
e_sr_chart = record {
  internals = [];
  states = record { name = word (codes "START") 1452; actions = [] } ∷ record { name = word (codes "SET") 1459; actions = record { algorithm = Some (word (codes "SETQ") 1465); output = Some (word (codes "EO") 1473) } ∷ [] } ∷ record { name = word (codes "RESET") 1477; actions = record { algorithm = Some (word (codes "RESETQ") 1485); output = Some (word (codes "EO") 1495) } ∷ [] } ∷ [];
  transitions =
      record { source = word (codes "START") 1525; target = word (codes "SET") 1534; event = Some (word (codes "S") 1541); guard = None }
      ∷ record { source = word (codes "SET") 1544; target = word (codes "RESET") 1551; event = Some (word (codes "R") 1560); guard = None }
      ∷ record { source = word (codes "RESET") 1563; target = word (codes "SET") 1572; event = Some (word (codes "S") 1579); guard = None }
      ∷ [];
  algorithms = record { name = word (codes "SETQ") 1608; body = statement (assign (word (codes "Q") 1620) 1622 (literal (record { value = Truth true; at = 1625 }))) no_statement } ∷ record { name = word (codes "RESETQ") 1655; body = statement (assign (word (codes "Q") 1669) 1671 (literal (record { value = Truth false; at = 1674 }))) no_statement } ∷ [];
}

abbrev pub e_sr_tree : BlockTree
e_sr_tree = record {
  name = word (codes "E_SR") 1346;
  event_inputs = record { name = word (codes "S") 1363; carries = [] } ∷ record { name = word (codes "R") 1366; carries = [] } ∷ [];
  event_outputs = record { name = word (codes "EO") 1392; carries = (word (codes "Q") 1400) ∷ [] } ∷ [];
  inputs = [];
  outputs = record { names = (word (codes "Q") 1424) ∷ []; bounds = None; type = Bool; start = None } ∷ [];
  body = Chart e_sr_chart;
}

abbrev pub e_ctu_chart : ChartTree
e_ctu_chart = record {
  internals = [];
  states = record { name = word (codes "START") 1906; actions = [] } ∷ record { name = word (codes "COUNT") 1913; actions = record { algorithm = Some (word (codes "UP") 1921); output = Some (word (codes "CUO") 1927) } ∷ [] } ∷ record { name = word (codes "CLEAR") 1932; actions = record { algorithm = Some (word (codes "ZERO") 1940); output = Some (word (codes "RO") 1948) } ∷ [] } ∷ [];
  transitions =
      record { source = word (codes "START") 1978; target = word (codes "COUNT") 1987; event = Some (word (codes "CU") 1996); guard = Some (record { at = 1999; condition = binary Less 2003 (variable (word (codes "CV") 2000)) (literal (record { value = Whole false 65535; at = 2005 })) }) }
      ∷ record { source = word (codes "START") 2013; target = word (codes "CLEAR") 2022; event = Some (word (codes "R") 2031); guard = None }
      ∷ record { source = word (codes "COUNT") 2034; target = word (codes "START") 2043; event = None; guard = None }
      ∷ record { source = word (codes "CLEAR") 2055; target = word (codes "START") 2064; event = None; guard = None }
      ∷ [];
  algorithms = record { name = word (codes "UP") 2102; body = statement (assign (word (codes "CV") 2112) 2115 (binary Plus 2121 (variable (word (codes "CV") 2118)) (literal (record { value = Whole false 1; at = 2123 })))) (statement (assign (word (codes "Q") 2126) 2128 (binary GreaterEqual 2134 (variable (word (codes "CV") 2131)) (variable (word (codes "PV") 2137)))) no_statement) } ∷ record { name = word (codes "ZERO") 2165; body = statement (assign (word (codes "CV") 2177) 2180 (literal (record { value = Whole false 0; at = 2183 }))) (statement (assign (word (codes "Q") 2186) 2188 (literal (record { value = Truth false; at = 2191 }))) no_statement) } ∷ [];
}

abbrev pub e_ctu_tree : BlockTree
e_ctu_tree = record {
  name = word (codes "E_CTU") 1730;
  event_inputs = record { name = word (codes "CU") 1748; carries = (word (codes "PV") 1756) ∷ [] } ∷ record { name = word (codes "R") 1760; carries = [] } ∷ [];
  event_outputs = record { name = word (codes "CUO") 1786; carries = (word (codes "Q") 1795) ∷ (word (codes "CV") 1798) ∷ [] } ∷ record { name = word (codes "RO") 1802; carries = (word (codes "Q") 1810) ∷ (word (codes "CV") 1813) ∷ [] } ∷ [];
  inputs = record { names = (word (codes "PV") 1837) ∷ []; bounds = None; type = Uint; start = None } ∷ [];
  outputs = record { names = (word (codes "Q") 1867) ∷ []; bounds = None; type = Bool; start = None } ∷ record { names = (word (codes "CV") 1877) ∷ []; bounds = None; type = Uint; start = None } ∷ [];
  body = Chart e_ctu_chart;
}

abbrev pub event_trees : List BlockTree
event_trees = e_split_tree ∷ e_merge_tree ∷ e_permit_tree ∷ e_select_tree ∷ e_switch_tree ∷ e_sr_tree ∷ e_ctu_tree ∷ []

-- with a system of no devices
abbrev pub event_source : SourceTree
event_source = record { blocks = event_trees; system = record { name = word (codes "EVENT_BLOCKS") 2239; devices = [] } }
