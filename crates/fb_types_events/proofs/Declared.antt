-- The trees of the event blocks declare them.
use Rattle.std.proofs.Common.{pos, true, false, List, [], ◌∷◌, None, Some, refl, arith}
use Rattle.std.specs.Prelude.{codes}
use Rattle.fb_words.specs.declared.elem_type.ElemType.TheVariants.{Bool, Uint}
use Rattle.fb_words.specs.declared.operator.Operator.TheVariants.{Plus, Less, GreaterEqual}
use Rattle.fb_words.specs.declared.operator.Operation.TheVariants.{Infix, Not}
use Rattle.fb_model.specs.Trees.{Whole, Truth}
use Rattle.fb_model.specs.StructuredText.{literal, variable, inverse, binary, assign, no_statement, statement}
use Rattle.fb_model.specs.TypedText.{constant, read, single, double, set, done, then_do}
use Rattle.fb_model.specs.TextTyping.{Symbol, widens}
use Rattle.fb_model.specs.BlockTyping.{Declared, declared, no_bounds, no_start, none, more, scope, no_guard, a_guard, no_transition, a_transition, no_procedure, a_procedure}
use Rattle.fb_model.specs.EventBlocks.{e_split, e_merge, e_permit, e_select, e_switch, e_sr, e_ctu, Declares, AreEventBlocks, no_more, one_more}
use Rattle.st_types.proofs.Commands.{condition_sound, commands_sound}
use Rattle.fb_types_events.proofs.EventTrees.{word, e_split_tree, e_split_chart, e_merge_tree, e_merge_chart, e_permit_tree, e_permit_chart, e_select_tree, e_select_chart, e_switch_tree, e_switch_chart, e_sr_tree, e_sr_chart, e_ctu_tree, e_ctu_chart, event_trees}

e_split_declared : Declares e_split_tree (codes "E_SPLIT", e_split)
e_split_declared = record {
  name = refl;
  chart = e_split_chart;
  body = refl;
  block = record {
    ins = [];
    outs = [];
    inner = [];
    face = record {
      inputs = none;
      outputs = none;
      takes = (tt, tt);
      gives = (tt, (tt, tt));
      few_event_inputs = omega arith;
      few_event_outputs = omega arith;
      few_inputs = omega arith;
      few_outputs = omega arith;
      face = refl;
    };
    internals = none;
    internals_are = refl;
    names = (refl, (refl, (refl, tt)));
    state_names = (refl, (refl, tt));
    algorithm_names = tt;
    few_states = omega arith;
    few_transitions = omega arith;
    few_algorithms = omega arith;
    actions = (tt, ((record { algorithm = tt; output = refl }, (record { algorithm = tt; output = refl }, tt)), tt));
    states = refl;
    transitions =
        a_transition (record { known_source = refl; known_target = refl; known_event = refl; source = refl; target = refl; event = refl; guard = no_guard }) (
        a_transition (record { known_source = refl; known_target = refl; known_event = tt; source = refl; target = refl; event = refl; guard = no_guard }) no_transition);
    procedures =
        no_procedure;
  };
}

e_merge_declared : Declares e_merge_tree (codes "E_MERGE", e_merge)
e_merge_declared = record {
  name = refl;
  chart = e_merge_chart;
  body = refl;
  block = record {
    ins = [];
    outs = [];
    inner = [];
    face = record {
      inputs = none;
      outputs = none;
      takes = (tt, (tt, tt));
      gives = (tt, tt);
      few_event_inputs = omega arith;
      few_event_outputs = omega arith;
      few_inputs = omega arith;
      few_outputs = omega arith;
      face = refl;
    };
    internals = none;
    internals_are = refl;
    names = (refl, (refl, (refl, tt)));
    state_names = (refl, (refl, tt));
    algorithm_names = tt;
    few_states = omega arith;
    few_transitions = omega arith;
    few_algorithms = omega arith;
    actions = (tt, ((record { algorithm = tt; output = refl }, tt), tt));
    states = refl;
    transitions =
        a_transition (record { known_source = refl; known_target = refl; known_event = refl; source = refl; target = refl; event = refl; guard = no_guard }) (
        a_transition (record { known_source = refl; known_target = refl; known_event = refl; source = refl; target = refl; event = refl; guard = no_guard }) (
        a_transition (record { known_source = refl; known_target = refl; known_event = tt; source = refl; target = refl; event = refl; guard = no_guard }) no_transition));
    procedures =
        no_procedure;
  };
}

abbrev e_permit_scope : List Symbol
e_permit_scope = scope (declared Bool None None (word (codes "PERMIT") 557) ∷ []) [] []

e_permit_declared : Declares e_permit_tree (codes "E_PERMIT", e_permit)
unfolding widens
e_permit_declared = record {
  name = refl;
  chart = e_permit_chart;
  body = refl;
  block = record {
    ins = declared Bool None None (word (codes "PERMIT") 557) ∷ [];
    outs = [];
    inner = [];
    face = record {
      inputs = more no_bounds no_start none;
      outputs = none;
      takes = ((refl, tt), tt);
      gives = (tt, tt);
      few_event_inputs = omega arith;
      few_event_outputs = omega arith;
      few_inputs = omega arith;
      few_outputs = omega arith;
      face = refl;
    };
    internals = none;
    internals_are = refl;
    names = (refl, (refl, (refl, tt)));
    state_names = (refl, (refl, tt));
    algorithm_names = tt;
    few_states = omega arith;
    few_transitions = omega arith;
    few_algorithms = omega arith;
    actions = (tt, ((record { algorithm = tt; output = refl }, tt), tt));
    states = refl;
    transitions =
        a_transition (record { known_source = refl; known_target = refl; known_event = refl; source = refl; target = refl; event = refl; guard = a_guard (condition_sound e_permit_scope 655 (variable (word (codes "PERMIT") 656)) (read (codes "PERMIT")) refl) }) (
        a_transition (record { known_source = refl; known_target = refl; known_event = tt; source = refl; target = refl; event = refl; guard = no_guard }) no_transition);
    procedures =
        no_procedure;
  };
}

abbrev e_select_scope : List Symbol
e_select_scope = scope (declared Bool None None (word (codes "G") 827) ∷ []) [] []

e_select_declared : Declares e_select_tree (codes "E_SELECT", e_select)
unfolding widens
e_select_declared = record {
  name = refl;
  chart = e_select_chart;
  body = refl;
  block = record {
    ins = declared Bool None None (word (codes "G") 827) ∷ [];
    outs = [];
    inner = [];
    face = record {
      inputs = more no_bounds no_start none;
      outputs = none;
      takes = ((refl, tt), ((refl, tt), tt));
      gives = (tt, tt);
      few_event_inputs = omega arith;
      few_event_outputs = omega arith;
      few_inputs = omega arith;
      few_outputs = omega arith;
      face = refl;
    };
    internals = none;
    internals_are = refl;
    names = (refl, (refl, (refl, (refl, tt))));
    state_names = (refl, (refl, tt));
    algorithm_names = tt;
    few_states = omega arith;
    few_transitions = omega arith;
    few_algorithms = omega arith;
    actions = (tt, ((record { algorithm = tt; output = refl }, tt), tt));
    states = refl;
    transitions =
        a_transition (record { known_source = refl; known_target = refl; known_event = refl; source = refl; target = refl; event = refl; guard = a_guard (condition_sound e_select_scope 921 (inverse 922 (variable (word (codes "G") 926))) (single Not Bool (read (codes "G"))) refl) }) (
        a_transition (record { known_source = refl; known_target = refl; known_event = refl; source = refl; target = refl; event = refl; guard = a_guard (condition_sound e_select_scope 950 (variable (word (codes "G") 951)) (read (codes "G")) refl) }) (
        a_transition (record { known_source = refl; known_target = refl; known_event = tt; source = refl; target = refl; event = refl; guard = no_guard }) no_transition));
    procedures =
        no_procedure;
  };
}

abbrev e_switch_scope : List Symbol
e_switch_scope = scope (declared Bool None None (word (codes "G") 1110) ∷ []) [] []

e_switch_declared : Declares e_switch_tree (codes "E_SWITCH", e_switch)
unfolding widens
e_switch_declared = record {
  name = refl;
  chart = e_switch_chart;
  body = refl;
  block = record {
    ins = declared Bool None None (word (codes "G") 1110) ∷ [];
    outs = [];
    inner = [];
    face = record {
      inputs = more no_bounds no_start none;
      outputs = none;
      takes = ((refl, tt), tt);
      gives = (tt, (tt, tt));
      few_event_inputs = omega arith;
      few_event_outputs = omega arith;
      few_inputs = omega arith;
      few_outputs = omega arith;
      face = refl;
    };
    internals = none;
    internals_are = refl;
    names = (refl, (refl, (refl, (refl, tt))));
    state_names = (refl, (refl, (refl, tt)));
    algorithm_names = tt;
    few_states = omega arith;
    few_transitions = omega arith;
    few_algorithms = omega arith;
    actions = (tt, ((record { algorithm = tt; output = refl }, tt), ((record { algorithm = tt; output = refl }, tt), tt)));
    states = refl;
    transitions =
        a_transition (record { known_source = refl; known_target = refl; known_event = refl; source = refl; target = refl; event = refl; guard = a_guard (condition_sound e_switch_scope 1221 (inverse 1222 (variable (word (codes "G") 1226))) (single Not Bool (read (codes "G"))) refl) }) (
        a_transition (record { known_source = refl; known_target = refl; known_event = refl; source = refl; target = refl; event = refl; guard = a_guard (condition_sound e_switch_scope 1250 (variable (word (codes "G") 1251)) (read (codes "G")) refl) }) (
        a_transition (record { known_source = refl; known_target = refl; known_event = tt; source = refl; target = refl; event = refl; guard = no_guard }) (
        a_transition (record { known_source = refl; known_target = refl; known_event = tt; source = refl; target = refl; event = refl; guard = no_guard }) no_transition)));
    procedures =
        no_procedure;
  };
}

abbrev e_sr_scope : List Symbol
e_sr_scope = scope [] (declared Bool None None (word (codes "Q") 1424) ∷ []) []

e_sr_declared : Declares e_sr_tree (codes "E_SR", e_sr)
unfolding widens
e_sr_declared = record {
  name = refl;
  chart = e_sr_chart;
  body = refl;
  block = record {
    ins = [];
    outs = declared Bool None None (word (codes "Q") 1424) ∷ [];
    inner = [];
    face = record {
      inputs = none;
      outputs = more no_bounds no_start none;
      takes = (tt, (tt, tt));
      gives = ((refl, tt), tt);
      few_event_inputs = omega arith;
      few_event_outputs = omega arith;
      few_inputs = omega arith;
      few_outputs = omega arith;
      face = refl;
    };
    internals = none;
    internals_are = refl;
    names = (refl, (refl, (refl, (refl, tt))));
    state_names = (refl, (refl, (refl, tt)));
    algorithm_names = (refl, (refl, tt));
    few_states = omega arith;
    few_transitions = omega arith;
    few_algorithms = omega arith;
    actions = (tt, ((record { algorithm = refl; output = refl }, tt), ((record { algorithm = refl; output = refl }, tt), tt)));
    states = refl;
    transitions =
        a_transition (record { known_source = refl; known_target = refl; known_event = refl; source = refl; target = refl; event = refl; guard = no_guard }) (
        a_transition (record { known_source = refl; known_target = refl; known_event = refl; source = refl; target = refl; event = refl; guard = no_guard }) (
        a_transition (record { known_source = refl; known_target = refl; known_event = refl; source = refl; target = refl; event = refl; guard = no_guard }) no_transition));
    procedures =
        a_procedure refl (commands_sound e_sr_scope [] (statement (assign (word (codes "Q") 1620) 1622 (literal (record { value = Truth true; at = 1625 }))) no_statement) (then_do (set (codes "Q") (constant (pos 1))) done) refl) (
        a_procedure refl (commands_sound e_sr_scope [] (statement (assign (word (codes "Q") 1669) 1671 (literal (record { value = Truth false; at = 1674 }))) no_statement) (then_do (set (codes "Q") (constant (pos 0))) done) refl) no_procedure);
  };
}

abbrev e_ctu_scope : List Symbol
e_ctu_scope = scope (declared Uint None None (word (codes "PV") 1837) ∷ []) (declared Bool None None (word (codes "Q") 1867) ∷ declared Uint None None (word (codes "CV") 1877) ∷ []) []

e_ctu_declared : Declares e_ctu_tree (codes "E_CTU", e_ctu)
unfolding widens
e_ctu_declared = record {
  name = refl;
  chart = e_ctu_chart;
  body = refl;
  block = record {
    ins = declared Uint None None (word (codes "PV") 1837) ∷ [];
    outs = declared Bool None None (word (codes "Q") 1867) ∷ declared Uint None None (word (codes "CV") 1877) ∷ [];
    inner = [];
    face = record {
      inputs = more no_bounds no_start none;
      outputs = more no_bounds no_start (more no_bounds no_start none);
      takes = ((refl, tt), (tt, tt));
      gives = ((refl, (refl, tt)), ((refl, (refl, tt)), tt));
      few_event_inputs = omega arith;
      few_event_outputs = omega arith;
      few_inputs = omega arith;
      few_outputs = omega arith;
      face = refl;
    };
    internals = none;
    internals_are = refl;
    names = (refl, (refl, (refl, (refl, (refl, (refl, (refl, tt)))))));
    state_names = (refl, (refl, (refl, tt)));
    algorithm_names = (refl, (refl, tt));
    few_states = omega arith;
    few_transitions = omega arith;
    few_algorithms = omega arith;
    actions = (tt, ((record { algorithm = refl; output = refl }, tt), ((record { algorithm = refl; output = refl }, tt), tt)));
    states = refl;
    transitions =
        a_transition (record { known_source = refl; known_target = refl; known_event = refl; source = refl; target = refl; event = refl; guard = a_guard (condition_sound e_ctu_scope 1999 (binary Less 2003 (variable (word (codes "CV") 2000)) (literal (record { value = Whole false 65535; at = 2005 }))) (double (Infix Less) Uint (read (codes "CV")) (constant (pos 65535))) refl) }) (
        a_transition (record { known_source = refl; known_target = refl; known_event = refl; source = refl; target = refl; event = refl; guard = no_guard }) (
        a_transition (record { known_source = refl; known_target = refl; known_event = tt; source = refl; target = refl; event = refl; guard = no_guard }) (
        a_transition (record { known_source = refl; known_target = refl; known_event = tt; source = refl; target = refl; event = refl; guard = no_guard }) no_transition)));
    procedures =
        a_procedure refl (commands_sound e_ctu_scope [] (statement (assign (word (codes "CV") 2112) 2115 (binary Plus 2121 (variable (word (codes "CV") 2118)) (literal (record { value = Whole false 1; at = 2123 })))) (statement (assign (word (codes "Q") 2126) 2128 (binary GreaterEqual 2134 (variable (word (codes "CV") 2131)) (variable (word (codes "PV") 2137)))) no_statement)) (then_do (set (codes "CV") (double (Infix Plus) Uint (read (codes "CV")) (constant (pos 1)))) (then_do (set (codes "Q") (double (Infix GreaterEqual) Uint (read (codes "CV")) (read (codes "PV")))) done)) refl) (
        a_procedure refl (commands_sound e_ctu_scope [] (statement (assign (word (codes "CV") 2177) 2180 (literal (record { value = Whole false 0; at = 2183 }))) (statement (assign (word (codes "Q") 2186) 2188 (literal (record { value = Truth false; at = 2191 }))) no_statement)) (then_do (set (codes "CV") (constant (pos 0))) (then_do (set (codes "Q") (constant (pos 0))) done)) refl) no_procedure);
  };
}

pub trees_declare : AreEventBlocks event_trees
trees_declare = one_more e_split_declared (one_more e_merge_declared (one_more e_permit_declared (one_more e_select_declared (one_more e_switch_declared (one_more e_sr_declared (one_more e_ctu_declared no_more))))))
