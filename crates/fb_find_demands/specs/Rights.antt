-- What the code's numbers say.
use Rattle.std.specs.Prelude.{ℕ, List, map}
use Rattle.fb_types_blocks.specs.Views.{names_of}
use Rattle.fb_model.specs.Demands.{Node, Demand}
use Rattle.fb_find_laws.specs.Nodes.{number, Numbered, by_number}
use Rattle.fb_find_demands.specs.declared.numbered.Numbering.{Numbering}
use Rattle.fb_find_demands.specs.declared.right.Right.{Right}

-- the numbers of nodes
abbrev pub numbers_of : Numbering → Node → ℕ
numbers_of n = number (names_of n.states) (names_of n.events) n.channels.items

abbrev pub right_of : Right → Numbered
right_of r = record { node = r.node; constant = r.constant; terms = r.terms.items }

abbrev pub rights_of : List Right → List Numbered
rights_of rs = map right_of rs

abbrev pub numbered : Numbering → List Demand → List Numbered
numbered n ds = map (by_number (numbers_of n)) ds
