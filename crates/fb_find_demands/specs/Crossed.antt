-- Transitions by numbers, and what event inputs ask with these.
use Rattle.std.specs.Prelude.{ℕ, ◌==◌, ◌*◌, Bool, true, List, [], ◌∷◌, map, flat_map, Option, None, Some, if◌then◌else◌}
use Rattle.std.specs.Option.{option_map}
use Rattle.fb_model.specs.Names.{Name}
use Rattle.fb_model.specs.System as book
use Rattle.fb_model.specs.Demands.{Node, state, event, Ground, of_least}
use Rattle.fb_find_laws.specs.Nodes.{Numbered, by_number, capped, index_in}
use Rattle.fb_find_demands.specs.declared.crossings.Crossing.{Crossing}

-- the numbers of states, in their order
abbrev pub state_numbers : (Node → ℕ) → Ground → List book.State → List ℕ
state_numbers number g ss = map (λ (s : book.State). number (state (g.own s.name))) ss

-- the place of a transition's event among names, if it names one, and the number of the state that it leads to
abbrev pub crossing_of : (Node → ℕ) → Ground → List Name → book.Transition → Crossing
crossing_of number g names t = record { event = option_map (index_in names) t.event; target = number (state (g.own t.target)) }

-- a transition with this place of its event may be crossed while the event at a place waits
abbrev pub is_crossed : Option ℕ → ℕ → Bool
is_crossed None place = true
is_crossed (Some k) place = k == place

-- what the event input with this number pays for a crossing to the state with that number
abbrev pub crossing_at : ℕ → ℕ → ℕ → Numbered
crossing_at node unit target = record { node = node; constant = capped (2 * unit); terms = target ∷ [] }

abbrev pub crossed : ℕ → ℕ → ℕ → Crossing → List Numbered
crossed node unit place c = if is_crossed c.event place then crossing_at node unit c.target ∷ [] else []

-- what an event input asks, where the event inputs have these names, and transitions by numbers
abbrev pub input_rights : (Node → ℕ) → Ground → List Name → Name → List Crossing → List Numbered
input_rights number g names e cs = by_number number (of_least g e) ∷ flat_map (crossed (number (event (g.own e))) g.unit (index_in names e)) cs
