-- When numbers of states and events are counts of dispatches, in the terms of the book.
-- This project's profile.
use Rattle.std.specs.Prelude.{ℕ, ◌≤◌, nat_lt, List, [], ◌∷◌, map, slice_index, None, if◌then◌else◌}
use Rattle.std.specs.List.{AllByRecursion, Contains}
use Rattle.fb_model.specs.Names.{Place}
use Rattle.fb_model.specs.System.{System, Device}
use Rattle.fb_model.specs.Wires.{leaves}
use Rattle.fb_model.specs.Certificates.{Certificate, Fits, all_leaves, event_places}
use Rattle.fb_model.specs.Demands.{Node, state, event}
use Rattle.fb_model_texts.specs.Small.{AreSmall}
use Rattle.fb_model_turns.specs.Turns as turns
use Rattle.fb_model_turns.specs.Turns.{Counts, DispatchesFit, added, largest}
use Rattle.fb_flat.specs.declared.flat.FlatDevice.{FlatDevice}
use Rattle.fb_find_laws.specs.Nodes.{Numbered}
use Rattle.fb_find_demands.specs.declared.numbered.Numbering.{Numbering}
use Rattle.fb_find_demands.specs.Rights.{numbers_of}
use Rattle.fb_find.specs.Given.{IsNumbered}
use Rattle.fb_find.specs.Columns.{FulfilsAll}
use Rattle.fb_turns.specs.declared.turns.Turns.{Turns}

-- ---- numbers of nodes

-- the number of a node, 0 where there is none
abbrev pub number_at : List ℕ → ℕ → ℕ
number_at numbers node = slice_index numbers node

-- nodes behind those of states are events, and count their own dispatch
abbrev pub own_of : ℕ → ℕ → ℕ
own_of states node = if nat_lt node states then 0 else 1

-- ---- what is asked of them

-- a node counts its own dispatch, and all terms together
abbrev pub all_right : ℕ → Numbered → Numbered
all_right states r = record { node = r.node; constant = own_of states r.node; terms = r.terms }

-- a node counts its own dispatch, and one term
abbrev pub term_right : ℕ → ℕ → ℕ → Numbered
term_right states node term = record { node = node; constant = own_of states node; terms = term ∷ [] }

-- a node counts its own dispatch, and with it each of the terms
abbrev pub chain_rights : ℕ → Numbered → List Numbered
chain_rights states r = record { node = r.node; constant = own_of states r.node; terms = [] } ∷ map (term_right states r.node) r.terms

-- a certificate that a text says fits the system
pub record HasFit (s : System) (cert : Certificate) : Type 0 where
  pub fits : Fits s cert
  pub small : AreSmall cert

-- and the order serves all that is asked of nodes, which have these numbers
pub record IsCountable (devices : List FlatDevice) (n : Numbering) (order : List ℕ) (s : System) (cert : Certificate) : Type 0 where
  pub numbered : IsNumbered None devices n s
  pub serves : FulfilsAll None n s order
  pub has : HasFit s cert

-- ---- the book's counts

-- the counts that numbers of nodes say
abbrev pub counts_by : (Node → ℕ) → Counts
counts_by x = record { charge = λ p. x (state p); weight = λ p. x (event p) }

abbrev pub counts_in : Numbering → List ℕ → Counts
counts_in n numbers = counts_by (λ x. slice_index numbers (numbers_of n x))

-- they fit each device of a system
abbrev pub AllFit : turns.Join → System → Counts → Type 0
AllFit join s counts = AllByRecursion (λ (d : Device). DispatchesFit join counts (leaves d)) s.devices

-- and at no event input or arrival do others that fit say less
pub record AreLeastCounts (join : turns.Join) (s : System) (counts : Counts) : Type 0 where
  pub fit : AllFit join s counts
  pub least : (others : Counts) → AllFit join s others → (p : Place) → Contains (event_places (all_leaves s.devices)) p → counts.weight p ≤ others.weight p

abbrev pub all_in : Turns → Counts
all_in t = counts_in t.numbering t.all.items

abbrev pub longest_in : Turns → Counts
longest_in t = counts_in t.numbering t.longest.items

-- the counts of all dispatches, and those of the longest chains, are the least that fit the devices of a system
pub record AreCounts (s : System) (t : Turns) : Type 0 where
  pub all : AreLeastCounts added s (all_in t)
  pub longest : AreLeastCounts largest s (longest_in t)
