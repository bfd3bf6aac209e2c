-- What refusals say of a system of inequalities, where states and behind them events have these rows, and behind these there are channels.
use Rattle.std.specs.Prelude.{ℕ, ◌≡◌, ◌+◌, ◌<◌, List, length, map, take, string_bytes}
use Rattle.fb_model.specs.Names.{Name}
use Rattle.fb_model.specs.CertificateText.{names_in}
use Rattle.fb_model.specs.Demands.{node_in}
use Rattle.fb_find_graph.specs.Graphs.{IsClosed}
use Rattle.fb_find_graph.specs.Searches.{IsFromLeast}
use Rattle.fb_find_graph.specs.Systems.{System, needs, IsLeast}
use Rattle.fb_find_laws.specs.Nodes.{nodes_of}
use Rattle.fb_faults.specs.declared.no_bound.NoBound.{NoBound}
use Rattle.fb_faults.specs.declared.no_bound.NoBound.TheVariants.{OutOfMemory, Cycle, NoRange, Limit}
use Rattle.fb_find_rows.specs.Places.{text_at}
use Rattle.fb_model.specs.Finding.{node_of}

-- want of memory, or a closed walk of places from the first of them on
abbrev pub IsWalk : System → List Name → List Name → List ℕ → NoBound → Type 0
IsWalk system states events channels OutOfMemory = Unit {0}
IsWalk system states events channels (Cycle places) =
    (walk : List ℕ) × IsClosed (needs system) walk × IsFromLeast walk × (length system ≡ length states + (length events + length channels) → map node_of places.items ≡ map (node_in (nodes_of states events channels)) walk)
IsWalk system states events channels (NoRange path) = ⊥
IsWalk system states events channels (Limit resource) = ⊥

-- the first two names of a text, a device and its resource, are those of this one
abbrev pub IsResourceIn : Name → Name → Type 0
IsResourceIn text resource = names_in resource ≡ take 2 (names_in text)

-- want of memory, or the resource of a place whose least number is above the limit; that of a channel is the resource of the end that goes with it
abbrev pub IsPastLimit : System → ℕ → List Name → List Name → List Name → NoBound → Type 0
IsPastLimit system limit states events ends OutOfMemory = Unit {0}
IsPastLimit system limit states events ends (Cycle places) = ⊥
IsPastLimit system limit states events ends (NoRange path) = ⊥
IsPastLimit system limit states events ends (Limit resource) = (p : ℕ) × (x : ℕ → ℕ) × IsLeast system x × (limit < x p) × (p < length system) × IsResourceIn (text_at states events ends p) (string_bytes resource)
