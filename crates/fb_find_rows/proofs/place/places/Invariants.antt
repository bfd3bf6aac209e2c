use Rattle.std.proofs.Common.{◌≡◌, ◌<◌, ◌+◌, length, map, take}
use Rattle.std.specs.List.{All}
use Rattle.fb_model.specs.Demands.{node_in}
use Rattle.fb_find_laws.specs.Nodes.{nodes_of}
use Rattle.fb_find_rows.specs.Places.{texts_of}
use Rattle.fb_model.specs.Finding.{node_of}
use Rattle.fb_find_rows.proofs.place.places.Given as goal

-- the first numbers have their places
abbrev pub invariant-loop-number : goal.invariant-loop-number
invariant-loop-number l =
    All (λ n. n < length (texts_of l.fn.states) + (length (texts_of l.fn.events) + length l.fn.channels)) l.numbers
    → map node_of l.places.items ≡ map (node_in (nodes_of (texts_of l.fn.states) (texts_of l.fn.events) l.fn.channels)) (take l.number-index l.numbers)
