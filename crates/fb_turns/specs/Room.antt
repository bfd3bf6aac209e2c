-- When an arrival has no room beside places that are held.
-- This project's profile.
use Rattle.std.specs.Prelude.{ℕ, ◌+◌, ◌<◌, List}
use Rattle.std.specs.List.{AllByRecursion}
use Rattle.fb_model.specs.Names.{Name, at_place}
use Rattle.fb_model.specs.Wires as wires
use Rattle.fb_model.specs.Certificates.{Certificate, places_of, kind_arrivals}
use Rattle.fb_flat.specs.declared.flat.Leaf.{Leaf}
use Rattle.fb_flat.specs.Sites.{dotted}
use Rattle.fb_flat.specs.Tables.{IsLeaf}
use Rattle.fb_check_rows.specs.Depths.{places_at}

-- the places of each of these events of a leaf are more than the depth, together with those that are held
abbrev pub ArePast : ℕ → ℕ → Certificate → Name → List Name → Type 0
ArePast depth own cert path es = AllByRecursion (λ e. depth < own + places_at cert (dotted path e)) es

-- the same of each arrival of a leaf of the book
abbrev pub IsPast : ℕ → ℕ → Certificate → wires.Leaf → Type 0
IsPast depth own cert leaf = AllByRecursion (λ e. depth < own + (places_of cert).weight (at_place leaf.path e)) (kind_arrivals leaf.kind)

-- a leaf of the tables has no room, or has some, whichever it is in the book
abbrev pub IsPastHere : ℕ → ℕ → Certificate → Leaf → Type 0
IsPastHere depth own cert l = (leaf : wires.Leaf) → IsLeaf l leaf → IsPast depth own cert leaf

abbrev pub Fits : ℕ → ℕ → Certificate → Leaf → Type 0
Fits depth own cert l = (leaf : wires.Leaf) → IsLeaf l leaf → IsPast depth own cert leaf → ⊥
