-- The leaves of the tables, and what they ask by numbers.
-- This project's profile.
use Rattle.std.specs.Prelude.{ℕ, Bool, List, flat_map}
use Rattle.std.specs.List.{AllByRecursion}
use Rattle.fb_model.specs.System as book
use Rattle.fb_model.specs.Wires as wires
use Rattle.fb_model.specs.Wires.{leaves}
use Rattle.fb_model_laws.specs.Leaves.{IsClosed}
use Rattle.fb_model.specs.Demands.{of_kind}
use Rattle.fb_find_laws.specs.Nodes.{Numbered}
use Rattle.fb_flat.specs.declared.flat.Leaf.{Leaf}
use Rattle.fb_flat.specs.declared.flat.FlatDevice.{FlatDevice}
use Rattle.fb_flat.specs.Leaves.{kind_of}
use Rattle.fb_check_ranges.specs.Places.{leaves_in}
use Rattle.fb_find_demands.specs.declared.numbered.Numbering.{Numbering}
use Rattle.fb_find_demands.specs.Grounds.{leaf_ground}
use Rattle.fb_find_demands.specs.Rights.{numbered}

-- all leaves of devices, in order
abbrev pub leaves_under : List FlatDevice → List Leaf
leaves_under ds = flat_map (λ (d : FlatDevice). leaves_in d.resources.items) ds

-- what a leaf asks by numbers, where a dispatch or a crossing counts so much, datagrams are followed or not, and its algorithms have these prices
abbrev pub leaf_rights : Numbering → ℕ → Bool → List ℕ → Leaf → List Numbered
leaf_rights n unit follows prices leaf = numbered n (of_kind (leaf_ground unit follows prices leaf) (kind_of leaf.body))

-- the charts of all leaves name what they have
abbrev pub AreClosed : List book.Device → Type 0
AreClosed ds = AllByRecursion (λ (d : book.Device). AllByRecursion (λ (leaf : wires.Leaf). IsClosed leaf.kind) (leaves d)) ds
