-- Armed timers against the leaves of a device and what the store holds of them.
-- This project's profile of IEC 61499-1 edition 2, annex A (E_DELAY and E_CYCLE).
use Rattle.std.specs.Prelude.{ℕ, ◌≡◌, List, [], ◌∷◌, Option, None, Some, if◌then◌else◌, slice_get}
use Rattle.fb_model.specs.Wires.{Leaf}
use Rattle.fb_model.specs.Store.{Store}
use Rattle.fb_model.specs.Devices.{due, is_timer}
use Rattle.fb_sched.specs.declared.armed.Armed.{Armed}
use Rattle.fb_sched.specs.Order.{due_of}

-- the moment at which a leaf is due, where it is a timer that is armed
abbrev pub moment_of : Store → Option Leaf → Option ℕ
moment_of store None = None
moment_of store (Some leaf) = if is_timer leaf.kind then due (store leaf.path).condition else None

-- the armed timers are those of the leaves, each under the number of its leaf
abbrev pub AreArmed : Store → List Leaf → List Armed → Type 0
AreArmed store all armed = (k : ℕ) → due_of armed k ≡ moment_of store (slice_get all k)

-- a leaf in front of others, where there is one
abbrev pub in_front : Option Leaf → List Leaf → List Leaf
in_front None ls = ls
in_front (Some leaf) ls = leaf ∷ ls

-- the leaves of timers, in order
abbrev pub leaves_at : List Leaf → List Armed → List Leaf
leaves_at all [] = []
leaves_at all (a ∷ as') = in_front (slice_get all a.block) (leaves_at all as')

-- the leaf of a timer, where there is one
abbrev pub leaf_of : List Leaf → Option Armed → Option Leaf
leaf_of all None = None
leaf_of all (Some a) = slice_get all a.block
