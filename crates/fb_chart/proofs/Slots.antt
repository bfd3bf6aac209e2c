-- Variables of services by their slots.
use Rattle.std.proofs.Common.{◌≡◌, ℕ, zero, suc, ◌<◌, List, [], ◌∷◌, length, get_or, slice_get, Some, refl, sym, ◌∙◌, arith}
use Rattle.fb_model.specs.Names.{Name}
use Rattle.fb_model.specs.Values.{Values}
use Rattle.st_exec.specs.Forms.{Form, plain_slot}
use Rattle.fb_lists.proofs.Lists.{stands_at}
use Rattle.fb_chart.specs.Ports.{slots_of, received_in}

-- a name at an index, and its slot
pub record Slotted (forms : List Form) (names : List Name) (slots : List ℕ) (i : ℕ) : Type 0 where
  pub name : Name
  pub at : slice_get names i ≡ Some name
  pub slot : slice_get slots i ≡ Some (plain_slot forms name)

pub slotted : (forms : List Form) (names : List Name) (i : ℕ) → i < length (slots_of forms names) → Slotted forms names (slots_of forms names) i
slotted forms [] i l = absurd (omega (arith, l))
slotted forms (n ∷ ns) zero l = record { name = n; at = refl; slot = refl }
slotted forms (n ∷ ns) (suc i) l = let s = slotted forms ns i (omega (arith, l)) in record { name = s.name; at = s.at; slot = s.slot }

-- the slot that stands at an index is that of the name there
pub slot_is : (slots : List ℕ) (i s d : ℕ) → i < length slots → slice_get slots i ≡ Some s → s ≡ get_or slots i d
slot_is slots i s d l h = let e : Some s ≡ Some (get_or slots i d) = sym h ∙ stands_at slots i (get_or slots i d) d l refl in cc

pub received_done : (names : List Name) (values : Values) → received_in names [] values ≡ values
received_done [] values = refl
received_done (n ∷ ns) values = refl
