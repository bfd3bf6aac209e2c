-- For callers of `zeros`: what forms and values are in a store in which all numbers are 0.
use Rattle.std.proofs.Common.{◌≡◌, pos, Bool, true, false, List, [], ◌∷◌, refl, ap}
use Rattle.std.specs.Prelude.{if◌then◌else◌}
use Rattle.std.specs.Str.{bytes_eq}
use Rattle.fb_model.specs.Names.{Name}
use Rattle.st_exec.specs.Forms.{Form, bounds_in}
use Rattle.st_exec.specs.Cells.{values_of, forms_of, filled}
use Rattle.st_exec.specs.Kept.{zeros_in}

pub zeros_forms : (fs : List Form) → forms_of (zeros_in fs) ≡ fs
zeros_forms [] = refl
zeros_forms (f ∷ fs) = ap (λ l. f ∷ l) (zeros_forms fs)

pub zeros_values : (fs : List Form) (x : Name) → values_of (zeros_in fs) x ≡ filled (bounds_in fs x) (pos 0)
zeros_values [] x = refl
zeros_values (f ∷ fs) x = by (bytes_eq x f.0) (zeros_values fs x) where
  by : (b : Bool) → values_of (zeros_in fs) x ≡ filled (bounds_in fs x) (pos 0) → (if b then filled f.1 (pos 0) else values_of (zeros_in fs) x) ≡ filled (if b then f.1 else bounds_in fs x) (pos 0)
  by true again = refl
  by false again = again
