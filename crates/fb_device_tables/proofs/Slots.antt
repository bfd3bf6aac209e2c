-- Slots of variables.
use Rattle.std.proofs.Common.{◌≡◌, Bool, true, false, ◌||◌, cond, List, [], ◌∷◌, None, refl}
use Rattle.std.specs.Str.{bytes_eq}
use Rattle.fb_model.specs.Names.{Name, is_in}
use Rattle.st_exec.specs.Forms.{Form, names_in, bounds_in}

-- what is not declared has no bounds
pub none_bound : (fs : List Form) (x : Name) → is_in x (names_in fs) ≡ false → bounds_in fs x ≡ None
none_bound [] x h = refl
none_bound (f ∷ fs) x h = by (bytes_eq x f.0) h (none_bound fs x) where
  by : (b : Bool) → (b || is_in x (names_in fs)) ≡ false → (is_in x (names_in fs) ≡ false → bounds_in fs x ≡ None) → cond b f.1 (bounds_in fs x) ≡ None
  by true h again = absurd cc
  by false h again = again h
