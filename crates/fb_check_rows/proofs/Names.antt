-- Names that are equal.
use Rattle.std.proofs.Common.{◌≡◌, Bool, true, false, refl, subst}
use Rattle.std.specs.Str.{bytes_eq}
use Rattle.std.proofs.lemmas.Slice.Eq.{bytes_eq-Decides}
use Rattle.fb_model.specs.Names.{Name}
use Rattle.fb_model.proofs.Lists.{same_name}

pub bytes_same : (x : Name) → bytes_eq x x ≡ true
bytes_same x = (bytes_eq-Decides x x).1 refl

turned_true : (x y : Name) → bytes_eq x y ≡ true → bytes_eq y x ≡ true
turned_true x y h = subst (λ z. bytes_eq z x ≡ true) (same_name x y h) (bytes_same x)

pub bytes_turned : (x y : Name) (t : Bool) → bytes_eq x y ≡ t → bytes_eq y x ≡ t
bytes_turned x y true h = turned_true x y h
bytes_turned x y false h = by (bytes_eq y x) refl where
  by : (t : Bool) → bytes_eq y x ≡ t → bytes_eq y x ≡ false
  by false e = e
  by true e = absurd (let k : bytes_eq x y ≡ true = turned_true y x e in cc)
