-- From what was read to what is said of it.
use Rattle.std.proofs.Common.{◌≡◌, ℕ, zero, suc, ◌≤◌, ◌<◌, inl, inr, refl, sym, ◌∙◌, ap, subst, arith, true, false, List, [], ◌∷◌, length, take, Option, Some, None, Result, Ok, Err, IfSome}
use Rattle.std.specs.Str.{is_utf8}
use Rattle.fbr_files.specs.declared.fault.Fault.{Fault}
use Rattle.fbr_files.specs.declared.fault.Fault.TheVariants.{Memory, Input, File, Line, Usage, Refused, Unbound, Device, LinkDown, Socket}
use Rattle.fbr_files.specs.Outcomes.{IsContents, IsReadFault}
use Rattle.fbr_files.proofs.Contents.{taken}
use Rattle.fbr_check.specs.Halves.{divide}
use Rattle.fbr_check.specs.Verdicts.{IsVerdict, HoldsTexts, IsInputVerdict, IsInputOutcome, IsFilesOutcome, IsVerified, IsVerifiedTexts}
use Rattle.fb_verified.specs.declared.verified.Verified.{Verified}

longer : (n : ℕ) (xs : List ℕ) → n < length xs → length (take n xs) ≡ n
longer zero xs h = refl
longer (suc n) [] h = absurd (omega (arith, h))
longer (suc n) (x ∷ xs) h = ap suc (longer n xs (omega (arith, h)))

short : (most : ℕ) (xs bytes : List ℕ) → bytes ≡ take (suc most) xs → length xs ≤ most → bytes ≡ xs
short most xs bytes e h = e ∙ whole_of most xs h where
  whole_of : (n : ℕ) (ys : List ℕ) → length ys ≤ n → take (suc n) ys ≡ ys
  whole_of n [] h = refl
  whole_of zero (y ∷ ys) h = absurd (omega (arith, h))
  whole_of (suc n) (y ∷ ys) h = ap (λ zs. y ∷ zs) (whole_of n ys (omega (arith, h)))

input_held : (A : Type 0) (xs bytes : List ℕ) (r : Result A Fault) → bytes ≡ take 33554433 xs → IsInputVerdict bytes r → IsInputVerdict xs r
input_held A xs bytes (Ok a) e v = subst (λ ys. IsInputVerdict ys (Ok a)) (taken 33554432 xs bytes e v.0.0) v
input_held A xs bytes (Err Memory) e v = tt
input_held A xs bytes (Err Input) e v = λ h. v (subst HoldsTexts (sym (short 33554432 xs bytes e h.0)) h)
input_held A xs bytes (Err (File name)) e v = subst (λ ys. IsInputVerdict {A = A} ys (Err (File name))) (taken 33554432 xs bytes e v.0.0) v
input_held A xs bytes (Err (Line n)) e v = subst (λ ys. IsInputVerdict {A = A} ys (Err (Line n))) (taken 33554432 xs bytes e v.0.0) v
input_held A xs bytes (Err Usage) e v = subst (λ ys. IsInputVerdict {A = A} ys (Err Usage)) (taken 33554432 xs bytes e v.0.0) v
input_held A xs bytes (Err (Refused f)) e v = subst (λ ys. IsInputVerdict {A = A} ys (Err (Refused f))) (taken 33554432 xs bytes e v.0.0) v
input_held A xs bytes (Err (Unbound f)) e v = subst (λ ys. IsInputVerdict {A = A} ys (Err (Unbound f))) (taken 33554432 xs bytes e v.0.0) v
input_held A xs bytes (Err (Device name)) e v = subst (λ ys. IsInputVerdict {A = A} ys (Err (Device name))) (taken 33554432 xs bytes e v.0.0) v
input_held A xs bytes (Err LinkDown) e v = subst (λ ys. IsInputVerdict {A = A} ys (Err LinkDown)) (taken 33554432 xs bytes e v.0.0) v
input_held A xs bytes (Err (Socket port)) e v = subst (λ ys. IsInputVerdict {A = A} ys (Err (Socket port))) (taken 33554432 xs bytes e v.0.0) v

pub input_read : (A : Type 0) (held : Option (List ℕ)) (bytes : List ℕ) (r : Result A Fault) → IfSome held (λ xs. bytes ≡ take 33554433 xs) → IsInputVerdict bytes r → IsInputOutcome held r
input_read A None bytes r e v = inr (bytes, tt, v)
input_read A (Some xs) bytes r e v = inr (xs, refl, input_held A xs bytes r e v)

pub input_memory : (A : Type 0) (held : Option (List ℕ)) → IsInputOutcome {A = A} held (Err Memory)
input_memory A None = inr ([], tt, tt)
input_memory A (Some xs) = inr (xs, refl, tt)

pub too_long : (bytes : List ℕ) → 33554432 < length bytes → HoldsTexts bytes → ⊥
too_long bytes h t = absurd (omega (arith, h, t.0))

pub not_first : (bytes : List ℕ) → is_utf8 (divide true bytes).0 ≡ false → HoldsTexts bytes → ⊥
not_first bytes h t = let e = t.1.0 in absurd cc

pub not_second : (bytes : List ℕ) → is_utf8 (divide true bytes).1 ≡ false → HoldsTexts bytes → ⊥
not_second bytes h t = let e = t.1.1 in absurd cc

pub over_texts : {A : Type 0} (bytes : List ℕ) (r : Result A Fault) → HoldsTexts bytes → IsVerdict (divide true bytes).0 (divide true bytes).1 r → IsInputVerdict bytes r
over_texts bytes (Ok a) t v = (t, v)
over_texts bytes (Err Memory) t v = tt
over_texts bytes (Err Input) t v = absurd v
over_texts bytes (Err (File name)) t v = absurd v
over_texts bytes (Err (Line n)) t v = absurd v
over_texts bytes (Err Usage) t v = absurd v
over_texts bytes (Err (Refused f)) t v = (t, v)
over_texts bytes (Err (Unbound f)) t v = absurd v
over_texts bytes (Err (Device name)) t v = absurd v
over_texts bytes (Err LinkDown) t v = absurd v
over_texts bytes (Err (Socket port)) t v = absurd v

-- ---- files

some_held : (held : Option (List ℕ)) → (bytes : List ℕ) × IsContents held bytes
some_held None = ([], tt)
some_held (Some xs) = (xs, refl)

pub files_memory : (A : Type 0) (one two : List ℕ) (held_one held_two : Option (List ℕ)) → IsFilesOutcome {A = A} one two held_one held_two (Err Memory)
files_memory A one two held_one held_two = let a = some_held held_one in let b = some_held held_two in (a.0, b.0, a.1, b.1, tt)

pub files_read : {A : Type 0} (one two app cert : List ℕ) (held_one held_two : Option (List ℕ)) (r : Result A Fault) → IsContents held_one app → IsContents held_two cert → IsVerdict app cert r → IsFilesOutcome one two held_one held_two r
files_read one two app cert held_one held_two (Ok a) x y v = (app, cert, x, y, v)
files_read one two app cert held_one held_two (Err Memory) x y v = (app, cert, x, y, v)
files_read one two app cert held_one held_two (Err Input) x y v = absurd v
files_read one two app cert held_one held_two (Err (File name)) x y v = absurd v
files_read one two app cert held_one held_two (Err (Line n)) x y v = absurd v
files_read one two app cert held_one held_two (Err Usage) x y v = absurd v
files_read one two app cert held_one held_two (Err (Refused f)) x y v = (app, cert, x, y, v)
files_read one two app cert held_one held_two (Err (Unbound f)) x y v = absurd v
files_read one two app cert held_one held_two (Err (Device name)) x y v = absurd v
files_read one two app cert held_one held_two (Err LinkDown) x y v = absurd v
files_read one two app cert held_one held_two (Err (Socket port)) x y v = absurd v

pub first_unread : (A : Type 0) (one two : List ℕ) (held_one held_two : Option (List ℕ)) (f : Fault) → IsReadFault one f → IsFilesOutcome {A = A} one two held_one held_two (Err f)
first_unread A one two held_one held_two Memory h = files_memory A one two held_one held_two
first_unread A one two held_one held_two Input h = absurd h
first_unread A one two held_one held_two (File name) h = inl h
first_unread A one two held_one held_two (Line n) h = absurd h
first_unread A one two held_one held_two Usage h = absurd h
first_unread A one two held_one held_two (Refused f) h = absurd h
first_unread A one two held_one held_two (Unbound f) h = absurd h
first_unread A one two held_one held_two (Device name) h = absurd h
first_unread A one two held_one held_two LinkDown h = absurd h
first_unread A one two held_one held_two (Socket port) h = absurd h

pub second_unread : (A : Type 0) (one two : List ℕ) (held_one held_two : Option (List ℕ)) (f : Fault) → IsReadFault two f → IsFilesOutcome {A = A} one two held_one held_two (Err f)
second_unread A one two held_one held_two Memory h = files_memory A one two held_one held_two
second_unread A one two held_one held_two Input h = absurd h
second_unread A one two held_one held_two (File name) h = inr h
second_unread A one two held_one held_two (Line n) h = absurd h
second_unread A one two held_one held_two Usage h = absurd h
second_unread A one two held_one held_two (Refused f) h = absurd h
second_unread A one two held_one held_two (Unbound f) h = absurd h
second_unread A one two held_one held_two (Device name) h = absurd h
second_unread A one two held_one held_two LinkDown h = absurd h
second_unread A one two held_one held_two (Socket port) h = absurd h

-- ---- what was verified

-- what was verified of the texts that two files hold was verified of the files
pub files_verified : (one two app cert : List ℕ) (held_one held_two : Option (List ℕ)) (r : Result Verified Fault) → IsContents held_one app → IsContents held_two cert → IsVerifiedTexts app cert r → IsVerified one two held_one held_two r
files_verified one two app cert held_one held_two (Ok v) x y h = (app, cert, x, y, h)
files_verified one two app cert held_one held_two (Err f) x y h = files_read {A = Unit {0}} one two app cert held_one held_two (Err f) x y h

-- so this is the verdict over the files
pub files_accepted : {A : Type 0} (one two : List ℕ) (held_one held_two : Option (List ℕ)) (v : Verified) (a : A) → IsVerified one two held_one held_two (Ok v) → IsFilesOutcome one two held_one held_two (Ok a)
files_accepted one two held_one held_two v a h = (h.0, h.1, h.2, h.3, (v, h.4))
