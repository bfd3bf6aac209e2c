-- Lines, one after another.
use Rattle.std.proofs.Common.{◌≡◌, ℕ, ◌+◌, ◌≤◌, ◌==◌, List, [], ◌∷◌, length, Bool, true, false, cond, Some, None, Ok, Err, Bor, refl, sym, ap, subst, ◌∙◌, arith}
use Rattle.std.specs.List.{slice_split}
use Rattle.std.specs.Iterator.{AlwaysYields}
use Rattle.std.specs.Str.Lines.{lines, lines_of_parts}
use Rattle.std.specs.Str.Iter.{lines_steps}
use Rattle.std.specs.declared.str.Lines.{Lines}
use Rattle.std.proofs.lemmas.List.Splits.{length-slice_split}
use Rattle.std.proofs.lemmas.List.Sums.{count_by-le-length}
use Rattle.fb_model.specs.CertificateText.{words}
use Rattle.fb_faults.specs.declared.certificate.CertFault.{CertFault}
use Rattle.fb_faults.specs.declared.certificate.CertFault.TheVariants.{OutOfMemory, TooLong, Row, DuplicateRow}
use Rattle.fb_cert.specs.Reading.{Read, chain, lines_at, words_at}
use Rattle.fb_cert.specs.Answers.{Fails}

-- what is left to read, and where reading stands
pub record Ahead (s : Lines) (number : ℕ) (now : Read) (text : List ℕ) (first : Read) : Type 0 where
  pub rest : List (List ℕ)
  pub yields : AlwaysYields lines_steps (λ x. x.now) s rest
  pub same : lines_at (number + 1) rest now ≡ lines_at 1 (lines text) first
  pub counted : number + length rest ≡ length (lines text)

-- a line is taken
pub record Turn (t : Lines) (x : List ℕ) (number : ℕ) (now : Read) (text : List ℕ) (first : Read) : Type 0 where
  pub rest : List (List ℕ)
  pub yields : AlwaysYields lines_steps (λ x. x.now) t rest
  pub same : lines_at (number + 1) (x ∷ rest) now ≡ lines_at 1 (lines text) first
  pub counted : number + 1 + length rest ≡ length (lines text)

pub turn : {s t : Lines} (x : Bor (List ℕ)) {number : ℕ} {now : Read} {text : List ℕ} {first : Read} → Ahead s number now text first → lines_steps s (Some x) t → Turn t x.now number now text first
turn {s} {t} x {number} {now} {text} {first} a k = by a.rest a.yields a.same a.counted
  where
    by : (rest : List (List ℕ)) → AlwaysYields lines_steps (λ z. z.now) s rest → lines_at (number + 1) rest now ≡ lines_at 1 (lines text) first → number + length rest ≡ length (lines text) → Turn t x.now number now text first
    by [] y same counted = absurd (y x t k)
    by (l ∷ ls) y same counted =
        let p = y.1 x t k in
        record { rest = ls; yields = p.1; same = subst (λ v. lines_at (number + 1) (v ∷ ls) now ≡ lines_at 1 (lines text) first) (sym p.0) same; counted = omega arith }

no_lines : (n : ℕ) (now : Read) → lines_at n [] now ≡ Ok now
unfolding lines_at
no_lines n now = refl

pub ended : {s t : Lines} {number : ℕ} {now : Read} {text : List ℕ} {first : Read} → Ahead s number now text first → lines_steps s None t → lines_at 1 (lines text) first ≡ Ok now
ended {s} {t} {number} {now} {text} {first} a k = by a.rest a.yields a.same
  where
    by : (rest : List (List ℕ)) → AlwaysYields lines_steps (λ x. x.now) s rest → lines_at (number + 1) rest now ≡ lines_at 1 (lines text) first → lines_at 1 (lines text) first ≡ Ok now
    by [] y same = sym same ∙ no_lines (number + 1) now
    by (l ∷ ls) y same = absurd (y.0 t k)

line_at_ok : (n : ℕ) (line : List ℕ) (rest : List (List ℕ)) (now next : Read) → words_at n (words line) now ≡ Ok next → lines_at n (line ∷ rest) now ≡ lines_at (n + 1) rest next
unfolding lines_at
line_at_ok n line rest now next e = ap (λ r. chain r (λ k. lines_at (n + 1) rest k)) e

line_at_err : (n : ℕ) (line : List ℕ) (rest : List (List ℕ)) (now : Read) (e : CertFault) → words_at n (words line) now ≡ Err e → lines_at n (line ∷ rest) now ≡ Err e
unfolding lines_at
line_at_err n line rest now e h = ap (λ r. chain r (λ k. lines_at (n + 1) rest k)) h

pub next : {t : Lines} {x : List ℕ} {number : ℕ} {now later : Read} {text : List ℕ} {first : Read} → Turn t x number now text first → words_at (number + 1) (words x) now ≡ Ok later → Ahead t (number + 1) later text first
next {t} {x} {number} {now} {later} {text} {first} a h =
    record { rest = a.rest; yields = a.yields; same = sym (line_at_ok (number + 1) x a.rest now later h) ∙ a.same; counted = a.counted }

stopped : {t : Lines} {x : List ℕ} {number : ℕ} {now : Read} {text : List ℕ} {first : Read} (e : CertFault) → Turn t x number now text first → words_at (number + 1) (words x) now ≡ Err e → lines_at 1 (lines text) first ≡ Err e
stopped {t} {x} {number} {now} {text} {first} e a h = sym a.same ∙ line_at_err (number + 1) x a.rest now e h

pub failed : {t : Lines} {x : List ℕ} {number : ℕ} {now : Read} {text : List ℕ} {first : Read} (e : CertFault) → Turn t x number now text first → Fails e (words_at (number + 1) (words x) now) → Fails e (lines_at 1 (lines text) first)
failed OutOfMemory a h = tt
failed TooLong a h = stopped TooLong a h
failed (Row n) a h = stopped (Row n) a h
failed (DuplicateRow n) a h = stopped (DuplicateRow n) a h

split_le : (bs : List ℕ) → length (slice_split (λ b. b == 10) bs) ≤ length bs + 1
split_le bs = omega (arith, length-slice_split (λ b. b == 10) bs, count_by-le-length (λ b. b == 10) bs)

parts_le : (parts : List (List ℕ)) → length (lines_of_parts parts) ≤ length parts
parts_le [] = omega arith
parts_le (x ∷ []) = by (length x == 0)
  where
    by : (b : Bool) → length (cond b [] (x ∷ [])) ≤ 1
    by true = omega arith
    by false = omega arith
parts_le (x ∷ y ∷ more) = let h = parts_le (y ∷ more) in omega arith

-- no more lines than characters and one
pub lines_le : (text : List ℕ) → length (lines text) ≤ length text + 1
lines_le text = let h = split_le text in let k = parts_le (slice_split (λ b. b == 10) text) in omega arith
