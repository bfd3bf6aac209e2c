-- What is told of what is found, a part at a time.
use Rattle.std.proofs.Common.{◌≡◌, ℕ, zero, suc, ◌+◌, ◌*◌, ◌<◌, ◌≤◌, max, ℤ, pos, Bool, true, false, List, Option, Some, None, refl, sym, ap, ap₂, ◌∙◌, arith}
use Rattle.std.specs.Prelude.{if◌then◌else◌}
use Rattle.std.proofs.Math.Nat.{mul-le-mul_right}
use Rattle.std.proofs.lemmas.Int.{ints, by_lt_z}
use Rattle.fb_model.specs.Names.{Name}
use Rattle.fb_model.specs.Spans.{Span}
use Rattle.fb_model.specs.Clear.{Spans, Found, Clear, Leaves, Traps, changed, onward, with_range, either, are_kept, reset, taken, left_with, looped, kept}
use Rattle.fb_model_laws.proofs.Ending.{Ends}
use Rattle.fb_ranges.specs.declared.told.Told.{Told}
use Rattle.fb_ranges.specs.declared.told.Told.TheVariants as t
use Rattle.fb_ranges.specs.Steps.{counted}
use Rattle.fb_ranges.specs.Finding.{in_sequence, keeping, longer, tell, trapping, iterated}

-- ---- one thing after another

pub sequence_again : (a b c : Told) → in_sequence (in_sequence a b) c ≡ in_sequence a (in_sequence b c)
sequence_again (t.Steps n) (t.Steps m) (t.Steps k) = ap t.Steps (let e : counted (counted (n + m) + k) ≡ counted (n + counted (m + k)) = omega arith in e)
sequence_again (t.Steps n) (t.Steps m) t.Leaves = refl
sequence_again (t.Steps n) (t.Steps m) t.Traps = refl
sequence_again (t.Steps n) t.Leaves c = refl
sequence_again (t.Steps n) t.Traps c = refl
sequence_again t.Leaves b c = refl
sequence_again t.Traps b c = refl

pub tell_last : (a b : Told) → in_sequence (in_sequence a b) (t.Steps 0) ≡ in_sequence a b
tell_last (t.Steps n) (t.Steps m) = ap t.Steps (let e : counted (counted (n + m) + 0) ≡ counted (n + m) = omega arith in e)
tell_last (t.Steps n) t.Leaves = refl
tell_last (t.Steps n) t.Traps = refl
tell_last t.Leaves b = refl
tell_last t.Traps b = refl

pub tell_onward : (found : Found) (f : Spans → Found) (s : Spans) → Ends found s → tell (onward found f) ≡ in_sequence (tell found) (tell (f s))
tell_onward (Clear end n) f s h = by (f end) ∙ ap (λ (u : Spans). in_sequence (t.Steps (counted n)) (tell (f u))) h where
  by : (g : Found) → tell (elim g as (λ v. Found) [ Clear after m ↦ Clear after (n + m) | Leaves ↦ Leaves | Traps ↦ Traps ]) ≡ in_sequence (t.Steps (counted n)) (tell g)
  by (Clear after m) = ap t.Steps (let e : counted (n + m) ≡ counted (counted n + counted m) = omega arith in e)
  by Leaves = refl
  by Traps = refl
tell_onward Leaves f s h = refl
tell_onward Traps f s h = refl

-- ---- one way or another

pub longer_again : (a b c : Told) → longer (longer a b) c ≡ longer a (longer b c)
longer_again (t.Steps n) (t.Steps m) (t.Steps k) = ap t.Steps (let e : max (max n m) k ≡ max n (max m k) = omega arith in e)
longer_again (t.Steps n) (t.Steps m) t.Leaves = refl
longer_again (t.Steps n) (t.Steps m) t.Traps = refl
longer_again (t.Steps n) t.Leaves c = refl
longer_again (t.Steps n) t.Traps c = refl
longer_again t.Leaves b c = refl
longer_again t.Traps b c = refl

pub tell_either : (f g : Found) → tell (either f g) ≡ longer (tell f) (tell g)
tell_either (Clear s n) (Clear u m) = ap t.Steps (let e : counted (max n m) ≡ max (counted n) (counted m) = omega arith in e)
tell_either (Clear s n) Leaves = refl
tell_either (Clear s n) Traps = refl
tell_either Leaves g = refl
tell_either Traps g = refl

-- ---- expressions

-- behind an expression whose range is known where it is clear
pub tell_range : (o : Option Span) (c : Bool) (r : Span) (f : Span → Found) → (if c then Some r else None) ≡ o → tell (with_range o f) ≡ trapping c (tell (f r))
tell_range o c r f h = ap (λ (u : Option Span). tell (with_range u f)) (sym h) ∙ by c where
  by : (c : Bool) → tell (with_range (if c then Some r else None) f) ≡ trapping c (tell (f r))
  by true = refl
  by false = refl

pub tell_element : (a b : Bool) (s : Spans) → tell (if a then (if b then Clear s 1 else Leaves) else Traps) ≡ trapping a (keeping b (t.Steps 1))
tell_element true true s = refl
tell_element true false s = refl
tell_element false b s = refl

-- ---- FOR

tell_kept : (rows : Spans) (xs : List Name) (found : Found) (s : Spans) → Ends found s → tell (kept rows xs found) ≡ keeping (are_kept xs rows s) (tell found)
tell_kept rows xs (Clear end n) s h = by (are_kept xs rows end) ∙ ap (λ (u : Spans). keeping (are_kept xs rows u) (t.Steps (counted n))) h where
  by : (b : Bool) → tell (if b then Clear end n else Leaves) ≡ keeping b (t.Steps (counted n))
  by true = refl
  by false = refl
tell_kept rows xs Leaves s h = refl
tell_kept rows xs Traps s h = refl

-- the steps of all iterations, from those of one as they are told apart
iterations_counted : (j m : ℕ) → counted (1 + suc j * (1 + m)) ≡ counted (1 + suc j * (1 + counted m))
iterations_counted j m =
    by_lt_z (pos 1000000000000) (pos m)
    (λ many.
    let least : 1000000000001 ≤ m = omega (arith, ints) in
    let c : counted m ≡ 1000000000001 = omega (arith, least) in
    let a : 1 * (1 + counted m) ≤ suc j * (1 + counted m) = mul-le-mul_right (1 + counted m) (omega arith) in
    let b : 1 * (1 + m) ≤ suc j * (1 + m) = mul-le-mul_right (1 + m) (omega arith) in
    omega (arith, least, c, a, b))
    (λ few. let same : counted m ≡ m = omega (arith, ints) in ap (λ n. counted (1 + suc j * (1 + n))) (sym same))

pub tell_looped : (n : ℕ) (xs : List Name) (rows : Spans) (body : Spans → Found) (x : Name) (r s : Span) (k : ℤ) (spans : Spans) → 0 < n
    → tell (looped n xs rows body x r s k spans) ≡ iterated n (are_kept xs rows spans) (tell (kept rows xs (body (changed x (λ b. taken r s k n) (reset xs rows spans)))))
tell_looped zero xs rows body x r s k spans some = absurd (omega (arith, some))
tell_looped (suc n) xs rows body x r s k spans some = by (are_kept xs rows spans) (body (changed x (λ b. taken r s k (suc n)) (reset xs rows spans))) where
  left : Spans
  left = changed x (left_with r s k (suc n)) (reset xs rows spans)

  clear : (end : Spans) (m : ℕ) (c : Bool) → tell (if c then Clear left (1 + suc n * (1 + m)) else Leaves) ≡ iterated (suc n) true (tell (if c then Clear end m else Leaves))
  clear end m true = ap t.Steps (iterations_counted n m)
  clear end m false = refl

  by : (b : Bool) (found : Found) → tell (if b then (elim found [
    | Clear end m ↦ if are_kept xs rows end then Clear left (1 + suc n * (1 + m)) else Leaves
    | Leaves ↦ Leaves
    | Traps ↦ Traps
  ]) else Leaves) ≡ iterated (suc n) b (tell (kept rows xs found))
  by true (Clear end m) = clear end m (are_kept xs rows end)
  by true Leaves = refl
  by true Traps = refl
  by false found = refl

-- ---- algorithms

pub told_kept : (rows : Spans) (xs : List Name) (found : Found) (end : Spans) (told all : Told) (b : Bool) → Ends found end → told ≡ tell found → b ≡ are_kept xs rows end → all ≡ keeping b told → all ≡ tell (kept rows xs found)
told_kept rows xs found end told all b h e k put = put ∙ ap₂ keeping k e ∙ sym (tell_kept rows xs found end h)
