-- The ranges that an examination leaves where all is clear are those that the asking goes on with.
use Rattle.std.proofs.Common.{◌≡◌, ℕ, zero, suc, ◌+◌, ◌*◌, ℤ, Bool, true, false, List, refl, sym, ap₂, subst}
use Rattle.std.specs.Prelude.{if◌then◌else◌}
use Rattle.fb_model.specs.Names.{Name}
use Rattle.fb_model.specs.TypedText.{Command, set, set_part, choose, match_on, count, done, then_do, Choices, no_choice, choice, Cases, no_case, a_case}
use Rattle.fb_model.specs.Language.{Algorithm}
use Rattle.fb_model.specs.Spans.{Span, span, within, joined}
use Rattle.fb_model.specs.Clear.{Spans, Found, Clear, Leaves, Traps, changed, range_of, narrowed, onward, costing, with_range, either, assigned, are_kept, reset, most_iterations, taken, left_with, looped, examine_one, examine, examine_choices, examine_cases}
use Rattle.fb_model.specs.Asking.{Asked, point, met, range_in, asked_loop, ask_one, ask, ask_choices, ask_cases}
use Rattle.fb_model_laws.proofs.Ranging.{ranged}

-- where all is clear, it ends with these ranges
abbrev pub Ends : Found → Spans → Type 0
Ends (Clear end n) spans = end ≡ spans
Ends Leaves spans = Unit {0}
Ends Traps spans = Unit {0}

costing_ends : (n : ℕ) (found : Found) (s : Spans) → Ends found s → Ends (costing n found) s
costing_ends n (Clear end m) s h = h
costing_ends n Leaves s h = tt
costing_ends n Traps s h = tt

onward_ends : (found : Found) (f : Spans → Found) (s t : Spans) → Ends found s → Ends (f s) t → Ends (onward found f) t
onward_ends (Clear end n) f s t h k = by (f end) (subst (λ (u : Spans). Ends (f u) t) (sym h) k) where
  by : (found : Found) → Ends found t → Ends (elim found as (λ v. Found) [ Clear after m ↦ Clear after (n + m) | Leaves ↦ Leaves | Traps ↦ Traps ]) t
  by (Clear after m) g = g
  by Leaves g = tt
  by Traps g = tt
onward_ends Leaves f s t h k = tt
onward_ends Traps f s t h k = tt

either_ends : (p q : Found) (s t : Spans) → Ends p s → Ends q t → Ends (either p q) (λ x. joined (s x) (t x))
either_ends (Clear a n) (Clear b m) s t h k = ap₂ {C = Spans} (λ u v. λ x. joined (u x) (v x)) h k
either_ends (Clear a n) Leaves s t h k = tt
either_ends (Clear a n) Traps s t h k = tt
either_ends Leaves q s t h k = tt
either_ends Traps q s t h k = tt

part_ends : (a b : Bool) (s : Spans) → Ends (if a then (if b then Clear s 1 else Leaves) else Traps) s
part_ends true true s = refl
part_ends true false s = tt
part_ends false b s = tt

looped_ends : (n : ℕ) (xs : List Name) (rows : Spans) (f : Spans → Found) (g : Asked → Asked) (x : Name) (r s : Span) (k : ℤ) (a : Asked) → Ends (looped n xs rows f x r s k a.spans) (asked_loop n xs rows g x r s k a).spans
looped_ends zero xs rows f g x r s k a = refl
looped_ends (suc n) xs rows f g x r s k a = by (are_kept xs rows a.spans) (f (changed x (λ b. taken r s k (suc n)) (reset xs rows a.spans))) where
  left : Spans
  left = changed x (left_with r s k (suc n)) (reset xs rows a.spans)

  closing : (m : ℕ) (b : Bool) → Ends (if b then Clear left (1 + suc n * (1 + m)) else Leaves) left
  closing m true = refl
  closing m false = tt

  by : (b : Bool) (found : Found) → Ends (if b then (elim found [
    | Clear end m ↦ if are_kept xs rows end then Clear left (1 + suc n * (1 + m)) else Leaves
    | Leaves ↦ Leaves
    | Traps ↦ Traps
  ]) else Leaves) left
  by true (Clear end m) = closing m (are_kept xs rows end)
  by true Leaves = tt
  by true Traps = tt
  by false found = tt

mutual
  pub ends_one : (rows : Spans) (c : Command) (a : Asked) → Ends (examine_one rows c a.spans) (ask_one rows c a).spans
  ends_one rows (set x e) a = ranged (λ f. Ends f (changed x (λ b. range_in e a.spans) a.spans)) e a.spans (λ r. Clear (changed x (λ b. r) a.spans) 1) tt refl
  ends_one rows (set_part x low high i e) a =
      ranged (λ f. Ends f a.spans) i a.spans (λ k. with_range (range_of e a.spans) (λ r. if within k (span low high) then (if within r (rows x) then Clear a.spans 1 else Leaves) else Traps)) tt
      (ranged (λ f. Ends f a.spans) e a.spans (λ r. if within (range_in i a.spans) (span low high) then (if within r (rows x) then Clear a.spans 1 else Leaves) else Traps) tt
      (part_ends (within (range_in i a.spans) (span low high)) (within (range_in e a.spans) (rows x)) a.spans))
  ends_one rows (choose choices other) a = costing_ends 1 (examine_choices rows choices (examine rows other) a.spans) (ask_choices rows choices (ask rows other) a).spans (ends_choices rows choices (examine rows other) (ask rows other) (λ b. ends rows other b) a)
  ends_one rows (match_on e cases other) a =
      let end = (ask_cases rows cases (ask rows other) a).spans in
      ranged (λ f. Ends f end) e a.spans (λ r. costing 1 (examine_cases rows cases (examine rows other a.spans) a.spans)) tt
      (costing_ends 1 (examine_cases rows cases (examine rows other a.spans) a.spans) end (ends_cases rows cases (examine rows other a.spans) (ask rows other) a.spans (λ q. ends rows other (point a.spans q)) a.rows))
  ends_one rows (count x kind e g k plain body) a =
      let r = range_in e a.spans in
      let s = range_in g a.spans in
      let end = (asked_loop (most_iterations r s k) (assigned body) rows (ask rows body) x r s k a).spans in
      ranged (λ f. Ends f end) e a.spans (λ p. with_range (range_of g a.spans) (λ q. looped (most_iterations p q k) (assigned body) rows (examine rows body) x p q k a.spans)) tt
      (ranged (λ f. Ends f end) g a.spans (λ q. looped (most_iterations r q k) (assigned body) rows (examine rows body) x r q k a.spans) tt
      (looped_ends (most_iterations r s k) (assigned body) rows (examine rows body) (ask rows body) x r s k a))

  pub ends : (rows : Spans) (c : Algorithm) (a : Asked) → Ends (examine rows c a.spans) (ask rows c a).spans
  ends rows done a = refl
  ends rows (then_do c cs) a =
      onward_ends (examine_one rows c a.spans) (examine rows cs) (ask_one rows c a).spans (ask rows cs (ask_one rows c a)).spans
      (ends_one rows c a) (ends rows cs (ask_one rows c a))

  ends_choices : (rows : Spans) (choices : Choices) (other : Spans → Found) (asks : Asked → Asked) → ((b : Asked) → Ends (other b.spans) (asks b).spans) → (a : Asked) → Ends (examine_choices rows choices other a.spans) (ask_choices rows choices asks a).spans
  ends_choices rows no_choice other asks h a = h a
  ends_choices rows (choice e body rest) other asks h a =
      let way = ask rows body (point (narrowed e true a.spans) a.rows) in
      let others = ask_choices rows rest asks (point (narrowed e false a.spans) way.rows) in
      ranged (λ f. Ends f (met way others).spans) e a.spans (λ r. either (examine rows body (narrowed e true a.spans)) (examine_choices rows rest other (narrowed e false a.spans))) tt
      (either_ends (examine rows body (narrowed e true a.spans)) (examine_choices rows rest other (narrowed e false a.spans)) way.spans others.spans
      (ends rows body (point (narrowed e true a.spans) a.rows)) (ends_choices rows rest other asks h (point (narrowed e false a.spans) way.rows)))

  ends_cases : (rows : Spans) (cases : Cases) (other : Found) (asks : Asked → Asked) (s : Spans) → ((q : Spans) → Ends other (asks (point s q)).spans) → (q : Spans) → Ends (examine_cases rows cases other s) (ask_cases rows cases asks (point s q)).spans
  ends_cases rows no_case other asks s h q = h q
  ends_cases rows (a_case labels body rest) other asks s h q =
      let way = ask rows body (point s q) in
      either_ends (examine rows body s) (examine_cases rows rest other s) way.spans (ask_cases rows rest asks (point s way.rows)).spans
      (ends rows body (point s q)) (ends_cases rows rest other asks s h way.rows)
