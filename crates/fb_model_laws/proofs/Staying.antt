-- Where nothing is asked, nothing leaves its row.
use Rattle.std.proofs.Common.{◌≡◌, ◌≢◌, ℕ, zero, suc, ◌+◌, ◌*◌, ℤ, Bool, true, false, ◌&&◌, List, [], ◌∷◌, refl, sym, ap, ap₂, subst, ◌∙◌}
use Rattle.std.specs.Prelude.{if◌then◌else◌}
use Rattle.fb_model.specs.Names.{Name}
use Rattle.fb_model.specs.TypedText.{Command, set, set_part, choose, match_on, count, done, then_do, Choices, no_choice, choice, Cases, no_case, a_case}
use Rattle.fb_model.specs.Language.{Algorithm}
use Rattle.fb_model.specs.Spans.{Span, span, within, joined}
use Rattle.fb_model.specs.Clear.{Spans, Found, Clear, Leaves, Traps, changed, range_of, narrowed, onward, costing, with_range, either, assigned, are_kept, reset, most_iterations, taken, left_with, looped, kept, examine_one, examine, examine_choices, examine_cases, examined}
use Rattle.std.proofs.lemmas.Slice.Eq.{bytes_eq-Decides}
use Rattle.fb_model.specs.Asking.{Asked, point, range_in, asking, asking_all, asked_loop, ask_one, ask, ask_choices, ask_cases, grown}
use Rattle.fb_model_laws.proofs.Ranging.{ranged, within_on, within_other}
use Rattle.fb_model_laws.proofs.Ending.{Ends, ends, ends_one}
use Rattle.fb_model_laws.proofs.Growing.{Grows, grows_on, asking_all_grows, all_grows, choices_grow, cases_grow}

-- nothing leaves its row
abbrev pub Stays : Found → Type 0
Stays (Clear end n) = Unit {0}
Stays Leaves = ⊥
Stays Traps = Unit {0}

costing_stays : (n : ℕ) (found : Found) → Stays found → Stays (costing n found)
costing_stays n (Clear end m) h = tt
costing_stays n Leaves h = h
costing_stays n Traps h = tt

onward_stays : (found : Found) (f : Spans → Found) (s : Spans) → Ends found s → Stays found → Stays (f s) → Stays (onward found f)
onward_stays (Clear end n) f s e h k = by (f end) (subst (λ (u : Spans). Stays (f u)) (sym e) k) where
  by : (found : Found) → Stays found → Stays (elim found as (λ v. Found) [ Clear after m ↦ Clear after (n + m) | Leaves ↦ Leaves | Traps ↦ Traps ])
  by (Clear after m) g = tt
  by Leaves g = g
  by Traps g = tt
onward_stays Leaves f s e h k = h
onward_stays Traps f s e h k = tt

either_stays : (p q : Found) → Stays p → Stays q → Stays (either p q)
either_stays (Clear a n) (Clear b m) h k = tt
either_stays (Clear a n) Leaves h k = k
either_stays (Clear a n) Traps h k = tt
either_stays Leaves q h k = h
either_stays Traps q h k = tt

part_stays : (a b : Bool) (s : Spans) → b ≡ true → Stays (if a then (if b then Clear s 1 else Leaves) else Traps)
part_stays true true s e = tt
part_stays true false s e = cc
part_stays false b s e = tt

-- a row that is asked to hold a range, and stays in one, holds it there
asked_within : (x : Name) (r : Span) (rows limits : Spans) → Grows (asking x r rows) limits → within r (limits x) ≡ true
asked_within x r rows limits h =
    within_on r (joined (rows x) r) (limits x) (within_other (rows x) r)
    (ap (λ b. within (if b then joined (rows x) r else rows x) (limits x)) (sym ((bytes_eq-Decides x x).1 refl)) ∙ h x)

-- as do those of variables that are asked to
asked_kept : (xs : List Name) (spans rows limits : Spans) → Grows (asking_all xs spans rows) limits → are_kept xs limits spans ≡ true
asked_kept [] spans rows limits h = refl
asked_kept (x ∷ xs) spans rows limits h =
    let next = asking x (spans x) rows in
    ap₂ ◌&&◌ (asked_within x (spans x) rows limits (grows_on next (asking_all xs spans next) limits (asking_all_grows xs spans next) h)) (asked_kept xs spans next limits h)

kept_stays : (rows : Spans) (xs : List Name) (found : Found) (s : Spans) → Ends found s → Stays found → are_kept xs rows s ≡ true → Stays (kept rows xs found)
kept_stays rows xs (Clear end n) s e h k = by (are_kept xs rows end) (ap (are_kept xs rows) e ∙ k) where
  by : (b : Bool) → b ≡ true → Stays (if b then Clear end n else Leaves)
  by true g = tt
  by false g = cc
kept_stays rows xs Leaves s e h k = h
kept_stays rows xs Traps s e h k = tt

-- a FOR
loop_stays : (n : ℕ) (xs : List Name) (rows : Spans) (f : Spans → Found) (g : Asked → Asked) (x : Name) (r s : Span) (k : ℤ) → ((b : Asked) → Grows b.rows (g b).rows) → ((b : Asked) → Ends (f b.spans) (g b).spans)
    → ((b : Asked) → Grows (g b).rows rows → Stays (f b.spans)) → (a : Asked) → Grows (asked_loop n xs rows g x r s k a).rows rows → Stays (looped n xs rows f x r s k a.spans)
loop_stays zero xs rows f g x r s k grow end stay a h = tt
loop_stays (suc n) xs rows f g x r s k grow end stay a h = by (are_kept xs rows a.spans) before (f begin.spans) (end begin) (stay begin less) where
  begin : Asked
  begin = point (changed x (λ b. taken r s k (suc n)) (reset xs rows a.spans)) (asking_all xs a.spans a.rows)

  less : Grows (g begin).rows rows
  less = grows_on (g begin).rows (asking_all xs (g begin).spans (g begin).rows) rows (asking_all_grows xs (g begin).spans (g begin).rows) h

  before : are_kept xs rows a.spans ≡ true
  before = asked_kept xs a.spans a.rows rows (grows_on begin.rows (g begin).rows rows (grow begin) less)

  after : are_kept xs rows (g begin).spans ≡ true
  after = asked_kept xs (g begin).spans (g begin).rows rows h

  left : Spans
  left = changed x (left_with r s k (suc n)) (reset xs rows a.spans)

  closing : (m : ℕ) (b : Bool) → b ≡ true → Stays (if b then Clear left (1 + suc n * (1 + m)) else Leaves)
  closing m true e = tt
  closing m false e = cc

  by : (b : Bool) → b ≡ true → (found : Found) → Ends found (g begin).spans → Stays found → Stays (if b then (elim found [
    | Clear end m ↦ if are_kept xs rows end then Clear left (1 + suc n * (1 + m)) else Leaves
    | Leaves ↦ Leaves
    | Traps ↦ Traps
  ]) else Leaves)
  by true e (Clear end m) is w = closing m (are_kept xs rows end) (ap (are_kept xs rows) is ∙ after)
  by true e Leaves is w = w
  by true e Traps is w = tt
  by false e found is w = cc

mutual
  one_stays : (rows : Spans) (c : Command) (a : Asked) → Grows (ask_one rows c a).rows rows → Stays (examine_one rows c a.spans)
  one_stays rows (set x e) a h = ranged Stays e a.spans (λ r. Clear (changed x (λ b. r) a.spans) 1) tt tt
  one_stays rows (set_part x low high i e) a h =
      ranged Stays i a.spans (λ k. with_range (range_of e a.spans) (λ r. if within k (span low high) then (if within r (rows x) then Clear a.spans 1 else Leaves) else Traps)) tt
      (ranged Stays e a.spans (λ r. if within (range_in i a.spans) (span low high) then (if within r (rows x) then Clear a.spans 1 else Leaves) else Traps) tt
      (part_stays (within (range_in i a.spans) (span low high)) (within (range_in e a.spans) (rows x)) a.spans (asked_within x (range_in e a.spans) a.rows rows h)))
  one_stays rows (choose choices other) a h =
      costing_stays 1 (examine_choices rows choices (examine rows other) a.spans) (choices_stay rows choices (examine rows other) (ask rows other) (λ b. all_grows rows other b) (λ b. all_stays rows other b) a h)
  one_stays rows (match_on e cases other) a h =
      ranged Stays e a.spans (λ r. costing 1 (examine_cases rows cases (examine rows other a.spans) a.spans)) tt
      (costing_stays 1 (examine_cases rows cases (examine rows other a.spans) a.spans)
      (cases_stay rows cases (examine rows other a.spans) (ask rows other) a.spans (λ b. all_grows rows other b) (λ q. all_stays rows other (point a.spans q)) a.rows h))
  one_stays rows (count x kind e g k plain body) a h =
      let r = range_in e a.spans in
      let s = range_in g a.spans in
      ranged Stays e a.spans (λ p. with_range (range_of g a.spans) (λ q. looped (most_iterations p q k) (assigned body) rows (examine rows body) x p q k a.spans)) tt
      (ranged Stays g a.spans (λ q. looped (most_iterations r q k) (assigned body) rows (examine rows body) x r q k a.spans) tt
      (loop_stays (most_iterations r s k) (assigned body) rows (examine rows body) (ask rows body) x r s k (λ b. all_grows rows body b) (λ b. ends rows body b) (λ b. all_stays rows body b) a h))

  all_stays : (rows : Spans) (c : Algorithm) (a : Asked) → Grows (ask rows c a).rows rows → Stays (examine rows c a.spans)
  all_stays rows done a h = tt
  all_stays rows (then_do c cs) a h =
      let next = ask_one rows c a in
      onward_stays (examine_one rows c a.spans) (examine rows cs) next.spans (ends_one rows c a)
      (one_stays rows c a (grows_on next.rows (ask rows cs next).rows rows (all_grows rows cs next) h)) (all_stays rows cs next h)

  choices_stay : (rows : Spans) (choices : Choices) (other : Spans → Found) (asks : Asked → Asked) → ((b : Asked) → Grows b.rows (asks b).rows) → ((b : Asked) → Grows (asks b).rows rows → Stays (other b.spans))
      → (a : Asked) → Grows (ask_choices rows choices asks a).rows rows → Stays (examine_choices rows choices other a.spans)
  choices_stay rows no_choice other asks grow stay a h = stay a h
  choices_stay rows (choice e body rest) other asks grow stay a h =
      let begin = point (narrowed e true a.spans) a.rows in
      let way = ask rows body begin in
      let others = point (narrowed e false a.spans) way.rows in
      ranged Stays e a.spans (λ r. either (examine rows body (narrowed e true a.spans)) (examine_choices rows rest other (narrowed e false a.spans))) tt
      (either_stays (examine rows body (narrowed e true a.spans)) (examine_choices rows rest other (narrowed e false a.spans))
      (all_stays rows body begin (grows_on way.rows (ask_choices rows rest asks others).rows rows (choices_grow rows rest asks grow others) h))
      (choices_stay rows rest other asks grow stay others h))

  cases_stay : (rows : Spans) (cases : Cases) (other : Found) (asks : Asked → Asked) (s : Spans) → ((b : Asked) → Grows b.rows (asks b).rows) → ((q : Spans) → Grows (asks (point s q)).rows rows → Stays other)
      → (q : Spans) → Grows (ask_cases rows cases asks (point s q)).rows rows → Stays (examine_cases rows cases other s)
  cases_stay rows no_case other asks s grow stay q h = stay q h
  cases_stay rows (a_case labels body rest) other asks s grow stay q h =
      let way = ask rows body (point s q) in
      let others = point s way.rows in
      either_stays (examine rows body s) (examine_cases rows rest other s)
      (all_stays rows body (point s q) (grows_on way.rows (ask_cases rows rest asks others).rows rows (cases_grow rows rest asks grow others) h))
      (cases_stay rows rest other asks s grow stay way.rows h)

pub nothing_leaves : (rows : Spans) (c : Algorithm) → ((x : Name) → within (grown rows c x) (rows x) ≡ true) → examined rows c ≢ Leaves
nothing_leaves rows c h =
    let begin = point rows rows in
    let end = ask rows c begin in
    let stays = all_stays rows c begin (grows_on end.rows (asking_all (assigned c) end.spans end.rows) rows (asking_all_grows (assigned c) end.spans end.rows) h) in
    let all = kept_stays rows (assigned c) (examine rows c rows) end.spans (ends rows c begin) stays (asked_kept (assigned c) end.spans end.rows rows h) in
    λ e. subst Stays e all
