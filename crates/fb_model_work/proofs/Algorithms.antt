-- Algorithms spend no more than they cost at most, from values in their rows.
use Rattle.std.proofs.Common.{◌≡◌, ℕ, ◌+◌, ◌*◌, ◌≤◌, ℤ, Bool, true, false, not, Some, refl, subst, arith}
use Rattle.std.specs.Prelude.{if◌then◌else◌}
use Rattle.fb_prices.specs.declared.primitive.Primitive.TheVariants as p
use Rattle.fb_model.specs.Values.{Values}
use Rattle.fb_model.specs.TypedText.{Term, Command, set, set_part, choose, match_on, count, done, then_do, Choices, no_choice, choice, Cases, no_case, a_case}
use Rattle.fb_model.specs.Language.{Algorithm, Outcome, Done, Trap, after, is_zero, labelled, value_of, iteration_count, run_one, run}
use Rattle.fb_model.specs.Spans.{Span}
use Rattle.fb_model.specs.Clear.{Spans, changed, Found, Clear, onward, range_of, assigned, reset, most_iterations, taken, narrowed, examine_one, examine, examine_choices, examine_cases, examined}
use Rattle.fb_model.specs.Shapes.{Lies, Shape, HasShape, TermFits, CommandFits, AlgorithmFits, ChoicesFit, CasesFit, written}
use Rattle.fb_model.proofs.Terms.{value_in_range}
use Rattle.fb_model.proofs.Narrowing.{narrowed_lies}
use Rattle.fb_model.proofs.Rowed.{OnClear, Rowed, FoundRowed, narrowed_rowed, rowed_one, rowed_all}
use Rattle.fb_model.proofs.Runs.{Runs}
use Rattle.fb_model.proofs.Sound.{sound_all}
use Rattle.fb_model_work.specs.Spending.{Prices, where_some, where_done, in_iterations, in_one, in_all, in_choices, in_cases}
use Rattle.fb_model_work.specs.Most.{most_one, most_all, most_choices, most_cases, most}
use Rattle.fb_model_work.proofs.Cleared.{Clears, is_clear, AreIn, range_clear, costing_clear, either_clear, onward_clear, kept_clear, some_most, value_most, dearer, either_most, after_clear}
use Rattle.fb_model_work.proofs.Repeating.{loop_spends}

module _ (shape : Shape) (rows : Spans) where
  abbrev Here : Spans → Values → Type 0
  Here spans values = AreIn shape rows spans values

  -- where a condition is true, or false
  narrowed_in : (e : Term) (b : Bool) (spans : Spans) (values : Values) (v : ℤ) → TermFits shape e → value_of e values ≡ Some v → is_zero v ≡ not b
      → Here spans values → Here (narrowed e b spans) values
  narrowed_in e b spans values v h q z i =
      record {
        rowed = narrowed_rowed shape rows e b spans h i.rowed;
        fits = i.fits;
        lies = narrowed_lies shape values i.fits e b spans v h q z i.lies;
      }

  -- ---- one statement after another

  -- values with which a statement is done lie in the ranges after it
  abbrev After : Spans → Outcome → Type 0
  After s (Done values n) = Here s values
  After s Trap = ⊥

  alone_after : (n : ℕ) (s : Spans) (c : Command) (before : Values) (o : Outcome) → Rowed shape rows s
      → Runs shape n s (assigned (then_do c done)) (written (then_do c done)) before (after o (run done)) → After s o
  alone_after n s c before (Done values m) b g = record { rowed = b; fits = g.fits; lies = g.lies }
  alone_after n s c before Trap b g = g

  one_after : (c : Command) → CommandFits shape c → (spans : Spans) (values : Values) → Here spans values
      → (s : Spans) (n : ℕ) → examine_one rows c spans ≡ Clear s n → After s (run_one c values)
  one_after c h spans values i s n e =
      alone_after _ s c values (run_one c values) (subst (FoundRowed shape rows) e (rowed_one shape rows c h spans i.rowed))
      (subst (λ F. OnClear (λ t m. Runs shape m t (assigned (then_do c done)) (written (then_do c done)) values (after (run_one c values) (run done))) (onward F (examine rows done))) e
      (sound_all shape rows (then_do c done) (h, tt) spans values i.rowed i.fits i.lies))

  sequel : (o : Outcome) (s : Spans) (f : Values → ℕ) (m : ℕ) → After s o → ((values : Values) → Here s values → f values ≤ m) → where_done o f ≤ m
  sequel (Done values n) s f m a go = go values a
  sequel Trap s f m a go = absurd a

module _ (prices : Prices) (shape : Shape) (rows : Spans) where
  mutual
    spends_one : (c : Command) → CommandFits shape c → (spans : Spans) (values : Values) → AreIn shape rows spans values
        → Clears (examine_one rows c spans) → in_one prices c values ≤ most_one prices rows c spans
    spends_one (set x e) h spans values i c = omega arith
    spends_one (set_part x low high j e) h spans values i c = omega arith
    spends_one (choose choices other) h spans values i c =
        let l = spends_choices choices h.0 (examine rows other) (in_all prices other values) (most_all prices rows other) values (λ s d k. spends_all other h.1 s values d k) spans i (costing_clear 1 _ c) in
        omega (arith, l)
    spends_one (match_on e cases other) h spans values i c =
        let r = range_clear (range_of e spans) _ c in
        let v = value_in_range e spans shape r.0 values r.1 h.0 i.fits i.lies in
        let taken_case = spends_cases cases h.1 (examine rows other spans) _ _ v.0 values (λ d. spends_all other h.2 spans values i d) spans i (costing_clear 1 _ r.2) in
        let l = value_most (value_of e values) (λ u. in_cases prices cases u values (in_all prices other values)) _ v.0 v.1 taken_case in
        omega (arith, l)
    spends_one (count x a e g k plain body) h spans values i c =
        let r = range_clear (range_of e spans) _ c in
        let s = range_clear (range_of g spans) _ r.2 in
        let u = value_in_range e spans shape r.0 values r.1 h.2 i.fits i.lies in
        let v = value_in_range g spans shape s.0 values s.1 h.3 i.fits i.lies in
        let inner : Span → Span → Spans = λ r s. changed x (λ b. taken r s k (most_iterations r s k)) (reset (assigned body) rows spans) in
        let w : Span → Span → ℕ = λ r s. most_iterations r s k * (prices p.Iteration + most_all prices rows body (inner r s)) in
        let f : ℤ → ℤ → ℕ = λ u v. in_iterations (prices p.Iteration) (iteration_count u v k) (run body) (in_all prices body) x u k values in
        let l : f u.0 v.0 ≤ w r.0 s.0 =
        loop_spends shape rows (assigned body) (written body) x k h.0 (run body) (in_all prices body) (prices p.Iteration) (examine rows body) (most_all prices rows body)
        (λ t b. rowed_all shape rows body h.4 t b) (λ t vs j. sound_all shape rows body h.4 t vs j.rowed j.fits j.lies) (λ t vs j d. spends_all body h.4 t vs j d)
        r.0 s.0 u.0 v.0 spans values u.2 v.2 i (most_iterations r.0 s.0 k) refl s.2 in
        let last = some_most (value_of g values) (range_of g spans) (f u.0) (w r.0) v.0 s.0 v.1 s.1 l in
        let both = some_most (value_of e values) (range_of e spans) (λ u. where_some (value_of g values) (f u)) (λ r. where_some (range_of g spans) (w r)) u.0 r.0 u.1 r.1 last in
        omega (arith, both)

    pub spends_all : (a : Algorithm) → AlgorithmFits shape a → (spans : Spans) (values : Values) → AreIn shape rows spans values
        → Clears (examine rows a spans) → in_all prices a values ≤ most_all prices rows a spans
    spends_all done h spans values i c = omega arith
    spends_all (then_do c cs) h spans values i d =
        let k = onward_clear (examine_one rows c spans) (examine rows cs) d in
        let one = spends_one c h.0 spans values i (is_clear _ k.0 k.1 k.2) in
        let ends = one_after shape rows c h.0 spans values i k.0 k.1 k.2 in
        let rest = sequel shape rows (run_one c values) k.0 (in_all prices cs) (most_all prices rows cs k.0) ends (λ next j. spends_all cs h.1 k.0 next j k.3) in
        let same = after_clear (examine_one rows c spans) (most_all prices rows cs) k.0 k.1 k.2 in
        omega (arith, one, rest, same)

    spends_choices : (cs : Choices) → ChoicesFit shape cs → (f : Spans → Found) (n : ℕ) (w : Spans → ℕ) (values : Values)
        → ((s : Spans) → AreIn shape rows s values → Clears (f s) → n ≤ w s)
        → (spans : Spans) → AreIn shape rows spans values → Clears (examine_choices rows cs f spans)
        → in_choices prices cs values n ≤ most_choices prices rows cs w spans
    spends_choices no_choice h f n w values els spans i c = els spans i c
    spends_choices (choice e body rest) h f n w values els spans i c =
        let r = range_clear (range_of e spans) _ c in
        let v = value_in_range e spans shape r.0 values r.1 h.0 i.fits i.lies in
        let d = either_clear (examine rows body (narrowed e true spans)) (examine_choices rows rest f (narrowed e false spans)) r.2 in
        let l = value_most (value_of e values) (λ v. if is_zero v then in_choices prices rest values n else in_all prices body values) _ v.0 v.1
        (dearer (is_zero v.0) _ _ _ _
        (λ z. spends_all body h.1 (narrowed e true spans) values (narrowed_in shape rows e true spans values v.0 h.0 v.1 z i) d.0)
        (λ z. spends_choices rest h.2 f n w values els (narrowed e false spans) (narrowed_in shape rows e false spans values v.0 h.0 v.1 z i) d.1)) in
        omega (arith, l)

    spends_cases : (cs : Cases) → CasesFit shape cs → (F : Found) (n m : ℕ) (v : ℤ) (values : Values) → (Clears F → n ≤ m)
        → (spans : Spans) → AreIn shape rows spans values → Clears (examine_cases rows cs F spans)
        → in_cases prices cs v values n ≤ most_cases prices rows cs m spans
    spends_cases no_case h F n m v values els spans i c = els c
    spends_cases (a_case labels body rest) h F n m v values els spans i c =
        let d = either_clear (examine rows body spans) (examine_cases rows rest F spans) c in
        let l = either_most (labelled labels v) _ _ _ _ (spends_all body h.0 spans values i d.0) (spends_cases rest h.1 F n m v values els spans i d.1) in
        omega (arith, l)

  -- what is clear spends no more than it costs at most
  pub all_most : (a : Algorithm) → AlgorithmFits shape a → (spans : Spans) (values : Values) → Rowed shape rows spans → HasShape shape values → Lies spans values
      → (end : Spans) (n : ℕ) → examine rows a spans ≡ Clear end n → in_all prices a values ≤ most_all prices rows a spans
  all_most a h spans values b fit lie end n is =
      spends_all a h spans values (record { rowed = b; fits = fit; lies = lie }) (is_clear (examine rows a spans) end n is)

-- from values in the rows
pub algorithm_most : (prices : Prices) (rows : Spans) (shape : Shape) (a : Algorithm) (end : Spans) (n : ℕ) → AlgorithmFits shape a
    → examined rows a ≡ Clear end n → (values : Values) → HasShape shape values → Lies rows values → in_all prices a values ≤ most prices rows a
algorithm_most prices rows shape a end n h is values fit lie =
    spends_all prices shape rows a h rows values (record { rowed = λ x bounds p. refl; fits = fit; lies = lie })
    (kept_clear rows (assigned a) (examine rows a rows) (is_clear (examined rows a) end n is))
