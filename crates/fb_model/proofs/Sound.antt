-- What is clear, run from values in the rows, neither traps nor leaves them, and takes no more steps than it costs.
use Rattle.std.proofs.Common.{◌≡◌, ℕ, ◌+◌, max, ℤ, Bool, true, false, List, [], ◌∷◌, ◌++◌, Option, Some, None, refl, sym, ap, subst, arith}
use Rattle.std.specs.Prelude.{if◌then◌else◌}
use Rattle.fb_model.specs.Names.{Name}
use Rattle.fb_model.specs.Values.{One, Values}
use Rattle.fb_model.specs.TypedText.{Command, set, set_part, choose, match_on, count, done, then_do, Choices, no_choice, choice, Cases, no_case, a_case}
use Rattle.fb_model.specs.Language.{Algorithm, Outcome, Done, Trap, more, after, with_value, setting, setting_part, is_zero, labelled, value_of, iteration_count, iterations, run_one, run, run_choices, run_cases}
use Rattle.fb_model.specs.Spans.{Span, span, within, joined}
use Rattle.fb_model.specs.Clear.{Spans, changed, Found, Clear, Leaves, Traps, costing, either, range_of, is_idle, assigned_one, assigned, assigned_choices, assigned_cases, are_kept, most_iterations, narrowed, looped, kept, examine_one, examine, examine_choices, examine_cases, examined}
use Rattle.fb_model.specs.Shapes.{IsIn, Lies, Shape, HasShape, CommandFits, AlgorithmFits, ChoicesFit, CasesFit, written_one, written, written_choices, written_cases, Keeps}
use Rattle.fb_model.proofs.Results.{LiesIn, joined_left, joined_right, within_is}
use Rattle.fb_model.proofs.Names.{not_front, not_back}
use Rattle.fb_model.proofs.Terms.{term_lies}
use Rattle.fb_model.proofs.Narrowing.{narrowed_lies}
use Rattle.fb_model.proofs.Rowed.{OnClear, any_clear, on_range, on_costing, on_onward, on_either, on_if, Rowed, FoundRowed, narrowed_rowed, rowed_one, rowed_all}
use Rattle.fb_model.proofs.Runs.{Sub, not_both, Runs, weaker, one_more, one_after, set_runs, part_runs, back}
use Rattle.fb_model.proofs.Loops.{unassigned, loop_runs, idle_none}

-- ---- values that are there

-- what goes on with a value that is there
with_there : (P : Outcome → Type 0) (r : Span) (o : Option ℤ) (g : ℤ → Outcome) → LiesIn r o → ((v : ℤ) → o ≡ Some v → IsIn r v → P (g v)) → P (with_value o g)
with_there P r None g h go = absurd h
with_there P r (Some v) g h go = go v refl h

map_clear : (F : Found) (P Q : Spans → ℕ → Type 0) → ((s : Spans) (n : ℕ) → P s n → Q s n) → OnClear P F → OnClear Q F
map_clear (Clear s n) P Q go h = go s n h
map_clear Leaves P Q go h = tt
map_clear Traps P Q go h = tt

both_clear : (F : Found) (P Q : Spans → ℕ → Type 0) → OnClear P F → OnClear Q F → OnClear (λ t n. P t n × Q t n) F
both_clear (Clear s n) P Q h k = (h, k)
both_clear Leaves P Q h k = tt
both_clear Traps P Q h k = tt

-- what is in none of the names of an arm, of the other arms and of what comes where none is taken
in_arm : (xs ys zs : List Name) → Sub xs ((xs ++ ys) ++ zs)
in_arm xs ys zs y e = not_front y xs ys (not_front y (xs ++ ys) zs e)

in_others : (xs ys zs : List Name) → Sub (ys ++ zs) ((xs ++ ys) ++ zs)
in_others xs ys zs y e = not_both y ys zs (not_back y xs ys (not_front y (xs ++ ys) zs e)) (not_back y (xs ++ ys) zs e)

module _ (shape : Shape) (rows : Spans) where
  -- from values in the ranges, what a run does where all is clear
  abbrev IsSound : List Name → List Name → Values → Outcome → Found → Type 0
  IsSound xs ys values o F = OnClear (λ t n. Runs shape n t xs ys values o) F

  -- ---- arms

  this_arm : (xs ys xs' ys' zs ws : List Name) (values : Values) (o : Outcome) (F G : Found) → IsSound xs ys values o F → IsSound ((xs ++ xs') ++ zs) ((ys ++ ys') ++ ws) values o (either F G)
  this_arm xs ys xs' ys' zs ws values o F G h =
      on_either F G (λ t n. Runs shape n t xs ys values o) (λ t n. Unit {0}) (λ t n. Runs shape n t ((xs ++ xs') ++ zs) ((ys ++ ys') ++ ws) values o) h (any_clear G)
      (λ s t n m g u. weaker shape n (max n m) s (λ x. joined (s x) (t x)) xs ((xs ++ xs') ++ zs) ys ((ys ++ ys') ++ ws) values o (omega arith) (λ x v i. joined_left (s x) (t x) v i) (in_arm xs xs' zs) (in_arm ys ys' ws) g)

  other_arm : (xs ys xs' ys' zs ws : List Name) (values : Values) (o : Outcome) (F G : Found) → IsSound (xs' ++ zs) (ys' ++ ws) values o G → IsSound ((xs ++ xs') ++ zs) ((ys ++ ys') ++ ws) values o (either F G)
  other_arm xs ys xs' ys' zs ws values o F G h =
      on_either F G (λ t n. Unit {0}) (λ t n. Runs shape n t (xs' ++ zs) (ys' ++ ws) values o) (λ t n. Runs shape n t ((xs ++ xs') ++ zs) ((ys ++ ys') ++ ws) values o) (any_clear F) h
      (λ s t n m u g. weaker shape m (max n m) t (λ x. joined (s x) (t x)) (xs' ++ zs) ((xs ++ xs') ++ zs) (ys' ++ ws) ((ys ++ ys') ++ ws) values o (omega arith) (λ x v i. joined_right (s x) (t x) v i) (in_others xs xs' zs) (in_others ys ys' ws) g)

  -- an arm is taken where its test is false as a test for zero
  taken_arm : (xs ys xs' ys' zs ws : List Name) (values : Values) (o p : Outcome) (F G : Found) (b : Bool) → (b ≡ false → IsSound xs ys values o F) → (b ≡ true → IsSound (xs' ++ zs) (ys' ++ ws) values p G)
      → IsSound ((xs ++ xs') ++ zs) ((ys ++ ys') ++ ws) values (if b then p else o) (either F G)
  taken_arm xs ys xs' ys' zs ws values o p F G true h k = other_arm xs ys xs' ys' zs ws values p F G (k refl)
  taken_arm xs ys xs' ys' zs ws values o p F G false h k = this_arm xs ys xs' ys' zs ws values o F G (h refl)

  labelled_arm : (xs ys xs' ys' zs ws : List Name) (values : Values) (o p : Outcome) (F G : Found) (b : Bool) → IsSound xs ys values o F → IsSound (xs' ++ zs) (ys' ++ ws) values p G
      → IsSound ((xs ++ xs') ++ zs) ((ys ++ ys') ++ ws) values (if b then o else p) (either F G)
  labelled_arm xs ys xs' ys' zs ws values o p F G true h k = this_arm xs ys xs' ys' zs ws values o F G h
  labelled_arm xs ys xs' ys' zs ws values o p F G false h k = other_arm xs ys xs' ys' zs ws values p F G k

  -- ---- elements

  part_clear : (x : Name) (low high : ℤ) (j r : Span) (k v : ℤ) (spans : Spans) (values : Values) → shape x ≡ Some (low, high) → Rowed shape rows spans → HasShape shape values → Lies spans values → IsIn j k → IsIn r v
      → IsSound [] (x ∷ []) values (more 1 (setting_part values x low high k v)) (if within j (span low high) then (if within r (rows x) then Clear spans 1 else Leaves) else Traps)
  part_clear x low high j r k v spans values p b fit lie i h =
      on_if (within j (span low high)) _ Traps (λ t n. Runs shape n t [] (x ∷ []) values (more 1 (setting_part values x low high k v)))
      (λ a. on_if (within r (rows x)) (Clear spans 1) Leaves (λ t n. Runs shape n t [] (x ∷ []) values (more 1 (setting_part values x low high k v)))
      (λ c. let m = within_is j (span low high) k a i in part_runs shape x low high k v spans values p fit lie m.least m.most (subst (λ s. IsIn s v) (sym (b x (low, high) p)) (within_is r (rows x) v c h)))
      (λ c. tt))
      (λ a. tt)

  -- ---- one statement after another

  sequel : (s : Spans) (n : ℕ) (xs ys xs' ys' : List Name) (values : Values) (o : Outcome) (f : Values → Outcome) (F : Found) → Runs shape n s xs ys values o → ((next : Values) → HasShape shape next → Lies s next → IsSound xs' ys' next (f next) F)
      → OnClear (λ t m. Runs shape (n + m) t (xs ++ xs') (ys ++ ys') values (after o f)) F
  sequel s n xs ys xs' ys' values o f (Clear t m) g go = one_after shape n m s t xs xs' ys ys' values o f g go
  sequel s n xs ys xs' ys' values o f Leaves g go = tt
  sequel s n xs ys xs' ys' values o f Traps g go = tt

  -- ---- FOR

  -- the variables that a FOR assigns, its own not where it stands there without a iteration
  named : (b : Bool) (xs ys : List Name) (x : Name) (k : ℤ) (body : Values → Outcome) (j : ℕ) (u : ℤ) (values : Values) (F : Found) → (b ≡ true → j ≡ 0) → IsSound (x ∷ xs) (x ∷ ys) values (more 1 (iterations j body x u k values)) F
      → IsSound (if b then xs else x ∷ xs) (x ∷ ys) values (more 1 (iterations j body x u k values)) F
  named true xs ys x k body j u values F z h =
      map_clear F (λ t n. Runs shape n t (x ∷ xs) (x ∷ ys) values (more 1 (iterations j body x u k values))) (λ t n. Runs shape n t xs (x ∷ ys) values (more 1 (iterations j body x u k values)))
      (λ t n g. unassigned shape rows xs ys x k body j u n t (x ∷ xs) (x ∷ ys) values (z refl) g) h
  named false xs ys x k body j u values F z h = h

  -- ---- statements

  mutual
    sound_one : (c : Command) → CommandFits shape c → (spans : Spans) (values : Values) → Rowed shape rows spans → HasShape shape values → Lies spans values → IsSound (assigned_one c) (written_one c) values (run_one c values) (examine_one rows c spans)
    sound_one (set x e) h spans values b fit lie =
        on_range (range_of e spans) _ (λ r. LiesIn r (value_of e values)) _ (term_lies shape spans values fit lie e h.1)
        (λ r l. with_there (λ o. Runs shape 1 (changed x (λ z. r) spans) (x ∷ []) (x ∷ []) values o) r (value_of e values) (λ v. Done (setting values x (One v)) 1) l (λ v q i. set_runs shape x r v spans values h.0 fit lie i))
    sound_one (set_part x low high i e) h spans values b fit lie =
        on_range (range_of i spans) _ (λ r. LiesIn r (value_of i values)) _ (term_lies shape spans values fit lie i h.1)
        (λ j l. on_range (range_of e spans) _ (λ r. LiesIn r (value_of e values)) _ (term_lies shape spans values fit lie e h.2)
        (λ r m. with_there (λ o. IsSound [] (x ∷ []) values o (if within j (span low high) then (if within r (rows x) then Clear spans 1 else Leaves) else Traps)) j (value_of i values) (λ k. with_value (value_of e values) (λ v. more 1 (setting_part values x low high k v))) l
        (λ k q a. with_there (λ o. IsSound [] (x ∷ []) values o (if within j (span low high) then (if within r (rows x) then Clear spans 1 else Leaves) else Traps)) r (value_of e values) (λ v. more 1 (setting_part values x low high k v)) m
        (λ v t c. part_clear x low high j r k v spans values h.0 b fit lie a c))))
    sound_one (choose choices other) h spans values b fit lie =
        on_costing 1 (examine_choices rows choices (examine rows other) spans) (λ t n. Runs shape n t (assigned_choices choices ++ assigned other) (written_choices choices ++ written other) values (run_choices choices values (run other values)))
        (λ t n. Runs shape n t (assigned_choices choices ++ assigned other) (written_choices choices ++ written other) values (more 1 (run_choices choices values (run other values))))
        (sound_choices choices h.0 (examine rows other) (run other values) (assigned other) (written other) values fit (λ s c i. sound_all other h.1 s values c fit i) spans b lie)
        (λ t n g. one_more shape 1 n t (assigned_choices choices ++ assigned other) (written_choices choices ++ written other) values (run_choices choices values (run other values)) g)
    sound_one (match_on e cases other) h spans values b fit lie =
        on_range (range_of e spans) _ (λ r. LiesIn r (value_of e values)) _ (term_lies shape spans values fit lie e h.0)
        (λ r l. with_there (λ o. IsSound (assigned_cases cases ++ assigned other) (written_cases cases ++ written other) values o (costing 1 (examine_cases rows cases (examine rows other spans) spans))) r (value_of e values) (λ v. more 1 (run_cases cases v values (run other values))) l
        (λ v q i. on_costing 1 (examine_cases rows cases (examine rows other spans) spans) (λ t n. Runs shape n t (assigned_cases cases ++ assigned other) (written_cases cases ++ written other) values (run_cases cases v values (run other values)))
        (λ t n. Runs shape n t (assigned_cases cases ++ assigned other) (written_cases cases ++ written other) values (more 1 (run_cases cases v values (run other values))))
        (sound_cases cases h.1 (examine rows other spans) (run other values) (assigned other) (written other) v values fit (sound_all other h.2 spans values b fit lie) spans b lie)
        (λ t n g. one_more shape 1 n t (assigned_cases cases ++ assigned other) (written_cases cases ++ written other) values (run_cases cases v values (run other values)) g)))
    sound_one (count x a e g k plain body) h spans values b fit lie =
        on_range (range_of e spans) _ (λ r. LiesIn r (value_of e values)) _ (term_lies shape spans values fit lie e h.2)
        (λ r l. on_range (range_of g spans) _ (λ s. LiesIn s (value_of g values)) _ (term_lies shape spans values fit lie g h.3)
        (λ s m. with_there (λ o. IsSound (if is_idle plain e g k then assigned body else x ∷ assigned body) (x ∷ written body) values o (looped (most_iterations r s k) (assigned body) rows (examine rows body) x r s k spans)) r (value_of e values)
        (λ u. with_value (value_of g values) (λ v. more 1 (iterations (iteration_count u v k) (run body) x u k values))) l
        (λ u p i. with_there (λ o. IsSound (if is_idle plain e g k then assigned body else x ∷ assigned body) (x ∷ written body) values o (looped (most_iterations r s k) (assigned body) rows (examine rows body) x r s k spans)) s (value_of g values)
        (λ v. more 1 (iterations (iteration_count u v k) (run body) x u k values)) m
        (λ v q j. named (is_idle plain e g k) (assigned body) (written body) x k (run body) (iteration_count u v k) u values (looped (most_iterations r s k) (assigned body) rows (examine rows body) x r s k spans) (λ z. idle_none plain e g k values u v z p q)
        (loop_runs shape rows (assigned body) (written body) x k (run body) (examine rows body) h.0 h.1 (λ t c. rowed_all shape rows body h.4 t c) (λ t vs c f w. sound_all body h.4 t vs c f w) r s u v spans values i j b fit lie (most_iterations r s k) refl)))))

    pub sound_all : (a : Algorithm) → AlgorithmFits shape a → (spans : Spans) (values : Values) → Rowed shape rows spans → HasShape shape values → Lies spans values → IsSound (assigned a) (written a) values (run a values) (examine rows a spans)
    sound_all done h spans values b fit lie = record { steps = omega arith; lies = lie; fits = fit; still = λ y p e. refl; same = λ y e. refl }
    sound_all (then_do c cs) h spans values b fit lie =
        on_onward (examine_one rows c spans) (examine rows cs) (λ t n. Rowed shape rows t × Runs shape n t (assigned_one c) (written_one c) values (run_one c values)) (λ t n. Runs shape n t (assigned_one c ++ assigned cs) (written_one c ++ written cs) values (after (run_one c values) (run cs)))
        (both_clear (examine_one rows c spans) (λ t n. Rowed shape rows t) (λ t n. Runs shape n t (assigned_one c) (written_one c) values (run_one c values)) (rowed_one shape rows c h.0 spans b) (sound_one c h.0 spans values b fit lie))
        (λ s n p. sequel s n (assigned_one c) (written_one c) (assigned cs) (written cs) values (run_one c values) (run cs) (examine rows cs s) p.1 (λ next f i. sound_all cs h.1 s next p.0 f i))

    sound_choices : (cs : Choices) → ChoicesFit shape cs → (f : Spans → Found) (o : Outcome) (zs ws : List Name) (values : Values) → HasShape shape values → ((s : Spans) → Rowed shape rows s → Lies s values → IsSound zs ws values o (f s))
        → (spans : Spans) → Rowed shape rows spans → Lies spans values → IsSound (assigned_choices cs ++ zs) (written_choices cs ++ ws) values (run_choices cs values o) (examine_choices rows cs f spans)
    sound_choices no_choice h f o zs ws values fit els spans b lie = els spans b lie
    sound_choices (choice e body rest) h f o zs ws values fit els spans b lie =
        on_range (range_of e spans) _ (λ r. LiesIn r (value_of e values)) _ (term_lies shape spans values fit lie e h.0)
        (λ r l. with_there (λ p. IsSound ((assigned body ++ assigned_choices rest) ++ zs) ((written body ++ written_choices rest) ++ ws) values p (either (examine rows body (narrowed e true spans)) (examine_choices rows rest f (narrowed e false spans)))) r (value_of e values)
        (λ v. if is_zero v then run_choices rest values o else run body values) l
        (λ v q i. taken_arm (assigned body) (written body) (assigned_choices rest) (written_choices rest) zs ws values (run body values) (run_choices rest values o) (examine rows body (narrowed e true spans)) (examine_choices rows rest f (narrowed e false spans)) (is_zero v)
        (λ z. sound_all body h.1 (narrowed e true spans) values (narrowed_rowed shape rows e true spans h.0 b) fit (narrowed_lies shape values fit e true spans v h.0 q z lie))
        (λ z. sound_choices rest h.2 f o zs ws values fit els (narrowed e false spans) (narrowed_rowed shape rows e false spans h.0 b) (narrowed_lies shape values fit e false spans v h.0 q z lie))))

    sound_cases : (cs : Cases) → CasesFit shape cs → (F : Found) (o : Outcome) (zs ws : List Name) (v : ℤ) (values : Values) → HasShape shape values → IsSound zs ws values o F → (spans : Spans) → Rowed shape rows spans → Lies spans values
        → IsSound (assigned_cases cs ++ zs) (written_cases cs ++ ws) values (run_cases cs v values o) (examine_cases rows cs F spans)
    sound_cases no_case h F o zs ws v values fit els spans b lie = els
    sound_cases (a_case labels body rest) h F o zs ws v values fit els spans b lie =
        labelled_arm (assigned body) (written body) (assigned_cases rest) (written_cases rest) zs ws values (run body values) (run_cases rest v values o) (examine rows body spans) (examine_cases rows rest F spans) (labelled labels v) (sound_all body h.0 spans values b fit lie) (sound_cases rest h.1 F o zs ws v values fit els spans b lie)

-- ---- algorithms

abbrev steps_of : Found → ℕ
steps_of (Clear s n) = n
steps_of Leaves = 0
steps_of Traps = 0

-- at the end the assigned variables lie in their rows
module _ (shape : Shape) (rows : Spans) (a : Algorithm) (values : Values) (lie : Lies rows values) where
  ended : (end : Spans) (n : ℕ) (o : Outcome) → Rowed shape rows end → are_kept (assigned a) rows end ≡ true → Runs shape n end (assigned a) (written a) values o → Keeps rows shape (written a) n values o
  ended end n Trap e k g = g
  ended end n (Done last m) e k g =
      (g.steps, λ y. back shape (assigned a) rows rows end values last (λ x bounds p. refl) e (λ x i. refl) k g.lies g.still y (lie y), g.fits, g.same)

  kept_clear : (b : Bool) (s end : Spans) (n m : ℕ) → are_kept (assigned a) rows s ≡ b → Rowed shape rows s → Runs shape m s (assigned a) (written a) values (run a values) → (if b then Clear s m else Leaves) ≡ Clear end n
      → Keeps rows shape (written a) n values (run a values)
  kept_clear true s end n m k e g is = let same : m ≡ n = ap steps_of is in subst (λ c. Keeps rows shape (written a) c values (run a values)) same (ended s m (run a values) e k g)
  kept_clear false s end n m k e g is = cc

  found_clear : (F : Found) (end : Spans) (n : ℕ) → FoundRowed shape rows F → OnClear (λ t m. Runs shape m t (assigned a) (written a) values (run a values)) F → kept rows (assigned a) F ≡ Clear end n → Keeps rows shape (written a) n values (run a values)
  found_clear (Clear s m) end n e g is = kept_clear (are_kept (assigned a) rows s) s end n m refl e g is
  found_clear Leaves end n e g is = cc
  found_clear Traps end n e g is = cc

pub algorithms_keep : (rows : Spans) (shape : Shape) (a : Algorithm) (end : Spans) (n : ℕ) → AlgorithmFits shape a → examined rows a ≡ Clear end n → (values : Values) → HasShape shape values → Lies rows values → Keeps rows shape (written a) n values (run a values)
algorithms_keep rows shape a end n h is values fit lie =
    found_clear shape rows a values lie (examine rows a rows) end n (rowed_all shape rows a h rows (λ x bounds p. refl)) (sound_all shape rows a h rows values (λ x bounds p. refl) fit lie) is
