-- What a transition adds, and what it does not.
use Rattle.std.proofs.Common.{◌≡◌, ℕ, ◌+◌, List, [], ◌∷◌, ◌++◌, Option, None, Some, true, false, cond, refl, ap}
use Rattle.std.specs.Option.{is_some, option_map}
use Rattle.std.specs.Str.{bytes_eq}
use Rattle.fb_model.specs.Names.{Name}
use Rattle.fb_model.specs.System.{Block, Transition}
use Rattle.fb_model.specs.Charts.{is_open}
use Rattle.fb_model_work.specs.Spending.{Prices, in_trial}
use Rattle.fb_model_work.specs.Work.{trials}
use Rattle.fb_work_charts.specs.Charges.{Tariff, free_work, frees, crossing_work, crossings}

-- ---- transitions of a state

module _ (prices : Prices) (t : Transition) (ts : List Transition) (s : Name) (waiting : Option Name) where
  pub trials_here : bytes_eq t.source s ≡ true → trials prices (t ∷ ts) s waiting ≡ in_trial prices waiting t + trials prices ts s waiting
  trials_here h = ap (λ b. cond b (in_trial prices waiting t + trials prices ts s waiting) (trials prices ts s waiting)) h

  pub trials_past : bytes_eq t.source s ≡ false → trials prices (t ∷ ts) s waiting ≡ trials prices ts s waiting
  trials_past h = ap (λ b. cond b (in_trial prices waiting t + trials prices ts s waiting) (trials prices ts s waiting)) h

-- ---- without an event

pub none_named : {S : Type 0} (f : S → Name) (o : Option S) → is_some o ≡ false → option_map f o ≡ None
none_named f None h = refl
none_named f (Some x) h = absurd cc

pub one_named : {S : Type 0} (f : S → Name) (o : Option S) → is_some o ≡ true → is_some (option_map f o) ≡ true
one_named f None h = absurd cc
one_named f (Some x) h = refl

module _ (tariff : Tariff) (block : Block) (before : List Transition) (t : Transition) (ts : List Transition) where
  abbrev rest : List ℕ
  rest = frees tariff block (before ++ t ∷ []) ts

  abbrev if_free : Option Name → List ℕ
  if_free o = elim o [ None ↦ free_work tariff block (before ++ t ∷ []) t ∷ [] | Some x ↦ [] ]

  pub free_here : t.event ≡ None → frees tariff block before (t ∷ ts) ≡ (free_work tariff block (before ++ t ∷ []) t ∷ []) ++ rest
  free_here h = ap (λ o. if_free o ++ rest) h

  none_free : (o : Option Name) → is_some o ≡ true → if_free o ++ rest ≡ rest
  none_free None h = absurd cc
  none_free (Some x) h = refl

  pub free_past : is_some t.event ≡ true → frees tariff block before (t ∷ ts) ≡ [] ++ rest
  free_past h = none_free t.event h

-- ---- crossed by an event

module _ (tariff : Tariff) (block : Block) (e : Name) (before : List Transition) (t : Transition) (ts : List Transition) where
  abbrev others : List ℕ
  others = crossings tariff block e (before ++ t ∷ []) ts

  abbrev one : List ℕ
  one = crossing_work tariff block e (before ++ t ∷ []) t ∷ []

  pub crossing_here : is_open t.event (Some e) ≡ true → crossings tariff block e before (t ∷ ts) ≡ one ++ others
  crossing_here h = ap (λ b. cond b one [] ++ others) h

  pub crossing_past : is_open t.event (Some e) ≡ false → crossings tariff block e before (t ∷ ts) ≡ [] ++ others
  crossing_past h = ap (λ b. cond b one [] ++ others) h
