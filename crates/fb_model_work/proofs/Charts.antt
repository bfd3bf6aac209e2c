-- What a chart spends in one invocation, with what it causes, is within what its event weighs.
use Rattle.std.proofs.Common.{◌≡◌, ℕ, ◌+◌, ◌≤◌, Bool, true, false, cond, ◌&&◌, List, [], ◌∷◌, ◌++◌, Option, Some, None, refl, sym, ◌∙◌, ap, subst, arith}
use Rattle.std.specs.List.{AllByRecursion}
use Rattle.std.specs.Str.{bytes_eq}
use Rattle.std.proofs.lemmas.List.Sums.{sum_by-cons}
use Rattle.std.proofs.lemmas.Bool.{cond_both}
use Rattle.std.proofs.lemmas.Slice.Eq.{bytes_eq-Decides}
use Rattle.fb_model.specs.Names.{Name, Path, Place, at_place, is_in}
use Rattle.fb_model.specs.Values.{Values}
use Rattle.fb_model.specs.System.{Action, State, Transition, Block}
use Rattle.fb_model.specs.Wires.{Charted}
use Rattle.fb_model.specs.Store.{Cells, LeafState}
use Rattle.fb_model.specs.Charts.{actions_of, is_open, Choice, Cross, guarded, tested, choice, emission, Phase, Waiting, Acting, Settling, Moment, At}
use Rattle.fb_model.specs.Charts.{Moves, with_event, freely, acts, settles, Reaches, here, then, Rests, dispatched, Invoked}
use Rattle.fb_model.specs.Ranges.{Range, CellsLie, rows, IsClear}
use Rattle.fb_model.specs.Certificates.{names}
use Rattle.fb_model.proofs.Lists.{same_name, at_listed}
use Rattle.fb_model.proofs.Charting.{MomentLies, reaches_lies}
use Rattle.fb_model_laws.specs.Leaves.{IsClosedBlock}
use Rattle.fb_model_turns.specs.Turns.{Counts, added, caused, outputs_of}
use Rattle.fb_model_turns.proofs.Joins.{added_joins, caused-append}
use Rattle.fb_model_work.specs.Spending.{Prices, in_trial, is_held, in_choice, in_move, in_moves, in_rest, in_invocation, in_dispatch}
use Rattle.fb_model_work.specs.Work.{Site, of_action, of_actions, trials, of_crossing, of_event}
use Rattle.fb_model_work.specs.Work.{AtEach, StateWork, FreeWork, CrossingWork, InputWork, ChartWork}
use Rattle.fb_model_work.proofs.Priced.{IsPricedBlock}

-- ---- transitions that are tried

tried : (b : Bool) (n x y z : ℕ) → x ≡ y + z → cond b (n + x) x ≡ cond b (n + y) y + z
tried true n x y z h = omega (arith, h)
tried false n x y z h = h

tried_le : (b c : Bool) (n x y : ℕ) → x ≤ y → cond b (n + cond c 0 x) x ≤ cond b (n + y) y
tried_le true true n x y h = omega arith
tried_le true false n x y h = omega (arith, h)
tried_le false c n x y h = h

free_open : (o : Option Name) → is_open o None ≡ true → o ≡ None
free_open None h = refl
free_open (Some n) h = cc

module _ (prices : Prices) (s : Name) (waiting : Option Name) where
  abbrev all : List Transition → ℕ
  all ts = trials prices ts s waiting

  all-append : (xs ys : List Transition) → all (xs ++ ys) ≡ all xs + all ys
  all-append [] ys = omega arith
  all-append (t ∷ xs) ys = tried (bytes_eq t.source s) (in_trial prices waiting t) (all (xs ++ ys)) (all xs) (all ys) (all-append xs ys)

  -- no more than all of them are tried
  choice_le : (ts : List Transition) (values : Values) → in_choice prices ts s waiting values ≤ all ts
  choice_le [] values = omega arith
  choice_le (t ∷ ts) values =
      tried_le (bytes_eq t.source s) (is_open t.event waiting && is_held (tested t.guard values)) (in_trial prices waiting t)
      (in_choice prices ts s waiting values) (all ts) (choice_le ts values)

  -- none leaves a state that is not the source of any
  none_tried : (ts : List Transition) (ns : List Name) → AllByRecursion (λ (t : Transition). is_in t.source ns ≡ true) ts
      → AllByRecursion (λ (n : Name). n ≡ s → ⊥) ns → all ts ≡ 0
  none_tried [] ns h k = refl
  none_tried (t ∷ ts) ns h k =
      cond_both (bytes_eq t.source s) (in_trial prices waiting t + all ts) (all ts) (λ n. n ≡ 0)
      (λ e. absurd (at_listed (λ (n : Name). n ≡ s → ⊥) ns t.source k h.0 (same_name t.source s e)))
      (λ e. none_tried ts ns h.1 k)

  -- the transition that is crossed, with those up to it, which cost this much to try
  record Crossed (P : List Transition → Transition → Type 0) (u : Name) (n : ℕ) : Type 0 where
    upto : List Transition
    transition : Transition
    holds : P upto transition
    source : transition.source ≡ s
    is_open_now : is_open transition.event waiting ≡ true
    target : transition.target ≡ u
    cost : all upto ≡ n

  module _ (P : List Transition → Transition → Type 0) (u : Name) (values : Values) where
    abbrev spent : List Transition → ℕ
    spent ts = in_choice prices ts s waiting values

    abbrev next : List Transition → Choice
    next ts = choice ts s waiting values

    crossed : (before ts : List Transition) → AtEach P before ts → next ts ≡ Cross u → Crossed P u (all before + spent ts)
    crossed before [] h e = cc
    crossed before (t ∷ ts) h e =
        go (bytes_eq t.source s) refl (is_open t.event waiting) refl (tested t.guard values) (all-append before (t ∷ [])) (crossed (before ++ t ∷ []) ts h.1) e
      where
        go : (b : Bool) → bytes_eq t.source s ≡ b → (o : Bool) → is_open t.event waiting ≡ o → (g : Option Bool)
            → all (before ++ t ∷ []) ≡ all before + cond b (in_trial prices waiting t + 0) 0
            → (next ts ≡ Cross u → Crossed P u (all (before ++ t ∷ []) + spent ts))
            → cond (b && o) (guarded g t.target (next ts)) (next ts) ≡ Cross u
            → Crossed P u (all before + cond b (in_trial prices waiting t + cond (o && is_held g) 0 (spent ts)) (spent ts))
        go false be o oe g a ih f = subst (Crossed P u) (omega (arith, a)) (ih f)
        go true be false oe g a ih f = subst (Crossed P u) (omega (arith, a)) (ih f)
        go true be true oe (Some false) a ih f = subst (Crossed P u) (omega (arith, a)) (ih f)
        go true be true oe (Some true) a ih f =
            record {
              upto = before ++ t ∷ [];
              transition = t;
              holds = h.0;
              source = same_name t.source s be;
              is_open_now = oe;
              target = cc;
              cost = omega (arith, a);
            }
        go true be true oe None a ih f = cc

-- ---- states

other_name : (m n : Name) → bytes_eq m n ≡ false → m ≡ n → ⊥
other_name m n e same = let is : bytes_eq m n ≡ true = (bytes_eq-Decides m n).1 same in let both : true ≡ false = sym is ∙ e in cc

-- none of these names is this one
abbrev IsApart : Name → List Name → Type 0
IsApart s ns = AllByRecursion (λ (n : Name). n ≡ s → ⊥) ns

-- what is so of the name of each state, and of a name that none has, is so of any
at_state : (P : Name → Type 0) (xs : List State) (s : Name) → AllByRecursion (λ (x : State). P x.name) xs → (IsApart s (names xs) → P s) → P s
at_state P [] s h k = k tt
at_state P (x ∷ xs) s h k = go (bytes_eq x.name s) refl (at_state P xs s h.1)
  where
    go : (b : Bool) → bytes_eq x.name s ≡ b → ((IsApart s (names xs) → P s) → P s) → P s
    go true e ih = subst P (same_name x.name s e) h.0
    go false e ih = ih (λ apart. k (other_name x.name s e, apart))

module _ (prices : Prices) (counts : Counts) (ranges : List Range) (targets : Name → List Place) (path : Path) (block : Block) where
  abbrev site : Site
  site = record { prices = prices; rows = rows ranges path (Charted block); targets = targets; path = path }

  abbrev causes : List Name → ℕ
  causes outs = caused added counts targets outs

  abbrev charge : Name → ℕ
  charge s = counts.charge (at_place path s)

  -- what these actions spend, and what their outputs cause
  abbrev acting : List Action → ℕ
  acting left = of_actions site block left + causes (outputs_of left)

  -- what the transitions of a state cost to try, all of them or up to one that is crossed
  abbrev trying : Name → Option Name → ℕ
  trying s waiting = trials prices block.transitions s waiting

  abbrev choosing : Name → Option Name → Values → ℕ
  choosing s waiting values = in_choice prices block.transitions s waiting values

  acting_cons : (a : Action) (left : List Action) → acting (a ∷ left) ≡ (of_action site block a + causes (emission a.output)) + acting left
  acting_cons a left =
      let all : causes (emission a.output ++ outputs_of left) ≡ causes (emission a.output) + causes (outputs_of left) =
      caused-append added added_joins counts targets (emission a.output) (outputs_of left) in
      omega (arith, all, sum_by-cons (of_action site block) a left)

  -- the charge of a state pays for what is done there, and for trying its transitions
  abbrev Charged : List Action → Name → Type 0
  Charged actions s = acting actions + trying s None ≤ charge s

  state_le : (xs : List State) (s : Name) → (IsApart s (names xs) → trying s None ≡ 0) → AllByRecursion (StateWork site counts block) xs
      → Charged (actions_of xs s) s
  state_le [] s k h = omega (arith, k tt)
  state_le (x ∷ xs) s k h = go (bytes_eq x.name s) refl (λ none. state_le xs s none h.1)
    where
      go : (b : Bool) → bytes_eq x.name s ≡ b → ((IsApart s (names xs) → trying s None ≡ 0) → Charged (actions_of xs s) s)
          → Charged (cond b x.actions (actions_of xs s)) s
      go true e ih = subst (λ (n : Name). Charged x.actions n) (same_name x.name s e) (omega (arith, h.0))
      go false e ih = ih (λ apart. k (other_name x.name s e, apart))

  -- and, where a transition without an event is crossed, for what follows
  module _ (s u : Name) (values : Values) where
    abbrev FreelyPaid : Type 0
    FreelyPaid = ((acting (actions_of block.states s) + choosing s None values) + of_crossing prices) + charge u ≤ charge s

    free_at : (upto : List Transition) (t : Transition) → t.source ≡ s → t.target ≡ u → trials prices upto s None ≡ 0 + choosing s None values
        → t.event ≡ None → FreeWork site counts block upto t → FreelyPaid
    free_at upto t source target cost event paid =
        let at : (v : Name) → ℕ = λ v.
        ((of_actions site block (actions_of block.states v) + trials prices upto v None) + of_crossing prices)
        + (causes (outputs_of (actions_of block.states v)) + charge t.target) in
        let from : at s ≤ charge s = subst (λ (v : Name). at v ≤ charge v) source (paid event) in
        omega (arith, from, cost, ap (λ (v : Name). charge v) target)

    free_le : AtEach (FreeWork site counts block) [] block.transitions → choice block.transitions s None values ≡ Cross u → FreelyPaid
    free_le free h =
        let x = crossed prices s None (FreeWork site counts block) u values [] block.transitions free h in
        free_at x.upto x.transition x.source x.target x.cost (free_open x.transition.event x.is_open_now) x.holds

  -- ---- moments

  module _ (event : Name) where
    abbrev begun : ℕ
    begun = of_event site counts block event

    abbrev weight : ℕ
    weight = counts.weight (at_place path event)

    -- the weight of an event pays for the first crossing, and for what follows
    module _ (s u : Name) (values : Values) where
      abbrev FirstPaid : Type 0
      FirstPaid = ((begun + choosing s (Some event) values) + of_crossing prices) + charge u ≤ weight

      crossing_at : (upto : List Transition) (t : Transition) → t.source ≡ s → t.target ≡ u → trials prices upto s (Some event) ≡ 0 + choosing s (Some event) values
          → is_open t.event (Some event) ≡ true → CrossingWork site counts block event upto t → FirstPaid
      crossing_at upto t source target cost is_open_now paid =
          omega (arith, paid is_open_now, cost, ap (λ (v : Name). trials prices upto v (Some event)) source, ap (λ (v : Name). charge v) target)

      crossing_le : AtEach (CrossingWork site counts block event) [] block.transitions → choice block.transitions s (Some event) values ≡ Cross u → FirstPaid
      crossing_le crossings h =
          let x = crossed prices s (Some event) (CrossingWork site counts block event) u values [] block.transitions crossings h in
          crossing_at x.upto x.transition x.source x.target x.cost x.is_open_now x.holds

    -- what a chart has spent at a moment, with its dispatch, what it has caused, and what it may still spend
    abbrev Within : ℕ → Moment → Type 0
    Within spent (At s c (Waiting e) n out) = (spent ≡ 0) × (out ≡ []) × (e ≡ event)
    Within spent (At s c (Acting left) n out) = (((begun + spent) + causes out) + acting left) + charge s ≤ weight + acting (actions_of block.states s)
    Within spent (At s c Settling n out) = ((begun + spent) + causes out) + charge s ≤ weight + acting (actions_of block.states s)

    module _ (fits : ChartWork site counts block) (closed : IsClosedBlock block) (clear : IsClear ranges path block)
        (priced : IsPricedBlock prices ranges path block) (listed : InputWork site counts block event) where
      stays_within : (c d : Moment) (move : Moves block c d) (spent : ℕ) → MomentLies ranges path block c → Within spent c
          → Within (spent + in_move prices targets block c d move) d
      stays_within c d (with_event s u e k n out h) spent l (none, out_is, e_is) =
          let paid = crossing_le s u k.own listed.crossings (subst (λ (v : Name). choice block.transitions s (Some v) k.own ≡ Cross u) e_is h) in
          omega (arith, paid, ap (λ (v : Name). choosing s (Some v) k.own) e_is, ap causes out_is, none)
      stays_within c d (freely s u k n out h) spent l w = omega (arith, w, free_le s u k.own fits.free h)
      stays_within c d (acts s a left k n m out values h) spent l w =
          let emits : causes (out ++ emission a.output) ≡ causes out + causes (emission a.output) =
          caused-append added added_joins counts targets out (emission a.output) in
          omega (arith, w, priced a.algorithm k.own l.own, acting_cons a left, emits)
      stays_within c d (settles s k n out) spent l w = omega (arith, w)

      within_all : (c d : Moment) (run : Reaches block c d) → MomentLies ranges path block c → Within 0 c → Within (in_moves prices targets block c d run) d
      within_all c d here l w = w
      within_all c d (then m e r move) l w =
          stays_within m d move (in_moves prices targets block c m r) (reaches_lies ranges path block clear c m r l) (within_all c m r l w)

      rests_within : (phase : Phase) (s : Name) (c : Cells) (n : ℕ) (out : List Name) (spent : ℕ) → Rests block s c phase → Within spent (At s c phase n out)
          → in_dispatch prices (Charted block) event + (spent + in_rest prices block s c phase) + causes out ≤ weight
      rests_within (Waiting e) s c n out spent r (none, out_is, e_is) =
          let paid = at_state (λ (v : Name). begun + trying v (Some event) ≤ weight) block.states s listed.rests
          (λ apart. omega (arith, listed.least, none_tried prices s (Some event) block.transitions (names block.states) closed.sources apart)) in
          let least = choice_le prices s (Some event) block.transitions c.own in
          omega (arith, paid, least, ap (λ (v : Name). choosing s (Some v) c.own) e_is, ap causes out_is, none)
      rests_within (Acting left) s c n out spent r w = absurd r
      rests_within Settling s c n out spent r w =
          let paid = state_le block.states s (none_tried prices s None block.transitions (names block.states) closed.sources) fits.states in
          omega (arith, w, paid, choice_le prices s None block.transitions c.own)

      pub invoked_le : (before after : LeafState) (steps : ℕ) (outs : List Name) (i : Invoked block before event after steps outs)
          → CellsLie ranges path (Charted block) before.cells
          → in_dispatch prices (Charted block) event + in_invocation prices targets block before event after steps outs i + caused added counts targets outs
          ≤ counts.weight (at_place path event)
      invoked_le before after steps outs i l =
          let start : Moment = dispatched before event in
          let end : Moment = At i.end after.cells i.phase steps outs in
          rests_within i.phase i.end after.cells steps outs (in_moves prices targets block start end i.run) i.rest (within_all start end i.run l (refl, refl, refl))
