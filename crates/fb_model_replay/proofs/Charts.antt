-- A chart comes to rest in one way.
use Rattle.std.proofs.Common.{◌≡◌, ℕ, ◌+◌, List, [], ◌∷◌, ◌++◌, Some, None, ◌⊎◌, inl, inr, refl, sym, ◌∙◌, ap, subst}
use Rattle.fb_model.specs.Names.{Name}
use Rattle.fb_model.specs.Values.{Values}
use Rattle.fb_model.specs.Language.{Outcome, Done}
use Rattle.fb_model.specs.System.{Block}
use Rattle.fb_model.specs.Wires.{Charted}
use Rattle.fb_model.specs.Store.{Cells, AtState, LeafState}
use Rattle.fb_model.specs.Charts.{Choice, Cross, Stay, choice, actions_of, algorithm_of, work, emission, issue_all, Phase, Waiting, Acting, Settling, Moment, At, Moves, with_event, freely, acts, settles, Reaches, here, then, Rests, dispatched, Invoked}

-- how a moment goes on
abbrev Goes : Block → Moment → Moment → Type 0
Goes block (At s c (Waiting e) n out) d = (u : Name) × (choice block.transitions s (Some e) c.own ≡ Cross u) × (d ≡ At u c (Acting (actions_of block.states u)) (n + 1) out)
Goes block (At s c (Acting []) n out) d = d ≡ At s c Settling n out
Goes block (At s c (Acting (a ∷ left)) n out) d =
    (values : Values) × (m : ℕ) × (work (algorithm_of block a.algorithm) c.own ≡ Done values m)
    × (d ≡ At s (issue_all (Charted block) (emission a.output) (record { own = values; issued = c.issued })) (Acting left) (n + m) (out ++ emission a.output))
Goes block (At s c Settling n out) d = (u : Name) × (choice block.transitions s None c.own ≡ Cross u) × (d ≡ At u c (Acting (actions_of block.states u)) (n + 1) out)

goes : (block : Block) (c d : Moment) → Moves block c d → Goes block c d
goes block c d (with_event s u e k n out p) = (u, p, refl)
goes block c d (freely s u k n out p) = (u, p, refl)
goes block c d (acts s a left k n m out values p) = (values, m, p, refl)
goes block c d (settles s k n out) = refl

same_target : (u v : Name) (k : Choice) → k ≡ Cross u → k ≡ Cross v → u ≡ v
same_target u v k p q = (let e = sym p ∙ q in cc)

same_values : (u v : Values) (m n : ℕ) (o : Outcome) → o ≡ Done u m → o ≡ Done v n → (u ≡ v) × (m ≡ n)
same_values u v m n o p q = (let e = sym p ∙ q in (cc, cc))

-- it goes on in one way
goes_once : (block : Block) (c d e : Moment) → Goes block c d → Goes block c e → d ≡ e
goes_once block (At s c (Waiting w) n out) d e g h =
    g.2 ∙ ap (λ u. At u c (Acting (actions_of block.states u)) (n + 1) out) (same_target g.0 h.0 (choice block.transitions s (Some w) c.own) g.1 h.1) ∙ sym h.2
goes_once block (At s c (Acting []) n out) d e g h = g ∙ sym h
goes_once block (At s c (Acting (a ∷ left)) n out) d e g h =
    let same = same_values g.0 h.0 g.1 h.1 (work (algorithm_of block a.algorithm) c.own) g.2 h.2 in
    g.3
    ∙ ap (λ (values : Values). At s (issue_all (Charted block) (emission a.output) (record { own = values; issued = c.issued })) (Acting left) (n + g.1) (out ++ emission a.output)) same.0
    ∙ ap (λ (m : ℕ). At s (issue_all (Charted block) (emission a.output) (record { own = h.0; issued = c.issued })) (Acting left) (n + m) (out ++ emission a.output)) same.1
    ∙ sym h.3
goes_once block (At s c Settling n out) d e g h =
    g.2 ∙ ap (λ u. At u c (Acting (actions_of block.states u)) (n + 1) out) (same_target g.0 h.0 (choice block.transitions s None c.own) g.1 h.1) ∙ sym h.2

moves_once : (block : Block) (c d e : Moment) → Moves block c d → Moves block c e → d ≡ e
moves_once block c d e m k = goes_once block c d e (goes block c d m) (goes block c e k)

-- at rest it does not go on
abbrev AtRest : Block → Moment → Type 0
AtRest block (At s c phase n out) = Rests block s c phase

no_crossing : (u : Name) (k : Choice) → k ≡ Stay → k ≡ Cross u → ⊥
no_crossing u k p q = (let e = sym p ∙ q in cc)

goes_never : (block : Block) (c d : Moment) → AtRest block c → Goes block c d → ⊥
goes_never block (At s c (Waiting w) n out) d r g = no_crossing g.0 (choice block.transitions s (Some w) c.own) r g.1
goes_never block (At s c (Acting []) n out) d r g = r
goes_never block (At s c (Acting (a ∷ left)) n out) d r g = r
goes_never block (At s c Settling n out) d r g = no_crossing g.0 (choice block.transitions s None c.own) r g.1

stays : (block : Block) (c d : Moment) → AtRest block c → Moves block c d → ⊥
stays block c d r m = goes_never block c d r (goes block c d m)

-- ---- many small steps

-- a moment from which others are reached is the last of them, or its next one is on the way
on_the_way : (block : Block) (c d e : Moment) → Reaches block c d → Moves block c e → (d ≡ c) ⊎ Reaches block e d
on_the_way block c d e here m = inl refl
on_the_way block c d e (then x _ r k) m = elim (on_the_way block c x e r m) [
  | inl is ↦ inr (subst (λ y. Reaches block y d) (moves_once block c d e (subst (λ y. Moves block y d) is k) m) here)
  | inr q ↦ inr (then x d q k)
]

-- what rests is reached from each moment on the way
leads_to_rest : (block : Block) (c d e : Moment) → Reaches block c d → AtRest block d → Reaches block c e → Reaches block e d
leads_to_rest block c d e r rest here = r
leads_to_rest block c d e r rest (then x _ q m) = elim (on_the_way block x d e (leads_to_rest block c d x r rest q) m) [
  | inl is ↦ absurd (stays block x e (subst (AtRest block) is rest) m)
  | inr k ↦ k
]

-- nothing else is reached from what rests
reaches_itself : (block : Block) (c d : Moment) → AtRest block c → Reaches block c d → d ≡ c
reaches_itself block c d rest here = refl
reaches_itself block c d rest (then x _ r m) = absurd (stays block c d rest (subst (λ y. Moves block y d) (reaches_itself block c x rest r) m))

rests_once : (block : Block) (c d e : Moment) → Reaches block c d → AtRest block d → Reaches block c e → AtRest block e → d ≡ e
rests_once block c d e r rest q other = reaches_itself block e d other (leads_to_rest block c d e r rest q)

-- ---- a dispatch of a chart

pub record Same (after again : LeafState) (steps count : ℕ) (outs names : List Name) : Type 0 where
  pub after_is : after ≡ again
  pub steps_are : steps ≡ count
  pub outs_are : outs ≡ names

moment_parts : (s t : Name) (c d : Cells) (phase other : Phase) (n m : ℕ) (out names : List Name) → At s c phase n out ≡ At t d other m names → (s ≡ t) × (c ≡ d) × (n ≡ m) × (out ≡ names)
moment_parts s t c d phase other n m out names e = (cc, cc, cc, cc)

pub invoked_once : (block : Block) (before after again : LeafState) (event : Name) (steps count : ℕ) (outs names : List Name) → Invoked block before event after steps outs → Invoked block before event again count names → Same after again steps count outs names
invoked_once block before after again event steps count outs names x y =
    let e = rests_once block (dispatched before event) (At x.end after.cells x.phase steps outs) (At y.end again.cells y.phase count names) x.run x.rest y.run y.rest in
    let parts = moment_parts x.end y.end after.cells again.cells x.phase y.phase steps count outs names e in
    let condition = x.state ∙ ap AtState parts.0 ∙ sym y.state in
    record {
      after_is = ap (λ c. record { cells = c; condition = after.condition }) parts.1 ∙ ap (λ c. record { cells = again.cells; condition = c }) condition;
      steps_are = parts.2;
      outs_are = parts.3;
    }
