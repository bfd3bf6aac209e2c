-- A dispatch of a resource ends in one way.
use Rattle.std.proofs.Common.{cond, ◌≡◌, ℕ, ◌+◌, ℤ, List, ◌∷◌, ◌++◌, Option, None, Some, sym, ◌∙◌, ap, subst}
use Rattle.fb_model.specs.Names.{Name, Place}
use Rattle.fb_model.specs.System.{Device}
use Rattle.fb_model.specs.Wires.{Kind, Charted, Serviced, Leaf, leaf_at, leaves}
use Rattle.fb_model.specs.Store.{Store, LeafState, sampled, with_leaf}
use Rattle.fb_model.specs.Serving.{Effect, Serves}
use Rattle.fb_model.specs.Certificates.{Certificate, reached}
use Rattle.fb_model.specs.Devices.{Entry, Machine, put, steps_row, is_pending, Ended, Ran, follow_ups, Runs}
use Rattle.fb_model_replay.proofs.Charts.{invoked_once}
use Rattle.fb_model_replay.proofs.Admitting.{same_some}

-- what two dispatches of a leaf end in
record IsServed (after again : LeafState) (steps count : ℕ) (outs names : List Name) (effect other : Option Effect) : Type 0 where
  after_is : after ≡ again
  steps_are : steps ≡ count
  outs_are : outs ≡ names
  effect_is : effect ≡ other

serves_once : (kind : Kind) (clock : ℕ) (e : Name) (values : List ℤ) (before after again : LeafState) (steps count : ℕ) (outs names : List Name) (effect other : Option Effect)
    → Serves kind clock e values before after steps outs effect → Serves kind clock e values before again count names other → IsServed after again steps count outs names effect other
serves_once (Charted block) clock e values before after again steps count outs names effect other x y =
    let same = invoked_once block before after again e steps count outs names x.0 y.0 in
    record { after_is = same.after_is; steps_are = same.steps_are; outs_are = same.outs_are; effect_is = x.1 ∙ sym y.1 }
serves_once (Serviced service) clock e values before after again steps count outs names effect other x y =
    record {
      after_is = x.after_is ∙ sym y.after_is;
      steps_are = x.steps_are ∙ sym y.steps_are;
      outs_are = x.outs_are ∙ sym y.outs_are;
      effect_is = x.effect_is ∙ sym y.effect_is;
    }

machine_is : (m n : Machine) → m.queues ≡ n.queues → m.store ≡ n.store → m.spent ≡ n.spent → m.clock ≡ n.clock → m.next ≡ n.next → m ≡ n
machine_is m n queues store spent clock next =
    ap (λ v. record { queues = v; store = m.store; spent = m.spent; clock = m.clock; next = m.next }) queues
    ∙ ap (λ v. record { queues = n.queues; store = v; spent = m.spent; clock = m.clock; next = m.next }) store
    ∙ ap (λ v. record { queues = n.queues; store = n.store; spent = v; clock = m.clock; next = m.next }) spent
    ∙ ap (λ v. record { queues = n.queues; store = n.store; spent = n.spent; clock = v; next = m.next }) clock
    ∙ ap (λ v. record { queues = n.queues; store = n.store; spent = n.spent; clock = n.clock; next = v }) next

same_head : {A : Type 0} (x y : A) (xs ys zs : List A) → zs ≡ x ∷ xs → zs ≡ y ∷ ys → (x ≡ y) × (xs ≡ ys)
same_head x y xs ys zs p q = (let e = sym p ∙ q in (cc, cc))

-- ---- what a dispatch makes of equal parts

module _ (cert : Certificate) (old : Machine) (q : ℕ) where
  abbrev queues_by : Entry → List Entry → Leaf → List Name → ℕ → List Entry
  queues_by first rest leaf outs = put old.queues q (rest ++ follow_ups first (reached leaf.targets outs))

  same_queues : (f g : Entry) (r s : List Entry) (l k : Leaf) (o p : List Name) → f ≡ g → r ≡ s → l ≡ k → o ≡ p → queues_by f r l o ≡ queues_by g s k p
  same_queues f g r s l k o p first rest leaf outs =
      ap (λ e. queues_by e r l o) first ∙ ap (λ es. queues_by g es l o) rest ∙ ap (λ x. queues_by g s x o) leaf ∙ ap (λ ns. queues_by g s k ns) outs

  abbrev spent_by : ℕ → ℕ → (ℕ → List Entry) → ℕ → ℕ
  spent_by cause steps queues = put old.spent cause (cond (is_pending cause (queues q)) (old.spent cause + steps) 0)

  same_spent : (c d m n : ℕ) (qs rs : ℕ → List Entry) → c ≡ d → m ≡ n → qs ≡ rs → spent_by c m qs ≡ spent_by d n rs
  same_spent c d m n qs rs cause steps queues = ap (λ k. spent_by k m qs) cause ∙ ap (λ k. spent_by d k qs) steps ∙ ap (spent_by d n) queues

  abbrev ended_by : ℕ → ℕ → (ℕ → List Entry) → Entry → Option Ended
  ended_by cause steps queues first = cond (is_pending cause (queues q)) None (Some (record { cause = cause; total = old.spent cause + steps; bound = steps_row cert first.opening }))

  same_ended : (c d m n : ℕ) (qs rs : ℕ → List Entry) (f g : Entry) → c ≡ d → m ≡ n → qs ≡ rs → f ≡ g → ended_by c m qs f ≡ ended_by d n rs g
  same_ended c d m n qs rs f g cause steps queues first =
      ap (λ k. ended_by k m qs f) cause ∙ ap (λ k. ended_by d k qs f) steps ∙ ap (λ us. ended_by d n us f) queues ∙ ap (ended_by d n rs) first

same_store : (store : Store) (l k : Leaf) (s t : LeafState) → l ≡ k → s ≡ t → with_leaf store l.path s ≡ with_leaf store k.path t
same_store store l k s t leaf after = ap (λ (x : Leaf). with_leaf store x.path s) leaf ∙ ap (with_leaf store k.path) after

same_answer : (c d m n : ℕ) (p r : Place) (e f : Option Effect) (x y : Option Ended) → c ≡ d → p ≡ r → m ≡ n → e ≡ f → x ≡ y → Ran c p m e x ≡ Ran d r n f y
same_answer c d m n p r e f x y cause place steps effect ended =
    ap (λ k. Ran k p m e x) cause ∙ ap (λ k. Ran d k m e x) place ∙ ap (λ k. Ran d r k e x) steps ∙ ap (λ k. Ran d r n k x) effect ∙ ap (Ran d r n f) ended

module _ (cert : Certificate) (device : Device) (old : Machine) where
  -- the leaf that is served, and what it does
  served_once : (clock : ℕ) (f g : Entry) (l k : Leaf) (after again : LeafState) (steps more : ℕ) (outs names : List Name) (effect other : Option Effect) → f ≡ g → l ≡ k
      → Serves l.kind clock f.place.event f.values (sampled old.store l f.place.event) after steps outs effect → Serves k.kind clock g.place.event g.values (sampled old.store k g.place.event) again more names other
      → IsServed after again steps more outs names effect other
  served_once clock f g l k after again steps more outs names effect other first leaf x y =
      let s = subst (λ (e : Entry). Serves l.kind clock e.place.event e.values (sampled old.store l e.place.event) after steps outs effect) first x in
      let t = subst (λ (m : Leaf). Serves m.kind clock g.place.event g.values (sampled old.store m g.place.event) after steps outs effect) leaf s in
      serves_once k.kind clock g.place.event g.values (sampled old.store k g.place.event) after again steps more outs names effect other t y

  same_leaf : (f g : Entry) (l k : Leaf) → f ≡ g → leaf_at (leaves device) f.place.path ≡ Some l → leaf_at (leaves device) g.place.path ≡ Some k → l ≡ k
  same_leaf f g l k first x y = same_some l k (leaf_at (leaves device) g.place.path) (subst (λ (e : Entry). leaf_at (leaves device) e.place.path ≡ Some l) first x) y

  pub runs_once : (q cause count : ℕ) (place here : Place) (steps more : ℕ) (effect other : Option Effect) (ended closed : Option Ended) (new again : Machine)
      → Runs cert device old q cause place steps effect ended new → Runs cert device old q count here more other closed again → (Ran cause place steps effect ended ≡ Ran count here more other closed) × (new ≡ again)
  runs_once q cause count place here steps more effect other ended closed new again x y =
      let both = same_head x.first y.first x.rest y.rest (old.queues q) x.was y.was in
      let first : x.first ≡ y.first = both.0 in
      let leaf : x.leaf ≡ y.leaf = same_leaf x.first y.first x.leaf y.leaf first x.found y.found in
      let ends : IsServed x.after y.after steps more x.outs y.outs effect other =
      served_once old.clock x.first y.first x.leaf y.leaf x.after y.after steps more x.outs y.outs effect other first leaf x.served y.served in
      let cause_is : cause ≡ count = x.cause_is ∙ ap (λ (f : Entry). f.cause) first ∙ sym y.cause_is in
      let place_is : place ≡ here = x.place_is ∙ ap (λ (f : Entry). f.place) first ∙ sym y.place_is in
      let queues : new.queues ≡ again.queues = x.queues ∙ same_queues cert old q x.first y.first x.rest y.rest x.leaf y.leaf x.outs y.outs first both.1 leaf ends.outs_are ∙ sym y.queues in
      let store : new.store ≡ again.store = x.store ∙ same_store old.store x.leaf y.leaf x.after y.after leaf ends.after_is ∙ sym y.store in
      let spent : new.spent ≡ again.spent = x.spent ∙ same_spent cert old q cause count steps more new.queues again.queues cause_is ends.steps_are queues ∙ sym y.spent in
      let ended_is : ended ≡ closed = x.ended_is ∙ same_ended cert old q cause count steps more new.queues again.queues x.first y.first cause_is ends.steps_are queues first ∙ sym y.ended_is in (
        same_answer cause count steps more place here effect other ended closed cause_is place_is ends.steps_are ends.effect_is ended_is,
        machine_is new again queues store spent (x.clock ∙ sym y.clock) (x.next ∙ sym y.next),
      )
