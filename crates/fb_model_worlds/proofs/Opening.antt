-- A root that opens may cost the FAR of its opening, and no more.
use Rattle.std.proofs.Common.{Bool, true, false, ◌-◌, ◌≡◌, ℕ, zero, suc, ◌+◌, ◌≤◌, ◌<◌, cond, eqb, ℤ, List, [], ◌∷◌, ◌++◌, Some, length, refl, sym, ◌∙◌, ap, subst, arith, inl, inr}
use Rattle.std.specs.Prelude.{slice_get, nat_lt, ◌&&◌, ◌⊎◌}
use Rattle.std.specs.List.{AllByRecursion}
use Rattle.std.proofs.lemmas.Bool.{eq-eqb, ne_eqb, lt-ltb, le-ltb}
use Rattle.std.proofs.lemmas.List.Sums.{sum_by-cons}
use Rattle.fb_model.specs.Names.{Place}
use Rattle.fb_model.specs.System.{System, Device}
use Rattle.fb_model.specs.Wires.{Leaf, leaves}
use Rattle.fb_model.specs.Store.{with_leaf, Fired}
use Rattle.fb_model.specs.Certificates.{Certificate, far_of, is_restart}
use Rattle.fb_model.specs.Devices.{Entry, Machine, Arrival, place_of, admitted, arriving, Offers, Tries, expiring, expired, at_moment, due_timers, beginning, begun, silent, first_stamp, at_first}
use Rattle.fb_model.specs.Headline.{IsOpen, IsKnown, IsSound}
use Rattle.fb_model.specs.World.{OpensCauses, roots_from, Datagram, World, over_devices, still_allowed, far_datagrams, far_entries, far_queues, far_devices, far_left, machine_at, roots_before, IsFirst}
use Rattle.fb_model.proofs.Lists.{all_weaker}
use Rattle.fb_model.proofs.Bounding.{extends_admitted}
use Rattle.fb_model.proofs.Far.{far-append, far-cons, far-none, queues_rise, over_rises}

-- ---- arrivals that are admitted, one after another

-- what the arrivals of a root weigh, whose causes are numbered from one number on
abbrev pub arrived : Certificate → (ℕ → ℕ) → ℕ → ℕ → List Place → ℕ
arrived cert of root c [] = 0
arrived cert of root c (p ∷ ps) = cond (eqb (of c) root) ((far_of cert).weight p) 0 + arrived cert of root (c + 1) ps

-- arrivals at these places were admitted, each as the next cause
pub record Admits (cert : Certificate) (old new : Machine) (ps : List Place) : Type 0 where
  pub next : new.next ≡ old.next + length ps
  pub far : (of : ℕ → ℕ) (root n : ℕ) → far_queues cert of root new n ≤ far_queues cert of root old n + arrived cert of root old.next ps
  pub there : (k : ℕ) (p : Place) → slice_get ps k ≡ Some p → (q : ℕ) × IsOpen (new.queues q) (old.next + k) p
  pub grows : (q : ℕ) → (es : List Entry) × (new.queues q ≡ old.queues q ++ es)

queues_same : (cert : Certificate) (of : ℕ → ℕ) (root : ℕ) (old new : Machine) → new.queues ≡ old.queues → (n : ℕ) → far_queues cert of root new n ≡ far_queues cert of root old n
queues_same cert of root old new e zero = refl
queues_same cert of root old new e (suc n) = omega (arith, ap (λ f. far_entries cert of root (f n)) e, queues_same cert of root old new e n)

append_nothing : (es : List Entry) → es ≡ es ++ []
append_nothing [] = refl
append_nothing (e ∷ es) = ap (λ xs. e ∷ xs) (append_nothing es)

append_again : (xs ys zs : List Entry) → (xs ++ ys) ++ zs ≡ xs ++ (ys ++ zs)
append_again [] ys zs = refl
append_again (x ∷ xs) ys zs = ap (λ es. x ∷ es) (append_again xs ys zs)

-- none
pub admits_none : (cert : Certificate) (old new : Machine) → new.queues ≡ old.queues → new.next ≡ old.next → Admits cert old new []
admits_none cert old new e n =
    record {
      next = omega (arith, n);
      far = λ of root k. omega (arith, queues_same cert of root old new e k);
      there = λ k p h. cc;
      grows = λ q. ([], ap (λ f. f q) e ∙ append_nothing (old.queues q));
    }

open_left : (xs ys : List Entry) (c : ℕ) (p : Place) → IsOpen xs c p → IsOpen (xs ++ ys) c p
open_left [] ys c p h = absurd h
open_left (x ∷ xs) ys c p (inl h) = inl h
open_left (x ∷ xs) ys c p (inr h) = inr (open_left xs ys c p h)

open_right : (xs ys : List Entry) (c : ℕ) (p : Place) → IsOpen ys c p → IsOpen (xs ++ ys) c p
open_right [] ys c p h = h
open_right (x ∷ xs) ys c p h = inr (open_right xs ys c p h)

one_more : (cert : Certificate) (of : ℕ → ℕ) (root : ℕ) (m : Machine) (a : Arrival) (n : ℕ) → far_queues cert of root (admitted m a) n ≤ far_queues cert of root m n + cond (eqb (of m.next) root) ((far_of cert).weight (place_of a)) 0
one_more cert of root m a n =
    queues_rise cert of of root m (admitted m a) a.leaf.home n (cond (eqb (of m.next) root) ((far_of cert).weight (place_of a)) 0)
    (let here_is : (admitted m a).queues a.leaf.home ≡ m.queues a.leaf.home ++ record { cause = m.next; opening = place_of a; place = place_of a; values = a.values } ∷ [] =
    ap (λ t. cond t (m.queues a.leaf.home ++ record { cause = m.next; opening = place_of a; place = place_of a; values = a.values } ∷ []) (m.queues a.leaf.home)) (eq-eqb a.leaf.home a.leaf.home refl) in
    omega (arith, ap (far_entries cert of root) here_is, far-append cert of root (m.queues a.leaf.home) (record { cause = m.next; opening = place_of a; place = place_of a; values = a.values } ∷ []), far-cons cert of root (record { cause = m.next; opening = place_of a; place = place_of a; values = a.values }) []))
    (λ j ne.
    let there_is : (admitted m a).queues j ≡ m.queues j = ap (λ t. cond t (m.queues a.leaf.home ++ record { cause = m.next; opening = place_of a; place = place_of a; values = a.values } ∷ []) (m.queues j)) (ne_eqb a.leaf.home j ne) in
    omega (arith, ap (far_entries cert of root) there_is))

-- one more, before others
pub admits_more : (cert : Certificate) (m : Machine) (a : Arrival) (new : Machine) (ps : List Place) → Admits cert (admitted m a) new ps → Admits cert m new (place_of a ∷ ps)
admits_more cert m a new ps h =
    record {
      next = omega (arith, h.next);
      far = λ of root n. omega (arith, h.far of root n, one_more cert of root m a n);
      there = there;
      grows = λ q. let g = (extends_admitted m a).grows q in let k = h.grows q in (g.0 ++ k.0, k.1 ∙ ap (λ es. es ++ k.0) g.1 ∙ append_again (m.queues q) g.0 k.0);
    }
  where
    entry : Entry
    entry = record { cause = m.next; opening = place_of a; place = place_of a; values = a.values }

    here : IsOpen ((admitted m a).queues a.leaf.home) m.next (place_of a)
    here =
        subst (λ es. IsOpen es m.next (place_of a)) (sym (ap (λ t. cond t (m.queues a.leaf.home ++ entry ∷ []) (m.queues a.leaf.home)) (eq-eqb a.leaf.home a.leaf.home refl)))
        (open_right (m.queues a.leaf.home) (entry ∷ []) m.next (place_of a) (inl (refl, refl)))

    there : (k : ℕ) (p : Place) → slice_get (place_of a ∷ ps) k ≡ Some p → (q : ℕ) × IsOpen (new.queues q) (m.next + k) p
    there zero p e =
        let is : place_of a ≡ p = cc in
        let g = h.grows a.leaf.home in
        (a.leaf.home, subst (λ c. IsOpen (new.queues a.leaf.home) c p) (omega arith) (subst (λ x. IsOpen (new.queues a.leaf.home) m.next x) is (subst (λ es. IsOpen es m.next (place_of a)) (sym g.1) (open_left ((admitted m a).queues a.leaf.home) g.0 m.next (place_of a) here))))
    there (suc k) p e = let r = h.there k p e in (r.0, subst (λ c. IsOpen (new.queues r.0) c p) (omega arith) r.1)

-- as from another machine with the same queues
admits_from : (cert : Certificate) (old mid new : Machine) (ps : List Place) → mid.queues ≡ old.queues → mid.next ≡ old.next → Admits cert mid new ps → Admits cert old new ps
admits_from cert old mid new ps e n h =
    record {
      next = omega (arith, h.next, n);
      far = λ of root k. omega (arith, h.far of root k, queues_same cert of root old mid e k, ap (λ c. arrived cert of root c ps) n);
      there = λ k p i. let r = h.there k p i in (r.0, subst (λ c. IsOpen (new.queues r.0) c p) (ap (λ c. c + k) n) r.1);
      grows = λ q. let g = h.grows q in (g.0, g.1 ∙ ap (λ f. f q ++ g.0) e);
    }

-- an offer admits one
pub admits_offer : (cert : Certificate) (device : Device) (old : Machine) (input : ℕ) (values : List ℤ) (cause : ℕ) (new : Machine) → Offers cert device old input values cause new → (ps : List Place) × Admits cert old new ps
admits_offer cert device old input values cause new h =
    (place_of (arriving h.leaf values) ∷ [], admits_more cert old (arriving h.leaf values) new [] (admits_none cert (admitted old (arriving h.leaf values)) new (ap (λ m. m.queues) h.new_is) (ap (λ m. m.next) h.new_is)))

-- and a tick those of the timers that fire
pub admits_tries : (cert : Certificate) (device : Device) (ls : List Leaf) (old : Machine) (count : ℕ) (new : Machine) → Tries cert device ls old count new → (ps : List Place) × Admits cert old new ps
admits_tries cert device [] old count new t = ([], admits_none cert old new (ap (λ m. m.queues) t.1) (ap (λ m. m.next) t.1))
admits_tries cert device (leaf ∷ rest) old count new t =
    elim t [
      | inl k ↦ (
          let fired : Machine = record { queues = old.queues; store = with_leaf old.store leaf.path (record { cells = (old.store leaf.path).cells; condition = Fired }); spent = old.spent; clock = old.clock; next = old.next } in
          let more = admits_tries cert device rest (expired old leaf) k.0 new k.3 in
          (place_of (expiring leaf) ∷ more.0, admits_from cert old fired new (place_of (expiring leaf) ∷ more.0) refl refl (admits_more cert fired (expiring leaf) new more.0 more.1))
          )
      | inr k ↦ admits_tries cert device rest old count new k.1
    ]

pub admits_tick : (cert : Certificate) (device : Device) (old : Machine) (now count : ℕ) (new : Machine) → Tries cert device (due_timers old.store (at_moment old now).clock (leaves device)) (at_moment old now) count new → (ps : List Place) × Admits cert old new ps
admits_tick cert device old now count new t =
    let a = admits_tries cert device (due_timers old.store (at_moment old now).clock (leaves device)) (at_moment old now) count new t in
    (a.0, admits_from cert old (at_moment old now) new a.0 refl refl a.1)

-- ---- each root is that of one arrival

none_arrived : (cert : Certificate) (of : ℕ → ℕ) (root c r : ℕ) (ps : List Place) → root < r → ((j : ℕ) → j < length ps → of (c + j) ≡ r + j) → arrived cert of root c ps ≡ 0
none_arrived cert of root c r [] l h = refl
none_arrived cert of root c r (p ∷ ps) l h =
    let here : of c ≡ r = subst (λ i. of i ≡ r + 0) (let e : c + 0 ≡ c = omega arith in e) (h 0 (omega arith)) ∙ (let e : r + 0 ≡ r = omega arith in e) in
    let no : cond (eqb (of c) root) ((far_of cert).weight p) 0 ≡ 0 = ap (λ t. cond t ((far_of cert).weight p) 0) (ne_eqb (of c) root (λ e. omega (arith, e, here, l))) in
    omega (arith, no, none_arrived cert of root (c + 1) (r + 1) ps (omega (arith, l)) (λ j b. subst (λ i. of i ≡ (r + 1) + j) (let e : c + suc j ≡ (c + 1) + j = omega arith in e) (h (suc j) (omega (arith, b)) ∙ (let e : r + suc j ≡ (r + 1) + j = omega arith in e))))

one_arrived : (cert : Certificate) (of : ℕ → ℕ) (c r k : ℕ) (ps : List Place) (p : Place) → slice_get ps k ≡ Some p → ((j : ℕ) → j < length ps → of (c + j) ≡ r + j) → arrived cert of (r + k) c ps ≡ (far_of cert).weight p
one_arrived cert of c r k [] p i h = cc
one_arrived cert of c r zero (x ∷ ps) p i h =
    let is : x ≡ p = cc in
    let here : of c ≡ r = subst (λ i. of i ≡ r + 0) (let e : c + 0 ≡ c = omega arith in e) (h 0 (omega arith)) ∙ (let e : r + 0 ≡ r = omega arith in e) in
    let yes : cond (eqb (of c) (r + 0)) ((far_of cert).weight x) 0 ≡ (far_of cert).weight x = ap (λ t. cond t ((far_of cert).weight x) 0) (eq-eqb (of c) (r + 0) (omega (arith, here))) in
    omega (arith, yes, ap (far_of cert).weight is, none_arrived cert of (r + 0) (c + 1) (r + 1) ps (omega arith) (λ j b. subst (λ i. of i ≡ (r + 1) + j) (let e : c + suc j ≡ (c + 1) + j = omega arith in e) (h (suc j) (omega (arith, b)) ∙ (let e : r + suc j ≡ (r + 1) + j = omega arith in e))))
one_arrived cert of c r (suc k) (x ∷ ps) p i h =
    let here : of c ≡ r = subst (λ i. of i ≡ r + 0) (let e : c + 0 ≡ c = omega arith in e) (h 0 (omega arith)) ∙ (let e : r + 0 ≡ r = omega arith in e) in
    let no : cond (eqb (of c) (r + suc k)) ((far_of cert).weight x) 0 ≡ 0 = ap (λ t. cond t ((far_of cert).weight x) 0) (ne_eqb (of c) (r + suc k) (λ e. omega (arith, e, here))) in
    let later = one_arrived cert of (c + 1) (r + 1) k ps p i (λ j b. subst (λ i. of i ≡ (r + 1) + j) (let e : c + suc j ≡ (c + 1) + j = omega arith in e) (h (suc j) (omega (arith, b)) ∙ (let e : r + suc j ≡ (r + 1) + j = omega arith in e))) in
    let same : arrived cert of (r + suc k) (c + 1) ps ≡ arrived cert of ((r + 1) + k) (c + 1) ps = ap (λ n. arrived cert of n (c + 1) ps) (let e : r + suc k ≡ (r + 1) + k = omega arith in e) in
    omega (arith, no, later, same)

open_is : (P : ℕ → Place → Type 0) (es : List Entry) (c : ℕ) (p : Place) → AllByRecursion (λ e. P e.cause e.opening) es → IsOpen es c p → P c p
open_is P [] c p h i = absurd i
open_is P (e ∷ es) c p h (inl i) = subst (λ x. P c x) i.1 (subst (λ x. P x e.opening) i.0 h.0)
open_is P (e ∷ es) c p h (inr i) = open_is P es c p h.1 i

got : (ps : List Place) (k : ℕ) → k < length ps → (p : Place) × (slice_get ps k ≡ Some p)
got [] k l = absurd (omega (arith, l))
got (p ∷ ps) zero l = (p, refl)
got (p ∷ ps) (suc k) l = got ps k (omega (arith, l))

over_nothing : (ds : List Device) (d : ℕ) → over_devices (λ x j. 0) ds d ≡ 0
over_nothing [] d = refl
over_nothing (x ∷ xs) d = omega (arith, over_nothing xs (d + 1))

queues_none : (cert : Certificate) (of : ℕ → ℕ) (root : ℕ) (m : Machine) → ((q : ℕ) → AllByRecursion (λ e. of e.cause ≡ root → ⊥) (m.queues q)) → (n : ℕ) → far_queues cert of root m n ≡ 0
queues_none cert of root m h zero = refl
queues_none cert of root m h (suc n) = omega (arith, far-none cert of root (m.queues n) (h n), queues_none cert of root m h n)

datagrams_none : (cert : Certificate) (repeats : ℕ) (devices : List Device) (root next : ℕ) (gs : List Datagram) → next ≤ root → AllByRecursion (λ g. g.root < next) gs → far_datagrams cert repeats devices root gs ≡ 0
datagrams_none cert repeats devices root next [] l h = refl
datagrams_none cert repeats devices root next (g ∷ gs) l h =
    omega (
      arith,
      sum_by-cons (λ (g : Datagram). cond (eqb g.root root) (still_allowed cert repeats g devices 0) 0) g gs,
      ap (λ t. cond t (still_allowed cert repeats g devices 0) 0) (ne_eqb g.root root (λ e. omega (arith, e, h.0, l))),
      datagrams_none cert repeats devices root next gs l h.1,
    )

-- a root that an event opens has no steps, and may cost what its opening costs
module _ (system : System) (cert : Certificate) (repeats : ℕ) (old new : World) (d : ℕ) (device : Device) (at : slice_get system.devices d ≡ Some device) (sound : IsSound cert device (old.machines d)) (machine : Machine) (ps : List Place)
    (a : Admits cert (old.machines d) machine ps) (b : OpensCauses old new d machine) (rooted : (j q : ℕ) → AllByRecursion (λ e. old.root_of j e.cause < old.next) ((old.machines j).queues q)) (grams : AllByRecursion (λ g. g.root < old.next) old.datagrams) where
  abbrev of_new : ℕ → ℕ
  of_new = roots_from (old.root_of d) (old.machines d).next machine.next old.next

  newer : (j : ℕ) → j < length ps → of_new ((old.machines d).next + j) ≡ old.next + j
  newer j l =
      let c : ℕ = (old.machines d).next + j in
      let p : of_new ((old.machines d).next + j) ≡ cond (nat_lt ((old.machines d).next + j) machine.next) (old.next + (((old.machines d).next + j) - (old.machines d).next)) (old.root_of d ((old.machines d).next + j)) =
      ap (λ t. cond t (old.root_of d ((old.machines d).next + j)) (cond (nat_lt ((old.machines d).next + j) machine.next) (old.next + (((old.machines d).next + j) - (old.machines d).next)) (old.root_of d ((old.machines d).next + j)))) (le-ltb ((old.machines d).next + j) (old.machines d).next (omega arith)) in
      let q : cond (nat_lt ((old.machines d).next + j) machine.next) (old.next + (((old.machines d).next + j) - (old.machines d).next)) (old.root_of d ((old.machines d).next + j)) ≡ old.next + (((old.machines d).next + j) - (old.machines d).next) =
      ap (λ t. cond t (old.next + (((old.machines d).next + j) - (old.machines d).next)) (old.root_of d ((old.machines d).next + j))) (lt-ltb ((old.machines d).next + j) machine.next (omega (arith, l, a.next))) in
      omega (arith, p, q)

  none_before : (root q : ℕ) → old.next ≤ root → AllByRecursion (λ e. of_new e.cause ≡ root → ⊥) ((old.machines d).queues q)
  none_before root q l = go ((old.machines d).queues q) (rooted d q) (sound.entries q)
    where
      go : (es : List Entry) → AllByRecursion (λ e. old.root_of d e.cause < old.next) es → AllByRecursion (IsKnown device sound.opening_of sound.home_of (old.machines d).next q) es → AllByRecursion (λ e. of_new e.cause ≡ root → ⊥) es
      go [] h k = tt
      go (e ∷ es) h k =
          let same : of_new e.cause ≡ old.root_of d e.cause = ap (λ t. cond t (old.root_of d e.cause) (cond (nat_lt e.cause machine.next) (old.next + (e.cause - (old.machines d).next)) (old.root_of d e.cause))) (lt-ltb e.cause (old.machines d).next k.0.cause) in
          ((λ i. omega (arith, i, same, h.0, l)), go es h.1 k.1)

  pub opening_begins : (k : ℕ) → k < length ps → ((new.roots (old.next + k)).steps ≡ 0) × (far_left system cert repeats new (old.next + k) ≤ (far_of cert).weight (new.roots (old.next + k)).opening)
  opening_begins k l =
      let root : ℕ = old.next + k in
      let (p, is) = got ps k l in
      let machine_is : new.machines d ≡ machine = ap (λ f. f d) b.machines ∙ ap (λ t. cond t machine (old.machines d)) (eq-eqb d d refl) in
      let of_is : new.root_of d ≡ of_new = ap (λ f. f d) b.root_of ∙ ap (λ t. cond t (roots_from (old.root_of d) (old.machines d).next machine.next old.next) (old.root_of d)) (eq-eqb d d refl) in
      let it = a.there k p is in
      let root_is : new.root_of d ((old.machines d).next + k) ≡ old.next + k = ap (λ f. f ((old.machines d).next + k)) of_is ∙ newer k l in
      let opened : new.roots (new.root_of d ((old.machines d).next + k)) ≡ record { opening = p; steps = 0 } =
      open_is (λ c o. (old.machines d).next ≤ c → (new.roots (new.root_of d c) ≡ record { opening = o; steps = 0 })) (machine.queues it.0) ((old.machines d).next + k) p (b.opened it.0) it.1 (omega arith) in
      let opened' : new.roots (old.next + k) ≡ record { opening = p; steps = 0 } = ap new.roots (sym root_is) ∙ opened in
      let before : far_queues cert of_new (old.next + k) (old.machines d) (length device.resources) ≡ 0 = queues_none cert of_new (old.next + k) (old.machines d) (λ q. none_before (old.next + k) q (omega arith)) (length device.resources) in
      let one : arrived cert of_new (old.next + k) (old.machines d).next ps ≡ (far_of cert).weight p = one_arrived cert of_new (old.machines d).next old.next k ps p is newer in
      let at_device : far_queues cert (new.root_of d) (old.next + k) (new.machines d) (length device.resources) ≤ 0 + (far_of cert).weight p =
      omega (
        arith,
        ap (λ m. far_queues cert (new.root_of d) (old.next + k) m (length device.resources)) machine_is,
        ap (λ f. far_queues cert f (old.next + k) machine (length device.resources)) of_is,
        a.far of_new (old.next + k) (length device.resources),
        before,
        one,
      ) in
      let devices : far_devices cert new (old.next + k) system.devices 0 ≤ over_devices (λ x j. 0) system.devices 0 + (far_of cert).weight p =
      over_rises (λ x j. 0) (λ device d. far_queues cert (new.root_of d) (old.next + k) (new.machines d) (length device.resources)) system.devices 0 d device ((far_of cert).weight p) at
      (subst (λ j. far_queues cert (new.root_of j) (old.next + k) (new.machines j) (length device.resources) ≤ 0 + (far_of cert).weight p) (omega arith) at_device)
      (λ y j ne.
      let other : new.machines j ≡ old.machines j = ap (λ f. f j) b.machines ∙ ap (λ t. cond t machine (old.machines j)) (ne_eqb d j (λ e. ne (omega (arith, e)))) in
      let other_of : new.root_of j ≡ old.root_of j = ap (λ f. f j) b.root_of ∙ ap (λ t. cond t (roots_from (old.root_of d) (old.machines d).next machine.next old.next) (old.root_of j)) (ne_eqb d j (λ e. ne (omega (arith, e)))) in
      omega (
        arith,
        ap (λ m. far_queues cert (new.root_of j) (old.next + k) m (length y.resources)) other,
        ap (λ f. far_queues cert f (old.next + k) (old.machines j) (length y.resources)) other_of,
        queues_none cert (old.root_of j) (old.next + k) (old.machines j) (λ q. all_weaker (λ e. old.root_of j e.cause < old.next) (λ e. old.root_of j e.cause ≡ old.next + k → ⊥) ((old.machines j).queues q) (λ e h i. omega (arith, h, i)) (rooted j q)) (length y.resources),
      )) in (
        ap (λ r. r.steps) opened',
        omega (
          arith,
          devices,
          over_nothing system.devices 0,
          ap (far_datagrams cert repeats system.devices (old.next + k)) b.datagrams,
          datagrams_none cert repeats system.devices (old.next + k) old.next old.datagrams (omega arith) grams,
          ap (λ r. (far_of cert).weight r.opening) opened',
        ),
      )

-- ---- the first world

pub admits_begun : (cert : Certificate) (ls : List Leaf) (m : Machine) → (ps : List Place) × Admits cert m (begun ls m) ps
admits_begun cert [] m = ([], admits_none cert m m refl refl)
admits_begun cert (leaf ∷ rest) m = by (is_restart leaf.kind) (admits_begun cert rest (admitted m (beginning leaf))) (admits_begun cert rest m) where
  by : (t : Bool) → (ps : List Place) × Admits cert (admitted m (beginning leaf)) (begun rest (admitted m (beginning leaf))) ps → (ps : List Place) × Admits cert m (begun rest m) ps
      → (ps : List Place) × Admits cert m (begun rest (cond t (admitted m (beginning leaf)) m)) ps
  by true x y = (place_of (beginning leaf) ∷ x.0, admits_more cert m (beginning leaf) (begun rest (admitted m (beginning leaf))) x.0 x.1)
  by false x y = y

none_above : (cert : Certificate) (of : ℕ → ℕ) (root c r : ℕ) (ps : List Place) → r + length ps ≤ root → ((j : ℕ) → j < length ps → of (c + j) ≡ r + j) → arrived cert of root c ps ≡ 0
none_above cert of root c r [] l h = refl
none_above cert of root c r (p ∷ ps) l h =
    let here : of c ≡ r = subst (λ i. of i ≡ r + 0) (let e : c + 0 ≡ c = omega arith in e) (h 0 (omega arith)) ∙ (let e : r + 0 ≡ r = omega arith in e) in
    let no : cond (eqb (of c) root) ((far_of cert).weight p) 0 ≡ 0 = ap (λ t. cond t ((far_of cert).weight p) 0) (ne_eqb (of c) root (λ e. omega (arith, e, here, l))) in
    omega (arith, no, none_above cert of root (c + 1) (r + 1) ps (omega (arith, l)) (λ j b. subst (λ i. of i ≡ (r + 1) + j) (let e : c + suc j ≡ (c + 1) + j = omega arith in e) (h (suc j) (omega (arith, b)) ∙ (let e : r + suc j ≡ (r + 1) + j = omega arith in e))))

-- how many BEGIN a device has, and the roots of its first causes
abbrev begins : Device → ℕ
begins device = (at_first device 1 first_stamp).next - 1

abbrev Roots : (ℕ → ℕ) → Device → ℕ → Type 0
Roots of device base = (c : ℕ) → 0 < c → c < (at_first device 1 first_stamp).next → of c ≡ base + c

module _ (cert : Certificate) (device : Device) (of : ℕ → ℕ) (base : ℕ) (roots : Roots of device base) where
  all_begun : (ps : List Place) × Admits cert (silent device 1 first_stamp) (at_first device 1 first_stamp) ps
  all_begun = admits_begun cert (leaves device) (silent device 1 first_stamp)

  numbers : (j : ℕ) → j < length all_begun.0 → of (1 + j) ≡ (base + 1) + j
  numbers j l = roots (1 + j) (omega arith) (omega (arith, l, all_begun.1.next)) ∙ (let e : base + (1 + j) ≡ (base + 1) + j = omega arith in e)

  counted : begins device ≡ length all_begun.0
  counted = omega (arith, all_begun.1.next)

  first_far : (root n : ℕ) → far_queues cert of root (at_first device 1 first_stamp) n ≤ arrived cert of root 1 all_begun.0
  first_far root n = omega (arith, all_begun.1.far of root n, queues_none cert of root (silent device 1 first_stamp) (λ q. tt) n)

  lower : (root n : ℕ) → root ≤ base → far_queues cert of root (at_first device 1 first_stamp) n ≡ 0
  lower root n l = omega (arith, first_far root n, none_arrived cert of root 1 (base + 1) all_begun.0 (omega (arith, l)) numbers)

  higher : (root n : ℕ) → base + begins device < root → far_queues cert of root (at_first device 1 first_stamp) n ≡ 0
  higher root n l = omega (arith, first_far root n, none_above cert of root 1 (base + 1) all_begun.0 (omega (arith, l, counted)) numbers)

  own_root : (k n : ℕ) → k < begins device → (p : Place) × (q : ℕ) × IsOpen ((at_first device 1 first_stamp).queues q) (1 + k) p × (far_queues cert of ((base + 1) + k) (at_first device 1 first_stamp) n ≤ (far_of cert).weight p)
  own_root k n l =
      let (p, is) = got all_begun.0 k (omega (arith, l, counted)) in
      let it = all_begun.1.there k p is in
      (p, it.0, it.1, omega (arith, first_far ((base + 1) + k) n, one_arrived cert of 1 (base + 1) k all_begun.0 p is numbers))

-- the devices from one on have these machines and roots
record Begin (ds : List Device) (base k : ℕ) (w : World) : Type 0 where
  machines : (i : ℕ) → w.machines (k + i) ≡ machine_at ds i
  roots : (i c : ℕ) → 0 < c → c < (machine_at ds i).next → w.root_of (k + i) c ≡ (base + roots_before ds i) + c

begin_rest : (x : Device) (xs : List Device) (base k : ℕ) (w : World) → Begin (x ∷ xs) base k w → Begin xs (base + begins x) (k + 1) w
begin_rest x xs base k w b = record {
  machines = λ i. ap w.machines (let e : (k + 1) + i ≡ k + suc i = omega arith in e) ∙ b.machines (suc i);
  roots = λ i c l m. ap (λ j. w.root_of j c) (let e : (k + 1) + i ≡ k + suc i = omega arith in e) ∙ b.roots (suc i) c l m ∙ (let e : (base + (begins x + roots_before xs i)) + c ≡ ((base + begins x) + roots_before xs i) + c = omega arith in e);
}

begin_machine : (x : Device) (xs : List Device) (base k : ℕ) (w : World) → Begin (x ∷ xs) base k w → w.machines k ≡ at_first x 1 first_stamp
begin_machine x xs base k w b = ap w.machines (let e : k ≡ k + 0 = omega arith in e) ∙ b.machines 0

begin_roots : (x : Device) (xs : List Device) (base k : ℕ) (w : World) → Begin (x ∷ xs) base k w → Roots (w.root_of k) x base
begin_roots x xs base k w b c l m = ap (λ j. w.root_of j c) (let e : k ≡ k + 0 = omega arith in e) ∙ b.roots 0 c l m ∙ (let e : (base + 0) + c ≡ base + c = omega arith in e)

module _ (cert : Certificate) (w : World) where
  rest_lower : (ds : List Device) (base k root : ℕ) → Begin ds base k w → root ≤ base → far_devices cert w root ds k ≡ 0
  rest_lower [] base k root b l = refl
  rest_lower (x ∷ xs) base k root b l =
      omega (
        arith,
        ap (λ m. far_queues cert (w.root_of k) root m (length x.resources)) (begin_machine x xs base k w b),
        lower cert x (w.root_of k) base (begin_roots x xs base k w b) root (length x.resources) l,
        rest_lower xs (base + begins x) (k + 1) root (begin_rest x xs base k w b) (omega (arith, l)),
      )

  -- a root of one of these devices is that of one BEGIN, and may cost what this costs
  some_root : (ds : List Device) (base k root : ℕ) → Begin ds base k w → base < root → root ≤ base + roots_before ds (length ds)
      → (p : Place) × (d : ℕ) × (q : ℕ) × (c : ℕ) × IsOpen ((w.machines d).queues q) c p × (w.root_of d c ≡ root) × (far_devices cert w root ds k ≤ (far_of cert).weight p)
  some_root [] base k root b l m = absurd (omega (arith, l, m))
  some_root (x ∷ xs) base k root b l m = elim (le_or root (base + begins x)) [
    | inl h ↦ (
        let r = begin_roots x xs base k w b in
        let i : ℕ = root - (base + 1) in
        let root_is : (base + 1) + (root - (base + 1)) ≡ root = omega (arith, l) in
        let o = own_root cert x (w.root_of k) base r (root - (base + 1)) (length x.resources) (omega (arith, h, l)) in
        let small : 1 + (root - (base + 1)) < (at_first x 1 first_stamp).next = omega (arith, h, l) in
        let far : far_queues cert (w.root_of k) root (w.machines k) (length x.resources) ≤ (far_of cert).weight o.0 =
        omega (arith, ap (λ m. far_queues cert (w.root_of k) root m (length x.resources)) (begin_machine x xs base k w b), ap (λ j. far_queues cert (w.root_of k) j (at_first x 1 first_stamp) (length x.resources)) root_is, o.3) in (
          o.0,
          k,
          o.1,
          1 + (root - (base + 1)),
          subst (λ (m : Machine). IsOpen (m.queues o.1) (1 + (root - (base + 1))) o.0) (sym (begin_machine x xs base k w b)) o.2,
          r (1 + (root - (base + 1))) (omega arith) small ∙ (let e : base + (1 + (root - (base + 1))) ≡ root = omega (arith, l) in e),
          omega (arith, far, rest_lower xs (base + begins x) (k + 1) root (begin_rest x xs base k w b) h),
        )
        )
    | inr h ↦ (
        let s = some_root xs (base + begins x) (k + 1) root (begin_rest x xs base k w b) h (omega (arith, m)) in
        let none : far_queues cert (w.root_of k) root (w.machines k) (length x.resources) ≡ 0 =
        ap (λ m. far_queues cert (w.root_of k) root m (length x.resources)) (begin_machine x xs base k w b) ∙ higher cert x (w.root_of k) base (begin_roots x xs base k w b) root (length x.resources) h in
        (s.0, s.1, s.2, s.3, s.4, s.5, omega (arith, s.6, none))
        )
  ]
    where
      le_or : (m n : ℕ) → (m ≤ n) ⊎ (n < m)
      le_or m n = by (nat_lt n m) refl where
        by : (t : Bool) → nat_lt n m ≡ t → (m ≤ n) ⊎ (n < m)
        by true e = inr (grind arith)
        by false e = inl (grind arith)

-- each root of the first world has no steps, and may cost what its opening costs
pub first_begins : (system : System) (cert : Certificate) (repeats : ℕ) (w : World) → IsFirst system w → (root : ℕ) → 0 < root → root < w.next → ((w.roots root).steps ≡ 0) × (far_left system cert repeats w root ≤ (far_of cert).weight (w.roots root).opening)
first_begins system cert repeats w first root l m =
    let begin : Begin system.devices 0 0 w = record {
      machines = λ i. ap (λ f. f (0 + i)) first.machines ∙ ap (machine_at system.devices) (let e : 0 + i ≡ i = omega arith in e);
      roots = λ i c a b. roots i c a b;
    } in
    let s = some_root cert w system.devices 0 0 root begin l (omega (arith, m, first.next)) in
    let opened : w.roots (w.root_of s.1 s.3) ≡ record { opening = s.0; steps = 0 } = open_is (λ c o. w.roots (w.root_of s.1 c) ≡ record { opening = o; steps = 0 }) ((w.machines s.1).queues s.2) s.3 s.0 (first.roots s.1 s.2) s.4 in
    let opened' : w.roots root ≡ record { opening = s.0; steps = 0 } = ap w.roots (sym s.5) ∙ opened in
    (ap (λ r. r.steps) opened', omega (arith, s.6, ap (λ r. (far_of cert).weight r.opening) opened', ap (far_datagrams cert repeats system.devices root) first.datagrams))
  where
    roots : (i c : ℕ) → 0 < c → c < (machine_at system.devices i).next → w.root_of (0 + i) c ≡ (0 + roots_before system.devices i) + c
    roots i c a b =
        ap (λ j. w.root_of j c) (let e : 0 + i ≡ i = omega arith in e)
        ∙ first.root_of i c
        ∙ ap (λ t. cond (t && nat_lt c (machine_at system.devices i).next) (roots_before system.devices i + c) 0) (lt-ltb 0 c a)
        ∙ ap (λ t. cond t (roots_before system.devices i + c) 0) (lt-ltb c (machine_at system.devices i).next b)
        ∙ (let e : roots_before system.devices i + c ≡ (0 + roots_before system.devices i) + c = omega arith in e)
