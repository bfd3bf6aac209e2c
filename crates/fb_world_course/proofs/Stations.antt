-- What the calls of a device make of the roots of its causes.
use Rattle.std.proofs.Common.{◌≡◌, ℕ, zero, suc, ◌+◌, ◌-◌, ◌<◌, ◌≤◌, ◌^◌, Bool, true, false, cond, eqb, ℤ, List, [], ◌∷◌, ◌++◌, length, slice_get, Some, Result, Ok, Err, refl, sym, ◌∙◌, ap, subst, arith, inl, inr, true≢false}
use Rattle.std.specs.Prelude.{nat_lt, is_ok, ◌||◌, ◌&&◌}
use Rattle.std.proofs.lemmas.List.{length-append, append-nil}
use Rattle.std.proofs.lemmas.Bool.{lt-ltb, le-ltb, cases_lt, eq-eqb, cond_both}
use Rattle.fb_model.specs.Names.{Place}
use Rattle.fb_model.specs.System.{Device}
use Rattle.fb_model.specs.Wires.{Leaf, leaves}
use Rattle.fb_model.specs.Store.{Store}
use Rattle.fb_model.specs.Certificates.{Certificate, is_restart}
use Rattle.fb_model.specs.Devices.{Machine, Entry, is_pending, admitted, beginning, begun, silent, first_stamp, at_first, Offer, Tick, Expired, Tries, expired, due_timers, inserted, is_timer, is_due, is_before, due, at_moment, Happens}
use Rattle.fb_model.specs.Headline.{IsOpen}
use Rattle.fb_model.specs.World.{roots_from}
use Rattle.fb_model_worlds.proofs.Opening.{Admits, admits_offer, admits_tick, admits_begun}
use Rattle.fb_device_arrivals.specs.declared.denied.Denied.{Denied}
use Rattle.fb_device_arrivals.specs.Answers.{admission_of}
use Rattle.fb_device_state.specs.Sessions.{Session}
use Rattle.fb_world_course.specs.declared.station.Root.{Root}
use Rattle.fb_world_course.specs.declared.station.Station.{Station}
use Rattle.fb_world_course.specs.Scenes.{root_for}
use Rattle.fb_world_course.specs.Roots.{Opens, AreOpened, OpensRoots}
use Rattle.fb_world_course.proofs.Lists.{left_got, right_got, got_there}

-- ---- tables of roots

pub from_low : (f : ℕ → ℕ) (first last r c : ℕ) → c < first → roots_from f first last r c ≡ f c
from_low f first last r c l = ap (λ t. cond t (f c) (cond (nat_lt c last) (r + (c - first)) (f c))) (lt-ltb c first l)

pub from_here : (f : ℕ → ℕ) (first last r c : ℕ) → first ≤ c → c < last → roots_from f first last r c ≡ r + (c - first)
from_here f first last r c l m =
    ap (λ t. cond t (f c) (cond (nat_lt c last) (r + (c - first)) (f c))) (le-ltb c first l)
    ∙ ap (λ t. cond t (r + (c - first)) (f c)) (lt-ltb c last m)

pub from_high : (f : ℕ → ℕ) (first last r c : ℕ) → first ≤ c → last ≤ c → roots_from f first last r c ≡ f c
from_high f first last r c l m =
    ap (λ t. cond t (f c) (cond (nat_lt c last) (r + (c - first)) (f c))) (le-ltb c first l)
    ∙ ap (λ t. cond t (r + (c - first)) (f c)) (le-ltb c last m)

-- no cause has opened a root
pub from_none : (f : ℕ → ℕ) (first r c : ℕ) → f c ≡ roots_from f first (first + 0) r c
from_none f first r c = elim (cases_lt c first) [
  | inl l ↦ sym (from_low f first (first + 0) r c l)
  | inr l ↦ sym (from_high f first (first + 0) r c l (omega (arith, l)))
]

-- so many causes have, and then so many more
from_again : (f : ℕ → ℕ) (a k n r c : ℕ) → roots_from (roots_from f a (a + k) r) (a + k) (a + k + n) (r + k) c ≡ roots_from f a (a + (k + n)) r c
from_again f a k n r c = elim (cases_lt c a) [
  | inl l ↦ from_low (roots_from f a (a + k) r) (a + k) (a + k + n) (r + k) c (omega (arith, l)) ∙ from_low f a (a + k) r c l ∙ sym (from_low f a (a + (k + n)) r c l)
  | inr l ↦ elim (cases_lt c (a + k)) [
    | inl m ↦ from_low (roots_from f a (a + k) r) (a + k) (a + k + n) (r + k) c m ∙ from_here f a (a + k) r c l m ∙ sym (from_here f a (a + (k + n)) r c l (omega (arith, m)))
    | inr m ↦ elim (cases_lt c (a + k + n)) [
      | inl o ↦ from_here (roots_from f a (a + k) r) (a + k) (a + k + n) (r + k) c m o ∙ (let e : r + k + (c - (a + k)) ≡ r + (c - a) = omega (arith, m) in e) ∙ sym (from_here f a (a + (k + n)) r c l (omega (arith, o)))
      | inr o ↦ from_high (roots_from f a (a + k) r) (a + k) (a + k + n) (r + k) c m o ∙ from_high f a (a + k) r c l m ∙ sym (from_high f a (a + (k + n)) r c l (omega (arith, o)))
    ]
  ]
]

append_again : (xs ys zs : List Root) → (xs ++ ys) ++ zs ≡ xs ++ (ys ++ zs)
append_again [] ys zs = refl
append_again (x ∷ xs) ys zs = ap (λ es. x ∷ es) (append_again xs ys zs)

-- ---- roots that open

pub opened_none : (s : Station) (number : ℕ) (roots : List Root) → OpensRoots s number 0 roots s roots
opened_none s number roots =
    record {
      more = [];
      roots_are = sym (append-nil roots);
      counted = refl;
      opened = λ k r e. cc;
      device = refl;
      causes = omega arith;
      rooted = λ c. from_none (root_for s.roots.entries) (s.causes + 1) (length roots + 1) c;
    }

-- what opened the roots of two lists, one behind the other
opened_both : (s : Session) (number c k : ℕ) (xs ys : List Root) → length xs ≡ k → AreOpened s number c xs → AreOpened s number (c + k) ys → AreOpened s number c (xs ++ ys)
opened_both s number c k xs ys n h g j r e = elim (cases_lt j (length xs)) [
  | inl l ↦ h j r (sym (left_got xs ys j l) ∙ e)
  | inr l ↦ (
      let i : ℕ = j - length xs in
      let at : slice_get ys (j - length xs) ≡ Some r = sym (right_got xs ys (j - length xs)) ∙ ap (slice_get (xs ++ ys)) (let m : length xs + (j - length xs) ≡ j = omega (arith, l) in m) ∙ e in
      let o = g (j - length xs) r at in
      (o.0, o.1, subst (λ m. Opens s m r.opening) (let m : c + k + (j - length xs) ≡ c + j = omega (arith, l, n) in m) o.2)
      )
]

pub opened_more : (s t u : Station) (number k n : ℕ) (a b c : List Root) → OpensRoots s number k a t b → OpensRoots t number n b u c → OpensRoots s number (k + n) a u c
opened_more s t u number k n a b c h g =
    let first_is : t.causes + 1 ≡ s.causes + 1 + k = omega (arith, h.causes) in
    record {
      more = h.more ++ g.more;
      roots_are = g.roots_are ∙ ap (λ xs. xs ++ g.more) h.roots_are ∙ append_again a h.more g.more;
      counted = omega (arith, length-append h.more g.more, h.counted, g.counted);
      opened = opened_both s.device number (s.causes + 1) k h.more g.more h.counted h.opened (subst (λ m. AreOpened s.device number m g.more) first_is (subst (λ (d : Session). AreOpened d number (t.causes + 1) g.more) h.device g.opened));
      device = g.device ∙ h.device;
      causes = omega (arith, h.causes, g.causes);
      rooted = λ x.
          g.rooted x
          ∙ ap (λ f. roots_from f (t.causes + 1) (t.causes + 1 + n) (length b + 1) x) (λ i y. h.rooted y i)
          ∙ ap (λ m. roots_from (roots_from (root_for s.roots.entries) (s.causes + 1) (s.causes + 1 + k) (length a + 1)) m (m + n) (length b + 1) x) first_is
          ∙ ap (λ m. roots_from (roots_from (root_for s.roots.entries) (s.causes + 1) (s.causes + 1 + k) (length a + 1)) (s.causes + 1 + k) (s.causes + 1 + k + n) m x) (let e : length b + 1 ≡ length a + 1 + k = omega (arith, ap length h.roots_are, length-append a h.more, h.counted) in e)
          ∙ from_again (root_for s.roots.entries) (s.causes + 1) k n (length a + 1) x;
    }

-- ---- causes that are pending

or_true : (b c : Bool) → c ≡ true → (b || c) ≡ true
or_true true c h = refl
or_true false c h = h

pub open_pending : (es : List Entry) (c : ℕ) (p : Place) → IsOpen es c p → is_pending c es ≡ true
open_pending [] c p h = absurd h
open_pending (e ∷ es) c p (inl h) = ap (λ b. b || is_pending c es) (eq-eqb e.cause c h.0)
open_pending (e ∷ es) c p (inr h) = or_true (eqb e.cause c) (is_pending c es) (open_pending es c p h)

-- each cause of these arrivals is
pub arrived_pending : (cert : Certificate) (old new : Machine) (ps : List Place) → Admits cert old new ps → (k : ℕ) → k < length ps → (q : ℕ) × (is_pending (old.next + k) (new.queues q) ≡ true)
arrived_pending cert old new ps a k l =
    let g = got_there ps k l in
    let o = a.there k g.0 g.1 in
    (o.0, open_pending (new.queues o.0) (old.next + k) g.0 o.1)

pub offer_pending : (cert : Certificate) (device : Device) (old new : Machine) (input : ℕ) (values : List ℤ) (r : Result ℕ Denied) → is_ok r ≡ true → Happens cert device old (Offer input values) (admission_of r) new
    → (k : ℕ) → k < 1 → (q : ℕ) × (is_pending (old.next + k) (new.queues q) ≡ true)
offer_pending cert device old new input values (Ok cause) e h k l =
    let a = admits_offer cert device old input values cause new h in
    arrived_pending cert old new a.0 a.1 k (omega (arith, l, a.1.next, ap (λ (m : Machine). m.next) h.new_is))
offer_pending cert device old new input values (Err why) e h k l = absurd (true≢false (sym e))

-- ---- how many timers fire

inserted_one : (store : Store) (x : Leaf) (ys : List Leaf) → length (inserted store x ys) ≡ length ys + 1
inserted_one store x [] = refl
inserted_one store x (y ∷ ys) =
    cond_both (is_before (due (store x.path).condition) (due (store y.path).condition)) (x ∷ y ∷ ys) (y ∷ inserted store x ys) (λ zs. length zs ≡ length (y ∷ ys) + 1) (λ _. omega arith) (λ _. omega (arith, inserted_one store x ys))

due_few : (store : Store) (clock : ℕ) (ls : List Leaf) → length (due_timers store clock ls) ≤ length ls
due_few store clock [] = omega arith
due_few store clock (leaf ∷ rest) =
    cond_both (is_timer leaf.kind && is_due clock (due (store leaf.path).condition)) (inserted store leaf (due_timers store clock rest)) (due_timers store clock rest) (λ zs. length zs ≤ length (leaf ∷ rest))
    (λ _. omega (arith, inserted_one store leaf (due_timers store clock rest), due_few store clock rest)) (λ _. omega (arith, due_few store clock rest))

pub record Counts (old : Machine) (n count : ℕ) (new : Machine) : Type 0 where
  pub next : new.next ≡ old.next + count
  pub few : count ≤ n
  pub numbers : 0 < count → old.next + count ≤ 2 ^ 64

tries_count : (cert : Certificate) (device : Device) (ls : List Leaf) (old : Machine) (count : ℕ) (new : Machine) → Tries cert device ls old count new → Counts old (length ls) count new
tries_count cert device [] old count new t = record { next = omega (arith, t.0, ap (λ (m : Machine). m.next) t.1); few = omega (arith, t.0); numbers = λ l. absurd (omega (arith, l, t.0)) }
tries_count cert device (leaf ∷ rest) old count new t =
    elim t [
      | inl k ↦ (
          let h = tries_count cert device rest (expired old leaf) k.0 new k.3 in
          record { next = omega (arith, h.next, k.2); few = omega (arith, h.few, k.2); numbers = λ l. up k.0 (λ m. h.numbers m) k.1.number k.2 }
          )
      | inr k ↦ (
          let h = tries_count cert device rest old count new k.1 in
          record { next = h.next; few = omega (arith, h.few); numbers = h.numbers }
          )
    ]
  where
    up : (n : ℕ) → (0 < n → old.next + 1 + n ≤ 2 ^ 64) → old.next < 2 ^ 64 → count ≡ n + 1 → old.next + count ≤ 2 ^ 64
    up zero h l e = omega (arith, l, e)
    up (suc n) h l e = omega (arith, h (omega arith), e)

pub tick_counts : (cert : Certificate) (device : Device) (old new : Machine) (now count : ℕ) → Happens cert device old (Tick now) (Expired count) new → Counts old (length (leaves device)) count new
tick_counts cert device old new now count h =
    let c = tries_count cert device (due_timers old.store (at_moment old now).clock (leaves device)) (at_moment old now) count new h in
    record { next = c.next; few = omega (arith, c.few, due_few old.store (at_moment old now).clock (leaves device)); numbers = c.numbers }

pub tick_pending : (cert : Certificate) (device : Device) (old new : Machine) (now count : ℕ) → Happens cert device old (Tick now) (Expired count) new
    → (k : ℕ) → k < count → (q : ℕ) × (is_pending (old.next + k) (new.queues q) ≡ true)
tick_pending cert device old new now count h k l =
    let a = admits_tick cert device old now count new h in
    arrived_pending cert old new a.0 a.1 k (omega (arith, l, a.1.next, (tick_counts cert device old new now count h).next))

-- ---- how many causes begin

pub begun_few : (ls : List Leaf) (m : Machine) → (begun ls m).next ≤ m.next + length ls
begun_few [] m = omega arith
begun_few (leaf ∷ rest) m =
    cond_both (is_restart leaf.kind) (admitted m (beginning leaf)) m (λ x. (begun rest x).next ≤ m.next + length (leaf ∷ rest)) (λ _. omega (arith, begun_few rest (admitted m (beginning leaf)))) (λ _. omega (arith, begun_few rest m))

-- each of them is pending
pub first_pending : (cert : Certificate) (device : Device) (c : ℕ) → 0 < c → c < (at_first device 1 first_stamp).next → (q : ℕ) × (is_pending c ((at_first device 1 first_stamp).queues q) ≡ true)
first_pending cert device c l m =
    let a = admits_begun cert (leaves device) (silent device 1 first_stamp) in
    let p = arrived_pending cert (silent device 1 first_stamp) (at_first device 1 first_stamp) a.0 a.1 (c - 1) (omega (arith, l, m, a.1.next)) in
    (p.0, subst (λ n. is_pending n ((at_first device 1 first_stamp).queues p.0) ≡ true) (let e : 1 + (c - 1) ≡ c = omega (arith, l) in e) p.1)
