-- How the roots that a world keeps are tied to what was told.
use Rattle.std.proofs.Common.{cond, ◌≡◌, ℕ, ◌+◌, ◌<◌, ◌≤◌, min, List, [], ◌∷◌, ◌++◌, Option, Some, None, refl, sym, ◌∙◌, ap, subst, arith, inl, inr}
use Rattle.std.specs.Prelude.{length}
use Rattle.std.specs.List.{AllByRecursion}
use Rattle.std.proofs.lemmas.Bool.{cases_eq, eq-eqb, ne_eqb}
use Rattle.fb_model.specs.Names.{Place}
use Rattle.fb_model.specs.Messages.{Message}
use Rattle.fb_model.specs.Devices.{Entry}
use Rattle.fb_model.specs.Headline.{IsOpen}
use Rattle.fb_model.specs.World.{Datagram, World}
use Rattle.fb_model.specs.Worlds.{IsOpened}
use Rattle.fb_model.specs.Causes.{Cause, Happening, Dispatched, dispatch_in, Sends, Opens, Belongs, itself, caused, HasOpened, IsArrival, Told, nothing, adds, passes, skips, IsPending, AreArrivals, admission_in, admissions_told}
use Rattle.fb_model_causes.proofs.Lists.{AllFrom, from_weaker, Carries}
use Rattle.fb_model_causes.proofs.Belonging.{sends_still, opens_before, opens_still, belongs_still, sends_before, admissions_end, steps_end, steps_of, told_here, IsOf, AreOf}

-- the cause of a pending entry is open, and has this root
pub record IsRooted (w : World) (of : ℕ → ℕ → ℕ) (d c : ℕ) : Type 0 where
  pub is_open : HasOpened w (record { device = d; number = c })
  pub root : w.root_of d c ≡ of d c

-- a datagram's root and admissions, by who sent it and what was told
pub record IsTold (carried : ℕ → ℕ) (trace : List Happening) (number : ℕ) (g : Datagram) : Type 0 where
  pub at : ℕ
  pub sender : Cause
  pub sends : Sends trace at sender number g.message
  pub root : g.root ≡ carried number
  pub admissions : (d : ℕ) → g.admissions d ≡ min (admissions_told number d trace) 256

pub record Tied (arrival_of : ℕ → Cause) (trace : List Happening) (w : World) : Type 0 where
  -- the root of each cause that was opened, and of each datagram
  pub of : ℕ → ℕ → ℕ
  pub carried : ℕ → ℕ
  pub begun : (d : ℕ) → 0 < (w.machines d).next
  pub pending : (d q : ℕ) → AllByRecursion (λ e. IsRooted w of d e.cause) ((w.machines d).queues q)
  pub rooted : (c : Cause) → HasOpened w c → IsOpened w (of c.device c.number)
  pub belongs : (c : Cause) → HasOpened w c → Belongs trace (arrival_of (of c.device c.number)) c
  pub arrives : (n : ℕ) → IsOpened w n → IsArrival trace w (arrival_of n)
  pub returns : (n : ℕ) → IsOpened w n → of (arrival_of n).device (arrival_of n).number ≡ n
  pub arrivals : (c : Cause) → IsArrival trace w c → arrival_of (of c.device c.number) ≡ c
  pub sends : (at datagram : ℕ) (c : Cause) (message : Message) → Sends trace at c datagram message → HasOpened w c × (of c.device c.number ≡ carried datagram) × Carries w.datagrams datagram message
  pub opens : (at datagram : ℕ) (c : Cause) → Opens trace at datagram c → HasOpened w c × (of c.device c.number ≡ carried datagram) × (datagram ≤ length w.datagrams)
  pub datagrams : AllFrom (IsTold carried trace) 1 w.datagrams
  pub unsent : (datagram d : ℕ) → length w.datagrams < datagram → admissions_told datagram d trace ≡ 0
  pub ran : AreOf (HasOpened w) trace
  pub steps : (n : ℕ) → IsOpened w n → (w.roots n).steps ≡ steps_of of n trace
  pub opened : (n q : ℕ) → IsOpened w n → AllByRecursion (λ e. e.cause ≡ (arrival_of n).number → e.opening ≡ (w.roots n).opening) ((w.machines (arrival_of n).device).queues q)

-- ---- what follows

module _ (arrival_of : ℕ → Cause) (trace : List Happening) (w : World) (t : Tied arrival_of trace w) where
  -- what belongs to another cause has its root
  pub same_root : (a c : Cause) → Belongs trace a c → t.of c.device c.number ≡ t.of a.device a.number
  same_root a c itself = refl
  same_root a c (caused sender opened datagram i j message b s l o) = (t.opens j datagram opened o).1 ∙ sym (t.sends i datagram sender message s).1 ∙ same_root a sender b

  -- a dispatch is one of a root, or of none of its causes
  told_one : (n : ℕ) → IsOpened w n → (h : Happening) (hs : List Happening) (m : ℕ) (x : Dispatched) → dispatch_in h.event h.answer ≡ Some x → HasOpened w x.cause → Told trace (arrival_of n) hs m → Told trace (arrival_of n) (h ∷ hs) (told_here t.of n (Some x) + m)
  told_one n r h hs m x e o k = elim (cases_eq (t.of x.cause.device x.cause.number) n) [
    | inl i ↦ subst (λ j. Told trace (arrival_of n) (h ∷ hs) (j + m)) (sym (ap (λ b. cond b x.steps 0) (eq-eqb (t.of x.cause.device x.cause.number) n i)))
        (adds h x hs m e (subst (λ j. Belongs trace (arrival_of j) x.cause) i (t.belongs x.cause o)) k)
    | inr i ↦ subst (λ j. Told trace (arrival_of n) (h ∷ hs) j) (let z = ap (λ b. cond b x.steps 0) (ne_eqb (t.of x.cause.device x.cause.number) n i) in let all : m ≡ told_here t.of n (Some x) + m = omega (arith, z) in all)
        (passes h x hs m e (λ b. i (same_root (arrival_of n) x.cause b ∙ t.returns n r)) k)
  ]

  told_next : (n : ℕ) → IsOpened w n → (h : Happening) (hs : List Happening) (m : ℕ) (o : Option Dispatched) → dispatch_in h.event h.answer ≡ o → IsOf (HasOpened w) o → Told trace (arrival_of n) hs m → Told trace (arrival_of n) (h ∷ hs) (told_here t.of n o + m)
  told_next n r h hs m None e i k = subst (Told trace (arrival_of n) (h ∷ hs)) (let z : m ≡ 0 + m = omega arith in z) (skips h hs m e k)
  told_next n r h hs m (Some x) e i k = told_one n r h hs m x e i k

  told_part : (n : ℕ) → IsOpened w n → (hs : List Happening) → AreOf (HasOpened w) hs → Told trace (arrival_of n) hs (steps_of t.of n hs)
  told_part n r [] h = nothing
  told_part n r (x ∷ xs) h = told_next n r x xs (steps_of t.of n xs) (dispatch_in x.event x.answer) refl h.0 (told_part n r xs h.1)

  -- the steps of a root are those told of its arrival
  pub told_all : (n : ℕ) → IsOpened w n → Told trace (arrival_of n) trace (w.roots n).steps
  told_all n r = subst (Told trace (arrival_of n) trace) (sym (t.steps n r)) (told_part n r trace t.ran)

  -- an arrival that is a root's is that of one
  pub one_root : (m n : ℕ) → IsOpened w m → IsOpened w n → arrival_of m ≡ arrival_of n → m ≡ n
  one_root m n r k e = sym (t.returns m r) ∙ ap (λ (c : Cause). t.of c.device c.number) e ∙ t.returns n k

  one_for : (m n : ℕ) (c : Cause) → IsOpened w m → IsOpened w n → Belongs trace (arrival_of m) c → Belongs trace (arrival_of n) c → m ≡ n
  one_for m n c r k b d = sym (t.returns m r) ∙ sym (same_root (arrival_of m) c b) ∙ same_root (arrival_of n) c d ∙ t.returns n k

  -- so the roots are the arrivals so far, however later ones are numbered
  pub are_arrivals : (later : ℕ → Cause) (opening_of : ℕ → Place) → ((n : ℕ) → IsOpened w n → later n ≡ arrival_of n) → ((n : ℕ) → IsOpened w n → (w.roots n).opening ≡ opening_of n) → AreArrivals later opening_of trace w
  are_arrivals later opening_of same openings =
      record {
        arrives = λ n r. subst (IsArrival trace w) (sym (same n r)) (t.arrives n r);
        differ = λ m n r k e. one_root m n r k (sym (same m r) ∙ e ∙ same n k);
        each = λ c a. let r = t.rooted c a.0 in (t.of c.device c.number, r, same (t.of c.device c.number) r ∙ t.arrivals c a);
        belongs = λ c o. let r = t.rooted c o in (t.of c.device c.number, r, subst (λ x. Belongs trace x c) (sym (same (t.of c.device c.number) r)) (t.belongs c o));
        apart = λ m n c r k b d. one_for m n c r k (subst (λ x. Belongs trace x c) (same m r) b) (subst (λ x. Belongs trace x c) (same n k) d);
        steps = λ n r. subst (λ c. Told trace c trace (w.roots n).steps) (sym (same n r)) (told_all n r);
        openings = openings;
      }

  -- with a pending entry, a cause was opened
  pending_in : (d q : ℕ) (number : ℕ) (opening : Place) (es : List Entry) → AllByRecursion (λ e. IsRooted w t.of d e.cause) es → IsOpen es number opening → HasOpened w (record { device = d; number = number })
  pending_in d q number opening [] h i = absurd i
  pending_in d q number opening (e ∷ es) h (inl i) = subst (λ n. HasOpened w (record { device = d; number = n })) i.0 h.0.is_open
  pending_in d q number opening (e ∷ es) h (inr i) = pending_in d q number opening es h.1 i

  pub pending_opened : (c : Cause) (opening : Place) → IsPending w c opening → HasOpened w c
  pending_opened c opening p = pending_in c.device p.0 c.number opening ((w.machines c.device).queues p.0) (t.pending c.device p.0) p.1

  -- a root's arrival is pending with no other opening
  opening_in : (n : ℕ) (place opening : Place) (es : List Entry) → AllByRecursion (λ e. e.cause ≡ (arrival_of n).number → e.opening ≡ place) es → IsOpen es (arrival_of n).number opening → opening ≡ place
  opening_in n place opening [] h i = absurd i
  opening_in n place opening (e ∷ es) h (inl i) = sym i.1 ∙ h.0 i.0
  opening_in n place opening (e ∷ es) h (inr i) = opening_in n place opening es h.1 i

  pub opening_alone : (n : ℕ) (opening : Place) → IsOpened w n → IsPending w (arrival_of n) opening → opening ≡ (w.roots n).opening
  opening_alone n opening r p = opening_in n (w.roots n).opening opening ((w.machines (arrival_of n).device).queues p.0) (t.opened n p.0 r) p.1

-- ---- a happening that is neither a dispatch nor an admission

pub record IsQuiet (h : Happening) : Type 0 where
  pub no_dispatch : dispatch_in h.event h.answer ≡ None
  pub no_admission : (datagram d : ℕ) → admission_in datagram d h.event h.answer ≡ 0

pub admissions_still : (number d : ℕ) (trace : List Happening) (h : Happening) → admission_in number d h.event h.answer ≡ 0 → admissions_told number d (trace ++ h ∷ []) ≡ admissions_told number d trace
admissions_still number d trace h none = omega (arith, admissions_end number d trace h, none)

-- what is so of a datagram stays so
pub told_still : (carried carried' : ℕ → ℕ) (trace : List Happening) (h : Happening) (number : ℕ) (g : Datagram) → carried' number ≡ carried number → ((d : ℕ) → admission_in number d h.event h.answer ≡ 0) → IsTold carried trace number g → IsTold carried' (trace ++ h ∷ []) number g
told_still carried carried' trace h number g same none t =
    record {
      at = t.at;
      sender = t.sender;
      sends = sends_still trace (h ∷ []) t.at number t.sender g.message t.sends;
      root = t.root ∙ sym same;
      admissions = λ d. t.admissions d ∙ ap (λ n. min n 256) (sym (admissions_still number d trace h (none d)));
    }

pub all_of_end : (P : Cause → Type 0) (trace : List Happening) (h : Happening) → AreOf P trace → IsOf P (dispatch_in h.event h.answer) → AreOf P (trace ++ h ∷ [])
all_of_end P [] h all k = (k, tt)
all_of_end P (x ∷ xs) h all k = (all.0, all_of_end P xs h all.1 k)

pub quietly : (arrival_of : ℕ → Cause) (trace : List Happening) (h : Happening) (w : World) → IsQuiet h → Tied arrival_of trace w → Tied arrival_of (trace ++ h ∷ []) w
quietly arrival_of trace h w quiet t =
    record {
      of = t.of;
      carried = t.carried;
      begun = t.begun;
      pending = t.pending;
      rooted = t.rooted;
      belongs = λ c o. belongs_still trace (h ∷ []) (arrival_of (t.of c.device c.number)) c (t.belongs c o);
      arrives = λ n r. let a = t.arrives n r in (a.0, λ at datagram o. a.1 at datagram (opens_before trace h at datagram (arrival_of n) (quiet.no_admission datagram (arrival_of n).device) o));
      returns = t.returns;
      arrivals = λ c a. t.arrivals c (a.0, λ at datagram o. a.1 at datagram (opens_still trace (h ∷ []) at datagram c o));
      sends = λ at datagram c message s. t.sends at datagram c message (sends_before trace h at datagram c message quiet.no_dispatch s);
      opens = λ at datagram c o. t.opens at datagram c (opens_before trace h at datagram c (quiet.no_admission datagram c.device) o);
      datagrams = from_weaker (IsTold t.carried trace) (IsTold t.carried (trace ++ h ∷ [])) 1 w.datagrams (λ n g k. told_still t.carried t.carried trace h n g refl (quiet.no_admission n) k) t.datagrams;
      unsent = λ datagram d l. admissions_still datagram d trace h (quiet.no_admission datagram d) ∙ t.unsent datagram d l;
      ran = all_of_end (HasOpened w) trace h t.ran (subst (IsOf (HasOpened w)) (sym quiet.no_dispatch) tt);
      steps = λ n r. omega (arith, t.steps n r, steps_end t.of n trace h, ap (told_here t.of n) quiet.no_dispatch);
      opened = t.opened;
    }

-- ---- what an event leads to

-- the roots go on to be arrivals: the numbering of those before stays, and each new one has a pending entry
pub record Goes (arrival_of : ℕ → Cause) (trace : List Happening) (old new : World) : Type 0 where
  pub later : ℕ → Cause
  pub same : (n : ℕ) → n < old.next → later n ≡ arrival_of n
  pub tied : Tied later trace new
  pub more : old.next ≤ new.next
  pub openings : (n : ℕ) → n < old.next → (new.roots n).opening ≡ (old.roots n).opening
  pub begins : (n : ℕ) → old.next ≤ n → n < new.next → IsPending new (later n) (new.roots n).opening
