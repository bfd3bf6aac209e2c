-- What belongs to an arrival, and the steps that are told, as a trace grows.
use Rattle.std.proofs.Common.{◌≡◌, ℕ, ◌+◌, Bool, true, false, ◌&&◌, cond, eqb, List, [], ◌∷◌, ◌++◌, Option, Some, None, refl, sym, ◌∙◌, ap, subst, arith, inl, inr}
use Rattle.std.specs.List.{AllByRecursion}
use Rattle.std.proofs.lemmas.Bool.{eq-eqb, ne_eqb}
use Rattle.fb_model.specs.Messages.{Message}
use Rattle.fb_model.specs.Serving.{Send}
use Rattle.fb_model.specs.Devices.{Admitted, Ran}
use Rattle.fb_model.specs.World.{At_device, Deliver_datagram, A_dispatch, Answered}
use Rattle.fb_model.specs.Causes.{Cause, Happening, Dispatched, dispatch_in, Sends, Opens, Belongs, itself, caused, Told, nothing, adds, passes, skips, admission_in, admissions_told}
use Rattle.fb_model_causes.proofs.Lists.{still, was_or_last}

-- ---- later happenings

pub sends_still : (trace later : List Happening) (at datagram : ℕ) (sender : Cause) (message : Message) → Sends trace at sender datagram message → Sends (trace ++ later) at sender datagram message
sends_still trace later at datagram sender message s =
    record {
      resource = s.resource;
      place = s.place;
      steps = s.steps;
      ended = s.ended;
      told = still trace later at (record { event = At_device sender.device (A_dispatch s.resource); answer = Answered (Ran sender.number s.place s.steps (Some (Send message)) s.ended) (Some datagram) }) s.told;
    }

pub opens_still : (trace later : List Happening) (at datagram : ℕ) (c : Cause) → Opens trace at datagram c → Opens (trace ++ later) at datagram c
opens_still trace later at datagram c o = still trace later at (record { event = Deliver_datagram datagram c.device; answer = Answered (Admitted c.number) None }) o

pub belongs_still : (trace later : List Happening) (a c : Cause) → Belongs trace a c → Belongs (trace ++ later) a c
belongs_still trace later a c itself = itself
belongs_still trace later a c (caused sender opened datagram i j message b s l o) =
    caused sender opened datagram i j message (belongs_still trace later a sender b) (sends_still trace later i datagram sender message s) l (opens_still trace later j datagram opened o)

-- ---- one more happening

abbrev pub one_if : Bool → ℕ
one_if t = cond t 1 0

-- a happening that is no dispatch sends nothing, and one that is no admission opens nothing
pub sends_before : (trace : List Happening) (h : Happening) (at datagram : ℕ) (sender : Cause) (message : Message) → dispatch_in h.event h.answer ≡ None → Sends (trace ++ h ∷ []) at sender datagram message → Sends trace at sender datagram message
sends_before trace h at datagram sender message none s =
    elim (was_or_last trace h at (record { event = At_device sender.device (A_dispatch s.resource); answer = Answered (Ran sender.number s.place s.steps (Some (Send message)) s.ended) (Some datagram) }) s.told) [
      | inl k ↦ record { resource = s.resource; place = s.place; steps = s.steps; ended = s.ended; told = k }
      | inr k ↦ (let e = sym none ∙ ap (λ (x : Happening). dispatch_in x.event x.answer) k.1 in cc)
    ]

pub opens_before : (trace : List Happening) (h : Happening) (at datagram : ℕ) (c : Cause) → admission_in datagram c.device h.event h.answer ≡ 0 → Opens (trace ++ h ∷ []) at datagram c → Opens trace at datagram c
opens_before trace h at datagram c none o = elim (was_or_last trace h at (record { event = Deliver_datagram datagram c.device; answer = Answered (Admitted c.number) None }) o) [
  | inl k ↦ k
  | inr k ↦ (
      let one : one_if (eqb datagram datagram && eqb c.device c.device) ≡ 1 = ap (λ t. one_if (t && eqb c.device c.device)) (eq-eqb datagram datagram refl) ∙ ap one_if (eq-eqb c.device c.device refl) in
      let e = sym none ∙ ap (λ (x : Happening). admission_in datagram c.device x.event x.answer) k.1 ∙ one in
      absurd (omega (arith, e))
      )
]

pub admissions_end : (datagram d : ℕ) (trace : List Happening) (h : Happening) → admissions_told datagram d (trace ++ h ∷ []) ≡ admissions_told datagram d trace + admission_in datagram d h.event h.answer
admissions_end datagram d [] h = omega arith
admissions_end datagram d (x ∷ xs) h = omega (arith, admissions_end datagram d xs h)

pub another_datagram : (number datagram device d : ℕ) → (number ≡ datagram → ⊥) → one_if (eqb number datagram && eqb device d) ≡ 0
another_datagram number datagram device d ne = ap (λ t. one_if (t && eqb device d)) (ne_eqb number datagram ne)

both_true : (t u : Bool) → t ≡ true → one_if (t && u) ≡ one_if u
both_true true u e = refl
both_true false u e = cc

pub this_datagram : (number device d : ℕ) → one_if (eqb number number && eqb device d) ≡ one_if (eqb device d)
this_datagram number device d = both_true (eqb number number) (eqb device d) (eq-eqb number number refl)

-- ---- steps by roots

-- the steps that are told of a root, where each cause has one
abbrev pub told_here : (ℕ → ℕ → ℕ) → ℕ → Option Dispatched → ℕ
told_here of n None = 0
told_here of n (Some x) = cond (eqb (of x.cause.device x.cause.number) n) x.steps 0

abbrev pub steps_of : (ℕ → ℕ → ℕ) → ℕ → List Happening → ℕ
steps_of of n [] = 0
steps_of of n (h ∷ hs) = told_here of n (dispatch_in h.event h.answer) + steps_of of n hs

pub steps_end : (of : ℕ → ℕ → ℕ) (n : ℕ) (trace : List Happening) (h : Happening) → steps_of of n (trace ++ h ∷ []) ≡ steps_of of n trace + told_here of n (dispatch_in h.event h.answer)
steps_end of n [] h = omega arith
steps_end of n (x ∷ xs) h = omega (arith, steps_end of n xs h)

-- each dispatch that is told is of such a cause
abbrev pub IsOf : (Cause → Type 0) → Option Dispatched → Type 0
IsOf P None = Unit {0}
IsOf P (Some x) = P x.cause

abbrev pub AreOf : (Cause → Type 0) → List Happening → Type 0
AreOf P hs = AllByRecursion (λ h. IsOf P (dispatch_in h.event h.answer)) hs

of_weaker : (P Q : Cause → Type 0) (x : Option Dispatched) → ((c : Cause) → P c → Q c) → IsOf P x → IsOf Q x
of_weaker P Q None f h = tt
of_weaker P Q (Some x) f h = f x.cause h

pub all_of_weaker : (P Q : Cause → Type 0) (hs : List Happening) → ((c : Cause) → P c → Q c) → AreOf P hs → AreOf Q hs
all_of_weaker P Q [] f h = tt
all_of_weaker P Q (x ∷ xs) f h = (of_weaker P Q (dispatch_in x.event x.answer) f h.0, all_of_weaker P Q xs f h.1)

here_same : (P : Cause → Type 0) (of of' : ℕ → ℕ → ℕ) (n : ℕ) (x : Option Dispatched) → ((c : Cause) → P c → of' c.device c.number ≡ of c.device c.number) → IsOf P x → told_here of' n x ≡ told_here of n x
here_same P of of' n None same h = refl
here_same P of of' n (Some x) same h = ap (λ k. cond (eqb k n) x.steps 0) (same x.cause h)

pub steps_same : (P : Cause → Type 0) (of of' : ℕ → ℕ → ℕ) (n : ℕ) (hs : List Happening) → ((c : Cause) → P c → of' c.device c.number ≡ of c.device c.number) → AreOf P hs → steps_of of' n hs ≡ steps_of of n hs
steps_same P of of' n [] same h = refl
steps_same P of of' n (x ∷ xs) same h = omega (arith, here_same P of of' n (dispatch_in x.event x.answer) same h.0, steps_same P of of' n xs same h.1)

here_none : (P : Cause → Type 0) (of : ℕ → ℕ → ℕ) (n : ℕ) (x : Option Dispatched) → ((c : Cause) → P c → of c.device c.number ≡ n → ⊥) → IsOf P x → told_here of n x ≡ 0
here_none P of n None none h = refl
here_none P of n (Some x) none h = ap (λ t. cond t x.steps 0) (ne_eqb (of x.cause.device x.cause.number) n (none x.cause h))

pub steps_none : (P : Cause → Type 0) (of : ℕ → ℕ → ℕ) (n : ℕ) (hs : List Happening) → ((c : Cause) → P c → of c.device c.number ≡ n → ⊥) → AreOf P hs → steps_of of n hs ≡ 0
steps_none P of n [] none h = refl
steps_none P of n (x ∷ xs) none h = omega (arith, here_none P of n (dispatch_in x.event x.answer) none h.0, steps_none P of n xs none h.1)

-- ---- steps that are told

-- they are one number
pub told_once : (trace : List Happening) (a : Cause) (hs : List Happening) (m n : ℕ) → Told trace a hs m → Told trace a hs n → m ≡ n
told_once trace a hs m n nothing nothing = refl
told_once trace a hs m n (adds h d hs' k e b t) (adds h' d' hs'' k' e' b' t') = let is : d ≡ d' = (let both = sym e ∙ e' in cc) in omega (arith, ap (λ (x : Dispatched). x.steps) is, told_once trace a hs' k k' t t')
told_once trace a hs m n (adds h d hs' k e b t) (passes h' d' hs'' k' e' b' t') = let is : d ≡ d' = (let both = sym e ∙ e' in cc) in absurd (b' (subst (λ (x : Dispatched). Belongs trace a x.cause) is b))
told_once trace a hs m n (adds h d hs' k e b t) (skips h' hs'' k' e' t') = (let both = sym e ∙ e' in cc)
told_once trace a hs m n (passes h d hs' k e b t) (adds h' d' hs'' k' e' b' t') = let is : d' ≡ d = (let both = sym e' ∙ e in cc) in absurd (b (subst (λ (x : Dispatched). Belongs trace a x.cause) is b'))
told_once trace a hs m n (passes h d hs' k e b t) (passes h' d' hs'' k' e' b' t') = told_once trace a hs' k k' t t'
told_once trace a hs m n (passes h d hs' k e b t) (skips h' hs'' k' e' t') = (let both = sym e ∙ e' in cc)
told_once trace a hs m n (skips h hs' k e t) (adds h' d' hs'' k' e' b' t') = (let both = sym e ∙ e' in cc)
told_once trace a hs m n (skips h hs' k e t) (passes h' d' hs'' k' e' b' t') = (let both = sym e ∙ e' in cc)
told_once trace a hs m n (skips h hs' k e t) (skips h' hs'' k' e' t') = told_once trace a hs' k k' t t'
