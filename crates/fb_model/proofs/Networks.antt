-- The channels of leaves, and what pays for their datagrams.
use Rattle.std.specs.Prelude.{◌||◌, nat_lt}
use Rattle.std.proofs.Common.{ℕ, ◌≡◌, ◌+◌, ◌*◌, ◌<◌, ◌≤◌, ◌==◌, Bool, true, false, List, [], ◌∷◌, Option, Some, None, refl, sym, ◌∙◌, ap, subst, arith, if◌then◌else◌}
use Rattle.std.specs.List.{list_any, AllByRecursion}
use Rattle.std.proofs.lemmas.Bool.{eqb-true}
use Rattle.std.proofs.lemmas.List.Sums.{sum_by-cons, sum_by-append}
use Rattle.fb_model.specs.Names.{at_place}
use Rattle.fb_model.specs.Services.{arrive}
use Rattle.fb_model.specs.System.{Device, System, Service}
use Rattle.fb_model.specs.Wires.{Kind, Charted, Serviced, Leaf, leaves}
use Rattle.fb_model.specs.Certificates.{Certificate, Column, far_of, all_leaves, admissions, channel_load, FarFits, channel_in, with_number, channels_of}
use Rattle.fb_model.specs.Devices.{is_subscriber, first_leaf, subscriber_of}
use Rattle.fb_model.specs.World.{far_arrival, over_devices, allowed, PaysFar}

-- ---- numbers that go upwards

abbrev pub is_one : ℕ → List ℕ → Bool
is_one c ns = list_any (λ n. c == n) ns

abbrev pub AreRising : List ℕ → Type 0
AreRising [] = Unit {0}
AreRising (n ∷ ns) = AllByRecursion (λ m. n < m) ns × AreRising ns

or_again : (a b : Bool) → (a || b) ≡ (a || (a || b))
or_again true b = refl
or_again false b = refl

or_swap : (a b c : Bool) → (a || (b || c)) ≡ (b || (a || c))
or_swap true true c = refl
or_swap true false c = refl
or_swap false true c = refl
or_swap false false c = refl

pub number_same : (n : ℕ) → (n == n) ≡ true
number_same n = grind arith

pub number_turned : (m n : ℕ) → (m == n) ≡ (n == m)
number_turned m n = grind arith

number_other : (m n : ℕ) → m < n → (m == n) ≡ false
number_other m n h = grind arith

-- what is among numbers with one more
pub among_with : (c n : ℕ) (ns : List ℕ) → is_one c (with_number n ns) ≡ ((c == n) || is_one c ns)
among_with c n [] = refl
among_with c n (m ∷ ms) = by (n == m) (nat_lt n m) refl (among_with c n ms) where
  by : (a b : Bool) → (n == m) ≡ a → is_one c (with_number n ms) ≡ ((c == n) || is_one c ms)
      → is_one c (if a then m ∷ ms else if b then n ∷ m ∷ ms else m ∷ with_number n ms) ≡ ((c == n) || ((c == m) || is_one c ms))
  by true b e h = or_again (c == m) (is_one c ms) ∙ ap (λ k. (c == k) || ((c == m) || is_one c ms)) (sym (eqb-true n m e))
  by false true e h = refl
  by false false e h = ap (λ x. (c == m) || x) h ∙ or_swap (c == m) (c == n) (is_one c ms)

all_with : (P : ℕ → Type 0) (n : ℕ) (ns : List ℕ) → P n → AllByRecursion P ns → AllByRecursion P (with_number n ns)
all_with P n [] p h = (p, tt)
all_with P n (m ∷ ms) p h = by (n == m) (nat_lt n m) (all_with P n ms p h.1) where
  by : (a b : Bool) → AllByRecursion P (with_number n ms) → AllByRecursion P (if a then m ∷ ms else if b then n ∷ m ∷ ms else m ∷ with_number n ms)
  by true b k = h
  by false true k = (p, h)
  by false false k = (h.0, k)

above_more : (m n : ℕ) (ns : List ℕ) → m < n → AllByRecursion (λ k. n < k) ns → AllByRecursion (λ k. m < k) ns
above_more m n [] l h = tt
above_more m n (k ∷ ks) l h = (omega (arith, l, h.0), above_more m n ks l h.1)

no_less : (n m : ℕ) → (n == m) ≡ false → nat_lt n m ≡ false → m < n
no_less n m e l = grind arith

less : (n m : ℕ) → nat_lt n m ≡ true → n < m
less n m l = grind arith

pub with_rising : (n : ℕ) (ns : List ℕ) → AreRising ns → AreRising (with_number n ns)
with_rising n [] h = (tt, tt)
with_rising n (m ∷ ms) h = by (n == m) (nat_lt n m) refl refl (with_rising n ms h.1) where
  by : (a b : Bool) → (n == m) ≡ a → nat_lt n m ≡ b → AreRising (with_number n ms) → AreRising (if a then m ∷ ms else if b then n ∷ m ∷ ms else m ∷ with_number n ms)
  by true b e l k = h
  by false true e l k = let lt = less n m l in ((lt, above_more n m ms lt h.0), h)
  by false false e l k = (all_with (λ j. m < j) n ms (no_less n m e l) h.0, k)

pub channels_rise : (all : List Leaf) → AreRising (channels_of all)
channels_rise [] = tt
channels_rise (leaf ∷ rest) = by (channel_in leaf.kind) (channels_rise rest) where
  by : (o : Option ℕ) → AreRising (channels_of rest) → AreRising (elim o [ None ↦ channels_of rest | Some c ↦ with_number c (channels_of rest) ])
  by None h = h
  by (Some c) h = with_rising c (channels_of rest) h

-- a number below all is not among them
pub below_all : (n : ℕ) (ns : List ℕ) → AllByRecursion (λ m. n < m) ns → is_one n ns ≡ false
below_all n [] h = refl
below_all n (m ∷ ms) h = rw (number_other n m h.0) (below_all n ms h.1)

one_above : (c n : ℕ) (ns : List ℕ) → AllByRecursion (λ m. n < m) ns → is_one c ns ≡ true → n < c
one_above c n [] h e = absurd cc
one_above c n (m ∷ ms) h e = by (c == m) refl e (one_above c n ms h.1) where
  by : (b : Bool) → (c == m) ≡ b → (b || is_one c ms) ≡ true → (is_one c ms ≡ true → n < c) → n < c
  by true f e k = subst (λ i. n < i) (sym (eqb-true c m f)) h.0
  by false f e k = k e

-- numbers that go upwards are told by what is among them
pub rising_same : (ns ms : List ℕ) → AreRising ns → AreRising ms → ((c : ℕ) → is_one c ns ≡ is_one c ms) → ns ≡ ms
rising_same [] [] h k e = refl
rising_same [] (m ∷ ms) h k e = absurd (let z : (m == m) ≡ true = number_same m in let f : false ≡ ((m == m) || is_one m ms) = e m in let g : false ≡ true = f ∙ ap (λ b. b || is_one m ms) z in cc)
rising_same (n ∷ ns) [] h k e = absurd (let z : (n == n) ≡ true = number_same n in let f : ((n == n) || is_one n ns) ≡ false = e n in let g : true ≡ false = ap (λ b. b || is_one n ns) (sym z) ∙ f in cc)
rising_same (n ∷ ns) (m ∷ ms) h k e = by (n == m) refl (rising_same ns ms h.1 k.1) where
  first_in : is_one n (m ∷ ms) ≡ true
  first_in = sym (e n) ∙ ap (λ b. b || is_one n ns) (number_same n)

  other_in : is_one m (n ∷ ns) ≡ true
  other_in = e m ∙ ap (λ b. b || is_one m ms) (number_same m)

  rests : n ≡ m → (c : ℕ) → is_one c ns ≡ is_one c ms
  rests s c = at (c == n) refl (e c) where
    at : (b : Bool) → (c == n) ≡ b → ((c == n) || is_one c ns) ≡ ((c == m) || is_one c ms) → is_one c ns ≡ is_one c ms
    at true t f =
        let i : c ≡ n = eqb-true c n t in
        let x : is_one n ns ≡ false = below_all n ns h.0 in
        let y : is_one m ms ≡ false = below_all m ms k.0 in
        ap (λ j. is_one j ns) i ∙ (x ∙ (sym y ∙ ap (λ j. is_one j ms) (sym (i ∙ s))))
    at false t f =
        let u : (c == m) ≡ false = ap (λ j. c == j) (sym s) ∙ t in
        ap (λ b. b || is_one c ns) (sym t) ∙ (f ∙ ap (λ b. b || is_one c ms) u)

  by : (b : Bool) → (n == m) ≡ b → (((c : ℕ) → is_one c ns ≡ is_one c ms) → ns ≡ ms) → n ∷ ns ≡ m ∷ ms
  by true t next = let s : n ≡ m = eqb-true n m t in ap (λ j. j ∷ ns) s ∙ ap (λ xs. m ∷ xs) (next (rests s))
  by false t next =
      let a : is_one n ms ≡ true = ap (λ b. b || is_one n ms) (sym t) ∙ first_in in
      let u : (m == n) ≡ false = number_turned m n ∙ t in
      let b : is_one m ns ≡ true = ap (λ b. b || is_one m ns) (sym u) ∙ other_in in
      let l = one_above n m ms k.0 a in
      let g = one_above m n ns h.0 b in
      absurd (omega (arith, l, g))

-- ---- what a datagram of a channel costs

-- nothing is admitted where the channel is not named
pub none_admitted : (r c : ℕ) (kind : Kind) → ((n : ℕ) → channel_in kind ≡ Some n → (c == n) ≡ false) → admissions r c kind ≡ 0
none_admitted r c (Charted block) h = refl
none_admitted r c (Serviced (Service.Input number types)) h = refl
none_admitted r c (Serviced (Service.Output number types)) h = refl
none_admitted r c (Serviced (Service.Publish channel types)) h = refl
none_admitted r c (Serviced (Service.Subscribe channel types)) h = rw (number_turned channel.number c ∙ h channel.number refl) refl
none_admitted r c (Serviced Service.Delay) h = refl
none_admitted r c (Serviced Service.Cycle) h = refl
none_admitted r c (Serviced Service.Restart) h = refl

pub unnamed_load : (col : Column) (r c : ℕ) (all : List Leaf) → is_one c (channels_of all) ≡ false → channel_load col r c all ≡ 0
unnamed_load col r c [] h = refl
unnamed_load col r c (leaf ∷ rest) h =
    let p = by (channel_in leaf.kind) refl h in
    let here = sum_by-cons (λ (leaf : Leaf). admissions r c leaf.kind * col.weight (at_place leaf.path arrive)) leaf rest in
    let no : admissions r c leaf.kind * col.weight (at_place leaf.path arrive) ≡ 0 = rw p.0 (omega arith) in
    omega (arith, here, no, unnamed_load col r c rest p.1)
  where
    by : (o : Option ℕ) → channel_in leaf.kind ≡ o → is_one c (elim o [ None ↦ channels_of rest | Some n ↦ with_number n (channels_of rest) ]) ≡ false → (admissions r c leaf.kind ≡ 0) × (is_one c (channels_of rest) ≡ false)
    by None e h = (none_admitted r c leaf.kind (λ n f. let z : None ≡ Some n = sym e ∙ f in absurd cc), h)
    by (Some m) e h =
        let both : ((c == m) || is_one c (channels_of rest)) ≡ false = sym (among_with c m (channels_of rest)) ∙ h in
        let p = neither (c == m) (is_one c (channels_of rest)) both in
        (none_admitted r c leaf.kind (λ n f. let z : Some m ≡ Some n = sym e ∙ f in let i : m ≡ n = cc in ap (λ k. c == k) (sym i) ∙ p.0), p.1)
      where
        neither : (a b : Bool) → (a || b) ≡ false → (a ≡ false) × (b ≡ false)
        neither true b e = absurd cc
        neither false b e = (refl, e)

-- ---- one device

device_load : (cert : Certificate) (r c : ℕ) (all : List Leaf) → allowed r c (first_leaf (is_subscriber c) all) * far_arrival cert (first_leaf (is_subscriber c) all) ≤ channel_load (far_of cert) r c all
device_load cert r c [] = omega arith
device_load cert r c (leaf ∷ rest) =
    let here = sum_by-cons (λ (leaf : Leaf). admissions r c leaf.kind * (far_of cert).weight (at_place leaf.path arrive)) leaf rest in
    by (is_subscriber c leaf.kind) here (device_load cert r c rest)
  where
    by : (b : Bool) → channel_load (far_of cert) r c (leaf ∷ rest) ≡ admissions r c leaf.kind * (far_of cert).weight (at_place leaf.path arrive) + channel_load (far_of cert) r c rest
        → allowed r c (first_leaf (is_subscriber c) rest) * far_arrival cert (first_leaf (is_subscriber c) rest) ≤ channel_load (far_of cert) r c rest
        → allowed r c (if b then Some leaf else first_leaf (is_subscriber c) rest) * far_arrival cert (if b then Some leaf else first_leaf (is_subscriber c) rest) ≤ channel_load (far_of cert) r c (leaf ∷ rest)
    by true s k = omega (arith, s)
    by false s k = omega (arith, s, k)

devices_load : (cert : Certificate) (r c : ℕ) (ds : List Device) (d : ℕ) → over_devices (λ device d. allowed r c (subscriber_of device c) * far_arrival cert (subscriber_of device c)) ds d ≤ channel_load (far_of cert) r c (all_leaves ds)
devices_load cert r c [] d = omega arith
devices_load cert r c (x ∷ xs) d =
    let here = device_load cert r c (leaves x) in
    let rest = devices_load cert r c xs (d + 1) in
    let both = sum_by-append (λ (leaf : Leaf). admissions r c leaf.kind * (far_of cert).weight (at_place leaf.path arrive)) (leaves x) (all_leaves xs) in
    omega (arith, here, rest, both)

-- what fits pays for the deliveries of its channels
pub fits_pays : (system : System) (cert : Certificate) (repeats : ℕ) → FarFits cert repeats system → PaysFar system cert repeats
fits_pays system cert repeats fits = record {
  devices = fits.devices;
  channels = λ c. let a = devices_load cert repeats c system.devices 0 in let b = fits.channels c in omega (arith, a, b);
}
