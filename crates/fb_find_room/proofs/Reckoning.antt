-- The places of arrivals, one leaf, resource or device after another.
use Rattle.std.proofs.Common.{◌≡◌, ◌≤◌, ◌<◌, ◌+◌, ℕ, zero, suc, Bool, true, false, refl, sym, ap, subst, ◌∙◌, arith, min, List, [], ◌∷◌, ◌++◌, drop, length, get_or, string_bytes}
use Rattle.std.specs.Prelude.{if◌then◌else◌}
use Rattle.std.specs.List.{AllByRecursion}
use Rattle.std.specs.Str.{bytes_eq}
use Rattle.std.proofs.Math.Nat.{le-max_left, le-max_right, max-le}
use Rattle.fb_model.specs.Names.{Name, Path, at_place, path_eq}
use Rattle.fb_model.specs.System as system
use Rattle.fb_model.specs.Wires as wires
use Rattle.fb_model.specs.Wires.{resource_leaves}
use Rattle.fb_model.specs.Certificates as book
use Rattle.fb_model.specs.Certificates.{kind_arrivals}
use Rattle.fb_model.specs.CertificateText.{names_in}
use Rattle.fb_cert.specs.declared.certificate.Certificate.{Certificate}
use Rattle.fb_cert.specs.Views.{certificate_of}
use Rattle.fb_cert.proofs.Places.{path_same}
use Rattle.fb_flat.specs.declared.flat.Leaf.{Leaf}
use Rattle.fb_flat.specs.declared.flat.FlatResource.{FlatResource}
use Rattle.fb_flat.specs.declared.flat.FlatDevice.{FlatDevice}
use Rattle.fb_flat.specs.Tables.{IsLeaf, AreLeaves, IsResource, AreResources, IsDevice, AreDevices}
use Rattle.fb_check_rows.specs.Depths.{IsMost}
use Rattle.fb_check_rows.proofs.Beginning.{found, none_left}
use Rattle.fb_model.specs.Finding.{arrival_of, most_at}
use Rattle.fb_find_room.specs.Room.{arrivals_of, arrivals_in, arrivals_at}

-- the most that `u64` tells
abbrev pub top : ℕ
top = 18446744073709551615

-- ---- a leaf

at_most : (cert : book.Certificate) (path : Path) (es : List Name) (m : ℕ) → AllByRecursion (λ e. (book.places_of cert).weight (at_place path e) ≤ m) es → most_at cert path es ≤ m
at_most cert path [] m h = omega arith
at_most cert path (e ∷ es) m h = max-le h.0 (at_most cert path es m h.1)

all_at : (cert : book.Certificate) (path : Path) (es : List Name) (m : ℕ) → most_at cert path es ≤ m → AllByRecursion (λ e. (book.places_of cert).weight (at_place path e) ≤ m) es
all_at cert path [] m h = tt
all_at cert path (e ∷ es) m h =
    let w = (book.places_of cert).weight (at_place path e) in
    let a = le-max_left w (most_at cert path es) in
    let b = le-max_right w (most_at cert path es) in
    (omega (arith, a, h), all_at cert path es m (omega (arith, b, h)))

-- the least number that is not passed is the greatest of them
arrival_is : (cert : Certificate) (l : Leaf) (n : ℕ) → IsMost cert l n → (leaf : wires.Leaf) → IsLeaf l leaf → n ≡ arrival_of (certificate_of cert) leaf
arrival_is cert l n h leaf is =
    let c = certificate_of cert in
    let m = arrival_of c leaf in
    let up : n ≤ m = (h leaf is m).1 (all_at c leaf.path (kind_arrivals leaf.kind) m (omega arith)) in
    let down : m ≤ n = at_most c leaf.path (kind_arrivals leaf.kind) n ((h leaf is n).0 (omega arith)) in
    omega (arith, up, down)

-- ---- sums that stop at the top

sum_on : (a n r w : ℕ) → min (a + (n + r)) top ≡ w → min (min (a + n) top + r) top ≡ w
sum_on a n r w h = omega (arith, h)

sum_last : (a w : ℕ) → a ≤ top → min (a + 0) top ≡ w → a ≡ w
sum_last a w l h = omega (arith, l, h)

-- ---- the leaves of a resource

-- so many places are counted, and the leaves from here on make what all take
abbrev pub AreCounted : Certificate → List Leaf → ℕ → ℕ → Type 0
AreCounted cert ls k places = (all : List wires.Leaf) → AreLeaves ls all → min (places + arrivals_of (certificate_of cert) (drop k all)) top ≡ min (arrivals_of (certificate_of cert) all) top

pub counted_first : (cert : Certificate) (ls : List Leaf) → AreCounted cert ls 0 0
counted_first cert ls all a = ap (λ m. min m top) (zero_add (arrivals_of (certificate_of cert) all)) where
  zero_add : (n : ℕ) → 0 + n ≡ n
  zero_add n = omega arith

pub counted_on : (cert : Certificate) (ls ys : List Leaf) (k : ℕ) (l : Leaf) (places n : ℕ) → ys ≡ ls → AreCounted cert ls k places → k < length ys → l ≡ get_or ys k l → IsMost cert l n → AreCounted cert ls (k + 1) (min (places + n) top)
counted_on cert ls ys k l places n same so lt e most all a =
    let c = certificate_of cert in
    let f = found ls all k l a (subst (λ zs. k < length zs) same lt) (subst (λ zs. l ≡ get_or zs k l) same e) in
    let next : k + 1 ≡ suc k = omega arith in
    let here : drop k all ≡ f.leaf ∷ drop (k + 1) all = f.here ∙ ap (λ i. f.leaf ∷ drop i all) (sym next) in
    let rest = arrivals_of c (drop (k + 1) all) in
    sum_on places n rest (min (arrivals_of c all) top)
    (ap (λ m. min (places + (m + rest)) top) (arrival_is cert l n most f.leaf f.is) ∙ ap (λ xs. min (places + arrivals_of c xs) top) (sym here) ∙ so all a)

pub counted_last : (cert : Certificate) (ls ys : List Leaf) (k places : ℕ) → ys ≡ ls → length ys ≤ k → places ≤ top → AreCounted cert ls k places → (all : List wires.Leaf) → AreLeaves ls all → places ≡ min (arrivals_of (certificate_of cert) all) top
counted_last cert ls ys k places same le lt so all a =
    let none : drop k all ≡ [] = none_left ls all k a (subst (λ zs. length zs ≤ k) same le) in
    sum_last places (min (arrivals_of (certificate_of cert) all) top) lt (subst (λ (xs : List wires.Leaf). min (places + arrivals_of (certificate_of cert) xs) top ≡ min (arrivals_of (certificate_of cert) all) top) none (so all a))

-- ---- the resources of a device

-- the resource of the book at an index
record Here (n : ℕ) (path : Path) (f : FlatResource) (k : ℕ) (rs : List system.Resource) : Type 0 where
  r : system.Resource
  here : drop k rs ≡ r ∷ drop (suc k) rs
  is : IsResource n path f r

here_at : (n : ℕ) (path : Path) (fs : List FlatResource) (rs : List system.Resource) (k : ℕ) (f : FlatResource) → AreResources n path fs rs → k < length fs → f ≡ get_or fs k f → Here (n + k) path f k rs
here_at n path [] rs k f a lt e = absurd (omega (arith, lt))
here_at n path (x ∷ fs) [] k f a lt e = absurd a
here_at n path (x ∷ fs) (r ∷ rs) zero f a lt e =
    let z : n ≡ n + 0 = omega arith in
    record { r = r; here = refl; is = subst (λ m. IsResource m path f r) z (subst (λ y. IsResource n path y r) (sym e) a.0) }
here_at n path (x ∷ fs) (r ∷ rs) (suc k) f a lt e =
    let h = here_at (n + 1) path fs rs k f a.1 (omega (arith, lt)) e in
    let z : n + 1 + k ≡ n + suc k = omega arith in
    record { r = h.r; here = h.here; is = subst (λ m. IsResource m path f h.r) z h.is }

none_here : (n : ℕ) (path : Path) (fs : List FlatResource) (rs : List system.Resource) (k : ℕ) → AreResources n path fs rs → length fs ≤ k → drop k rs ≡ []
none_here n path [] [] zero a le = refl
none_here n path [] [] (suc k) a le = refl
none_here n path [] (r ∷ rs) k a le = absurd a
none_here n path (x ∷ fs) [] k a le = absurd a
none_here n path (x ∷ fs) (r ∷ rs) zero a le = absurd (omega (arith, le))
none_here n path (x ∷ fs) (r ∷ rs) (suc k) a le = none_here (n + 1) path fs rs k a.1 (omega (arith, le))

-- so many are counted at this path, and the resources from here on make what all take
abbrev pub AreCountedIn : Certificate → Name → FlatDevice → ℕ → ℕ → Type 0
AreCountedIn cert t f k places =
    (d : system.Device) → IsDevice f d
    → min (places + arrivals_in (certificate_of cert) (names_in t) k (d.name ∷ []) (drop k d.resources)) top ≡ min (arrivals_in (certificate_of cert) (names_in t) 0 (d.name ∷ []) d.resources) top

pub device_first : (cert : Certificate) (t : Name) (f : FlatDevice) → AreCountedIn cert t f 0 0
device_first cert t f d is = ap (λ m. min m top) (zero_add (arrivals_in (certificate_of cert) (names_in t) 0 (d.name ∷ []) d.resources)) where
  zero_add : (n : ℕ) → 0 + n ≡ n
  zero_add n = omega arith

module _ (cert : Certificate) (t : Name) (f : FlatDevice) (ys : List FlatResource) (k : ℕ) (x : FlatResource) (places : ℕ) (same : ys ≡ f.resources.items) (so : AreCountedIn cert t f k places) (lt : k < length ys) (e : x ≡ get_or ys k x) where
  -- one resource on, whether it counts or not
  step : (counts : Bool) → bytes_eq (string_bytes x.path) t ≡ counts → (more : ℕ) → ((d : system.Device) → IsDevice f d → (n : ℕ) (path : Path) (r : system.Resource) → IsResource n path x r → min (places + (if counts then arrivals_of (certificate_of cert) (resource_leaves n path r) else 0)) top ≡ more)
      → AreCountedIn cert t f (k + 1) more
  step counts is more made d id =
      let c = certificate_of cert in
      let h = here_at 0 (d.name ∷ []) f.resources.items d.resources k x id.resources (subst (λ zs. k < length zs) same lt) (subst (λ zs. x ≡ get_or zs k x) same e) in
      let next : k + 1 ≡ suc k = omega arith in
      let here : drop k d.resources ≡ h.r ∷ drop (k + 1) d.resources = h.here ∙ ap (λ i. h.r ∷ drop i d.resources) (sym next) in
      let zero_k : 0 + k ≡ k = omega arith in
      let at : IsResource k (d.name ∷ []) x h.r = subst (λ m. IsResource m (d.name ∷ []) x h.r) zero_k h.is in
      let test : path_eq (names_in t) ((d.name ∷ []) ++ h.r.name ∷ []) ≡ counts = ap (path_eq (names_in t)) (sym at.path_is) ∙ path_same t (string_bytes x.path) ∙ is in
      let own = arrivals_of c (resource_leaves k (d.name ∷ []) h.r) in
      let rest = arrivals_in c (names_in t) (k + 1) (d.name ∷ []) (drop (k + 1) d.resources) in
      let whole = min (arrivals_in c (names_in t) 0 (d.name ∷ []) d.resources) top in
      let n = if counts then own else 0 in
      let all : min (places + (n + rest)) top ≡ whole =
      ap (λ (b : Bool). min (places + ((if b then own else 0) + rest)) top) (sym test)
      ∙ ap (λ (xs : List system.Resource). min (places + arrivals_in c (names_in t) k (d.name ∷ []) xs) top) (sym here) ∙ so d id in
      subst (λ m. min (m + rest) top ≡ whole) (made d id k (d.name ∷ []) h.r at) (sum_on places n rest whole all)

  pub device_on : bytes_eq (string_bytes x.path) t ≡ true → (m : ℕ) → ((all : List wires.Leaf) → AreLeaves x.leaves.items all → m ≡ min (arrivals_of (certificate_of cert) all) top) → AreCountedIn cert t f (k + 1) (min (places + m) top)
  device_on is m own = step true is (min (places + m) top) (λ d id n path r at. by (arrivals_of (certificate_of cert) (resource_leaves n path r)) (own (resource_leaves n path r) at.leaves)) where
    by : (w : ℕ) → m ≡ min w top → min (places + w) top ≡ min (places + m) top
    by w h = omega (arith, h)

  pub device_over : bytes_eq (string_bytes x.path) t ≡ false → places ≤ top → AreCountedIn cert t f (k + 1) places
  device_over is l = step false is places (λ d id n path r at. by) where
    by : min (places + 0) top ≡ places
    by = omega (arith, l)

pub device_last : (cert : Certificate) (t : Name) (f : FlatDevice) (ys : List FlatResource) (k places : ℕ) → ys ≡ f.resources.items → length ys ≤ k → places ≤ top → AreCountedIn cert t f k places
    → (d : system.Device) → IsDevice f d → places ≡ min (arrivals_in (certificate_of cert) (names_in t) 0 (d.name ∷ []) d.resources) top
device_last cert t f ys k places same le lt so d is =
    let whole = min (arrivals_in (certificate_of cert) (names_in t) 0 (d.name ∷ []) d.resources) top in
    let none : drop k d.resources ≡ [] = none_here 0 (d.name ∷ []) f.resources.items d.resources k is.resources (subst (λ zs. length zs ≤ k) same le) in
    sum_last places whole lt (subst (λ (xs : List system.Resource). min (places + arrivals_in (certificate_of cert) (names_in t) k (d.name ∷ []) xs) top ≡ whole) none (so d is))

-- ---- devices

record There (f : FlatDevice) (k : ℕ) (ds : List system.Device) : Type 0 where
  d : system.Device
  here : drop k ds ≡ d ∷ drop (suc k) ds
  is : IsDevice f d

there_at : (fs : List FlatDevice) (ds : List system.Device) (k : ℕ) (f : FlatDevice) → AreDevices fs ds → k < length fs → f ≡ get_or fs k f → There f k ds
there_at [] ds k f a lt e = absurd (omega (arith, lt))
there_at (x ∷ fs) [] k f a lt e = absurd a
there_at (x ∷ fs) (d ∷ ds) zero f a lt e = record { d = d; here = refl; is = subst (λ y. IsDevice y d) (sym e) a.0 }
there_at (x ∷ fs) (d ∷ ds) (suc k) f a lt e = let h = there_at fs ds k f a.1 (omega (arith, lt)) e in record { d = h.d; here = h.here; is = h.is }

none_there : (fs : List FlatDevice) (ds : List system.Device) (k : ℕ) → AreDevices fs ds → length fs ≤ k → drop k ds ≡ []
none_there [] [] zero a le = refl
none_there [] [] (suc k) a le = refl
none_there [] (d ∷ ds) k a le = absurd a
none_there (x ∷ fs) [] k a le = absurd a
none_there (x ∷ fs) (d ∷ ds) zero a le = absurd (omega (arith, le))
none_there (x ∷ fs) (d ∷ ds) (suc k) a le = none_there fs ds k a.1 (omega (arith, le))

abbrev pub AreCountedAt : Certificate → Name → List FlatDevice → ℕ → ℕ → Type 0
AreCountedAt cert t fs k places = (ds : List system.Device) → AreDevices fs ds → min (places + arrivals_at (certificate_of cert) (names_in t) (drop k ds)) top ≡ min (arrivals_at (certificate_of cert) (names_in t) ds) top

pub devices_first : (cert : Certificate) (t : Name) (fs : List FlatDevice) → AreCountedAt cert t fs 0 0
devices_first cert t fs ds a = ap (λ m. min m top) (zero_add (arrivals_at (certificate_of cert) (names_in t) ds)) where
  zero_add : (n : ℕ) → 0 + n ≡ n
  zero_add n = omega arith

pub devices_on : (cert : Certificate) (t : Name) (fs ys : List FlatDevice) (k : ℕ) (x : FlatDevice) (places m : ℕ) → ys ≡ fs → AreCountedAt cert t fs k places → k < length ys → x ≡ get_or ys k x
    → ((d : system.Device) → IsDevice x d → m ≡ min (arrivals_in (certificate_of cert) (names_in t) 0 (d.name ∷ []) d.resources) top) → AreCountedAt cert t fs (k + 1) (min (places + m) top)
devices_on cert t fs ys k x places m same so lt e own ds a =
    let c = certificate_of cert in
    let h = there_at fs ds k x a (subst (λ zs. k < length zs) same lt) (subst (λ zs. x ≡ get_or zs k x) same e) in
    let next : k + 1 ≡ suc k = omega arith in
    let here : drop k ds ≡ h.d ∷ drop (k + 1) ds = h.here ∙ ap (λ i. h.d ∷ drop i ds) (sym next) in
    let n = arrivals_in c (names_in t) 0 (h.d.name ∷ []) h.d.resources in
    let rest = arrivals_at c (names_in t) (drop (k + 1) ds) in
    let whole = min (arrivals_at c (names_in t) ds) top in
    let all : min (places + (n + rest)) top ≡ whole = ap (λ (xs : List system.Device). min (places + arrivals_at c (names_in t) xs) top) (sym here) ∙ so ds a in
    by n rest whole (own h.d h.is) all
  where
    by : (n rest whole : ℕ) → m ≡ min n top → min (places + (n + rest)) top ≡ whole → min (min (places + m) top + rest) top ≡ whole
    by n rest whole e h = omega (arith, e, h)

pub devices_last : (cert : Certificate) (t : Name) (fs ys : List FlatDevice) (k places : ℕ) → ys ≡ fs → length ys ≤ k → places ≤ top → AreCountedAt cert t fs k places → (ds : List system.Device) → AreDevices fs ds
    → places ≡ min (arrivals_at (certificate_of cert) (names_in t) ds) top
devices_last cert t fs ys k places same le lt so ds a =
    let whole = min (arrivals_at (certificate_of cert) (names_in t) ds) top in
    let none : drop k ds ≡ [] = none_there fs ds k a (subst (λ zs. length zs ≤ k) same le) in
    sum_last places whole lt (subst (λ (xs : List system.Device). min (places + arrivals_at (certificate_of cert) (names_in t) xs) top ≡ whole) none (so ds a))
