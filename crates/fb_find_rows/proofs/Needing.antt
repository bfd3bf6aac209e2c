-- The needs of a resource's leaves, one after another.
use Rattle.std.proofs.Common.{◌≡◌, ◌≤◌, ◌<◌, ◌+◌, ℕ, suc, refl, sym, ap, subst, ◌∙◌, arith, min, List, [], ◌∷◌, drop, length, get_or}
use Rattle.std.specs.Prelude.{max}
use Rattle.std.specs.List.{AllByRecursion}
use Rattle.std.proofs.Math.Nat.{le-max_left, le-max_right, max-le}
use Rattle.fb_model.specs.Names.{Name, Path, at_place}
use Rattle.fb_model.specs.Wires as wires
use Rattle.fb_model.specs.Certificates as book
use Rattle.fb_model.specs.Certificates.{kind_arrivals}
use Rattle.fb_cert.specs.declared.certificate.Certificate.{Certificate}
use Rattle.fb_cert.specs.Views.{certificate_of}
use Rattle.fb_flat.specs.declared.flat.Leaf.{Leaf}
use Rattle.fb_flat.specs.Tables.{IsLeaf, AreLeaves}
use Rattle.fb_check_rows.specs.Depths.{IsBegin, IsMost}
use Rattle.fb_model.specs.Finding.{begins_of}
use Rattle.fb_check_rows.proofs.Beginning.{found, none_left}
use Rattle.fb_model.specs.Finding.{arrival_of, most_arrival, most_at, needed_depth}

-- ---- an arrival

at_most : (cert : book.Certificate) (path : Path) (es : List Name) (m : ℕ) → AllByRecursion (λ e. (book.places_of cert).weight (at_place path e) ≤ m) es → most_at cert path es ≤ m
at_most cert path [] m h = omega arith
at_most cert path (e ∷ es) m h = max-le h.0 (at_most cert path es m h.1)

pub all_at : (cert : book.Certificate) (path : Path) (es : List Name) (m : ℕ) → most_at cert path es ≤ m → AllByRecursion (λ e. (book.places_of cert).weight (at_place path e) ≤ m) es
all_at cert path [] m h = tt
all_at cert path (e ∷ es) m h =
    let w = (book.places_of cert).weight (at_place path e) in
    let a = le-max_left w (most_at cert path es) in
    let b = le-max_right w (most_at cert path es) in
    (omega (arith, a, h), all_at cert path es m (omega (arith, b, h)))

pub arrival_is : (cert : Certificate) (l : Leaf) (n : ℕ) → IsMost cert l n → (leaf : wires.Leaf) → IsLeaf l leaf → n ≡ arrival_of (certificate_of cert) leaf
arrival_is cert l n h leaf is =
    let c = certificate_of cert in
    let m = arrival_of c leaf in
    let up : n ≤ m = (h leaf is m).1 (all_at c leaf.path (kind_arrivals leaf.kind) m (omega arith)) in
    let down : m ≤ n = at_most c leaf.path (kind_arrivals leaf.kind) n ((h leaf is n).0 (omega arith)) in
    omega (arith, up, down)

-- ---- one leaf after another

-- what is reckoned so far, and the leaves from here on, make what all need
pub record IsReckoned (cert : Certificate) (ls : List Leaf) (k most begins : ℕ) (all : List wires.Leaf) : Type 0 where
  pub arrivals : max most (most_arrival (certificate_of cert) (drop k all)) ≡ max 1 (most_arrival (certificate_of cert) all)
  pub begun : min (begins + begins_of (certificate_of cert) (drop k all)) 18446744073709551615 ≡ min (begins_of (certificate_of cert) all) 18446744073709551615

abbrev pub AreReckoned : Certificate → List Leaf → ℕ → ℕ → ℕ → Type 0
AreReckoned cert ls k most begins = (all : List wires.Leaf) → AreLeaves ls all → IsReckoned cert ls k most begins all

pub reckoned_first : (cert : Certificate) (ls : List Leaf) → AreReckoned cert ls 0 1 0
reckoned_first cert ls all a = record { arrivals = refl; begun = let e : 0 + begins_of (certificate_of cert) all ≡ begins_of (certificate_of cert) all = omega arith in ap (λ m. min m 18446744073709551615) e }

max_turn : (a n r : ℕ) → max (max a n) r ≡ max a (max n r)
max_turn a n r =
    let x = le-max_left a n in
    let y = le-max_right a n in
    let z = le-max_left (max a n) r in
    let w = le-max_right (max a n) r in
    let p = le-max_left n r in
    let q = le-max_right n r in
    let s = le-max_left a (max n r) in
    let t = le-max_right a (max n r) in
    let up : max (max a n) r ≤ max a (max n r) = max-le (max-le s (omega (arith, p, t))) (omega (arith, q, t)) in
    let down : max a (max n r) ≤ max (max a n) r = max-le (omega (arith, x, z)) (max-le (omega (arith, y, z)) w) in
    omega (arith, up, down)

min_turn : (a n r u : ℕ) → min (min (a + n) u + r) u ≡ min (a + (n + r)) u
min_turn a n r u = omega arith

pub reckoned_on : (cert : Certificate) (ls ys : List Leaf) (k : ℕ) (l : Leaf) (most begins n b more : ℕ) → ys ≡ ls → AreReckoned cert ls k most begins → k < length ys → l ≡ get_or ys k l
    → ((leaf : wires.Leaf) → IsLeaf l leaf → n ≡ arrival_of (certificate_of cert) leaf) → IsBegin cert l b → more ≡ min (begins + b) 18446744073709551615 → AreReckoned cert ls (k + 1) (max most n) more
reckoned_on cert ls ys k l most begins n b more same so lt e arrives begun is all a =
    let c = certificate_of cert in
    let f = found ls all k l a (subst (λ zs. k < length zs) same lt) (subst (λ zs. l ≡ get_or zs k l) same e) in
    let next : k + 1 ≡ suc k = omega arith in
    let rest = drop (k + 1) all in
    let here : drop k all ≡ f.leaf ∷ rest = f.here ∙ ap (λ i. f.leaf ∷ drop i all) (sym next) in
    let r = so all a in
    record {
      arrivals = max_turn most n (most_arrival c rest) ∙ ap (λ m. max most (max m (most_arrival c rest))) (arrives f.leaf f.is) ∙ ap (λ xs. max most (most_arrival c xs)) (sym here) ∙ r.arrivals;
      begun =
          ap (λ m. min (m + begins_of c rest) 18446744073709551615) is ∙ min_turn begins b (begins_of c rest) 18446744073709551615
          ∙ ap (λ m. min (begins + (m + begins_of c rest)) 18446744073709551615) (sym (begun f.leaf f.is)) ∙ ap (λ xs. min (begins + begins_of c xs) 18446744073709551615) (sym here) ∙ r.begun;
    }

whole : (m x b y u : ℕ) → m ≡ x → m ≤ u → min b u ≡ min y u → b ≤ u → max m b ≡ min (max x y) u
whole m x b y u e lm f lb = omega (arith, e, lm, f, lb)

pub reckoned_last : (cert : Certificate) (ls ys : List Leaf) (k most begins r : ℕ) → ys ≡ ls → length ys ≤ k → r ≡ max most begins → r < 18446744073709551616 → AreReckoned cert ls k most begins
    → (all : List wires.Leaf) → AreLeaves ls all → r ≡ min (needed_depth (certificate_of cert) all) 18446744073709551615
reckoned_last cert ls ys k most begins r same le e lt so all a =
    let c = certificate_of cert in
    let none : drop k all ≡ [] = none_left ls all k a (subst (λ zs. length zs ≤ k) same le) in
    let s = so all a in
    let lm : most ≤ 18446744073709551615 = let o = le-max_left most begins in omega (arith, o, e, lt) in
    let lb : begins ≤ 18446744073709551615 = let o = le-max_right most begins in omega (arith, o, e, lt) in
    let m : max most 0 ≡ max 1 (most_arrival c all) = subst (λ (xs : List wires.Leaf). max most (most_arrival c xs) ≡ max 1 (most_arrival c all)) none s.arrivals in
    let b : min (begins + 0) 18446744073709551615 ≡ min (begins_of c all) 18446744073709551615 = subst (λ (xs : List wires.Leaf). min (begins + begins_of c xs) 18446744073709551615 ≡ min (begins_of c all) 18446744073709551615) none s.begun in
    e ∙ whole most (max 1 (most_arrival c all)) begins (begins_of c all) 18446744073709551615 (omega (arith, m)) lm (omega (arith, b)) lb
