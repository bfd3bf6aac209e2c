-- Demands, closed walks and least numbers, over plain lists.
use Rattle.std.proofs.Common.{ℕ, zero, suc, ◌≡◌, ◌≢◌, ◌+◌, ◌-◌, ◌<◌, ◌≤◌, ◌⊎◌, max, List, [], ◌∷◌, ◌++◌, length, take, map, slice_index, slice_index_or, refl, sym, ◌∙◌, ap, subst, inl, inr, arith, Contains, nat_eq, length-append, add-zero, zero-add, if◌then◌else◌, Vec}
use Rattle.std.specs.List.{sum_by}
use Rattle.std.proofs.lemmas.Bool.{cases_eq, cases_lt, eq-eqb, ne_eqb}
use Rattle.std.proofs.lemmas.List.{take_more, map_more, get_or-map, length-map, append_assoc, append-nil, get_or_past, get_or_at, take_at}
use Rattle.std.proofs.lemmas.List.Sums.{sum_by-cons, sum_by_more, sum_by-take-le}
use Rattle.std.proofs.lemmas.List.Elements.{Contains-append_left, Contains-append_right, Contains-append_cases, Contains-push, Contains-push_cases}
use Rattle.std.specs.Global.{Global}
use Rattle.fb_find_graph.specs.declared.system.Alternative.{Alternative}
use Rattle.fb_find_graph.specs.Views.{inequality_of, system_of}
use Rattle.fb_find_graph.specs.Graphs.{row, HasEdge, InRange, IsOrder, IsClosed}
use Rattle.fb_find_graph.specs.Systems.{Inequality, System, inequalities, asks, Fits, IsLeast, Demands, IsSystem, IsPaying, IsClosedWalk, HasNoFit, needed, needs, IsGreatest, IsSolving}

pub Contains-here : {X : Type 0} (x : X) (xs : List X) → Contains (x ∷ xs) x
Contains-here x xs = (0, omega arith, refl)

pub Contains-later : {X : Type 0} (x : X) (xs : List X) (y : X) → Contains xs y → Contains (x ∷ xs) y
Contains-later x xs y h = Contains-append_right (x ∷ []) xs y h

pub Contains-cons_cases : {X : Type 0} (x : X) (xs : List X) (y : X) → Contains (x ∷ xs) y → (x ≡ y) ⊎ Contains xs y
Contains-cons_cases x xs y h = elim (Contains-append_cases (x ∷ []) xs y h) [
  | inl w ↦ elim (Contains-push_cases [] x y w) [ inl v ↦ absurd (omega (arith, v.1)) | inr v ↦ inl v ]
  | inr w ↦ inr w
]

-- what is needed is a term of an inequality
pub needed_from : (as' : List Inequality) (q : ℕ) → Contains (needed as') q → (a : Inequality) × Contains as' a × Contains a.terms q
needed_from [] q h = absurd (omega (arith, h.1))
needed_from (a ∷ as') q h = elim (Contains-append_cases a.terms (needed as') q h) [
  | inl w ↦ (a, Contains-here a as', w)
  | inr w ↦ let r = needed_from as' q w in (r.0, Contains-later a as' r.0 r.1, r.2)
]

pub needed_to : (as' : List Inequality) (a : Inequality) (q : ℕ) → Contains as' a → Contains a.terms q → Contains (needed as') q
needed_to [] a q h t = absurd (omega (arith, h.1))
needed_to (b ∷ as') a q h t = elim (Contains-cons_cases b as' a h) [
  | inl w ↦ Contains-append_left b.terms (needed as') q (subst (λ (x : Inequality). Contains x.terms q) (sym w) t)
  | inr w ↦ Contains-append_right b.terms (needed as') q (needed_to as' a q w t)
]

pub row-needs : (system : System) (p : ℕ) → row (needs system) p ≡ needed (inequalities system p)
row-needs system p = elim (cases_lt p (length system)) [
  | inl h ↦ get_or-map needed system p [] [] h
  | inr h ↦ get_or_past (needs system) p [] (rw (length-map system needed) h) ∙ sym (ap needed (get_or_past system p [] h))
]

pub edge_to : (system : System) (p q k : ℕ) → Demands system p q k → HasEdge (needs system) p q
edge_to system p q k d = rw (row-needs system p) (needed_to (inequalities system p) d.0 q d.1 d.2)

pub edge_from : (system : System) (p q : ℕ) → HasEdge (needs system) p q → (k : ℕ) × Demands system p q k
edge_from system p q h = let r = needed_from (inequalities system p) q (rw (row-needs system p) at h) in (r.0.constant, (r.0, r.1, r.2, refl))

pub needs_in_range : (system : System) → IsSystem system → InRange (needs system)
needs_in_range system s p q h = let d = edge_from system p q h in rw (length-map system needed) (s.known p q d.0 d.1)

-- right sides grow with the numbers
pub sum_le : (x y : ℕ → ℕ) → ((q : ℕ) → x q ≤ y q) → (ts : List ℕ) → sum_by x ts ≤ sum_by y ts
sum_le x y h [] = omega arith
sum_le x y h (t ∷ ts) = omega (arith, h t, sum_le x y h ts, sum_by-cons x t ts, sum_by-cons y t ts)

pub asks_le : (x y : ℕ → ℕ) (a : Inequality) → ((q : ℕ) → x q ≤ y q) → asks x a ≤ asks y a
asks_le x y a h = omega (arith, sum_le x y h a.terms)

pub sum_same : (x y : ℕ → ℕ) (ts : List ℕ) → ((q : ℕ) → Contains ts q → x q ≡ y q) → sum_by x ts ≡ sum_by y ts
sum_same x y [] h = refl
sum_same x y (t ∷ ts) h = omega (arith, h t (Contains-here t ts), sum_same x y ts (λ q w. h q (Contains-later t ts q w)), sum_by-cons x t ts, sum_by-cons y t ts)

pub asks_same : (x y : ℕ → ℕ) (a : Inequality) → ((q : ℕ) → Contains a.terms q → x q ≡ y q) → asks x a ≡ asks y a
asks_same x y a h = ap (λ n. a.constant + n) (sum_same x y a.terms h)

-- a term is at most the sum
pub term_le : (x : ℕ → ℕ) (ts : List ℕ) (q : ℕ) → Contains ts q → x q ≤ sum_by x ts
term_le x [] q h = absurd (omega (arith, h.1))
term_le x (t ∷ ts) q h = elim (Contains-cons_cases t ts q h) [
  | inl w ↦ rw (← w) (omega (arith, sum_by-cons x t ts))
  | inr w ↦ omega (arith, term_le x ts q w, sum_by-cons x t ts)
]

-- x is then at least k + y
pub demand_le : (system : System) (x : ℕ → ℕ) (p q k : ℕ) → Fits system x → Demands system p q k → k + x q ≤ x p
demand_le system x p q k f d = omega (arith, term_le x d.0.terms q d.2, f p d.0 d.1, d.3)

-- along a walk the numbers never rise
pub walk_le : (system : System) (walk : List ℕ) (x : ℕ → ℕ) → IsClosedWalk system walk → Fits system x → (n j : ℕ) → j + n < length walk → x (slice_index walk (j + n)) ≤ x (slice_index walk j)
walk_le system walk x w f zero j h = rw add-zero (omega arith)
walk_le system walk x w f (suc n) j h =
    let d = w.chain j (omega (arith, h)) in
    let step = demand_le system x (slice_index walk j) (slice_index walk (j + 1)) d.0 f d.1 in
    let e : j + 1 + n ≡ j + suc n = omega arith in
    let rest = walk_le system walk x w f n (j + 1) (omega (arith, h)) in
    subst (λ (i : ℕ). x (slice_index walk i) ≤ x (slice_index walk j)) e (omega (arith, step, rest))

-- a closed walk of demands excludes all numbers
pub closed_excludes : (system : System) (walk : List ℕ) → IsClosedWalk system walk → HasNoFit system
closed_excludes system walk w x f =
    let k = w.paid.0 in
    let step = demand_le system x (slice_index walk k) (slice_index walk (k + 1)) w.paid.1 f w.paid.3 in
    let head : x (slice_index walk k) ≤ x (slice_index walk 0) = subst (λ (i : ℕ). x (slice_index walk i) ≤ x (slice_index walk 0)) (zero-add k) (walk_le system walk x w f k 0 (omega (arith, w.paid.2))) in
    let e : k + 1 + (length walk - (k + 2)) ≡ length walk - 1 = omega (arith, w.paid.2) in
    let tail : x (slice_index walk (length walk - 1)) ≤ x (slice_index walk (k + 1)) = subst (λ (i : ℕ). x (slice_index walk i) ≤ x (slice_index walk (k + 1))) e (walk_le system walk x w f (length walk - (k + 2)) (k + 1) (omega (arith, w.paid.2))) in
    let same : x (slice_index walk 0) ≡ x (slice_index walk (length walk - 1)) = ap x w.closes in
    omega (arith, step, head, tail, same, w.paid.4)

-- a closed walk of the graph is one of demands, and pays
pub walk_of : (system : System) (walk : List ℕ) → IsPaying system → IsClosed (needs system) walk → IsClosedWalk system walk
walk_of system walk s w =
    let chain : (k : ℕ) → k + 1 < length walk → (c : ℕ) × Demands system (slice_index walk k) (slice_index walk (k + 1)) c = λ k h. edge_from system (slice_index walk k) (slice_index walk (k + 1)) (w.chain k h) in
    record {
      long = w.long;
      chain = chain;
      closes = w.closes;
      once = w.once;
      paid = elim (cases_lt 2 (length walk)) [
        | inl l ↦ paid_by chain 0 1 (omega (arith, l)) (omega (arith, l)) refl
        | inr g ↦ paid_by chain 0 0 (omega (arith, w.long)) (omega (arith, w.long)) (let e : length walk - 1 ≡ 1 = omega (arith, w.long, g) in ap (λ i. slice_index walk i) (sym e) ∙ sym w.closes)
      ];
    }
  where
    paid_by : ((k : ℕ) → k + 1 < length walk → (c : ℕ) × Demands system (slice_index walk k) (slice_index walk (k + 1)) c) → (i j : ℕ) → i + 1 < length walk → j + 1 < length walk → slice_index walk (i + 1) ≡ slice_index walk j → (k c : ℕ) × (k + 1 < length walk) × Demands system (slice_index walk k) (slice_index walk (k + 1)) c × (0 < c)
    paid_by chain i j h l e =
        let a = chain i h in
        let b = chain j l in
        let p : 0 < a.0 + b.0 = s (slice_index walk i) (slice_index walk j) (slice_index walk (j + 1)) a.0 b.0 (subst (λ (x : ℕ). Demands system (slice_index walk i) x a.0) e a.1) b.1 in
        elim (cases_lt 0 a.0) [
          | inl n ↦ (i, a.0, h, a.1, n)
          | inr n ↦ (j, b.0, l, b.1, omega (arith, p, n))
        ]

-- nothing is done, and all numbers are 0
pub nothing_solved : (system : System) (x : ℕ → ℕ) → ((q : ℕ) → x q ≡ 0) → IsSolving system [] x
nothing_solved system x z = record {
  fits = λ p a h g. absurd (omega (arith, h.1));
  closed = λ p q h g. absurd (omega (arith, h.1));
  least = λ y f p. omega (arith, z p);
}

-- one more place, whose demands are done, takes the greatest of its right sides
pub solve_more : (system : System) (done : List ℕ) (x y : ℕ → ℕ) (p v : ℕ) → IsSolving system done x → (Contains done p → ⊥) → ((q : ℕ) → Contains (needed (inequalities system p)) q → Contains done q) → IsGreatest x (inequalities system p) v → y p ≡ v → ((q : ℕ) → q ≢ p → y q ≡ x q) → IsSolving system (done ++ p ∷ []) y
solve_more system done x y p v s new inn g at other =
    let same : (q : ℕ) → Contains done q → y q ≡ x q = λ q h. other q (λ e. new (subst (λ (z : ℕ). Contains done z) e h)) in
    record {
      fits = λ q a h k. elim (Contains-push_cases done p q h) [
        | inl w ↦ let e = asks_same y x a (λ t m. same t (s.closed q t w (needed_to (inequalities system q) a t k m))) in omega (arith, e, same q w, s.fits q a w k)
        | inr w ↦ let m : Contains (inequalities system p) a = subst (λ (z : ℕ). Contains (inequalities system z) a) (sym w) k in let e = asks_same y x a (λ t n. same t (inn t (needed_to (inequalities system p) a t m n))) in let f : y p ≡ y q = ap y w in omega (arith, e, at, f, g.above a m)
      ];
      closed = λ q t h k. Contains-append_left done (p ∷ []) t (elim (Contains-push_cases done p q h) [
        | inl w ↦ s.closed q t w k
        | inr w ↦ inn t (subst (λ (z : ℕ). Contains (needed (inequalities system z)) t) (sym w) k)
      ]);
      least = λ z f q. elim (cases_eq q p) [
        | inl e ↦ let l : v ≤ z p = g.least (z p) (λ a h. let i = asks_le x z a (s.least z f) in omega (arith, i, f p a h)) in let a : y q ≡ y p = ap y e in let b : z q ≡ z p = ap z e in omega (arith, l, a, b, at)
        | inr n ↦ omega (arith, other q n, s.least z f q)
      ];
    }

-- where each place is done, the numbers are the least
pub all_solved : (system : System) (done : List ℕ) (x : ℕ → ℕ) → ((p : ℕ) → p < length system → Contains done p) → IsSolving system done x → IsLeast system x
all_solved system done x every s = record {
  fits = λ p a h. elim (cases_lt p (length system)) [
    | inl l ↦ s.fits p a (every p l) h
    | inr l ↦ absurd (let e = get_or_past system p [] l in let m = rw e at h in omega (arith, m.1))
  ];
  least = s.least;
}

-- the greatest of right sides, as a number
abbrev pub greatest_of : (ℕ → ℕ) → List Inequality → ℕ
greatest_of x [] = 0
greatest_of x (a ∷ as') = max (asks x a) (greatest_of x as')

pub greatest_is : (x : ℕ → ℕ) (as' : List Inequality) → IsGreatest x as' (greatest_of x as')
greatest_is x [] = record {
  above = λ a h. absurd (omega (arith, h.1));
  least = λ m h. omega arith;
}
greatest_is x (a ∷ as') = let r = greatest_is x as' in record {
  above = λ b h. elim (Contains-cons_cases a as' b h) [
    | inl w ↦ rw (← w) (omega arith)
    | inr w ↦ omega (arith, r.above b w)
  ];
  least = λ m h. omega (arith, h a (Contains-here a as'), r.least m (λ b w. h b (Contains-later a as' b w)));
}

-- x with v at p
abbrev pub with_value : (ℕ → ℕ) → ℕ → ℕ → ℕ → ℕ
with_value x p v q = if nat_eq q p then v else x q

-- the places that are left can be solved in order
pub solve_rest : (system : System) (done rest : List ℕ) (x : ℕ → ℕ) → IsOrder (needs system) (done ++ rest) → IsSolving system done x → (y : ℕ → ℕ) × IsSolving system (done ++ rest) y
solve_rest system done [] x o s = (x, rw append-nil s)
solve_rest system done (p ∷ rest) x o s =
    let k = length done in
    let at : slice_index (done ++ p ∷ rest) k ≡ p = get_or_at done p rest 0 k refl in
    let front : take k (done ++ p ∷ rest) ≡ done = take_at done (p ∷ rest) k refl in
    let h : k < length (done ++ p ∷ rest) = omega (arith, length-append done (p ∷ rest)) in
    let same : (done ++ p ∷ []) ++ rest ≡ done ++ p ∷ rest = append_assoc done (p ∷ []) rest in
    let v = greatest_of x (inequalities system p) in
    let next : IsSolving system (done ++ p ∷ []) (with_value x p v) = solve_more system done x (with_value x p v) p v s
    (λ c. o.once k h (rw (front, at) c))
    (λ q c. rw front at (o.before k q h (rw (at, row-needs system p) c)))
    (greatest_is x (inequalities system p))
    (rw (eq-eqb p p refl) refl)
    (λ q n. rw (ne_eqb q p n) refl)
    in
    let r = solve_rest system (done ++ p ∷ []) rest (with_value x p v) (rw same o) next in
    (r.0, rw same at r.1)

-- an order has least numbers
pub order_has_least : (system : System) (order : List ℕ) → IsOrder (needs system) order → (x : ℕ → ℕ) × IsLeast system x
order_has_least system order o =
    let r = solve_rest system [] order (λ p. 0) o (nothing_solved system (λ p. 0) (λ q. refl)) in
    (r.0, all_solved system order r.0 (λ p h. o.every p (rw (length-map system needed) h)) r.1)

-- a sum that passes the limit on the way
pub past_limit : (x : ℕ → ℕ) (a : Inequality) (i limit total : ℕ) → i < length a.terms → total ≡ sum_by x (take i a.terms) → limit < total + x (slice_index a.terms i) → limit < asks x a
past_limit x a i limit total h e l = omega (arith, sum_by_more x a.terms i 0 h, sum_by-take-le x a.terms (i + 1), l, e)

pub greatest_more : (x : ℕ → ℕ) (as' : List Inequality) (a : Inequality) (m n r : ℕ) → IsGreatest x as' m → n ≡ asks x a → r ≡ max m n → IsGreatest x (as' ++ a ∷ []) r
greatest_more x as' a m n r g e f = record {
  above = λ b h. elim (Contains-push_cases as' a b h) [
    | inl w ↦ omega (arith, g.above b w, f)
    | inr w ↦ rw (← w) (omega (arith, e, f))
  ];
  least = λ k h. let i = g.least k (λ b w. h b (Contains-append_left as' (a ∷ []) b w)) in let j = h a (Contains-push as' a) in omega (arith, i, j, e, f);
}

-- what was read
pub alternative_read : (as' : List Alternative) (i : ℕ) (a : Alternative) → i < length as' → a ≡ slice_index_or as' i a → Contains (map inequality_of as') (inequality_of a)
alternative_read as' i a h e = (i, rw (length-map as' inequality_of) h, get_or-map inequality_of as' i a (inequality_of a) h ∙ ap inequality_of (sym e))

pub place_read : (places : List (Vec Alternative Global)) (p : ℕ) (v : Vec Alternative Global) → p < length places → v ≡ slice_index_or places p v → inequalities (system_of places) p ≡ map inequality_of v.items
place_read places p v h e = get_or-map (λ w. map inequality_of w.items) places p v [] h ∙ ap (λ w. map inequality_of w.items) (sym e)

pub alternatives_more : (as' : List Alternative) (i : ℕ) (a : Alternative) → i < length as' → a ≡ slice_index_or as' i a → map inequality_of (take (i + 1) as') ≡ map inequality_of (take i as') ++ inequality_of a ∷ []
alternatives_more as' i a h e = map_more inequality_of as' i a h ∙ ap (λ b. map inequality_of (take i as') ++ inequality_of b ∷ []) (sym e)

-- a place that comes next in the order
pub solve_next : (system : System) (order : List ℕ) (x y : ℕ → ℕ) (i p v : ℕ) → IsOrder (needs system) order → i < length order → p ≡ slice_index order i → IsSolving system (take i order) x → IsGreatest x (inequalities system p) v → y p ≡ v → ((q : ℕ) → q ≢ p → y q ≡ x q) → IsSolving system (take (i + 1) order) y
solve_next system order x y i p v o h e s g at other =
    rw (take_more order i 0 h, ← e) (solve_more system (take i order) x y p v s (λ c. o.once i h (rw (← e) c)) (λ q c. o.before i q h (rw (← e, row-needs system p) c)) g at other)

-- a right side that is above the limit puts the least number above it
pub above_limit : (system : System) (order done : List ℕ) (x : ℕ → ℕ) (p limit : ℕ) → IsOrder (needs system) order → IsSolving system done x → (a : Inequality) × Contains (inequalities system p) a × (limit < asks x a) → (z : ℕ → ℕ) × IsLeast system z × (limit < z p)
above_limit system order done x p limit o s w =
    let z = order_has_least system order o in
    let up = asks_le x z.0 w.0 (s.least z.0 z.1.fits) in
    (z.0, z.1, omega (arith, up, w.2, z.1.fits p w.0 w.1))
