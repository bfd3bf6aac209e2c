-- Demands by numbers, put together place by place, say what the demands say.
use Rattle.std.proofs.Common.{ℕ, zero, suc, ◌≡◌, ◌<◌, ◌≤◌, ◌⊎◌, inl, inr, ◌==◌, Bool, true, false, List, [], ◌∷◌, length, map, refl, sym, ◌∙◌, ap, subst, arith, Contains, if◌then◌else◌}
use Rattle.std.specs.List.{flat_map, AllByRecursion}
use Rattle.std.proofs.lemmas.Bool.{eqb-true}
use Rattle.std.proofs.lemmas.List.Elements.{Contains-append_left, Contains-append_right, Contains-append_cases}
use Rattle.fb_model.specs.Demands.{Node, Demand, IsMet}
use Rattle.fb_find_graph.specs.Systems.{Inequality, System, inequalities}
use Rattle.fb_find_laws.specs.Numbered.{AreNumbers, inequality, SaysSame, AreOf, AreLeast}
use Rattle.fb_find_laws.specs.Nodes.{Numbered, by_number, capped, asked_of, asked_at, AreGrouped, capped_demand}

-- ---- elements

-- an element of pieces is one of a piece
pub in_piece : {X Y : Type 0} (f : X → List Y) (xs : List X) (y : Y) → Contains (flat_map f xs) y → (x : X) × Contains xs x × Contains (f x) y
in_piece f [] y h = absurd (omega (arith, h.1))
in_piece f (x ∷ xs) y h = elim (Contains-append_cases (f x) (flat_map f xs) y h) [
  | inl l ↦ (x, (0, omega arith, refl), l)
  | inr r ↦ let k = in_piece f xs y r in (k.0, Contains-append_right (x ∷ []) xs k.0 k.1, k.2)
]

pub piece_in : {X Y : Type 0} (f : X → List Y) (xs : List X) (x : X) (y : Y) → Contains xs x → Contains (f x) y → Contains (flat_map f xs) y
piece_in f [] x y h k = absurd (omega (arith, h.1))
piece_in f (z ∷ xs) x y (zero, l, e) k = Contains-append_left (f z) (flat_map f xs) y (subst (λ w. Contains (f w) y) (sym e) k)
piece_in f (z ∷ xs) x y (suc n, l, e) k = Contains-append_right (f z) (flat_map f xs) y (piece_in f xs x y (n, omega (arith, l), e) k)

pub in_image : {X Y : Type 0} (f : X → Y) (xs : List X) (y : Y) → Contains (map f xs) y → (x : X) × Contains xs x × (f x ≡ y)
in_image f [] y h = absurd (omega (arith, h.1))
in_image f (x ∷ xs) y (zero, l, e) = (x, (0, omega arith, refl), e)
in_image f (x ∷ xs) y (suc n, l, e) = let k = in_image f xs y (n, omega (arith, l), e) in (k.0, Contains-append_right (x ∷ []) xs k.0 k.1, k.2)

pub image_in : {X Y : Type 0} (f : X → Y) (xs : List X) (x : X) → Contains xs x → Contains (map f xs) (f x)
image_in f [] x h = absurd (omega (arith, h.1))
image_in f (z ∷ xs) x (zero, l, e) = (0, omega arith, ap f e)
image_in f (z ∷ xs) x (suc n, l, e) = Contains-append_right (f z ∷ []) (map f xs) (f x) (image_in f xs x (n, omega (arith, l), e))

-- ---- places

same_number : (n : ℕ) → (n == n) ≡ true
same_number n = grind arith

pub asked_is : (p : ℕ) (r : Numbered) (a : Inequality) → Contains (asked_of p r) a → (r.node ≡ p) × (a ≡ record { constant = r.constant; terms = r.terms })
asked_is p r a h = by (r.node == p) refl h where
  by : (b : Bool) → (r.node == p) ≡ b → Contains (if b then record { constant = r.constant; terms = r.terms } ∷ [] else []) a → (r.node ≡ p) × (a ≡ record { constant = r.constant; terms = r.terms })
  by true e (zero, l, is) = (eqb-true r.node p e, sym is)
  by true e (suc n, l, is) = absurd (omega (arith, l))
  by false e c = absurd (omega (arith, c.1))

pub asks_own : (r : Numbered) → Contains (asked_of r.node r) (record { constant = r.constant; terms = r.terms })
asks_own r = by (r.node == r.node) (same_number r.node) where
  by : (b : Bool) → b ≡ true → Contains {X = Inequality} (if b then record { constant = r.constant; terms = r.terms } ∷ [] else []) (record { constant = r.constant; terms = r.terms })
  by true e = (0, omega arith, refl)
  by false e = absurd cc

split : (m n : ℕ) → (m < n) ⊎ (n ≤ m)
split m n = grind arith

pub says_same : (nodes : List Node) (ds : List Demand) (number : Node → ℕ) (system : System) → AreNumbers nodes number → AreOf nodes ds → AreGrouped (length nodes) (map (by_number number) ds) system → SaysSame (map capped_demand ds) number system
says_same nodes ds number system n o g = record {
  from = λ p a c. from p a c (split p (length nodes));
  to = λ d h.
      let i = in_image capped_demand ds d h in
      let e = i.0 in
      let here : number e.node < length nodes = (n.at e.node (o.node e i.1)).0 in
      let r = by_number number e in
      let own : Contains (asked_at (number e.node) (map (by_number number) ds)) (record { constant = r.constant; terms = r.terms }) = piece_in (asked_of (number e.node)) (map (by_number number) ds) r (record { constant = r.constant; terms = r.terms }) (image_in (by_number number) ds e i.1) (asks_own r) in
      subst (λ (d : Demand). Contains (inequalities system (number d.node)) (inequality number d)) i.2 (subst (λ (as' : List Inequality). Contains as' (record { constant = r.constant; terms = r.terms })) (sym (g.own (number e.node) here)) own);
} where
  from : (p : ℕ) (a : Inequality) → Contains (inequalities system p) a → (p < length nodes) ⊎ (length nodes ≤ p) → (d : Demand) × Contains (map capped_demand ds) d × (number d.node ≡ p) × (a ≡ inequality number d)
  from p a c (inl l) =
      let k = in_piece (asked_of p) (map (by_number number) ds) a (subst (λ (as' : List Inequality). Contains as' a) (g.own p l) c) in
      let i = in_image (by_number number) ds k.0 k.1 in
      let is = asked_is p k.0 a k.2 in
      let e = i.0 in
      (capped_demand e, image_in capped_demand ds e i.1, ap (λ (r : Numbered). r.node) i.2 ∙ is.0, is.1 ∙ ap (λ (r : Numbered). record { constant = r.constant; terms = r.terms }) (sym i.2))
  from p a c (inr l) = absurd (let h = subst (λ (as' : List Inequality). Contains as' a) (g.none p l) c in omega (arith, h.1))

-- ---- constants as far as they are told apart

capped_least : (n : ℕ) → capped n ≤ n
capped_least n = grind arith

capped_small : (n : ℕ) → capped n ≤ 1000000000000 → capped n ≡ n
capped_small n h = grind arith

-- what meets demands meets them with smaller constants
pub capped_met : (y : Node → ℕ) (ds : List Demand) → AllByRecursion (IsMet y) ds → AllByRecursion (IsMet y) (map capped_demand ds)
capped_met y [] h = tt
capped_met y (d ∷ ds) h = (omega (arith, h.0, capped_least d.constant), capped_met y ds h.1)

-- and back, where no number is above what is told apart
met_whole : (x : Node → ℕ) (ds : List Demand) → AllByRecursion (λ (d : Demand). x d.node ≤ 1000000000000) ds → AllByRecursion (IsMet x) (map capped_demand ds) → AllByRecursion (IsMet x) ds
met_whole x [] s h = tt
met_whole x (d ∷ ds) s h =
    let c : capped d.constant ≡ d.constant = capped_small d.constant (omega (arith, h.0, s.0)) in
    (omega (arith, h.0, c), met_whole x ds s.1 h.1)

nodes_small : (nodes : List Node) (ds es : List Demand) (x : Node → ℕ) → ((d : Demand) → Contains ds d → Contains nodes d.node) → ((v : Node) → Contains nodes v → x v ≤ 1000000000000) → ((d : Demand) → Contains es d → Contains ds d) → AllByRecursion (λ (d : Demand). x d.node ≤ 1000000000000) es
nodes_small nodes ds [] x o s h = tt
nodes_small nodes ds (e ∷ es) x o s h = (s e.node (o e (h e (0, omega arith, refl))), nodes_small nodes ds es x o s (λ d c. h d (Contains-append_right (e ∷ []) es d c)))

-- least numbers under constants as far as they are told apart are least, where none is above
pub least_whole : (nodes : List Node) (ds : List Demand) (x : Node → ℕ) → AreOf nodes ds → AreLeast nodes (map capped_demand ds) x → ((v : Node) → Contains nodes v → x v ≤ 1000000000000) → AreLeast nodes ds x
least_whole nodes ds x o l s = record {
  meets = met_whole x ds (nodes_small nodes ds ds x o.node s (λ d c. c)) l.meets;
  least = λ y m v c. l.least y (capped_met y ds m) v c;
}

-- and where one is above, it is so in all numbers that meet the demands
pub above_all : (nodes : List Node) (ds : List Demand) (x y : Node → ℕ) (v : Node) (limit : ℕ) → AreLeast nodes (map capped_demand ds) x → Contains nodes v → limit < x v → AllByRecursion (IsMet y) ds → limit < y v
above_all nodes ds x y v limit l c a m = omega (arith, l.least y (capped_met y ds m) v c, a)

-- demands of the same nodes with constants as far as they are told apart
pub capped_of : (nodes : List Node) (ds : List Demand) → AreOf nodes ds → AreOf nodes (map capped_demand ds)
capped_of nodes ds o = record {
  node = λ d c. let i = in_image capped_demand ds d c in subst (λ (e : Demand). Contains nodes e.node) i.2 (o.node i.0 i.1);
  terms = λ d x c k. let i = in_image capped_demand ds d c in o.terms i.0 x i.1 (subst (λ (e : Demand). Contains e.terms x) (sym i.2) k);
}
