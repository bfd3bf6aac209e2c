-- From places to nodes.
use Rattle.std.proofs.Common.{ℕ, zero, suc, ◌≡◌, ◌+◌, ◌-◌, ◌<◌, List, [], ◌∷◌, length, map, slice_index, refl, sym, ◌∙◌, ap, subst, arith, Contains}
use Rattle.std.specs.List.{sum_by, AllByRecursion}
use Rattle.std.proofs.lemmas.List.{length-map, get_or-map}
use Rattle.std.proofs.lemmas.List.Sums.{sum_by-cons}
use Rattle.std.proofs.lemmas.List.Elements.{Contains-get_or, All-contains, All-from_recursion, recursion_from_All, Contains-append_right}
use Rattle.fb_model.specs.Names.{at_place}
use Rattle.fb_model.specs.Demands.{Node, state, Demand, IsMet, Asks, node_in, IsClosedWalk}
use Rattle.fb_model_laws.proofs.Lists.{sum_by-map}
use Rattle.fb_find_graph.specs.Systems.{Inequality, System, inequalities, asks, Fits, IsLeast, Demands}
use Rattle.fb_find_graph.specs.Systems as numbered
use Rattle.fb_find_laws.specs.Numbered.{AreNumbers, inequality, SaysSame, AreOf, AreLeast}

met_at : (x : Node → ℕ) (ds : List Demand) (d : Demand) → AllByRecursion (IsMet x) ds → Contains ds d → IsMet x d
met_at x ds d h c = All-contains (IsMet x) ds d (All-from_recursion (IsMet x) ds h) c

all_met : (x : Node → ℕ) (ds : List Demand) → ((d : Demand) → Contains ds d → IsMet x d) → AllByRecursion (IsMet x) ds
all_met x ds h = recursion_from_All (IsMet x) ds (λ k d l. h _ (Contains-get_or ds k d l))

-- numbers of places that fit meet the demands of nodes
fits_meets : (ds : List Demand) (number : Node → ℕ) (system : System) (y : ℕ → ℕ) → SaysSame ds number system → Fits system y → AllByRecursion (IsMet (λ v. y (number v))) ds
fits_meets ds number system y s f = all_met (λ v. y (number v)) ds (λ d c. omega (arith, f (number d.node) (inequality number d) (s.to d c), sum_by-map y number d.terms))

-- the first term, and the later ones
later : (t : Node) (ts : List Node) (x : Node) → Contains ts x → Contains (t ∷ ts) x
later t ts x h = Contains-append_right (t ∷ []) ts x h

sums_back : (nodes : List Node) (number : Node → ℕ) (x : Node → ℕ) (ts : List Node) → AreNumbers nodes number → ((t : Node) → Contains ts t → Contains nodes t) → sum_by (λ p. x (node_in nodes p)) (map number ts) ≡ sum_by x ts
sums_back nodes number x [] n h = refl
sums_back nodes number x (t ∷ ts) n h =
    let here : x (node_in nodes (number t)) ≡ x t = ap x (n.at t (h t (0, omega arith, refl))).1 in
    let rest = sums_back nodes number x ts n (λ u c. h u (later t ts u c)) in
    omega (arith, here, rest, sum_by-cons (λ p. x (node_in nodes p)) (number t) (map number ts), sum_by-cons x t ts)

-- and the other way round
meets_fits : (nodes : List Node) (ds : List Demand) (number : Node → ℕ) (system : System) (x : Node → ℕ) → AreNumbers nodes number → AreOf nodes ds → SaysSame ds number system → AllByRecursion (IsMet x) ds → Fits system (λ p. x (node_in nodes p))
meets_fits nodes ds number system x n o s m p a c =
    let f = s.from p a c in
    let d = f.0 in
    let met = met_at x ds d m f.1 in
    let sums = sums_back nodes number x d.terms n (λ t h. o.terms d t f.1 h) in
    let at : x (node_in nodes (number d.node)) ≡ x d.node = ap x (n.at d.node (o.node d f.1)).1 in
    let place : x (node_in nodes (number d.node)) ≡ x (node_in nodes p) = ap (λ q. x (node_in nodes q)) f.2 in
    let right : asks (λ q. x (node_in nodes q)) a ≡ asks (λ q. x (node_in nodes q)) (inequality number d) = ap (asks (λ q. x (node_in nodes q))) f.3 in
    omega (arith, met, sums, at, place, right)

pub least_nodes : (nodes : List Node) (ds : List Demand) (number : Node → ℕ) (system : System) (y : ℕ → ℕ) → AreNumbers nodes number → AreOf nodes ds → SaysSame ds number system → IsLeast system y → AreLeast nodes ds (λ v. y (number v))
least_nodes nodes ds number system y n o s l = record {
  meets = fits_meets ds number system y s l.fits;
  least = λ x m v c. let i = l.least (λ p. x (node_in nodes p)) (meets_fits nodes ds number system x n o s m) (number v) in let e : x (node_in nodes (number v)) ≡ x v = ap x (n.at v c).1 in omega (arith, i, e);
}

-- ---- walks

-- what stands among numbers is the number of a term
pub term_of : (number : Node → ℕ) (ts : List Node) (q : ℕ) → Contains (map number ts) q → (t : Node) × Contains ts t × (number t ≡ q)
term_of number [] q h = absurd (omega (arith, h.1))
term_of number (t ∷ ts) q (zero, l, e) = (t, (0, omega arith, refl), e)
term_of number (t ∷ ts) q (suc k, l, e) = let r = term_of number ts q (k, omega (arith, l), e) in (r.0, later t ts r.0 r.1, r.2)

asked : (nodes : List Node) (ds : List Demand) (number : Node → ℕ) (system : System) (p q c : ℕ) → AreNumbers nodes number → AreOf nodes ds → SaysSame ds number system → Demands system p q c → Asks ds (node_in nodes p) (node_in nodes q) c × (p < length nodes)
asked nodes ds number system p q c n o s d =
    let f = s.from p d.0 d.1 in
    let e = f.0 in
    let t = term_of number e.terms q (subst (λ (a : Inequality). Contains a.terms q) f.3 d.2) in
    let own = n.at e.node (o.node e f.1) in
    let term = n.at t.0 (o.terms e t.0 f.1 t.1) in
    let node : e.node ≡ node_in nodes p = sym own.1 ∙ ap (node_in nodes) f.2 in
    let next : t.0 ≡ node_in nodes q = sym term.1 ∙ ap (node_in nodes) t.2 in
    ((e, f.1, node, subst (λ (x : Node). Contains e.terms x) next t.1, d.3 ∙ ap (λ (a : Inequality). a.constant) f.3), subst (λ (k : ℕ). k < length nodes) f.2 own.0)

pub walk_nodes : (nodes : List Node) (ds : List Demand) (number : Node → ℕ) (system : System) (walk : List ℕ) → AreNumbers nodes number → AreOf nodes ds → SaysSame ds number system → numbered.IsClosedWalk system walk → IsClosedWalk ds (map (node_in nodes) walk)
walk_nodes nodes ds number system walk n o s w =
    let many : length (map (node_in nodes) walk) ≡ length walk = length-map walk (node_in nodes) in
    let at : (k : ℕ) → k < length walk → node_in (map (node_in nodes) walk) k ≡ node_in nodes (slice_index walk k) = λ k h. get_or-map (node_in nodes) walk k 0 (state (at_place [] [])) h in
    let step : (k c : ℕ) → k + 1 < length walk → Demands system (slice_index walk k) (slice_index walk (k + 1)) c → Asks ds (node_in (map (node_in nodes) walk) k) (node_in (map (node_in nodes) walk) (k + 1)) c =
    λ k c h d. let r = (asked nodes ds number system (slice_index walk k) (slice_index walk (k + 1)) c n o s d).0 in
    subst (λ (x : Node). Asks ds x (node_in (map (node_in nodes) walk) (k + 1)) c) (sym (at k (omega (arith, h)))) (subst (λ (y : Node). Asks ds (node_in nodes (slice_index walk k)) y c) (sym (at (k + 1) h)) r) in
    let known : (k : ℕ) → k + 1 < length walk → slice_index walk k < length nodes = λ k h. let d = w.chain k h in (asked nodes ds number system (slice_index walk k) (slice_index walk (k + 1)) d.0 n o s d.1).1 in
    record {
      long = omega (arith, many, w.long);
      chain = λ k h. let d = w.chain k (omega (arith, many, h)) in (d.0, step k d.0 (omega (arith, many, h)) d.1);
      closes = at 0 (omega (arith, w.long)) ∙ (ap (node_in nodes) w.closes ∙ (sym (at (length walk - 1) (omega (arith, w.long))) ∙ ap (λ (m : ℕ). node_in (map (node_in nodes) walk) (m - 1)) (sym many)));
      once = λ j k l h e.
          let hj : j + 1 < length walk = omega (arith, many, l, h) in
          let hk : k + 1 < length walk = omega (arith, many, h) in
          let same : node_in nodes (slice_index walk j) ≡ node_in nodes (slice_index walk k) = sym (at j (omega (arith, hj))) ∙ (e ∙ at k (omega (arith, hk))) in
          w.once j k l hk (sym (n.back (slice_index walk j) (known j hj)) ∙ (ap number same ∙ n.back (slice_index walk k) (known k hk)));
      paid = let p = w.paid in (p.0, p.1, omega (arith, many, p.2), step p.0 p.1 p.2 p.3, p.4);
    }

-- ---- and back

numbers_contain : (number : Node → ℕ) (ts : List Node) (t : Node) → Contains ts t → Contains (map number ts) (number t)
numbers_contain number ts t h = (h.0, omega (arith, length-map ts number, h.1), get_or-map number ts h.0 t (number t) h.1 ∙ ap number h.2)

asks_numbers : (ds : List Demand) (number : Node → ℕ) (system : System) (x y : Node) (c : ℕ) → SaysSame ds number system → Asks ds x y c → Demands system (number x) (number y) c
asks_numbers ds number system x y c s h =
    let a = inequality number h.0 in
    (a, subst (λ (p : ℕ). Contains (inequalities system p) a) (ap number h.2) (s.to h.0 h.1), numbers_contain number h.0.terms y h.3, h.4)

pub walk_numbers : (nodes : List Node) (ds : List Demand) (number : Node → ℕ) (system : System) (walk : List Node) → AreNumbers nodes number → AreOf nodes ds → SaysSame ds number system → IsClosedWalk ds walk → numbered.IsClosedWalk system (map number walk)
walk_numbers nodes ds number system walk n o s w =
    let many : length (map number walk) ≡ length walk = length-map walk number in
    let at : (k : ℕ) → k < length walk → slice_index (map number walk) k ≡ number (node_in walk k) = λ k h. get_or-map number walk k (state (at_place [] [])) 0 h in
    let step : (k c : ℕ) → k + 1 < length walk → Asks ds (node_in walk k) (node_in walk (k + 1)) c → Demands system (slice_index (map number walk) k) (slice_index (map number walk) (k + 1)) c =
    λ k c h a. subst (λ (p : ℕ). Demands system p (slice_index (map number walk) (k + 1)) c) (sym (at k (omega (arith, h)))) (subst (λ (q : ℕ). Demands system (number (node_in walk k)) q c) (sym (at (k + 1) h)) (asks_numbers ds number system (node_in walk k) (node_in walk (k + 1)) c s a)) in
    let known : (k : ℕ) → k + 1 < length walk → Contains nodes (node_in walk k) = λ k h. let a = (w.chain k h).1 in subst (λ (x : Node). Contains nodes x) a.2 (o.node a.0 a.1) in
    record {
      long = omega (arith, many, w.long);
      chain = λ k h. let a = w.chain k (omega (arith, many, h)) in (a.0, step k a.0 (omega (arith, many, h)) a.1);
      closes = at 0 (omega (arith, w.long)) ∙ (ap number w.closes ∙ (sym (at (length walk - 1) (omega (arith, w.long))) ∙ ap (λ (m : ℕ). slice_index (map number walk) (m - 1)) (sym many)));
      once = λ j k l h e.
          let hj : j + 1 < length walk = omega (arith, many, l, h) in
          let hk : k + 1 < length walk = omega (arith, many, h) in
          let same : number (node_in walk j) ≡ number (node_in walk k) = sym (at j (omega (arith, hj))) ∙ (e ∙ at k (omega (arith, hk))) in
          w.once j k l hk (sym (n.at (node_in walk j) (known j hj)).1 ∙ (ap (node_in nodes) same ∙ (n.at (node_in walk k) (known k hk)).1));
      paid = let p = w.paid in (p.0, p.1, omega (arith, many, p.2), step p.0 p.1 p.2 p.3, p.4);
    }
