-- A closed walk of demands excludes all certificates.
use Rattle.std.proofs.Common.{ℕ, zero, suc, ◌≡◌, ◌+◌, ◌-◌, ◌<◌, ◌≤◌, List, [], ◌∷◌, ◌++◌, length, refl, sym, ◌∙◌, ap, subst, arith, Contains, add-zero, zero-add}
use Rattle.std.specs.List.{sum_by, flat_map, AllByRecursion}
use Rattle.std.proofs.lemmas.List.{append_assoc}
use Rattle.std.proofs.lemmas.List.Sums.{sum_by-cons}
use Rattle.std.proofs.lemmas.List.Elements.{All-contains, All-from_recursion}
use Rattle.fb_model.specs.Names.{Name}
use Rattle.fb_model.specs.System.{Action, State, Service, Device, System}
use Rattle.fb_model.specs.Services.{service_events, can_emit}
use Rattle.fb_model.specs.Charts.{emission}
use Rattle.fb_model.specs.Wires.{Kind, Charted, Serviced, Leaf, leaves}
use Rattle.fb_model.specs.Ranges.{Range}
use Rattle.fb_model.specs.Certificates.{Certificate, steps_of, Fits, DeviceFits, all_leaves, reached}
use Rattle.fb_model.specs.Demands.{Node, Demand, IsMet, Ground, work, of_kind, bare, bare_demands, Asks, node_in, IsClosedWalk}
use Rattle.fb_model.specs.Columns.{number_of, ground_of, demands, MeetAll}
use Rattle.fb_model_laws.specs.Likeness.{AreLike, LeadAlike, KindLeadsAlike, AreGroundsAlike}
use Rattle.fb_model_laws.proofs.Lists.{all_append}
use Rattle.fb_model_laws.proofs.Likening.{like_append, kind_alike, met_alike}
use Rattle.fb_model_laws.proofs.Meeting.{column_meets}

-- ---- numbers never rise along a walk

term_le : (x : Node → ℕ) (ts : List Node) (y : Node) → Contains ts y → x y ≤ sum_by x ts
term_le x [] y h = absurd (omega (arith, h.1))
term_le x (t ∷ ts) y (zero, l, e) = omega (arith, ap x e, sum_by-cons x t ts)
term_le x (t ∷ ts) y (suc k, l, e) = omega (arith, term_le x ts y (k, omega (arith, l), e), sum_by-cons x t ts)

asks_le : (ds : List Demand) (x : Node → ℕ) (a b : Node) (k : ℕ) → MeetAll x ds → Asks ds a b k → k + x b ≤ x a
asks_le ds x a b k m h =
    let met : IsMet x h.0 = All-contains (IsMet x) ds h.0 (All-from_recursion (IsMet x) ds m) h.1 in
    omega (arith, met, term_le x h.0.terms b h.3, ap x h.2, h.4)

walk_le : (ds : List Demand) (walk : List Node) (x : Node → ℕ) → IsClosedWalk ds walk → MeetAll x ds → (n j : ℕ) → j + n < length walk → x (node_in walk (j + n)) ≤ x (node_in walk j)
walk_le ds walk x w f zero j h = rw add-zero (omega arith)
walk_le ds walk x w f (suc n) j h =
    let d = w.chain j (omega (arith, h)) in
    let step = asks_le ds x (node_in walk j) (node_in walk (j + 1)) d.0 f d.1 in
    let e : j + 1 + n ≡ j + suc n = omega arith in
    let rest = walk_le ds walk x w f n (j + 1) (omega (arith, h)) in
    subst (λ (i : ℕ). x (node_in walk i) ≤ x (node_in walk j)) e (omega (arith, step, rest))

pub walk_excludes : (ds : List Demand) (walk : List Node) (x : Node → ℕ) → IsClosedWalk ds walk → MeetAll x ds → ⊥
walk_excludes ds walk x w f =
    let k = w.paid.0 in
    let step = asks_le ds x (node_in walk k) (node_in walk (k + 1)) w.paid.1 f w.paid.3 in
    let head : x (node_in walk k) ≤ x (node_in walk 0) = subst (λ (i : ℕ). x (node_in walk i) ≤ x (node_in walk 0)) (zero-add k) (walk_le ds walk x w f k 0 (omega (arith, w.paid.2))) in
    let e : k + 1 + (length walk - (k + 2)) ≡ length walk - 1 = omega (arith, w.paid.2) in
    let tail : x (node_in walk (length walk - 1)) ≤ x (node_in walk (k + 1)) = subst (λ (i : ℕ). x (node_in walk i) ≤ x (node_in walk (k + 1))) e (walk_le ds walk x w f (length walk - (k + 2)) (k + 1) (omega (arith, w.paid.2))) in
    let same : x (node_in walk 0) ≡ x (node_in walk (length walk - 1)) = ap x w.closes in
    omega (arith, step, head, tail, same, w.paid.4)

-- ---- what costs nothing is met with what does

same_leads : (g h : Ground) (actions : List Action) → g.targets ≡ h.targets → LeadAlike g h actions
same_leads g h [] e = tt
same_leads g h (a ∷ as') e = (ap (λ t. reached t (emission a.output)) e, same_leads g h as' e)

chart_leads : (g h : Ground) (states : List State) → g.targets ≡ h.targets → AllByRecursion (λ (s : State). LeadAlike g h s.actions) states
chart_leads g h [] e = tt
chart_leads g h (s ∷ ss) e = (same_leads g h s.actions e, chart_leads g h ss e)

service_leads : (g h : Ground) (service : Service) (es : List Name) → g.targets ≡ h.targets → AllByRecursion (λ (x : Name). reached g.targets (can_emit service x) ≡ reached h.targets (can_emit service x)) es
service_leads g h service [] e = tt
service_leads g h service (x ∷ xs) e = (ap (λ t. reached t (can_emit service x)) e, service_leads g h service xs e)

pub kind_leads : (g h : Ground) (kind : Kind) → g.targets ≡ h.targets → KindLeadsAlike g h kind
kind_leads g h (Charted block) e = chart_leads g h block.states e
kind_leads g h (Serviced service) e = service_leads g h service (service_events service) e

pub nothing_worked : (leaf : Leaf) (actions : List Action) → work (bare leaf) actions ≡ 0
nothing_worked leaf [] = refl
nothing_worked leaf (a ∷ as') = omega (arith, sum_by-cons (λ (b : Action). (bare leaf).price b.algorithm) a as', nothing_worked leaf as')

bare_alike : (ranges : List Range) (leaf : Leaf) → AreGroundsAlike (λ m n. n ≤ m) (ground_of 1 ranges leaf) (bare leaf) leaf.kind
bare_alike ranges leaf = record {
  unit = refl;
  own = λ n. refl;
  datagram = λ c. refl;
  leads = kind_leads (ground_of 1 ranges leaf) (bare leaf) leaf.kind refl;
  same = λ n. omega arith;
  works = λ actions. omega (arith, nothing_worked leaf actions);
  crosses = λ actions. omega (arith, nothing_worked leaf actions);
}

leaves_alike : (ranges : List Range) (all : List Leaf) → AreLike (λ m n. n ≤ m) (demands 1 ranges all) (bare_demands all)
leaves_alike ranges [] = tt
leaves_alike ranges (leaf ∷ rest) =
    like_append (λ m n. n ≤ m) (of_kind (ground_of 1 ranges leaf) leaf.kind) (of_kind (bare leaf) leaf.kind) (demands 1 ranges rest) (bare_demands rest)
    (kind_alike (λ m n. n ≤ m) (ground_of 1 ranges leaf) (bare leaf) leaf.kind (bare_alike ranges leaf)) (leaves_alike ranges rest)

pub flat_append : {X Y : Type 0} (f : X → List Y) (xs ys : List X) → flat_map f (xs ++ ys) ≡ flat_map f xs ++ flat_map f ys
flat_append f [] ys = refl
flat_append f (x ∷ xs) ys = ap (λ zs. f x ++ zs) (flat_append f xs ys) ∙ sym (append_assoc (f x) (flat_map f xs) (flat_map f ys))

devices_meet : (cert : Certificate) (ds : List Device) → AllByRecursion (DeviceFits cert) ds → MeetAll (number_of (steps_of cert)) (bare_demands (all_leaves ds))
devices_meet cert [] h = tt
devices_meet cert (d ∷ ds) h =
    let x = number_of (steps_of cert) in
    let here = met_alike x (demands 1 cert.ranges (leaves d)) (bare_demands (leaves d)) (leaves_alike cert.ranges (leaves d)) ((column_meets (steps_of cert) cert.ranges (leaves d) (λ c. refl)).0 h.0.steps) in
    subst (λ (es : List Demand). MeetAll x es) (sym (flat_append (λ (leaf : Leaf). of_kind (bare leaf) leaf.kind) (leaves d) (all_leaves ds)))
    ((all_append (IsMet x) (bare_demands (leaves d)) (bare_demands (all_leaves ds))).0 (here, devices_meet cert ds h.1))

pub walks_exclude : (system : System) (cert : Certificate) (walk : List Node) → IsClosedWalk (bare_demands (all_leaves system.devices)) walk → Fits system cert → ⊥
walks_exclude system cert walk w f = walk_excludes (bare_demands (all_leaves system.devices)) walk (number_of (steps_of cert)) w (devices_meet cert system.devices f.devices)
