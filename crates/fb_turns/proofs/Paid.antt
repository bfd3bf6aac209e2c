-- What the steps of a certificate that fits meet, and how great they are.
use Rattle.std.proofs.Common.{◌≤◌, List, [], ◌∷◌, refl, sym, subst, arith}
use Rattle.std.specs.List.{AllByRecursion}
use Rattle.fb_model.specs.System.{Device, System}
use Rattle.fb_model.specs.Wires.{Leaf, leaves}
use Rattle.fb_model.specs.Ranges.{Range}
use Rattle.fb_model.specs.Certificates as certs
use Rattle.fb_model.specs.Certificates.{Certificate, steps_of, Fits, DeviceFits, all_leaves}
use Rattle.fb_model.specs.CertificateText.{most_steps}
use Rattle.fb_model.specs.Demands.{Node, state, event, channel, Demand, of_kind, bare, bare_demands}
use Rattle.fb_model.specs.Columns.{number_of, ground_of, demands, MeetAll}
use Rattle.fb_model.proofs.Lists.{all_append, all_weaker}
use Rattle.fb_model_laws.specs.Likeness.{AreLike, AreGroundsAlike}
use Rattle.fb_model_laws.proofs.Likening.{like_append, kind_alike, met_alike}
use Rattle.fb_model_laws.proofs.Meeting.{column_meets}
use Rattle.fb_model_laws.proofs.Walks.{kind_leads, nothing_worked, flat_append}
use Rattle.fb_model_texts.specs.Small.{AreSmall, IsSmall}
use Rattle.fb_model_texts.proofs.Small.{amount_small}

-- ---- what costs nothing is met with what does

bare_alike : (ranges : List Range) (leaf : Leaf) → AreGroundsAlike (λ m n. n ≤ m) (ground_of 1 ranges leaf) (bare leaf) leaf.kind
bare_alike ranges leaf = record {
  unit = refl;
  own = λ n. refl;
  datagram = λ c. refl;
  leads = kind_leads (ground_of 1 ranges leaf) (bare leaf) leaf.kind refl;
  same = λ n. omega arith;
  works = λ actions. omega (arith, nothing_worked leaf actions);
  crosses = λ actions. omega (arith, nothing_worked leaf actions);
}

leaves_alike : (ranges : List Range) (all : List Leaf) → AreLike (λ m n. n ≤ m) (demands 1 ranges all) (bare_demands all)
leaves_alike ranges [] = tt
leaves_alike ranges (leaf ∷ rest) =
    like_append (λ m n. n ≤ m) (of_kind (ground_of 1 ranges leaf) leaf.kind) (of_kind (bare leaf) leaf.kind) (demands 1 ranges rest) (bare_demands rest)
    (kind_alike (λ m n. n ≤ m) (ground_of 1 ranges leaf) (bare leaf) leaf.kind (bare_alike ranges leaf)) (leaves_alike ranges rest)

devices_meet : (cert : Certificate) (ds : List Device) → AllByRecursion (DeviceFits cert) ds → MeetAll (number_of (steps_of cert)) (bare_demands (all_leaves ds))
devices_meet cert [] h = tt
devices_meet cert (d ∷ ds) h =
    let x = number_of (steps_of cert) in
    let here = met_alike x (demands 1 cert.ranges (leaves d)) (bare_demands (leaves d)) (leaves_alike cert.ranges (leaves d)) ((column_meets (steps_of cert) cert.ranges (leaves d) (λ c. refl)).0 h.0.steps) in
    subst (λ (es : List Demand). MeetAll x es) (sym (flat_append (λ (leaf : Leaf). of_kind (bare leaf) leaf.kind) (leaves d) (all_leaves ds)))
    (all_append _ (bare_demands (leaves d)) (bare_demands (all_leaves ds)) here (devices_meet cert ds h.1))

-- the steps of a certificate that fits meet all demands
pub steps_meet : (s : System) (cert : Certificate) → Fits s cert → MeetAll (number_of (steps_of cert)) (bare_demands (all_leaves s.devices))
steps_meet s cert fits = devices_meet cert s.devices fits.devices

-- and none of them is above the limit of rows
pub steps_small : (cert : Certificate) → AreSmall cert → (x : Node) → number_of (steps_of cert) x ≤ most_steps
steps_small cert small (state p) = amount_small (λ r. r.steps) most_steps cert.charges p (all_weaker IsSmall (λ (r : certs.Row). r.steps ≤ most_steps) cert.charges (λ r k. k.0) small.charges)
steps_small cert small (event p) = amount_small (λ r. r.steps) most_steps cert.weights p (all_weaker IsSmall (λ (r : certs.Row). r.steps ≤ most_steps) cert.weights (λ r k. k.0) small.weights)
steps_small cert small (channel c) = omega arith
