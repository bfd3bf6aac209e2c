-- The numbers of the network: what they pay for, and which walks exclude them.
use Rattle.std.proofs.Common.{ℕ, zero, suc, ◌≡◌, ◌*◌, ◌≤◌, ◌==◌, ◌↔◌, Bool, true, false, List, [], ◌∷◌, map, replicate, Some, refl, sym, subst, arith, if◌then◌else◌}
use Rattle.std.specs.Prelude.{◌||◌}
use Rattle.std.specs.List.{sum_by, flat_map, AllByRecursion}
use Rattle.std.proofs.lemmas.Bool.{eqb-true}
use Rattle.std.proofs.lemmas.Nat.{mul-le}
use Rattle.std.proofs.lemmas.List.Sums.{sum_by-cons, sum_by-append}
use Rattle.fb_words.specs.declared.format.Format.{Format}
use Rattle.fb_words.specs.declared.format.Format.TheVariants.{First, Second}
use Rattle.fb_model.specs.Names.{at_place}
use Rattle.fb_model.specs.Services.{arrive}
use Rattle.fb_model.specs.System.{Device, System, Service}
use Rattle.fb_model.specs.Wires.{Kind, Charted, Serviced, Leaf, leaves}
use Rattle.fb_model.specs.Ranges.{Range, rows}
use Rattle.fb_model.specs.Certificates.{Certificate, Column, KindWeighs, ColumnFits, far_of, all_leaves, admissions, channel_load, FarFits, channels_of, Fits}
use Rattle.fb_model.proofs.Networks.{is_one, unnamed_load}
use Rattle.fb_model.specs.Demands.{Node, event, Demand, IsMet, of_kind, linked, heard, of_channel, channel_demands, bare, bare_network, IsClosedWalk}
use Rattle.fb_model.specs.Columns.{number_of, ground_of, network_demands, MeetAll}
use Rattle.fb_model_laws.specs.Likeness.{AreGroundsAlike}
use Rattle.fb_model_laws.proofs.Lists.{all_append}
use Rattle.fb_model_laws.proofs.Likening.{like_flat, kind_alike, met_alike}
use Rattle.fb_model_laws.proofs.Meeting.{network_meets}
use Rattle.fb_model_laws.proofs.Walks.{walk_excludes, nothing_worked, kind_leads}

-- ---- arrivals

sum_by-replicate : (x : Node → ℕ) (n : ℕ) (y : Node) → sum_by x (replicate n y) ≡ n * x y
sum_by-replicate x zero y = omega arith
sum_by-replicate x (suc n) y = omega (arith, sum_by-cons x y (replicate n y), sum_by-replicate x n y)

-- what a datagram of a channel may cost, by the numbers of nodes
abbrev pub heard_load : (Node → ℕ) → ℕ → ℕ → List Leaf → ℕ
heard_load x r c all = sum_by (λ (leaf : Leaf). admissions r c leaf.kind * x (event (at_place leaf.path arrive))) all

pub heard_sum : (x : Node → ℕ) (r c : ℕ) (all : List Leaf) → sum_by x (flat_map (heard r c) all) ≡ heard_load x r c all
heard_sum x r c [] = refl
heard_sum x r c (leaf ∷ rest) =
    let out = sum_by-append x (heard r c leaf) (flat_map (heard r c) rest) in
    let here = sum_by-replicate x (admissions r c leaf.kind) (event (at_place leaf.path arrive)) in
    let cost = sum_by-cons (λ (leaf : Leaf). admissions r c leaf.kind * x (event (at_place leaf.path arrive))) leaf rest in
    omega (arith, out, here, cost, heard_sum x r c rest)

-- ---- channels

channel_holds : (col : Column) (r c : ℕ) (all : List Leaf) → channel_load col r c all ≤ col.sending c ↔ IsMet (number_of col) (of_channel r all c)
channel_holds col r c all = let e = heard_sum (number_of col) r c all in (λ h. omega (arith, h, e), λ h. omega (arith, h, e))

all_channels : (P : Demand → Type 0) (f : ℕ → Demand) → ((c : ℕ) → P (f c)) → (cs : List ℕ) → AllByRecursion P (map f cs)
all_channels P f h [] = tt
all_channels P f h (c ∷ cs) = (h c, all_channels P f h cs)

one_channel : (P : Demand → Type 0) (f : ℕ → Demand) (c : ℕ) (cs : List ℕ) → AllByRecursion P (map f cs) → is_one c cs ≡ true → P (f c)
one_channel P f c [] h e = absurd cc
one_channel P f c (n ∷ ns) h e = by (c == n) refl e (one_channel P f c ns h.1) where
  by : (b : Bool) → (c == n) ≡ b → (b || is_one c ns) ≡ true → (is_one c ns ≡ true → P (f c)) → P (f c)
  by true t e k = subst (λ m. P (f m)) (sym (eqb-true c n t)) h.0
  by false t e k = k e

pub channels_hold : (col : Column) (r : ℕ) (all : List Leaf) → ((c : ℕ) → channel_load col r c all ≤ col.sending c) ↔ MeetAll (number_of col) (channel_demands r all)
channels_hold col r all = (λ h. all_channels (IsMet (number_of col)) (of_channel r all) (λ c. (channel_holds col r c all).0 (h c)) (channels_of all), λ h c. by c h (is_one c (channels_of all)) refl) where
  by : (c : ℕ) → MeetAll (number_of col) (channel_demands r all) → (b : Bool) → is_one c (channels_of all) ≡ b → channel_load col r c all ≤ col.sending c
  by c h true e = (channel_holds col r c all).1 (one_channel (IsMet (number_of col)) (of_channel r all) c (channels_of all) h e)
  by c h false e = omega (arith, unnamed_load col r c all e)

-- ---- devices

devices_hold : (col : Column) (ranges : List Range) (ds : List Device) → AllByRecursion (λ (d : Device). ColumnFits col ranges (leaves d)) ds ↔ ColumnFits col ranges (all_leaves ds)
devices_hold col ranges [] = (λ h. tt, λ h. tt)
devices_hold col ranges (d ∷ ds) =
    let parts = all_append (λ (leaf : Leaf). KindWeighs col (rows ranges leaf.path leaf.kind) leaf.targets leaf.path leaf.kind) (leaves d) (all_leaves ds) in
    let rest = devices_hold col ranges ds in
    (λ h. parts.0 (h.0, rest.0 h.1), λ h. let p = parts.1 h in (p.0, rest.1 p.1))

-- a certificate pays for all that happens on all devices exactly where its numbers meet the demands
pub far_meets : (cert : Certificate) (repeats : ℕ) (system : System) → FarFits cert repeats system ↔ MeetAll (number_of (far_of cert)) (network_demands repeats cert.ranges (all_leaves system.devices))
far_meets cert repeats system =
    let all = all_leaves system.devices in
    let x = number_of (far_of cert) in
    let ds = flat_map (λ (leaf : Leaf). of_kind (linked (ground_of 1 cert.ranges leaf)) leaf.kind) all in
    let parts = all_append (IsMet x) ds (channel_demands repeats all) in
    let steps = network_meets (far_of cert) cert.ranges all in
    let devices = devices_hold (far_of cert) cert.ranges system.devices in
    let channels = channels_hold (far_of cert) repeats all in
    (λ h. parts.0 (steps.0 (devices.0 h.devices), channels.0 h.channels), λ h. let p = parts.1 h in record { devices = devices.1 (steps.1 p.0); channels = channels.1 p.1 })

-- ---- walks

linked_alike : (ranges : List Range) (leaf : Leaf) → AreGroundsAlike (λ m n. n ≤ m) (linked (ground_of 1 ranges leaf)) (linked (bare leaf)) leaf.kind
linked_alike ranges leaf = record {
  unit = refl;
  own = λ n. refl;
  datagram = λ c. refl;
  leads = kind_leads (linked (ground_of 1 ranges leaf)) (linked (bare leaf)) leaf.kind refl;
  same = λ n. omega arith;
  works = λ actions. omega (arith, nothing_worked leaf actions);
  crosses = λ actions. omega (arith, nothing_worked leaf actions);
}

fewer_admitted : (r c : ℕ) (kind : Kind) → 1 ≤ r → admissions 1 c kind ≤ admissions r c kind
fewer_admitted r c (Charted block) h = omega arith
fewer_admitted r c (Serviced (Service.Input number types)) h = omega arith
fewer_admitted r c (Serviced (Service.Output number types)) h = omega arith
fewer_admitted r c (Serviced (Service.Publish k types)) h = omega arith
fewer_admitted r c (Serviced (Service.Subscribe k types)) h = by (k.number == c) k.format where
  by : (b : Bool) (f : Format) → (if b then elim f [ First ↦ 1 | Second ↦ 1 ] else 0) ≤ (if b then elim f [ First ↦ r | Second ↦ 1 ] else 0)
  by true First = h
  by true Second = omega arith
  by false f = omega arith
fewer_admitted r c (Serviced Service.Delay) h = omega arith
fewer_admitted r c (Serviced Service.Cycle) h = omega arith
fewer_admitted r c (Serviced Service.Restart) h = omega arith

fewer_heard : (x : Node → ℕ) (r c : ℕ) (all : List Leaf) → 1 ≤ r → heard_load x 1 c all ≤ heard_load x r c all
fewer_heard x r c [] h = omega arith
fewer_heard x r c (leaf ∷ rest) h =
    let one = sum_by-cons (λ (leaf : Leaf). admissions 1 c leaf.kind * x (event (at_place leaf.path arrive))) leaf rest in
    let many = sum_by-cons (λ (leaf : Leaf). admissions r c leaf.kind * x (event (at_place leaf.path arrive))) leaf rest in
    let here = mul-le (admissions 1 c leaf.kind) (x (event (at_place leaf.path arrive))) (admissions r c leaf.kind) (x (event (at_place leaf.path arrive))) (fewer_admitted r c leaf.kind h) (omega arith) in
    omega (arith, one, many, here, fewer_heard x r c rest h)

once_met : (x : Node → ℕ) (r : ℕ) (all : List Leaf) (cs : List ℕ) → 1 ≤ r → AllByRecursion (IsMet x) (map (of_channel r all) cs) → AllByRecursion (IsMet x) (map (of_channel 1 all) cs)
once_met x r all [] h m = tt
once_met x r all (c ∷ cs) h m =
    let one = heard_sum x 1 c all in
    let many = heard_sum x r c all in
    let few = fewer_heard x r c all h in
    (omega (arith, one, many, few, m.0), once_met x r all cs h m.1)

-- what meets the demands of the network meets those without what algorithms cost
pub network_bare : (x : Node → ℕ) (r : ℕ) (ranges : List Range) (all : List Leaf) → 1 ≤ r → MeetAll x (network_demands r ranges all) → MeetAll x (bare_network all)
network_bare x r ranges all h m =
    let ds = flat_map (λ (leaf : Leaf). of_kind (linked (ground_of 1 ranges leaf)) leaf.kind) all in
    let es = flat_map (λ (leaf : Leaf). of_kind (linked (bare leaf)) leaf.kind) all in
    let p = (all_append (IsMet x) ds (channel_demands r all)).1 m in
    let like = like_flat (λ m n. n ≤ m) (λ (leaf : Leaf). of_kind (linked (ground_of 1 ranges leaf)) leaf.kind) (λ (leaf : Leaf). of_kind (linked (bare leaf)) leaf.kind)
    (λ leaf. kind_alike (λ m n. n ≤ m) (linked (ground_of 1 ranges leaf)) (linked (bare leaf)) leaf.kind (linked_alike ranges leaf)) all in
    (all_append (IsMet x) es (channel_demands 1 all)).0 (met_alike x ds es like p.0, once_met x r all (channels_of all) h p.1)

pub networks_exclude : (system : System) (cert : Certificate) (repeats : ℕ) (walk : List Node) → IsClosedWalk (bare_network (all_leaves system.devices)) walk → cert.repeats ≡ Some repeats → 1 ≤ repeats → Fits system cert → ⊥
networks_exclude system cert repeats walk w e h f =
    let all = all_leaves system.devices in
    walk_excludes (bare_network all) walk (number_of (far_of cert)) w (network_bare (number_of (far_of cert)) repeats cert.ranges all h ((far_meets cert repeats system).0 (f.far repeats e)))
