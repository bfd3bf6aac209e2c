-- An offer, by the number of its block.
use Rattle.std.proofs.Common.{◌≡◌, ℕ, ℤ, zero, suc, ◌&&◌, take, ◌<◌, ◌≤◌, Bool, true, false, List, [], ◌∷◌, length, slice_get, Some, refl, ◌∙◌, ap, subst, arith, inr}
use Rattle.fb_words.specs.declared.elem_type.ElemType.{ElemType}
use Rattle.fb_model.specs.Values.{in_type, all_in}
use Rattle.fb_model.specs.System as system
use Rattle.fb_model.specs.Services.{arrive}
use Rattle.fb_model.specs.Ranges.{types_of}
use Rattle.fb_model.specs.Wires.{Kind, Charted, Serviced, Leaf, leaves}
use Rattle.fb_model.specs.Certificates.{events_of}
use Rattle.fb_model.specs.Devices.{Machine, Offer, arriving, is_input_numbered, IsDenied}
use Rattle.fb_chart.specs.declared.table.Block.{Block}
use Rattle.fb_chart.specs.declared.table.Body.{Body}
use Rattle.fb_chart.specs.declared.table.Body.TheVariants as b
use Rattle.fb_types_services.specs.declared.service.Service.TheVariants as s
use Rattle.fb_chart.specs.Views.{kind_of, body_kind, event_names, output_names}
use Rattle.fb_chart.specs.Tables.{IsBody}
use Rattle.st_exec.specs.Cells.{Form}
use Rattle.fb_device_state.specs.declared.program.Program.{Program}
use Rattle.fb_device_state.specs.declared.program.Running.{Running}
use Rattle.fb_device_state.specs.declared.admission.Shortage.{Shortage}
use Rattle.fb_device_state.specs.declared.admission.Shortage.TheVariants.{Places, Numbers}
use Rattle.fb_device_state.specs.Sessions.{session_of}
use Rattle.fb_device_state.specs.Machines.{device_in, cert_in, machine_of}
use Rattle.fb_device_state.specs.Keeping.{IsGood}
use Rattle.fb_device_state.specs.Arrivals.{IsArrival, Admits, IsShort}
use Rattle.fb_lists.proofs.Lists.{same_at}
use Rattle.fb_device_state.proofs.Blocks.{within, block_of}
use Rattle.fb_device_arrivals.specs.declared.denied.Denied.{Denied}
use Rattle.fb_device_arrivals.specs.declared.denied.Denied.TheVariants.{UnknownInput, BadCount, BadValue, NoCredit, Spent, Wire, NoSubscriber, Shape, Closed, Stale}
use Rattle.fb_device_tables.specs.Tables.{first_at}
use Rattle.fb_device_arrivals.specs.Offering.{IsOutside}
use Rattle.fb_device_arrivals.specs.Answers.{denial_of}
use Rattle.fb_device_arrivals.proofs.SameKinds.{FirstAt, found_at, same_kinds}

-- one value more has its type
pub all_in_more : (ts : List ElemType) (vs : List ℤ) (k : ℕ) (t : ElemType) (v : ℤ) → slice_get ts k ≡ Some t → slice_get vs k ≡ Some v → all_in (take k ts) (take k vs) ≡ true → in_type t v ≡ true → all_in (take (suc k) ts) (take (suc k) vs) ≡ true
all_in_more [] vs k t v a b h f = cc
all_in_more (x ∷ xs) [] k t v a b h f = cc
all_in_more (x ∷ xs) (y ∷ ys) zero t v a b h f =
    let e : x ≡ t = cc in
    let d : y ≡ v = cc in
    ap (λ c. c && true) (ap (λ z. in_type z y) e ∙ ap (in_type t) d ∙ f)
all_in_more (x ∷ xs) (y ∷ ys) (suc k) t v a b h f = go (in_type x y) h (all_in_more xs ys k t v a b)
  where
    go : (c : Bool) → (c && all_in (take k xs) (take k ys)) ≡ true → (all_in (take k xs) (take k ys) ≡ true → in_type t v ≡ true → all_in (take (suc k) xs) (take (suc k) ys) ≡ true) → (c && all_in (take (suc k) xs) (take (suc k) ys)) ≡ true
    go true h r = r h f
    go false h r = cc

-- ARRIVE is the one event of an INPUT
pub arrives : (kind : Kind) (n : ℕ) → is_input_numbered n kind ≡ true → events_of kind ≡ arrive ∷ []
arrives (Charted block) n h = cc
arrives (Serviced (system.Input number types)) n h = refl
arrives (Serviced (system.Output number types)) n h = cc
arrives (Serviced (system.Publish channel types)) n h = cc
arrives (Serviced (system.Subscribe channel types)) n h = cc
arrives (Serviced system.Delay) n h = cc
arrives (Serviced system.Cycle) n h = cc
arrives (Serviced system.Restart) n h = cc

pub few_types : (forms : List Form) (events outputs : List (List ℕ)) (x : Body) → IsBody forms events outputs x → length (types_of (body_kind x)) ≤ 16
few_types forms events outputs (b.Chart c) h = omega arith
few_types forms events outputs (b.Served (s.Input n types)) h = h
few_types forms events outputs (b.Served (s.Output n types)) h = omega arith
few_types forms events outputs (b.Served (s.Publish c types)) h = omega arith
few_types forms events outputs (b.Served (s.Subscribe c types)) h = h
few_types forms events outputs (b.Served s.Delay) h = omega arith
few_types forms events outputs (b.Served s.Cycle) h = omega arith
few_types forms events outputs (b.Served s.Restart) h = omega arith

module _ (p : Program) (r : Running) (g : IsGood p r) (n k : ℕ) (found : first_at (is_input_numbered n) p.tables.blocks.items ≡ Some k) where
  abbrev all : List Leaf
  all = leaves (device_in (session_of p r))

  abbrev m : Machine
  m = machine_of (session_of p r)

  pub at : FirstAt (is_input_numbered n) p.tables.blocks.items (leaves (device_in (session_of p r))) k
  at = found_at (is_input_numbered n) p.tables.blocks.items all k (same_kinds p r g) found

  pub inside : k < length p.tables.blocks.items
  inside = within p.tables.blocks.items k at.block at.block_stands

  pub types_are : (x : Block) → slice_get p.tables.blocks.items k ≡ Some x → types_of (kind_of x) ≡ types_of at.leaf.kind
  types_are x h = ap (λ (y : Block). types_of (kind_of y)) (same_at p.tables.blocks.items k x at.block h at.block_stands) ∙ ap types_of at.kind

  pub types_few : (x : Block) → slice_get p.tables.blocks.items k ≡ Some x → length (types_of (kind_of x)) ≤ 16
  types_few x h =
      let pair = block_of _ _ _ _ _ p.tables.blocks.items p.tables.ports.items all k at.leaf g.program.tables.blocks at.leaf_stands in
      subst (λ (y : Block). length (types_of (kind_of y)) ≤ 16) (same_at p.tables.blocks.items k pair.block x pair.stands h) (few_types pair.own (event_names pair.block) (output_names pair.block) pair.block.body pair.is.table.body)

  -- values of its types are an arrival
  pub arrival : (vs : List ℤ) → all_in (types_of at.leaf.kind) vs ≡ true → IsArrival (leaves (device_in (session_of p r))) (record { block = k; event = 0 }) vs (arriving at.leaf vs)
  arrival vs fit = record { leaf = at.leaf_stands; event = ap (λ ns. slice_get ns 0) (arrives at.leaf.kind n at.so); same = refl; message = inr fit }

  -- values that are not of its types
  pub outside : (vs : List ℤ) (why : Denied) → IsOutside (types_of at.leaf.kind) vs why → IsDenied (cert_in (session_of p r)) (device_in (session_of p r)) (machine_of (session_of p r)) (Offer n vs) (denial_of why)
  outside vs BadCount o = (at.leaf, at.first, o)
  outside vs (BadValue number) o = (at.leaf, o.0, at.first, o.1, o.2)
  outside vs UnknownInput o = absurd o
  outside vs (NoCredit needs free) o = absurd o
  outside vs Spent o = absurd o
  outside vs (Wire fault) o = absurd o
  outside vs NoSubscriber o = absurd o
  outside vs Shape o = absurd o
  outside vs Closed o = absurd o
  outside vs (Stale boot sequence) o = absurd o

  -- it is admitted
  pub offered : (vs : List ℤ) (cause : ℕ) (new : Machine) → all_in (types_of at.leaf.kind) vs ≡ true → Admits (cert_in (session_of p r)) (device_in (session_of p r)) (machine_of (session_of p r)) (arriving at.leaf vs) cause new
      → Rattle.fb_model.specs.Devices.Offers (cert_in (session_of p r)) (device_in (session_of p r)) (machine_of (session_of p r)) n vs cause new
  offered vs cause new fit a = record { leaf = at.leaf; known = at.first; fit = fit; room = a.room; cause_is = a.cause_is; new_is = a.new_is }

  -- or not
  pub short : (vs : List ℤ) (why : Shortage) → IsShort (cert_in (session_of p r)) (device_in (session_of p r)) (machine_of (session_of p r)) (arriving at.leaf vs) why
      → IsDenied (cert_in (session_of p r)) (device_in (session_of p r)) (machine_of (session_of p r)) (Offer n vs) (denial_of (elim why [ Places needs free ↦ NoCredit needs free | Numbers ↦ Spent ]))
  short vs (Places needs free) h = (at.leaf, at.first, h)
  short vs Numbers h = h
