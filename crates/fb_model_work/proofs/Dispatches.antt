-- What a dispatch spends, with what it causes, is within what its event weighs.
use Rattle.std.proofs.Common.{◌≡◌, ℕ, ◌+◌, ◌≤◌, true, ℤ, List, ◌∷◌, Option, sym, ap, subst, arith}
use Rattle.std.specs.List.{sum_by, AllByRecursion}
use Rattle.fb_model.specs.Names.{Name, Path, Place, at_place, is_in}
use Rattle.fb_model.specs.System.{Service, Device}
use Rattle.fb_model.specs.Services.{service_events}
use Rattle.fb_model.specs.Wires.{Kind, Charted, Serviced, leaves}
use Rattle.fb_model.specs.Store.{LeafState, sampled}
use Rattle.fb_model.specs.Serving.{Effect}
use Rattle.fb_model.specs.Serving.{reply, Serves}
use Rattle.fb_model.specs.Ranges.{Range, rows, CellsLie, KindFits, LeafLies}
use Rattle.fb_model.specs.Certificates.{Certificate, reached, event_names, events_of, has_event, DeviceHolds}
use Rattle.fb_model.specs.Devices.{Ended, Machine, Runs}
use Rattle.fb_model.specs.Headline.{IsKnown, IsSound}
use Rattle.fb_model.proofs.Lists.{at_listed}
use Rattle.fb_model.proofs.Running.{at_leaf, before_lies}
use Rattle.fb_model_laws.specs.Leaves.{IsClosed}
use Rattle.fb_model_turns.specs.Turns.{Counts, added, caused}
use Rattle.fb_model_turns.proofs.Joins.{added_sum}
use Rattle.fb_model_turns.proofs.Dispatching.{reply_emits}
use Rattle.fb_model_work.specs.Spending.{Prices, in_outputs, in_dispatch, in_serving, in_run}
use Rattle.fb_model_work.specs.Work.{Site, site_of, InputWork, ServiceWork, KindWork, WorkFits}
use Rattle.fb_model_work.proofs.Priced.{IsPriced, ArePriced}
use Rattle.fb_model_work.proofs.Charts.{invoked_le}

-- ---- leaves

module _ (prices : Prices) (ranges : List Range) (counts : Counts) (targets : Name → List Place) (path : Path) where
  abbrev site : Kind → Site
  site kind = record { prices = prices; rows = rows ranges path kind; targets = targets; path = path }

  -- a dispatch of a service, with what it emits and causes
  abbrev Answered : Service → Name → List Name → Type 0
  Answered service e outs =
      in_dispatch prices (Serviced service) e + in_outputs prices (Serviced service) targets outs + caused added counts targets outs ≤ counts.weight (at_place path e)

  answered : (service : Service) (e : Name) → ServiceWork (site (Serviced service)) counts service e → (clock : ℕ) (values : List ℤ) (before : LeafState)
      → Answered service e (reply service clock e values before).outs
  answered service e f clock values before = reply_emits (Answered service e) (omega (arith, f)) service clock e values before f

  -- an event of a leaf pays for its dispatch, for what is done there, and for all that follows
  pub served_le : (kind : Kind) (clock : ℕ) (e : Name) (values : List ℤ) (before after : LeafState) (steps : ℕ) (outs : List Name) (effect : Option Effect)
      → KindWork (site kind) counts kind → IsClosed kind → KindFits ranges path kind → IsPriced prices ranges path kind
      → is_in e (events_of kind) ≡ true → CellsLie ranges path kind before.cells
      → (s : Serves kind clock e values before after steps outs effect)
      → in_dispatch prices kind e + in_serving prices targets kind clock e values before after steps outs effect s + caused added counts targets outs
      ≤ counts.weight (at_place path e)
  served_le (Charted block) clock e values before after steps outs effect fits closed clear priced listed l s =
      let f : InputWork (site (Charted block)) counts block e =
      at_listed (InputWork (site (Charted block)) counts block) (event_names block.event_inputs) e fits.weights listed in
      invoked_le prices counts ranges targets path block e fits closed clear priced f before after steps outs s.0 l
  served_le (Serviced service) clock e values before after steps outs effect fits closed clear priced listed l s =
      let f : ServiceWork (site (Serviced service)) counts service e =
      at_listed (ServiceWork (site (Serviced service)) counts service) (service_events service) e fits listed in
      subst (Answered service e) (sym s.outs_are) (answered service e f clock values before)

module _ (prices : Prices) (counts : Counts) (cert : Certificate) (device : Device) (holding : DeviceHolds cert device)
    (priced : ArePriced prices cert.ranges (leaves device)) (closed : AllByRecursion (λ leaf. IsClosed leaf.kind) (leaves device))
    (fits : WorkFits prices cert.ranges counts (leaves device)) (old : Machine) (sound : IsSound cert device old) where
  -- what a dispatch spends, with the weights of what it appends, is within the weight of its entry
  pub run_le : (q cause : ℕ) (place : Place) (steps : ℕ) (effect : Option Effect) (ended : Option Ended) (new : Machine)
      (r : Runs cert device old q cause place steps effect ended new)
      → in_run prices cert device old q cause place steps effect ended new r + sum_by counts.weight (reached r.leaf.targets r.outs) ≤ counts.weight r.first.place
  run_le q cause place steps effect ended new r =
      let known : AllByRecursion (IsKnown device sound.opening_of sound.home_of old.next q) (r.first ∷ r.rest) =
      subst (AllByRecursion (IsKnown device sound.opening_of sound.home_of old.next q)) r.was (sound.entries q) in
      let listed : is_in r.first.place.event (events_of r.leaf.kind) ≡ true = subst (λ o. has_event o r.first.place.event ≡ true) r.found known.0.input in
      let paid = at_leaf (λ leaf. KindWork (site_of prices cert.ranges leaf) counts leaf.kind) (leaves device) r.first.place.path r.leaf fits r.found in
      let shut = at_leaf (λ leaf. IsClosed leaf.kind) (leaves device) r.first.place.path r.leaf closed r.found in
      let dear = at_leaf (λ leaf. IsPriced prices cert.ranges leaf.path leaf.kind) (leaves device) r.first.place.path r.leaf priced r.found in
      let lies = at_leaf (LeafLies cert.ranges (leaves device)) (leaves device) r.first.place.path r.leaf holding.ranges r.found in
      let before = sampled old.store r.leaf r.first.place.event in
      let spent =
      served_le prices cert.ranges counts r.leaf.targets r.leaf.path r.leaf.kind old.clock r.first.place.event r.first.values before r.after steps r.outs effect
      paid.0 shut.0 lies.0.kind dear.0 listed (before_lies cert device holding old sound q cause place steps effect ended new r) r.served in
      omega (arith, spent, ap (λ (path : Path). counts.weight (at_place path r.first.place.event)) paid.1, added_sum counts.weight (reached r.leaf.targets r.outs))
