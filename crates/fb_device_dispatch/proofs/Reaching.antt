-- What a dispatch may take and enter, by its certificate; and what it enters.
use Rattle.std.proofs.Common.{◌≡◌, ℕ, ◌+◌, ◌*◌, ◌≤◌, Bool, true, false, cond, ◌||◌, List, [], ◌∷◌, ◌++◌, map, length, length-append, Some, string_bytes, refl, sym, ◌∙◌, ap, subst, arith}
use Rattle.std.specs.List.{sum_by, AllByRecursion}
use Rattle.std.specs.Str.{bytes_eq}
use Rattle.std.proofs.lemmas.List.{length-map, map-append}
use Rattle.std.proofs.lemmas.List.Sums.{sum_by-cons}
use Rattle.fb_model.specs.Names.{Name, Place, at_place, is_in}
use Rattle.fb_model.specs.System as book
use Rattle.fb_model.specs.System.{Device, Service}
use Rattle.fb_model.specs.Services.{service_events, can_emit}
use Rattle.fb_model.specs.Wires.{Kind, Charted, Serviced, Leaf, leaves, leaf_at}
use Rattle.fb_model.specs.Store.{LeafState, sampled}
use Rattle.fb_model.specs.Ranges.{CellsLie, rows, LeafLies, KindFits, IsClear}
use Rattle.fb_model.specs.Charts.{Moment, At, Reaches, dispatched}
use Rattle.fb_model.specs.Certificates.{Certificate, steps_of, places_of, depth_of, reached, sent_weight, has_event, is_input, events_of, event_names, IsWired, KindWeighs, InputFits, EventFits, DeviceHolds}
use Rattle.fb_model.specs.Devices.{Entry, Machine, steps_row, places_row, held}
use Rattle.fb_model.specs.Headline.{IsKnown, IsSound, emitted_of}
use Rattle.fb_model.proofs.Lists.{all_append, all_weaker, at_listed, same_name}
use Rattle.fb_model.proofs.Placed.{name_same}
use Rattle.fb_model.proofs.Charting.{within_all, spent_le}
use Rattle.fb_model.proofs.Holding.{places_le, length_le}
use Rattle.fb_model.proofs.Running.{at_leaf, sampled_lies, openings, input_weight}
use Rattle.fb_model.proofs.Starting.{fine}
use Rattle.fb_chart.specs.declared.table.Output.{Output}
use Rattle.fb_chart.specs.Sending.{targets_of, sent_to}
use Rattle.fb_chart.specs.Charting.{steps_at, CanGoOn}
use Rattle.fb_device_tables.specs.Views.{place_at}
use Rattle.fb_device_tables.specs.Tables.{IsPoint, LeadsTo}

-- ---- what outputs reach, by the table and by the leaf

module _ (all : List Leaf) (leaf : Leaf) where
  one_le : (os : List Output) (o : Name) → AllByRecursion (LeadsTo all leaf) os → length (targets_of os o) ≤ length (leaf.targets o)
  one_le [] o h = omega arith
  one_le (x ∷ xs) o h = go (bytes_eq (string_bytes x.name) o) refl (one_le xs o h.1)
    where
      go : (c : Bool) → bytes_eq (string_bytes x.name) o ≡ c → length (targets_of xs o) ≤ length (leaf.targets o) → length (cond c x.targets.items (targets_of xs o)) ≤ length (leaf.targets o)
      go true e r = omega (arith, ap length h.0.targets, length-map x.targets.items (place_at all), ap (λ k. length (leaf.targets k)) (same_name (string_bytes x.name) o e))
      go false e r = r

  -- no more is appended than what the leaf's outputs reach
  pub sent_le : (os : List Output) (outs : List Name) → AllByRecursion (LeadsTo all leaf) os → length (sent_to os outs) ≤ length (reached leaf.targets outs)
  sent_le os [] h = omega arith
  sent_le os (o ∷ rest) h = omega (arith, one_le os o h, sent_le os rest h, length-append (targets_of os o) (sent_to os rest), length-append (leaf.targets o) (reached leaf.targets rest))

  one_is : (os : List Output) (o : Name) → AllByRecursion (LeadsTo all leaf) os → is_in o (map (λ (x : Output). string_bytes x.name) os) ≡ true → map (place_at all) (targets_of os o) ≡ leaf.targets o
  one_is [] o h k = cc
  one_is (x ∷ xs) o h k = go (bytes_eq (string_bytes x.name) o) refl (bytes_eq o (string_bytes x.name)) refl k (one_is xs o h.1)
    where
      go : (c : Bool) → bytes_eq (string_bytes x.name) o ≡ c → (d : Bool) → bytes_eq o (string_bytes x.name) ≡ d → (d || is_in o (map (λ (x : Output). string_bytes x.name) xs)) ≡ true
          → (is_in o (map (λ (x : Output). string_bytes x.name) xs) ≡ true → map (place_at all) (targets_of xs o) ≡ leaf.targets o) → map (place_at all) (cond c x.targets.items (targets_of xs o)) ≡ leaf.targets o
      go true e d f k r = h.0.targets ∙ ap leaf.targets (same_name (string_bytes x.name) o e)
      go false e true f k r =
          let same : o ≡ string_bytes x.name = same_name o (string_bytes x.name) f in
          let g : true ≡ false = sym (ap (λ n. bytes_eq (string_bytes x.name) n) same ∙ name_same (string_bytes x.name)) ∙ e in absurd cc
      go false e false f k r = r k

  -- of event outputs of the block it is just that
  pub sent_is : (os : List Output) (outs : List Name) → AllByRecursion (LeadsTo all leaf) os → AllByRecursion (λ (o : Name). is_in o (map (λ (x : Output). string_bytes x.name) os) ≡ true) outs
      → map (place_at all) (sent_to os outs) ≡ reached leaf.targets outs
  sent_is os [] h k = refl
  sent_is os (o ∷ rest) h k =
      map-append (place_at all) (targets_of os o) (sent_to os rest) ∙ ap (λ ps. ps ++ map (place_at all) (sent_to os rest)) (one_is os o h k.0) ∙ ap (λ ps. leaf.targets o ++ ps) (sent_is os rest h k.1)

  one_points : (os : List Output) (o : Name) → AllByRecursion (LeadsTo all leaf) os → AllByRecursion (IsPoint all) (targets_of os o)
  one_points [] o h = tt
  one_points (x ∷ xs) o h = go (bytes_eq (string_bytes x.name) o) (one_points xs o h.1)
    where
      go : (c : Bool) → AllByRecursion (IsPoint all) (targets_of xs o) → AllByRecursion (IsPoint all) (cond c x.targets.items (targets_of xs o))
      go true r = h.0.points
      go false r = r

  pub sent_points : (os : List Output) (outs : List Name) → AllByRecursion (LeadsTo all leaf) os → AllByRecursion (IsPoint all) (sent_to os outs)
  sent_points os [] h = tt
  sent_points os (o ∷ rest) h = all_append (IsPoint all) (targets_of os o) (sent_to os rest) (one_points os o h) (sent_points os rest h)

-- ---- bounds

-- each place has an entry
length_places : (f : Place → ℕ) (ps : List Place) → AllByRecursion (λ p. 1 ≤ f p) ps → length ps ≤ sum_by f ps
length_places f [] h = omega arith
length_places f (p ∷ ps) h = omega (arith, sum_by-cons f p ps, h.0, length_places f ps h.1)

all_reached : (all : List Leaf) (leaf : Leaf) (w : IsWired all leaf) (outs : List Name) → AllByRecursion (λ p. is_input all p ≡ true) (reached leaf.targets outs)
all_reached all leaf w [] = tt
all_reached all leaf w (o ∷ os) = all_append (λ p. is_input all p ≡ true) (leaf.targets o) (reached leaf.targets os) (w.targets o) (all_reached all leaf w os)

module _ (cert : Certificate) (device : Device) (holding : DeviceHolds cert device) (old : Machine) (s : IsSound cert device old) (q : ℕ) (first : Entry) (rest : List Entry) (was : old.queues q ≡ first ∷ rest) (leaf : Leaf)
    (found : leaf_at (leaves device) first.place.path ≡ Some leaf) where
  pub known : AllByRecursion (IsKnown device s.opening_of s.home_of old.next q) (first ∷ rest)
  known = subst (AllByRecursion (IsKnown device s.opening_of s.home_of old.next q)) was (s.entries q)

  listed : is_in first.place.event (events_of leaf.kind) ≡ true
  listed = subst (λ o. has_event o first.place.event ≡ true) found (known.0.input)

  path_is : leaf.path ≡ first.place.path
  path_is = (at_leaf (IsWired (leaves device)) (leaves device) first.place.path leaf holding.wired found).1

  steps_for : (kind : Kind) (block : book.Block) → kind ≡ Charted block → KindWeighs (steps_of cert) (rows cert.ranges leaf.path kind) leaf.targets leaf.path kind → KindFits cert.ranges leaf.path kind
      → is_in first.place.event (events_of kind) ≡ true → CellsLie cert.ranges leaf.path kind (sampled old.store leaf first.place.event).cells
      → (m : Moment) → Reaches block (dispatched (sampled old.store leaf first.place.event) first.place.event) m → steps_at m ≤ steps_row cert first.place
  steps_for kind block is w k l lies m r =
      go
      (subst (λ x. KindWeighs (steps_of cert) (rows cert.ranges leaf.path x) leaf.targets leaf.path x) is w)
      (subst (λ x. KindFits cert.ranges leaf.path x) is k)
      (subst (λ x. is_in first.place.event (events_of x) ≡ true) is l)
      (subst (λ x. CellsLie cert.ranges leaf.path x (sampled old.store leaf first.place.event).cells) is lies) m r
    where
      go : KindWeighs (steps_of cert) (rows cert.ranges leaf.path (Charted block)) leaf.targets leaf.path (Charted block) → IsClear cert.ranges leaf.path block → is_in first.place.event (event_names block.event_inputs) ≡ true
          → CellsLie cert.ranges leaf.path (Charted block) (sampled old.store leaf first.place.event).cells → (m : Moment) → Reaches block (dispatched (sampled old.store leaf first.place.event) first.place.event) m → steps_at m ≤ steps_row cert first.place
      go cf clear li ly (At st c phase n out) r =
          let listed_in : InputFits (steps_of cert) leaf.path block first.place.event = at_listed (InputFits (steps_of cert) leaf.path block) (event_names block.event_inputs) first.place.event cf.weights li in
          let within = within_all (steps_of cert) cert.ranges leaf.targets leaf.path block cf clear first.place.event listed_in (dispatched (sampled old.store leaf first.place.event) first.place.event) (At st c phase n out) r ly (refl, refl, refl) in
          let spent : 1 * n + sent_weight (steps_of cert) leaf.targets out ≤ steps_row cert (at_place leaf.path first.place.event) = spent_le (steps_of cert) cert.ranges leaf.targets leaf.path block cf clear first.place.event listed_in phase st c n out within (omega arith) in
          let place_is : steps_row cert (at_place leaf.path first.place.event) ≡ steps_row cert first.place = ap (λ p. steps_row cert (at_place p first.place.event)) path_is in
          omega (arith, spent, place_is)

  steps_within : (block : book.Block) → leaf.kind ≡ Charted block → (m : Moment) → Reaches block (dispatched (sampled old.store leaf first.place.event) first.place.event) m → steps_at m ≤ steps_row cert first.place
  steps_within block is m r =
      let own = at_leaf (LeafLies cert.ranges (leaves device)) (leaves device) first.place.path leaf holding.ranges found in
      let lies = sampled_lies cert.ranges old.store (leaves device) leaf first.place.event s.lies
      (at_leaf (λ leaf. CellsLie cert.ranges leaf.path leaf.kind (old.store leaf.path).cells) (leaves device) first.place.path leaf s.lies found).0 own.0 in
      let w = (at_leaf (λ leaf. KindWeighs (steps_of cert) (rows cert.ranges leaf.path leaf.kind) leaf.targets leaf.path leaf.kind) (leaves device) first.place.path leaf holding.fits.steps found).0 in
      steps_for leaf.kind block is w own.0.kind listed lies m r

  -- at each moment of an invocation nothing traps, it takes no more steps than its weight, and there is room for what it emits
  pub fine_so : (os : List Output) (block : book.Block) (before : LeafState) (e : Name) → AllByRecursion (LeadsTo (leaves device) leaf) os → leaf.kind ≡ Charted block → sampled old.store leaf first.place.event ≡ before → first.place.event ≡ e
      → (room : ℕ) → depth_of cert device q ≤ room → (m : Moment) → Reaches block (dispatched before e) m → CanGoOn block os (steps_row cert first.place) room m
  fine_so os block before e led is b n room deep m r =
      let back : dispatched before e ≡ dispatched (sampled old.store leaf first.place.event) first.place.event =
      ap (λ k. dispatched k e) (sym b) ∙ ap (λ v. dispatched (sampled old.store leaf first.place.event) v) (sym n) in
      let run = subst (λ x. Reaches block x m) back r in
      let f = fine cert device holding old s q first rest leaf was found block is m run in
      record {
        clear = f.clear;
        steps = steps_within block is m run;
        enough = omega (arith, f.depth, sent_le (leaves device) leaf os (emitted_of m) led, deep);
      }

  wired : IsWired (leaves device) leaf
  wired = (at_leaf (IsWired (leaves device)) (leaves device) first.place.path leaf holding.wired found).0

  -- what an event of a service can emit is paid by its places
  paid_at : (kind : Kind) (service : Service) → kind ≡ Serviced service → KindWeighs (places_of cert) (rows cert.ranges leaf.path kind) leaf.targets leaf.path kind → is_in first.place.event (events_of kind) ≡ true
      → sum_by (places_row cert) (reached leaf.targets (can_emit service first.place.event)) ≤ places_row cert first.place
  paid_at kind service is w l =
      let fits : AllByRecursion (EventFits (places_of cert) leaf.targets leaf.path service) (service_events service) = subst (λ k. KindWeighs (places_of cert) (rows cert.ranges leaf.path k) leaf.targets leaf.path k) is w in
      let here : is_in first.place.event (service_events service) ≡ true = subst (λ k. is_in first.place.event (events_of k) ≡ true) is l in
      let own = (at_listed (EventFits (places_of cert) leaf.targets leaf.path service) (service_events service) first.place.event fits here).emissions in
      let place_is : places_row cert (at_place leaf.path first.place.event) ≡ places_row cert first.place = ap (λ p. places_row cert (at_place p first.place.event)) path_is in
      omega (arith, own, place_is)

  -- there is room for all that an event of a service can emit
  pub service_room : (service : Service) → leaf.kind ≡ Serviced service → length rest + length (reached leaf.targets (can_emit service first.place.event)) ≤ depth_of cert device q
  service_room service is =
      let outs : List Name = can_emit service first.place.event in
      let w = (at_leaf (λ leaf. KindWeighs (places_of cert) (rows cert.ranges leaf.path leaf.kind) leaf.targets leaf.path leaf.kind) (leaves device) first.place.path leaf holding.fits.places found).0 in
      let paid = paid_at leaf.kind service is w listed in
      let sent : length (reached leaf.targets outs) ≤ sum_by (places_row cert) (reached leaf.targets outs) =
      length_places (places_row cert) (reached leaf.targets outs)
      (all_weaker (λ p. is_input (leaves device) p ≡ true) (λ p. 1 ≤ places_row cert p) (reached leaf.targets outs) (λ p i. input_weight (places_of cert) cert.ranges (leaves device) p holding.fits.places i) (all_reached (leaves device) leaf wired outs)) in
      let rest_le : length rest ≤ sum_by (λ e. places_row cert e.place) rest =
      length_le (places_row cert) rest (all_weaker (IsKnown device s.opening_of s.home_of old.next q) (λ e. 1 ≤ places_row cert e.place) rest (λ e k. input_weight (places_of cert) cert.ranges (leaves device) e.place holding.fits.places k.input) known.1) in
      let all_le : sum_by (λ e. places_row cert e.place) (old.queues q) ≤ held (places_row cert) (old.queues q) = places_le (places_row cert) s.opening_of (old.queues q) (openings cert device holding old s q (old.queues q) old.next (s.entries q)) (s.places q) in
      let was_is : sum_by (λ e. places_row cert e.place) (old.queues q) ≡ sum_by (λ e. places_row cert e.place) (first ∷ rest) = ap (λ es. sum_by (λ (e : Entry). places_row cert e.place) es) was in
      omega (arith, paid, sent, rest_le, all_le, was_is, sum_by-cons (λ (e : Entry). places_row cert e.place) first rest, s.depth q)
