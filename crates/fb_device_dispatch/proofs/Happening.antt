-- A dispatch, from what stands at the numbers of its entry to what its block can do.
use Rattle.std.proofs.Common.{◌≡◌, ℕ, zero, suc, ◌+◌, ◌-◌, ◌^◌, ◌<◌, ◌≤◌, List, [], ◌∷◌, map, length, slice_get, Some, string_bytes, sym, ◌∙◌, ap, subst, arith}
use Rattle.std.specs.List.{AllByRecursion}
use Rattle.fb_model.specs.Names.{Place}
use Rattle.fb_model.specs.System as book
use Rattle.fb_model.specs.System.{Device}
use Rattle.fb_model.specs.Services.{can_emit}
use Rattle.fb_model.specs.Wires.{Kind, Charted, Serviced, Leaf, leaves, leaf_at}
use Rattle.fb_model.specs.Store.{LeafState, sampled}
use Rattle.fb_model.specs.Ranges.{AllLie, CellsLie, LeafLies, IsMessage}
use Rattle.fb_model.specs.Certificates.{Certificate, depth_of, reached}
use Rattle.fb_model.specs.Devices.{Entry, Machine, steps_row}
use Rattle.fb_model.proofs.Running.{sampled_lies}
use Rattle.fb_model_laws.specs.Leaves.{OnChart, IsClosed}
use Rattle.fb_model_laws.proofs.Closed.{all_charts_closed}
use Rattle.fb_model_laws.specs.Shaped.{IsShapely}
use Rattle.fb_model_laws.proofs.Blocks.{all_charts_shapely}
use Rattle.fb_model_laws.proofs.Taking.{TakesInputs, all_take_inputs}
use Rattle.st_exec.specs.Cells.{Cell, Form, values_of, forms_of}
use Rattle.fb_chart.specs.declared.table.Event.{Event}
use Rattle.fb_chart.specs.declared.table.Block.{Block}
use Rattle.fb_chart.specs.Views.{named, event_names, kind_of}
use Rattle.fb_chart.specs.Tables.{IsTable}
use Rattle.fb_chart.specs.Sampling.{CanTake, AreStores, sampled_by}
use Rattle.fb_chart.specs.declared.standing.Ports.{Ports}
use Rattle.fb_chart.specs.Ports.{ServesPorts}
use Rattle.fb_chart.specs.declared.memory.Condition.{Condition}
use Rattle.fb_chart.specs.Conditions.{IsConditionOf, leaf_state}
use Rattle.fb_chart.specs.Dispatching.{HasRoom, SendsWell, CanRun, Stand, CanDispatch}
use Rattle.fb_verified.specs.Checked.{system_in}
use Rattle.fb_model_texts.proofs.Small.{weights_at_most}
use Rattle.fb_device_tables.specs.declared.table.Resource.{Resource}
use Rattle.fb_device_tables.specs.Views.{place_at}
use Rattle.fb_device_tables.specs.Tables.{IsPoint, IsBlock, AreResources}
use Rattle.fb_sched.specs.declared.ticket.Ticket.{Ticket}
use Rattle.fb_sched.specs.declared.reaction.Reaction.{Reaction}
use Rattle.fb_sched.specs.Agenda.{Agenda}
use Rattle.fb_sched.specs.Entries.{booked}
use Rattle.fb_sched.proofs.Entries.{takes_entries}
use Rattle.fb_device_state.specs.declared.program.Program.{Program}
use Rattle.fb_device_state.specs.declared.program.Running.{Running}
use Rattle.fb_device_state.specs.Sessions.{session_of}
use Rattle.fb_device_state.specs.Machines.{device_in, cert_in, entries_in, machine_of}
use Rattle.fb_device_state.specs.Keeping.{IsStanding, IsQueue, ArePlaced, IsGood}
use Rattle.fb_device_dispatch.specs.Taking.{HasTaken}
use Rattle.fb_lists.proofs.Lists.{all_got, same_at}
use Rattle.fb_device_state.proofs.Devices.{device_here}
use Rattle.fb_device_state.proofs.Blocks.{Known, known, found, steps_are, within, standing, mapped}
use Rattle.fb_device_state.proofs.Queued.{queue_here}
use Rattle.fb_device_state.proofs.Kept.{takes_placed}
use Rattle.fb_device_dispatch.proofs.Sampled.{can_take, sampled_is}
use Rattle.fb_device_dispatch.proofs.Sends.{sends_well}
use Rattle.fb_device_dispatch.proofs.Reaching.{fine_so, service_room, sent_le, known as known_entries}

-- a resource of tables has its DEPTH
depth_at : (cert : Certificate) (device : Device) (n : ℕ) (xs : List Resource) (rs : List book.Resource) (k : ℕ) (x : Resource) → AreResources cert device n xs rs → slice_get xs k ≡ Some x → x.depth ≡ depth_of cert device (n + k)
depth_at cert device n [] rs k x a h = cc
depth_at cert device n (y ∷ ys) [] k x a h = absurd a
depth_at cert device n (y ∷ ys) (r ∷ rs) zero x a h = (let e : y ≡ x = cc in let z : n ≡ n + 0 = omega arith in ap (λ (v : Resource). v.depth) (sym e) ∙ a.1 ∙ ap (depth_of cert device) z)
depth_at cert device n (y ∷ ys) (r ∷ rs) (suc k) x a h = (let z : n + 1 + k ≡ n + suc k = omega arith in depth_at cert device (n + 1) ys rs k x a.2 h ∙ ap (depth_of cert device) z)

module _ (p : Program) (r : Running) (g : IsGood p r) (q : ℕ) (first : Ticket) (qs : List Agenda) (t : HasTaken r.queues.items q first qs) where
  abbrev pub cert : Certificate
  cert = cert_in (session_of p r)

  abbrev pub device : Device
  device = device_in (session_of p r)

  abbrev pub all : List Leaf
  all = leaves (device_in (session_of p r))

  abbrev pub m : Machine
  m = machine_of (session_of p r)

  abbrev pub owns : List (List Form)
  owns = map forms_of r.memory.own.items

  abbrev pub issues : List (List Form)
  issues = map forms_of r.memory.issued.items

  -- ---- the entry

  abbrev pub reaction : Reaction
  reaction = t.takes.reaction

  pub queue : IsQueue cert device q t.was
  queue = g.queues q t.was t.stands

  pub placed : IsPoint all first.point × ArePlaced cert all t.left
  placed = takes_placed cert all t.was t.left first t.takes queue.placed

  pub point : Known cert all issues owns issues p.tables.blocks.items p.tables.ports.items first.point
  point = known cert all issues owns issues p.tables.blocks.items p.tables.ports.items first.point g.program.tables.blocks placed.0

  pub opening : Known cert all issues owns issues p.tables.blocks.items p.tables.ports.items reaction.opening
  opening = known cert all issues owns issues p.tables.blocks.items p.tables.ports.items reaction.opening g.program.tables.blocks (queue.placed.openings first.slot reaction t.takes.was)

  abbrev pub entry : Entry
  entry = record { cause = reaction.cause; opening = place_at all reaction.opening; place = place_at all first.point; values = first.values.items }

  pub queue_is : m.queues q ≡ entries_in all t.was
  queue_is = ap (entries_in all) (queue_here r.queues.items q t.was t.stands)

  pub was_is : m.queues q ≡ entry ∷ entries_in all t.left
  was_is = queue_is ∙ ap (map (booked (place_at all))) (takes_entries t.was t.left first reaction t.takes t.takes.was)

  -- ---- its leaf

  abbrev pub leaf : Leaf
  leaf = point.leaf

  abbrev pub old_stand : IsStanding leaf first.point.block r.memory.own.items r.memory.issued.items r.memory.conditions.items
  old_stand = g.stand first.point.block point.leaf point.leaf_stands

  -- what stands at the numbers of the entry
  pub here : Stand p.tables.blocks.items p.tables.ports.items r.memory first.point
  here = (let st = g.stand first.point.block point.leaf point.leaf_stands in record {
    block = point.at.block;
    slots = point.at.slots;
    event = point.event;
    own = st.own;
    issued = st.issued;
    condition = st.condition;
    block_is = point.at.stands;
    slots_is = point.at.slots_stand;
    event_is = point.event_stands;
    own_is = st.own_is;
    issued_is = st.issued_is;
    condition_is = st.condition_is;
  })

  pub found_leaf : leaf_at all (place_at all first.point).path ≡ Some leaf
  found_leaf = found cert all issues owns issues p.tables.blocks.items p.tables.ports.items first.point point g.program.holds.wired

  closed : IsClosed leaf.kind
  closed = (let v = g.program.checked.written.1 in
      all_got (λ (l : Leaf). IsClosed l.kind) all first.point.block leaf
      (all_got (λ (d : Device). AllByRecursion (λ (l : Leaf). IsClosed l.kind) (leaves d)) (system_in p.verified.value).devices p.number device (all_charts_closed v.typed.library v.source (system_in p.verified.value) v.typed.typed) (device_here p r g.program)) point.leaf_stands)

  shaped : OnChart IsShapely leaf.kind
  shaped = (let v = g.program.checked.written.1 in
      all_got (λ (l : Leaf). OnChart IsShapely l.kind) all first.point.block leaf
      (all_got (λ (d : Device). AllByRecursion (λ (l : Leaf). OnChart IsShapely l.kind) (leaves d)) (system_in p.verified.value).devices p.number device (all_charts_shapely v.typed.library v.source (system_in p.verified.value) v.typed.typed) (device_here p r g.program)) point.leaf_stands)

  takes_inputs : TakesInputs leaf.kind
  takes_inputs = (let v = g.program.checked.written.1 in
      all_got (λ (l : Leaf). TakesInputs l.kind) all first.point.block leaf
      (all_got (λ (d : Device). AllByRecursion (λ (l : Leaf). TakesInputs l.kind) (leaves d)) (system_in p.verified.value).devices p.number device (all_take_inputs v.typed.library v.source (system_in p.verified.value) v.typed.typed) (device_here p r g.program)) point.leaf_stands)

  pub message : IsMessage leaf.kind first.values.items
  message = (known_entries cert device g.program.holds m g.sound q entry (entries_in all t.left) was_is leaf found_leaf).0.values leaf found_leaf

  -- the values that it samples lie in their ranges
  own_lies : AllLie cert.ranges leaf.path leaf.kind (sampled m.store leaf (place_at all first.point).event).cells.own
  own_lies =
      (sampled_lies cert.ranges m.store all leaf (place_at all first.point).event g.sound.lies
      (all_got (λ (l : Leaf). CellsLie cert.ranges l.path l.kind (m.store l.path).cells) all first.point.block leaf g.sound.lies point.leaf_stands)
      (all_got (LeafLies cert.ranges all) all first.point.block leaf g.program.holds.ranges point.leaf_stands)).own

  -- the outbox is empty, and has room for the depth of the queue
  pub deep : depth_of cert device q ≤ r.outbox.capacity - length r.outbox.items
  deep =
      let within_it : q < length p.tables.resources.items = omega (arith, within r.queues.items q t.was t.stands, g.count) in
      let x = standing p.tables.resources.items q within_it in
      let depth : x.0.depth ≡ depth_of cert device (0 + q) = depth_at cert device 0 p.tables.resources.items device.resources q x.0 g.program.tables.resources x.1 in
      let z : 0 + q ≡ q = omega arith in
      omega (arith, depth, ap (depth_of cert device) z, all_got (λ (v : Resource). v.depth ≤ r.outbox.capacity) p.tables.resources.items q x.0 g.wide x.1, ap length g.outbox)

  -- no more steps than numbers count
  pub few_steps : (place : Place) → steps_row cert place ≤ 10 ^ 12
  few_steps place = weights_at_most g.program.checked.told.0 cert g.program.checked.told.1 place

  module _ (a : Stand p.tables.blocks.items p.tables.ports.items r.memory first.point) where
    block_same : point.at.block ≡ a.block
    block_same = same_at p.tables.blocks.items first.point.block point.at.block a.block point.at.stands a.block_is

    event_same : point.event ≡ a.event
    event_same = same_at a.block.events.items first.point.event point.event a.event (ap (λ (b : Block). slice_get b.events.items first.point.event) (sym block_same) ∙ point.event_stands) a.event_is

    own_form : point.at.own ≡ forms_of a.own
    own_form = same_at owns first.point.block point.at.own (forms_of a.own) point.at.own_stands (mapped forms_of r.memory.own.items first.point.block a.own a.own_is)

    issued_form : point.at.issued ≡ forms_of a.issued
    issued_form = same_at issues first.point.block point.at.issued (forms_of a.issued) point.at.issued_stands (mapped forms_of r.memory.issued.items first.point.block a.issued a.issued_is)

    pub is : IsBlock cert all issues (forms_of a.own) (forms_of a.issued) a.block a.slots leaf
    is =
        subst (λ (b : Block). IsBlock cert all issues (forms_of a.own) (forms_of a.issued) b a.slots leaf) block_same
        (subst (λ (s : Ports). IsBlock cert all issues (forms_of a.own) (forms_of a.issued) point.at.block s leaf) (same_at p.tables.ports.items first.point.block point.at.slots a.slots point.at.slots_stand a.slots_is)
        (subst (λ (fs : List Form). IsBlock cert all issues fs (forms_of a.issued) point.at.block point.at.slots leaf) own_form
        (subst (λ (fs : List Form). IsBlock cert all issues point.at.own fs point.at.block point.at.slots leaf) issued_form point.at.is)))

    abbrev pub st : IsStanding leaf first.point.block r.memory.own.items r.memory.issued.items r.memory.conditions.items
    st = (let old = g.stand first.point.block point.leaf point.leaf_stands in record {
      own = a.own;
      issued = a.issued;
      condition = a.condition;
      own_is = a.own_is;
      issued_is = a.issued_is;
      condition_is = a.condition_is;
      stores = subst (λ (c : List Cell). AreStores leaf.kind (forms_of c) (forms_of a.issued)) (same_at r.memory.own.items first.point.block old.own a.own old.own_is a.own_is)
          (subst (λ (c : List Cell). AreStores leaf.kind (forms_of old.own) (forms_of c)) (same_at r.memory.issued.items first.point.block old.issued a.issued old.issued_is a.issued_is) old.stores);
      fits = subst (λ (n : Condition). IsConditionOf leaf.kind n) (same_at r.memory.conditions.items first.point.block old.condition a.condition old.condition_is a.condition_is) old.fits;
    })

    event_named : (place_at all first.point).event ≡ string_bytes a.event.name
    event_named = ap (λ (o : Place). o.event) point.place_is ∙ ap (λ (e : Event). string_bytes e.name) event_same

    table_named : named (event_names a.block) first.point.event ≡ string_bytes a.event.name
    table_named = ap (λ (b : Block). named (event_names b) first.point.event) (sym block_same) ∙ point.table_name_is ∙ ap (λ (e : Event). string_bytes e.name) event_same

    pub event_is : (place_at all first.point).event ≡ named (event_names a.block) first.point.event
    event_is = event_named ∙ sym table_named

    weight_is : a.event.steps ≡ steps_row cert (place_at all first.point)
    weight_is = ap (λ (e : Event). e.steps) (sym event_same) ∙ steps_are cert all issues owns issues p.tables.blocks.items p.tables.ports.items first.point point

    takes : AllByRecursion (CanTake r.memory.issued.items (forms_of a.own)) a.event.takes.items
    takes = can_take cert.ranges all r.memory.own.items r.memory.issued.items r.memory.conditions.items g.program.tables.apart g.stand g.program.holds.ranges g.program.holds.wired cert a.block a.slots leaf takes_inputs first.point.block first.point.event point.leaf_stands a.event a.event_is st is

    module _ (cells : List Cell) (values : values_of cells ≡ sampled_by r.memory.issued.items (forms_of a.own) a.event.takes.items (values_of a.own)) where
      -- the leaf after its inputs were sampled
      pub before_is : sampled m.store leaf (place_at all first.point).event ≡ leaf_state leaf.kind cells a.issued a.condition
      before_is =
          ap (sampled m.store leaf) event_named
          ∙ sampled_is cert.ranges all r.memory.own.items r.memory.issued.items r.memory.conditions.items g.program.tables.apart g.stand g.program.holds.ranges g.program.holds.wired cert a.block a.slots leaf takes_inputs first.point.block first.point.event point.leaf_stands a.event a.event_is st is cells values

      sends : SendsWell leaf.kind (values_of cells)
      sends = sends_well cert.ranges leaf.path leaf.kind (values_of cells) (subst (λ (s : LeafState). AllLie cert.ranges leaf.path leaf.kind s.cells.own) before_is own_lies)

      has_room : (kind : Kind) → kind ≡ leaf.kind → HasRoom kind a.block.outputs.items (leaf_state kind cells a.issued a.condition) (named (event_names a.block) first.point.event) a.event.steps (r.outbox.capacity - length r.outbox.items)
      has_room (Charted block) e =
          λ n v.
          let before : sampled m.store leaf (place_at all first.point).event ≡ leaf_state (Charted block) cells a.issued a.condition = before_is ∙ ap (λ (j : Kind). leaf_state j cells a.issued a.condition) (sym e) in
          let f = fine_so cert device g.program.holds m g.sound q entry (entries_in all t.left) was_is leaf found_leaf a.block.outputs.items block (leaf_state (Charted block) cells a.issued a.condition) (named (event_names a.block) first.point.event) is.leads (sym e) before event_is
          (r.outbox.capacity - length r.outbox.items) deep n v in
          record { clear = f.clear; steps = omega (arith, f.steps, weight_is); enough = f.enough }
      has_room (Serviced service) e =
          let room = service_room cert device g.program.holds m g.sound q entry (entries_in all t.left) was_is leaf found_leaf service (sym e) in
          let le = sent_le all leaf a.block.outputs.items (can_emit service (named (event_names a.block) first.point.event)) is.leads in
          let same : length (reached leaf.targets (can_emit service (place_at all first.point).event)) ≡ length (reached leaf.targets (can_emit service (named (event_names a.block) first.point.event))) = ap (λ n. length (reached leaf.targets (can_emit service n))) event_is in
          omega (arith, room, le, same, deep)

      can_run : forms_of cells ≡ forms_of a.own → CanRun a.block a.slots cells a.issued a.condition first.point.event first.values.items a.event.steps (r.outbox.capacity - length r.outbox.items)
      can_run same = record {
        table = subst (λ (fs : List Form). IsTable fs (forms_of a.issued) a.block) (sym same) is.table;
        ports = subst (λ (fs : List Form). ServesPorts (kind_of a.block) fs a.slots) (sym same) (subst (λ (j : Kind). ServesPorts j (forms_of a.own) a.slots) (sym is.kind) is.ports);
        closed = subst IsClosed (sym is.kind) closed;
        shaped = subst (OnChart IsShapely) (sym is.kind) shaped;
        stores = subst (λ fs. AreStores (kind_of a.block) fs (forms_of a.issued)) (sym same) (subst (λ (j : Kind). AreStores j (forms_of a.own) (forms_of a.issued)) (sym is.kind) st.stores);
        condition = subst (λ (j : Kind). IsConditionOf j a.condition) (sym is.kind) st.fits;
        event = within a.block.events.items first.point.event a.event a.event_is;
        message = subst (λ (j : Kind). IsMessage j first.values.items) (sym is.kind) message;
        few = omega (arith, weight_is, few_steps (place_at all first.point));
        sends = subst (λ (j : Kind). SendsWell j (values_of cells)) (sym is.kind) sends;
        fine = has_room (kind_of a.block) is.kind;
      }

  -- the block of the entry can be sampled and run
  pub can_dispatch : CanDispatch p.tables.blocks.items p.tables.ports.items r.memory first.point first.values.items (r.outbox.capacity - length r.outbox.items)
  can_dispatch = record { at = here; takes = takes here; runs = λ cells same values. can_run here cells values same }
