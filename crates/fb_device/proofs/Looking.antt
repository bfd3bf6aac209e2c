-- What a block holds, and how full a queue is.
use Rattle.std.proofs.Common.{◌≡◌, ℕ, ◌+◌, ◌-◌, ◌≤◌, List, [], ◌∷◌, zero, suc, length, map, slice_get, Some, None, refl, sym, ◌∙◌, ap, arith, string_bytes}
use Rattle.std.proofs.lemmas.List.{length-map}
use Rattle.fb_model.specs.System as book
use Rattle.fb_model.specs.System.{Device}
use Rattle.fb_model.specs.Wires.{Leaf}
use Rattle.fb_model.specs.Certificates.{Certificate, depth_of}
use Rattle.fb_model.specs.CertificateText.{names_in}
use Rattle.fb_model.specs.Devices.{held, places_row}
use Rattle.fb_lists.proofs.Lists.{same_at}
use Rattle.st_exec.specs.Cells.{Cell, Form, forms_of}
use Rattle.fb_chart.specs.declared.table.Block.{Block}
use Rattle.fb_chart.specs.declared.memory.Condition.{Condition}
use Rattle.fb_chart.specs.Conditions.{leaf_state}
use Rattle.fb_device_tables.specs.declared.table.Resource.{Resource}
use Rattle.fb_device_tables.specs.Views.{place_at}
use Rattle.fb_device_tables.specs.Tables.{AreResources}
use Rattle.fb_sched.specs.Agenda.{Agenda, slot_at, all_places}
use Rattle.fb_sched.specs.Entries.{entries, entry_by, booked}
use Rattle.fb_sched.proofs.Marked.{places_held}
use Rattle.fb_device_state.specs.declared.program.Program.{Program}
use Rattle.fb_device_state.specs.declared.program.Running.{Running}
use Rattle.fb_device_state.specs.Machines.{running_rows, running_device, running_leaves, running_state, entries_in}
use Rattle.fb_device_state.specs.Keeping.{IsQueue, IsGood}
use Rattle.fb_device_state.proofs.Arriving.{resource_count}
use Rattle.fb_device_state.proofs.Blocks.{Pair, leaf_of, block_of, block_count}
use Rattle.fb_device_state.proofs.Queued.{queue_here}
use Rattle.fb_device_state.proofs.Storing.{stored_at}
use Rattle.fb_device.specs.declared.look.Look.{Look}
use Rattle.fb_device.specs.declared.look.Fill.{Fill}
use Rattle.fb_device.specs.Looks.{IsLook, IsFill}
use Rattle.fb_device.proofs.Beginning.{resource_depth}
use Rattle.fb_device.proofs.Finding.{none_at}

-- the resource of a number, by its name
resource_named : (cert : Certificate) (device : Device) (n : ℕ) (xs : List Resource) (rs : List book.Resource) (k : ℕ) (x : Resource) → AreResources cert device n xs rs → slice_get xs k ≡ Some x
    → (home : book.Resource) × (slice_get rs k ≡ Some home) × (string_bytes x.name ≡ home.name)
resource_named cert device n [] [] k x a h = cc
resource_named cert device n [] (r ∷ rs) k x a h = absurd a
resource_named cert device n (y ∷ ys) [] k x a h = absurd a
resource_named cert device n (y ∷ ys) (r ∷ rs) zero x a h = (let e : y ≡ x = cc in (r, refl, ap (λ (z : Resource). string_bytes z.name) (sym e) ∙ a.0))
resource_named cert device n (y ∷ ys) (r ∷ rs) (suc k) x a h = resource_named cert device (n + 1) ys rs k x a.2 h

module _ (p : Program) (r : Running) (g : IsGood p r) where
  abbrev all : List Leaf
  all = running_leaves p r

  abbrev owns : List (List Form)
  owns = map forms_of r.memory.own.items

  abbrev issues : List (List Form)
  issues = map forms_of r.memory.issued.items

  as_many : length p.tables.blocks.items ≡ length all
  as_many = (block_count (running_rows p r) all issues owns issues p.tables.blocks.items p.tables.ports.items all g.program.tables.blocks).0

  -- a block with what it holds
  pub record Holds (block : ℕ) : Type 0 where
    pub leaf : Leaf
    pub x : Block
    pub own : List Cell
    pub issued : List Cell
    pub condition : Condition
    pub leaf_is : slice_get all block ≡ Some leaf
    pub block_is : slice_get p.tables.blocks.items block ≡ Some x
    pub own_is : slice_get r.memory.own.items block ≡ Some own
    pub issued_is : slice_get r.memory.issued.items block ≡ Some issued
    pub condition_is : slice_get r.memory.conditions.items block ≡ Some condition
    pub path_is : names_in (string_bytes x.path) ≡ leaf.path
    pub holds : (running_state p r).store leaf.path ≡ leaf_state leaf.kind own issued condition

  pub holds_at : (block : ℕ) (x : Block) → slice_get p.tables.blocks.items block ≡ Some x → Holds block
  holds_at block x at =
      let l = leaf_of all p.tables.blocks.items block x as_many at in
      let k : Pair (running_rows p r) all issues owns issues p.tables.blocks.items p.tables.ports.items block l.0 =
      block_of (running_rows p r) all issues owns issues p.tables.blocks.items p.tables.ports.items all block l.0 g.program.tables.blocks l.1 in
      let s = g.stand block l.0 l.1 in
      record {
        leaf = l.0;
        x = k.block;
        own = s.own;
        issued = s.issued;
        condition = s.condition;
        leaf_is = l.1;
        block_is = k.stands;
        own_is = s.own_is;
        issued_is = s.issued_is;
        condition_is = s.condition_is;
        path_is = k.is.path;
        holds = stored_at all r.memory.own.items r.memory.issued.items r.memory.conditions.items block l.0 s.own s.issued s.condition g.program.tables.apart l.1 s.own_is s.issued_is s.condition_is;
      }

  pub no_leaf : (block : ℕ) → length p.tables.blocks.items ≤ block → slice_get all block ≡ None
  no_leaf block h = none_at all block (omega (arith, h, as_many))

  -- ---- queues

  pub as_many_queues : length r.queues.items ≡ length (running_device p r).resources
  as_many_queues = g.count ∙ resource_count (running_rows p r) (running_device p r) 0 p.tables.resources.items (running_device p r).resources g.program.tables.resources

  module _ (at : ℕ) (a : Agenda) (a_is : slice_get r.queues.items at ≡ Some a) where
    queue : IsQueue (running_rows p r) (running_device p r) at a
    queue = g.queues at a a_is

    queue_is : (running_state p r).queues at ≡ entries_in all a
    queue_is = ap (entries_in all) (queue_here r.queues.items at a a_is)

    pub pending_is : length a.tickets ≡ length ((running_state p r).queues at)
    pending_is = sym (ap length queue_is ∙ length-map (entries a) (booked (place_at all)) ∙ length-map a.tickets (λ t. entry_by (slot_at a.slots t.slot) t))

    pub free_is : a.room - all_places a.slots ≡ depth_of (running_rows p r) (running_device p r) at - held (places_row (running_rows p r)) ((running_state p r).queues at)
    free_is =
        let held_is : held (places_row (running_rows p r)) ((running_state p r).queues at) ≡ all_places a.slots =
        ap (held (places_row (running_rows p r))) queue_is ∙ places_held a (places_row (running_rows p r)) (place_at all) queue.agenda queue.pending queue.placed.weighs in
        omega (arith, held_is, queue.room)

  pub depth_is : (at : ℕ) (x : Resource) → slice_get p.tables.resources.items at ≡ Some x → x.depth ≡ depth_of (running_rows p r) (running_device p r) at
  depth_is at x h =
      let on : 0 + at ≡ at = omega arith in
      resource_depth (running_rows p r) (running_device p r) 0 at p.tables.resources.items (running_device p r).resources x g.program.tables.resources h ∙ ap (depth_of (running_rows p r) (running_device p r)) on

  pub home_at : (at : ℕ) (x : Resource) → slice_get p.tables.resources.items at ≡ Some x → (home : book.Resource) × (slice_get (running_device p r).resources at ≡ Some home) × (string_bytes x.name ≡ home.name)
  home_at at x h = resource_named (running_rows p r) (running_device p r) 0 p.tables.resources.items (running_device p r).resources at x g.program.tables.resources h

  -- what is looked at by numbers is what a block holds
  pub look_is : (block : ℕ) (x : Block) (look : Look) → slice_get p.tables.blocks.items block ≡ Some x → look.path.now ≡ string_bytes x.path
      → slice_get r.memory.own.items block ≡ Some look.own.now → slice_get r.memory.issued.items block ≡ Some look.issued.now → slice_get r.memory.conditions.items block ≡ Some look.condition
      → IsLook all (running_state p r).store block look
  look_is block x look at path own issued condition =
      let h = holds_at block x at in
      let same : h.x ≡ x = same_at p.tables.blocks.items block h.x x h.block_is at in
      let own_same : h.own ≡ look.own.now = same_at r.memory.own.items block h.own look.own.now h.own_is own in
      let issued_same : h.issued ≡ look.issued.now = same_at r.memory.issued.items block h.issued look.issued.now h.issued_is issued in
      let condition_same : h.condition ≡ look.condition = same_at r.memory.conditions.items block h.condition look.condition h.condition_is condition in
      record {
        leaf = h.leaf;
        block_is = h.leaf_is;
        path_is = ap names_in (path ∙ ap (λ (y : Block). string_bytes y.path) (sym same)) ∙ h.path_is;
        holds = h.holds ∙ ap (λ o. leaf_state h.leaf.kind o h.issued h.condition) own_same ∙ ap (λ i. leaf_state h.leaf.kind look.own.now i h.condition) issued_same ∙ ap (leaf_state h.leaf.kind look.own.now look.issued.now) condition_same;
      }

  -- how full a queue is, by numbers
  pub fill_is : (at : ℕ) (a : Agenda) (x : Resource) (fill : Fill) → slice_get r.queues.items at ≡ Some a → slice_get p.tables.resources.items at ≡ Some x → fill.name.now ≡ string_bytes x.name
      → fill.pending ≡ length a.tickets → fill.depth ≡ x.depth → fill.free ≡ a.room - all_places a.slots → IsFill (running_rows p r) (running_device p r) (running_state p r) at fill
  fill_is at a x fill a_is x_is name pending depth free =
      let home = home_at at x x_is in
      record {
        home = home.0;
        home_is = home.1;
        name = name ∙ home.2;
        pending = pending ∙ pending_is at a a_is;
        depth = depth ∙ depth_is at x x_is;
        free = free ∙ free_is at a a_is;
      }
