-- A device to which nothing has happened.
use Rattle.std.proofs.Common.{◌≡◌, ℕ, zero, suc, ◌+◌, ◌<◌, ◌≤◌, ◌^◌, cond, List, [], ◌∷◌, ◌++◌, map, take, get_or, length, slice_get, Option, Some, Vec, refl, sym, ◌∙◌, ap, subst, arith}
use Rattle.std.proofs.Math.Path.{fun_ext}
use Rattle.std.specs.Prelude.{IfSome}
use Rattle.std.specs.declared.alloc.Global.{Global}
use Rattle.std.proofs.lemmas.List.{length-map, take_more}
use Rattle.std.proofs.lemmas.List.Sums.{sum_by-cons}
use Rattle.fb_model.specs.Names.{Path, path_eq}
use Rattle.fb_model.specs.System as book
use Rattle.fb_model.specs.System.{Device, Input, Output, Publish, Subscribe, Delay, Cycle, Restart}
use Rattle.fb_model.specs.Wires.{Kind, Charted, Serviced, Leaf, leaves}
use Rattle.fb_model.specs.Store as st
use Rattle.fb_model.specs.Store.{AtState, LeafState, Store, first_cells, first_condition, first_latest, first_state, first_store, first_upcoming}
use Rattle.fb_model.specs.Certificates.{Certificate, DeviceHolds, names, depth_of}
use Rattle.fb_model.specs.Devices as machines
use Rattle.fb_model.specs.Devices.{silent}
use Rattle.fb_model.specs.Headline.{IsSound}
use Rattle.fb_verified.proofs.Written.{devices_hold}
use Rattle.fb_model_laws.proofs.Few.{devices_few}
use Rattle.fb_verified.specs.declared.verified.Verified.{Verified}
use Rattle.fb_verified.specs.Checked.{system_in, certificate_in, IsChecked}
use Rattle.fb_types.specs.Views.{device_of}
use Rattle.st_exec.specs.Cells.{Cell, values_of, forms_of}
use Rattle.fb_chart.specs.declared.table.Block.{Block}
use Rattle.fb_chart.specs.Views.{named, kind_of}
use Rattle.fb_chart.specs.Sampling.{AreStores}
use Rattle.fb_lists.proofs.Lists.{all_got}
use Rattle.fb_device_tables.specs.declared.table.Resource.{Resource}
use Rattle.fb_device_tables.specs.declared.table.Tables.{Tables}
use Rattle.fb_device_tables.specs.Tables.{AreTables, AreResources}
use Rattle.fb_chart.specs.declared.memory.Condition.{Condition}
use Rattle.fb_chart.specs.Conditions.{condition_at, leaf_state, IsConditionOf}
use Rattle.fb_sched.specs.declared.reaction.Reaction.{Reaction}
use Rattle.fb_sched.specs.Agenda.{Agenda, IsAgenda, slot_at}
use Rattle.fb_sched.specs.Steps.{spent}
use Rattle.fb_sched.specs.Expiry.{AreArmed}
use Rattle.fb_device_values.specs.First.{HaveFirstCells}
use Rattle.fb_device_values.specs.declared.first.FirstValues.{FirstValues}
use Rattle.fb_device_state.specs.declared.program.Program.{Program}
use Rattle.fb_device_state.specs.declared.program.Running.{Running}
use Rattle.fb_device_state.specs.Sessions.{session_of, next_of}
use Rattle.fb_device_state.specs.Machines.{device_at, queue_at, entries_in, standing, store_from, spent_in, machine_of}
use Rattle.fb_device_state.specs.Keeping.{IsStanding, ArePlaced, IsQueue, IsProgram, IsGood}
use Rattle.fb_device_state.proofs.Devices.{device_stands}
use Rattle.fb_device_state.proofs.Storing.{standing_at}
use Rattle.fb_device_state.proofs.Blocks.{Pair, block_of, block_count, mapped}
use Rattle.fb_device_state.proofs.Arriving.{resource_count}
use Rattle.fb_words.specs.declared.format.Format.{Format}
use Rattle.fb_words.specs.declared.format.Format.TheVariants.{First, Second}
use Rattle.fb_wire.specs.declared.message.Stamp.{Stamp}
use Rattle.fb_wire.specs.Views.{stamped_of}
use Rattle.fb_model.specs.Messages.{IsStamp}
use Rattle.fb_chart.specs.Responses.{stamps_in}
use Rattle.fb_device.specs.Starting.{upcoming_of, latest_of, first_of, AreEmpty, IsAtRest}
use Rattle.fb_model.proofs.Starting.{silent_sound}
use Rattle.fb_device.proofs.Silent.{none_armed}

-- ---- queues

abbrev empty : ℕ → Agenda
empty room = record { tickets = []; slots = []; room = room }

empty_more : (xs : List Resource) (qs : List Agenda) (x : Resource) (a : Agenda) → AreEmpty xs qs → a ≡ record { tickets = []; slots = []; room = x.depth } → IsAgenda a → AreEmpty (xs ++ x ∷ []) (qs ++ a ∷ [])
empty_more [] [] x a h e s = (e, s, tt)
empty_more (y ∷ ys) (b ∷ bs) x a h e s = (h.0, h.1, empty_more ys bs x a h.2 e s)
empty_more [] (b ∷ bs) x a h e s = absurd h
empty_more (y ∷ ys) [] x a h e s = absurd h

-- the first so many resources and one more
pub empty_taken : (xs : List Resource) (qs new : List Agenda) (n : ℕ) (x : Resource) (a : Agenda) → n < length xs → x ≡ get_or xs n x → AreEmpty (take n xs) qs → a ≡ record { tickets = []; slots = []; room = x.depth } → IsAgenda a → new ≡ qs ++ a ∷ []
    → AreEmpty (take (n + 1) xs) new
empty_taken xs qs new n x a l is h e s pushed =
    let more : take (n + 1) xs ≡ take n xs ++ x ∷ [] = take_more xs n x l ∙ ap (λ (y : Resource). take n xs ++ y ∷ []) (sym is) in
    subst (λ ys. AreEmpty ys new) (sym more) (subst (AreEmpty (take n xs ++ x ∷ [])) (sym pushed) (empty_more (take n xs) qs x a h e s))

empty_count : (xs : List Resource) (qs : List Agenda) → AreEmpty xs qs → length qs ≡ length xs
empty_count [] [] h = refl
empty_count (x ∷ xs) (a ∷ as') h = omega (arith, empty_count xs as' h.2)
empty_count [] (a ∷ as') h = absurd h
empty_count (x ∷ xs) [] h = absurd h

-- the queue of a number, and its resource
record Emptied (xs : List Resource) (n : ℕ) (a : Agenda) : Type 0 where
  resource : Resource
  stands : slice_get xs n ≡ Some resource
  is : a ≡ empty resource.depth
  sound : IsAgenda a

empty_at : (xs : List Resource) (qs : List Agenda) (n : ℕ) (a : Agenda) → AreEmpty xs qs → slice_get qs n ≡ Some a → Emptied xs n a
empty_at [] [] n a h e = cc
empty_at [] (b ∷ bs) n a h e = absurd h
empty_at (x ∷ xs) [] n a h e = absurd h
empty_at (x ∷ xs) (b ∷ bs) zero a h e = (let s : b ≡ a = cc in record { resource = x; stands = refl; is = sym s ∙ h.0; sound = subst IsAgenda s h.1 })
empty_at (x ∷ xs) (b ∷ bs) (suc n) a h e = (let k = empty_at xs bs n a h.2 e in record { resource = k.resource; stands = k.stands; is = k.is; sound = k.sound })

no_entries : (all : List Leaf) (xs : List Resource) (qs : List Agenda) → AreEmpty xs qs → (q : ℕ) → entries_in all (queue_at qs q) ≡ []
no_entries all [] [] h zero = refl
no_entries all [] [] h (suc q) = refl
no_entries all [] (a ∷ as') h q = absurd h
no_entries all (x ∷ xs) [] h q = absurd h
no_entries all (x ∷ xs) (a ∷ as') h zero = ap (entries_in all) h.0
no_entries all (x ∷ xs) (a ∷ as') h (suc q) = no_entries all xs as' h.2 q

no_steps : (xs : List Resource) (qs : List Agenda) → AreEmpty xs qs → (c : ℕ) → spent_in qs c ≡ 0
no_steps [] [] h c = refl
no_steps [] (a ∷ as') h c = absurd h
no_steps (x ∷ xs) [] h c = absurd h
no_steps (x ∷ xs) (a ∷ as') h c =
    let here : spent a c ≡ 0 = ap (λ (b : Agenda). spent b c) h.0 in
    omega (arith, sum_by-cons (λ (b : Agenda). spent b c) a as', here, no_steps xs as' h.2 c)

nothing_at : (slot : ℕ) (r : Reaction) → slot_at [] slot ≡ Some r → ⊥
nothing_at zero r h = absurd cc
nothing_at (suc slot) r h = absurd cc

pub resource_depth : (cert : Certificate) (device : Device) (n k : ℕ) (xs : List Resource) (rs : List book.Resource) (x : Resource) → AreResources cert device n xs rs → slice_get xs k ≡ Some x → x.depth ≡ depth_of cert device (n + k)
resource_depth cert device n k [] [] x a h = cc
resource_depth cert device n k [] (r ∷ rs) x a h = absurd a
resource_depth cert device n k (y ∷ ys) [] x a h = absurd a
resource_depth cert device n zero (y ∷ ys) (r ∷ rs) x a h =
    let e : y ≡ x = cc in
    let on : n ≡ n + zero = omega arith in
    ap (λ (z : Resource). z.depth) (sym e) ∙ a.1 ∙ ap (depth_of cert device) on
resource_depth cert device n (suc k) (y ∷ ys) (r ∷ rs) x a h =
    let on : n + 1 + k ≡ n + suc k = omega arith in
    resource_depth cert device (n + 1) k ys rs x a.2 h ∙ ap (depth_of cert device) on

empty_queue : (cert : Certificate) (device : Device) (xs : List Resource) (n : ℕ) (a : Agenda) → AreResources cert device 0 xs device.resources → Emptied xs n a → IsQueue cert device n a
empty_queue cert device xs n a are e =
    let on : 0 + n ≡ n = omega arith in
    let depth = resource_depth cert device 0 n xs device.resources e.resource are e.stands ∙ ap (depth_of cert device) on in
    record {
      agenda = e.sound;
      room = ap (λ (b : Agenda). b.room) e.is ∙ depth;
      placed = subst (ArePlaced cert (leaves device)) (sym e.is) (record { points = tt; openings = λ slot r h. absurd (nothing_at slot r h); weighs = λ slot r h. absurd (nothing_at slot r h) });
      pending = λ slot r h. absurd (nothing_at slot r (ap (λ (b : Agenda). slot_at b.slots slot) (sym e.is) ∙ h));
    }

-- ---- what leaves remember

first_is : (states : List book.State) → named (names states) 0 ≡ first_state states
first_is [] = refl
first_is (x ∷ xs) = refl

upcoming_is : (stamp : Stamp) (format : Format) → stamps_in (upcoming_of stamp format) ≡ first_upcoming (stamped_of stamp) format
upcoming_is stamp First = refl
upcoming_is stamp Second = refl

latest_is : (format : Format) → stamps_in (latest_of format) ≡ first_latest format
latest_is First = refl
latest_is Second = refl

first_condition_is : (stamp : Stamp) (k : Kind) → condition_at k (first_of stamp k) ≡ first_condition (stamped_of stamp) k
first_condition_is stamp (Charted block) = ap AtState (first_is block.states)
first_condition_is stamp (Serviced (Input number types)) = refl
first_condition_is stamp (Serviced (Output number types)) = refl
first_condition_is stamp (Serviced (Publish channel types)) = ap st.Closed (upcoming_is stamp channel.format)
first_condition_is stamp (Serviced (Subscribe channel types)) = ap st.Closed (latest_is channel.format)
first_condition_is stamp (Serviced Delay) = refl
first_condition_is stamp (Serviced Cycle) = refl
first_condition_is stamp (Serviced Restart) = refl

first_fits : (stamp : Stamp) (k : Kind) → IsConditionOf k (first_of stamp k)
first_fits stamp (Charted block) = λ some. some
first_fits stamp (Serviced (Input number types)) = tt
first_fits stamp (Serviced (Output number types)) = tt
first_fits stamp (Serviced (Publish channel types)) = tt
first_fits stamp (Serviced (Subscribe channel types)) = tt
first_fits stamp (Serviced Delay) = tt
first_fits stamp (Serviced Cycle) = tt
first_fits stamp (Serviced Restart) = tt

-- leaves, the first of this number, stand as at first
first_stored : (stamp : Stamp) (k : ℕ) (ls : List Leaf) (owns issues : List (List Cell)) → HaveFirstCells ls owns issues → (f : ℕ → Kind → LeafState)
    → ((i : ℕ) (leaf : Leaf) (o x : List Cell) → slice_get ls i ≡ Some leaf → slice_get owns i ≡ Some o → slice_get issues i ≡ Some x → f (k + i) leaf.kind ≡ leaf_state leaf.kind o x (first_of stamp leaf.kind))
    → (p : Path) → store_from k ls f p ≡ first_store (stamped_of stamp) ls p
first_stored stamp k [] [] [] a f h p = refl
first_stored stamp k [] [] (x ∷ xs) a f h p = absurd a
first_stored stamp k [] (o ∷ os) issues a f h p = absurd a
first_stored stamp k (leaf ∷ rest) [] issues a f h p = absurd a
first_stored stamp k (leaf ∷ rest) (o ∷ os) [] a f h p = absurd a
first_stored stamp k (leaf ∷ rest) (o ∷ os) (x ∷ xs) a f h p =
    let on : k + 0 ≡ k = omega arith in
    let own : f k leaf.kind ≡ record { cells = first_cells leaf; condition = first_condition (stamped_of stamp) leaf.kind } =
    ap (λ j. f j leaf.kind) (sym on) ∙ h 0 leaf o x refl refl refl
    ∙ ap (λ v. record { cells = record { own = v; issued = values_of x }; condition = condition_at leaf.kind (first_of stamp leaf.kind) }) a.0.own
    ∙ ap (λ v. record { cells = record { own = (first_cells leaf).own; issued = v }; condition = condition_at leaf.kind (first_of stamp leaf.kind) }) a.0.issued
    ∙ ap (λ (c : st.Condition). record { cells = first_cells leaf; condition = c }) (first_condition_is stamp leaf.kind) in
    ap (λ (s : LeafState). cond (path_eq leaf.path p) s (store_from (k + 1) rest f p)) own
    ∙ ap (λ (s : LeafState). cond (path_eq leaf.path p) (record { cells = first_cells leaf; condition = first_condition (stamped_of stamp) leaf.kind }) s)
    (first_stored stamp (k + 1) rest os xs a.1 f (λ i l u w e b c. (let up : k + 1 + i ≡ k + suc i = omega arith in ap (λ j. f j l.kind) up ∙ h (suc i) l u w e b c)) p)

-- the stores of a leaf
record Stored (owns issues : List (List Cell)) (k : ℕ) (leaf : Leaf) : Type 0 where
  own : List Cell
  issued : List Cell
  own_is : slice_get owns k ≡ Some own
  issued_is : slice_get issues k ≡ Some issued
  stores : AreStores leaf.kind (forms_of own) (forms_of issued)

first_stand : (ls : List Leaf) (owns issues : List (List Cell)) → HaveFirstCells ls owns issues → (k : ℕ) (leaf : Leaf) → slice_get ls k ≡ Some leaf → Stored owns issues k leaf
first_stand [] owns issues a k leaf h = cc
first_stand (l ∷ ls) [] issues a k leaf h = absurd a
first_stand (l ∷ ls) (o ∷ os) [] a k leaf h = absurd a
first_stand (l ∷ ls) (o ∷ os) (x ∷ xs) a zero leaf h =
    let e : l ≡ leaf = cc in
    record { own = o; issued = x; own_is = refl; issued_is = refl; stores = subst (λ (j : Leaf). AreStores j.kind (forms_of o) (forms_of x)) e a.0.stores }
first_stand (l ∷ ls) (o ∷ os) (x ∷ xs) a (suc k) leaf h =
    let s = first_stand ls os xs a.1 k leaf h in
    record { own = s.own; issued = s.issued; own_is = s.own_is; issued_is = s.issued_is; stores = s.stores }

-- ---- the whole

module _ (program : Program) (begins : ℕ) (stamp : Stamp) (first : FirstValues) (r : Running) (checked : IsChecked program.verified.value)
    (within : program.number < length (system_in program.verified.value).devices)
    (tables : (d : Device) → slice_get (system_in program.verified.value).devices program.number ≡ Some d → AreTables (certificate_in program.verified.value) d (map forms_of r.memory.own.items) (map forms_of r.memory.issued.items) program.tables)
    (firsts : (d : Device) → slice_get (system_in program.verified.value).devices program.number ≡ Some d → HaveFirstCells (leaves d) first.own.items first.issued.items) (rest : IsAtRest program.tables first begins stamp r) where
  abbrev v : Verified
  v = program.verified.value

  abbrev k : ℕ
  k = program.number

  abbrev t : Tables
  t = program.tables

  abbrev device : Device
  device = device_at (system_in v).devices k

  abbrev cert : Certificate
  cert = certificate_in v

  abbrev owns : List (List Cell)
  owns = r.memory.own.items

  abbrev issues : List (List Cell)
  issues = r.memory.issued.items

  abbrev conditions : List Condition
  conditions = r.memory.conditions.items

  stands : slice_get (system_in v).devices k ≡ Some device
  stands = device_stands (system_in v).devices k within

  are : AreTables cert device (map forms_of owns) (map forms_of issues) t
  are = tables device stands

  holds : DeviceHolds cert device
  holds = all_got (DeviceHolds cert) (system_in v).devices k device (devices_hold (system_in v) cert checked.written checked.fits) stands

  values : HaveFirstCells (leaves device) owns issues
  values = subst (λ (w : Vec (List Cell) Global). HaveFirstCells (leaves device) owns w.items) (sym rest.issued) (subst (λ (w : Vec (List Cell) Global). HaveFirstCells (leaves device) w.items first.issued.items) (sym rest.own) (firsts device stands))

  remembers : (i : ℕ) (leaf : Leaf) → slice_get (leaves device) i ≡ Some leaf → slice_get conditions i ≡ Some (first_of stamp leaf.kind)
  remembers i leaf h =
      let b : Pair cert (leaves device) (map forms_of issues) (map forms_of owns) (map forms_of issues) t.blocks.items t.ports.items i leaf =
      block_of cert (leaves device) (map forms_of issues) (map forms_of owns) (map forms_of issues) t.blocks.items t.ports.items (leaves device) i leaf are.blocks h in
      ap (λ (cs : List Condition). slice_get cs i) rest.conditions ∙ mapped (λ (x : Block). first_of stamp (kind_of x)) t.blocks.items i b.block b.stands ∙ ap (λ (j : Kind). Some (first_of stamp j)) b.is.kind

  store_is : store_from 0 (leaves device) (standing owns issues conditions) ≡ first_store (stamped_of stamp) (leaves device)
  store_is = fun_ext (first_stored stamp 0 (leaves device) owns issues values (standing owns issues conditions)
      (λ i leaf o x h a b. (let same : 0 + i ≡ i = omega arith in ap (λ j. standing owns issues conditions j leaf.kind) same ∙ standing_at owns issues conditions i leaf.kind o x (first_of stamp leaf.kind) a b (remembers i leaf h))))

  abbrev pending_in : ℕ → List machines.Entry
  pending_in q = entries_in (leaves device) (queue_at r.queues.items q)

  queues_are : pending_in ≡ (λ q. [])
  queues_are = fun_ext (no_entries (leaves device) t.resources.items r.queues.items rest.queues)

  steps_are : spent_in r.queues.items ≡ (λ c. 0)
  steps_are = fun_ext (no_steps t.resources.items r.queues.items rest.queues)

  pub machine_is : machine_of (session_of program r) ≡ silent device begins (stamped_of stamp)
  machine_is =
      ap (λ (f : ℕ → List machines.Entry). record { queues = f; store = store_from 0 (leaves device) (standing owns issues conditions); spent = spent_in r.queues.items; clock = r.clock; next = next_of r.next }) queues_are
      ∙ ap (λ (f : Store). record { queues = λ q. []; store = f; spent = spent_in r.queues.items; clock = r.clock; next = next_of r.next }) store_is
      ∙ ap (λ (f : ℕ → ℕ). record { queues = λ q. []; store = first_store (stamped_of stamp) (leaves device); spent = f; clock = r.clock; next = next_of r.next }) steps_are
      ∙ ap (λ (n : ℕ). record { queues = λ q. []; store = first_store (stamped_of stamp) (leaves device); spent = λ c. 0; clock = n; next = next_of r.next }) rest.clock
      ∙ ap (λ (o : Option ℕ). record { queues = λ q. []; store = first_store (stamped_of stamp) (leaves device); spent = λ c. 0; clock = 0; next = next_of o }) rest.next

  -- where the stamp is one
  sound : IsStamp (stamped_of stamp) → IsSound cert device (machine_of (session_of program r))
  sound is = subst (IsSound cert device) (sym machine_is) (silent_sound cert device holds begins (stamped_of stamp) is)

  stand : (i : ℕ) (leaf : Leaf) → slice_get (leaves device) i ≡ Some leaf → IsStanding leaf i owns issues conditions
  stand i leaf h =
      let s = first_stand (leaves device) owns issues values i leaf h in
      record { own = s.own; issued = s.issued; condition = first_of stamp leaf.kind; own_is = s.own_is; issued_is = s.issued_is; condition_is = remembers i leaf h; stores = s.stores; fits = first_fits stamp leaf.kind }

  armed : AreArmed (machine_of (session_of program r)).store (leaves device) r.timers.armed
  armed = subst (AreArmed (machine_of (session_of program r)).store (leaves device)) (sym rest.armed) (subst (λ (s : Store). AreArmed s (leaves device) []) (sym store_is) (none_armed (stamped_of stamp) (leaves device) (leaves device)))

  is_program : IsProgram program r
  is_program = record {
    checked = checked;
    holds = holds;
    tables = are;
    device = omega (arith, within, length-map v.typed.devices.items device_of);
    few = omega (
      arith,
      resource_count cert device 0 t.resources.items device.resources are.resources,
      (all_got (λ (d : Device). (length (leaves d) ≤ 16384) × (length d.resources ≤ 16)) (system_in v).devices k device (devices_few checked.written.1.typed.library checked.written.1.source (system_in v) checked.written.1.typed.typed) stands).1,
    );
  }

  pub good_at_first : IsStamp (stamped_of stamp) → begins < 2 ^ 64 → IsGood program r
  good_at_first is early = record {
    program = is_program;
    sound = sound is;
    stand = stand;
    count = empty_count t.resources.items r.queues.items rest.queues;
    queues = λ n a h. empty_queue cert device t.resources.items n a are.resources (empty_at t.resources.items r.queues.items n a rest.queues h);
    armed = armed;
    timers = omega (arith, rest.timers, (block_count cert (leaves device) (map forms_of issues) (map forms_of owns) (map forms_of issues) t.blocks.items t.ports.items (leaves device) are.blocks).0);
    outbox = rest.outbox;
    wide = rest.wide;
    next = subst (λ (o : Option ℕ). IfSome o (λ n. n < 2 ^ 64)) (sym rest.next) early;
  }
