-- A message that comes in, by the number of the block that it is for.
use Rattle.std.proofs.Common.{◌≡◌, ℕ, ℤ, ◌&&◌, ◌<◌, Bool, true, false, cond, not, List, [], ◌∷◌, map, length, slice_get, Option, Some, None, refl, sym, ◌∙◌, ap, subst, inr}
use Rattle.std.specs.Prelude.{MatchOption}
use Rattle.std.specs.List.{AllByRecursion}
use Rattle.arrayvec.specs.ArrayVec.{ArrayVec}
use Rattle.fb_words.specs.declared.elem_type.ElemType.{ElemType}
use denote.Enum.Bare.{sameb, same_true}
use Rattle.fb_words.specs.contracts.format.Format.{the_type}
use Rattle.fb_words.specs.declared.format.Format.{Format}
use Rattle.fb_words.specs.declared.format.Format.TheVariants.{First, Second}
use Rattle.fb_words.specs.Numbers.{in_type}
use Rattle.fb_model.specs.Values.{all_in}
use Rattle.fb_model.specs.System as system
use Rattle.fb_model.specs.Services.{arrive}
use Rattle.fb_model.specs.Ranges.{types_of}
use Rattle.fb_model.specs.Messages as book
use Rattle.fb_model.specs.Messages.{Message, Spells, IsStamped, To_channel, To_input}
use Rattle.fb_model.specs.Store as st
use Rattle.fb_model.specs.Store.{LeafState}
use Rattle.fb_model.specs.Serving.{is_ready, stamps_of}
use Rattle.fb_model.specs.Wires.{Kind, Charted, Serviced, Leaf, leaves}
use Rattle.fb_model.specs.Certificates.{events_of}
use Rattle.fb_model.specs.Devices.{Machine, Delivers, IsReady, IsShaped, IsFresh, IsStale, addressed, arriving, first_leaf, format_in, format_of, is_after, is_later, is_input_numbered, is_subscriber, types_in, numbers_in, with_stamp}
use Rattle.fb_model.specs.Headline.{IsLatest, KeepsStamps}
use Rattle.fb_wire.specs.declared.message.Purpose.{Purpose}
use Rattle.fb_wire.specs.declared.message.Purpose.TheVariants.{ToChannel, ToInput}
use Rattle.fb_wire.specs.declared.message.Stamp.{Stamp}
use Rattle.fb_wire.specs.declared.message.Typed.{Typed}
use Rattle.fb_wire.specs.Views.{purpose_of, stamped_of, stamp_of, typed_of}
use Rattle.fb_chart.specs.declared.table.Block.{Block}
use Rattle.fb_chart.specs.Views.{kind_of}
use Rattle.fb_chart.specs.Responses.{condition_of}
use Rattle.fb_chart.specs.declared.standing.Stamps.TheVariants as kept
use Rattle.fb_chart.specs.declared.standing.Standing.{Standing}
use Rattle.fb_chart.specs.declared.standing.Standing.TheVariants as s
use Rattle.fb_chart.specs.declared.memory.Condition.{Condition}
use Rattle.fb_chart.specs.declared.memory.Condition.TheVariants as c
use Rattle.fb_chart.specs.Conditions.{leaf_state, condition_at, IsConditionOf}
use Rattle.st_exec.specs.Cells.{Cell}
use Rattle.fb_device_state.proofs.Storing.{stored_at}
use Rattle.fb_device_state.specs.declared.program.Program.{Program}
use Rattle.fb_device_state.specs.declared.program.Running.{Running}
use Rattle.fb_device_state.specs.Sessions.{session_of}
use Rattle.fb_device_state.specs.Machines.{device_in, cert_in, machine_of}
use Rattle.fb_device_state.specs.Keeping.{IsGood, IsStanding}
use Rattle.fb_device_state.specs.Arrivals.{IsArrival, Admits}
use Rattle.fb_device_tables.specs.Tables.{first_at}
use Rattle.fb_lists.proofs.Lists.{all_got, same_at}
use Rattle.fb_device_state.proofs.Blocks.{within}
use Rattle.fb_device_arrivals.specs.Delivering.{is_meant, types_taken, numbers_taken, IsReceived, arrival_number, is_shut}
use Rattle.fb_device_arrivals.specs.Stamping.{is_later_than, unless_later, stale_in, CanKeep}
use Rattle.fb_device_arrivals.proofs.SameKinds.{FirstAt, found_at, none_at, same_kinds}
use Rattle.fb_device_arrivals.proofs.Inputs.{arrives as input_arrives}

-- values in the book, and by their types and numbers
types_same : (vs : List Typed) → types_in (map typed_of vs) ≡ types_taken vs
types_same [] = refl
types_same (v ∷ vs) = ap (λ ts. v.elem ∷ ts) (types_same vs)

numbers_same : (vs : List Typed) → numbers_in (map typed_of vs) ≡ numbers_taken vs
numbers_same [] = refl
numbers_same (v ∷ vs) = ap (λ ns. v.value ∷ ns) (numbers_same vs)

all_fit : (vs : List Typed) → AllByRecursion (λ (v : Typed). in_type v.elem v.value ≡ true) vs → all_in (types_taken vs) (numbers_taken vs) ≡ true
all_fit [] h = refl
all_fit (v ∷ vs) h = ap (λ b. b && all_in (types_taken vs) (numbers_taken vs)) h.0 ∙ all_fit vs h.1

-- ARRIVE among the events of a SUBSCRIBE, and of a block that is meant
of_subscriber : (kind : Kind) (n : ℕ) → is_subscriber n kind ≡ true → slice_get (events_of kind) 2 ≡ Some arrive
of_subscriber (Charted block) n h = cc
of_subscriber (Serviced (system.Input number types)) n h = cc
of_subscriber (Serviced (system.Output number types)) n h = cc
of_subscriber (Serviced (system.Publish channel types)) n h = cc
of_subscriber (Serviced (system.Subscribe channel types)) n h = refl
of_subscriber (Serviced system.Delay) n h = cc
of_subscriber (Serviced system.Cycle) n h = cc
of_subscriber (Serviced system.Restart) n h = cc

arrives : (kind : Kind) (q : Purpose) (n : ℕ) (b : book.Purpose) → purpose_of q ≡ b → is_meant (record { purpose = b; number = n; stamp = None; values = [] }) kind ≡ true → slice_get (events_of kind) (arrival_number q) ≡ Some arrive
arrives kind ToChannel n To_channel e h = of_subscriber kind n h
arrives kind ToChannel n To_input e h = cc
arrives kind ToInput n To_channel e h = cc
arrives kind ToInput n To_input e h = ap (λ ns. slice_get ns 0) (input_arrives kind n h)

-- what a SUBSCRIBE remembers
shut : (kind : Kind) (own issued : List Cell) (q : Purpose) (n : ℕ) (x : Condition) (b : book.Purpose) (m : Machine) (leaf : Leaf) → purpose_of q ≡ b → is_meant (record { purpose = b; number = n; stamp = None; values = [] }) kind ≡ true
    → m.store leaf.path ≡ leaf_state kind own issued x → is_shut q x ≡ true → IsReady m leaf b → ⊥
shut kind own issued ToInput n x b m leaf e so is h k = cc
shut kind own issued ToChannel n x To_input m leaf e so is h k = cc
shut kind own issued ToChannel n x To_channel m leaf e so is h k = go kind so x h (sym (ap (λ (y : LeafState). is_ready y.condition) is) ∙ k)
  where
    go : (kind : Kind) → is_subscriber n kind ≡ true → (x : Condition) → is_shut ToChannel x ≡ true → is_ready (condition_at kind x) ≡ true → ⊥
    go (Charted block) so x h f = cc
    go (Serviced service) so (c.State k) h f = cc
    go (Serviced service) so (c.Service s.Plain) h f = cc
    go (Serviced service) so (c.Service (s.Closed stamps)) h f = cc
    go (Serviced service) so (c.Service (s.Ready stamps)) h f = cc
    go (Serviced service) so (c.Service s.Quiet) h f = cc
    go (Serviced service) so (c.Service (s.Armed due)) h f = cc
    go (Serviced service) so (c.Service s.Fired) h f = cc

unshut : (kind : Kind) (own issued : List Cell) (q : Purpose) (n : ℕ) (x : Condition) (b : book.Purpose) (m : Machine) (leaf : Leaf) → purpose_of q ≡ b → is_meant (record { purpose = b; number = n; stamp = None; values = [] }) kind ≡ true
    → m.store leaf.path ≡ leaf_state kind own issued x → is_shut q x ≡ false → IsReady m leaf b
unshut kind own issued ToInput n x To_input m leaf e so is h = tt
unshut kind own issued ToInput n x To_channel m leaf e so is h = cc
unshut kind own issued ToChannel n x To_input m leaf e so is h = cc
unshut kind own issued ToChannel n x To_channel m leaf e so is h = ap (λ (y : LeafState). is_ready y.condition) is ∙ go kind so x h
  where
    go : (kind : Kind) → is_subscriber n kind ≡ true → (x : Condition) → is_shut ToChannel x ≡ false → is_ready (condition_at kind x) ≡ true
    go (Charted block) so x h = cc
    go (Serviced service) so (c.State k) h = cc
    go (Serviced service) so (c.Service s.Plain) h = cc
    go (Serviced service) so (c.Service (s.Closed stamps)) h = cc
    go (Serviced service) so (c.Service (s.Ready stamps)) h = refl
    go (Serviced service) so (c.Service s.Quiet) h = cc
    go (Serviced service) so (c.Service (s.Armed due)) h = cc
    go (Serviced service) so (c.Service s.Fired) h = cc

-- ---- stamps

-- of the second format an open SUBSCRIBE has a latest stamp, so one that is not stale is later
later_open : (f : Format) (x : Standing) (stamp : Stamp) → Second ≡ f → IsLatest f (stamps_of (condition_of x)) → is_shut ToChannel (c.Service x) ≡ false → stale_in (c.Service x) (Some stamp) ≡ None → is_after (stamped_of stamp) (stamps_of (condition_of x)) ≡ true
later_open First x stamp e l o h = cc
later_open Second s.Plain stamp e l o h = cc
later_open Second (s.Closed stamps) stamp e l o h = cc
later_open Second s.Quiet stamp e l o h = cc
later_open Second (s.Armed due) stamp e l o h = cc
later_open Second s.Fired stamp e l o h = cc
later_open Second (s.Ready kept.Unstamped) stamp e l o h = absurd l
later_open Second (s.Ready (kept.Upcoming next)) stamp e l o h = absurd l
later_open Second (s.Ready kept.Exhausted) stamp e l o h = absurd l
later_open Second (s.Ready (kept.Latest last)) stamp e l o h = by (is_later_than stamp last) h
  where
    by : (b : Bool) → cond b None (Some last) ≡ None → b ≡ true
    by true h = refl
    by false h = cc

fresh_so : (kind : Kind) (q : Purpose) (b : book.Purpose) (x : Condition) (o : Option Stamp) → purpose_of q ≡ b → IsStamped b (stamp_of o) → format_in (stamp_of o) ≡ format_of kind → IsConditionOf kind x → KeepsStamps kind (condition_at kind x) → is_shut q x ≡ false → stale_in x o ≡ None
    → IsFresh (condition_at kind x) (stamp_of o)
fresh_so kind q b x None e i f t l o h = tt
fresh_so kind q To_input x (Some stamp) e i f t l o h = absurd i
fresh_so kind ToInput To_channel x (Some stamp) e i f t l o h = cc
fresh_so (Charted block) ToChannel To_channel x (Some stamp) e i f t l o h = cc
fresh_so (Serviced service) ToChannel To_channel (c.State n) (Some stamp) e i f t l o h = absurd t
fresh_so (Serviced (system.Input number types)) ToChannel To_channel (c.Service x) (Some stamp) e i f t l o h = cc
fresh_so (Serviced (system.Output number types)) ToChannel To_channel (c.Service x) (Some stamp) e i f t l o h = cc
fresh_so (Serviced (system.Publish channel types)) ToChannel To_channel (c.Service x) (Some stamp) e i f t l o h = cc
fresh_so (Serviced (system.Subscribe channel types)) ToChannel To_channel (c.Service x) (Some stamp) e i f t l o h = later_open channel.format x stamp f l o h
fresh_so (Serviced system.Delay) ToChannel To_channel (c.Service x) (Some stamp) e i f t l o h = cc
fresh_so (Serviced system.Cycle) ToChannel To_channel (c.Service x) (Some stamp) e i f t l o h = cc
fresh_so (Serviced system.Restart) ToChannel To_channel (c.Service x) (Some stamp) e i f t l o h = cc

-- one that is not later
not_later : (stamp last given : Stamp) → unless_later (Some stamp) (Some given) ≡ Some last → (st.Latest (stamped_of given) ≡ st.Latest (stamped_of last)) × (is_later (stamped_of stamp) (stamped_of last) ≡ false)
not_later stamp last given h = by (is_later_than stamp given) refl h
  where
    by : (b : Bool) → is_later_than stamp given ≡ b → cond b None (Some given) ≡ Some last → (st.Latest (stamped_of given) ≡ st.Latest (stamped_of last)) × (is_later (stamped_of stamp) (stamped_of last) ≡ false)
    by true e h = cc
    by false e h = (let same : given ≡ last = cc in (ap (λ n. st.Latest (stamped_of n)) same, ap (is_later_than stamp) (sym same) ∙ e))

stale_so : (kind : Kind) (x : Condition) (o : Option Stamp) (last : Stamp) → IsConditionOf kind x → stale_in x o ≡ Some last → IsStale (condition_at kind x) (stamp_of o) (stamped_of last)
stale_so kind x None last t h = cc
stale_so kind (c.State n) (Some stamp) last t h = cc
stale_so (Charted block) (c.Service x) (Some stamp) last t h = absurd t
stale_so (Serviced service) (c.Service s.Plain) (Some stamp) last t h = cc
stale_so (Serviced service) (c.Service (s.Closed stamps)) (Some stamp) last t h = cc
stale_so (Serviced service) (c.Service s.Quiet) (Some stamp) last t h = cc
stale_so (Serviced service) (c.Service (s.Armed due)) (Some stamp) last t h = cc
stale_so (Serviced service) (c.Service s.Fired) (Some stamp) last t h = cc
stale_so (Serviced service) (c.Service (s.Ready kept.Unstamped)) (Some stamp) last t h = cc
stale_so (Serviced service) (c.Service (s.Ready (kept.Upcoming next))) (Some stamp) last t h = cc
stale_so (Serviced service) (c.Service (s.Ready kept.Exhausted)) (Some stamp) last t h = cc
stale_so (Serviced service) (c.Service (s.Ready (kept.Latest given))) (Some stamp) last t h = not_later stamp last given h

-- ---- values

-- the numbers of a message that has the format and the types that a leaf takes
pub received_so : (kind : Kind) (msg : Message) (o : Option Stamp) (vs : List Typed) (types : List ElemType) (format : Format) (numbers : List ℤ) → stamp_of o ≡ msg.stamp → map typed_of vs ≡ msg.values → types ≡ types_of kind → format ≡ format_of kind
    → format_in (stamp_of o) ≡ format → AllByRecursion (λ (v : Typed). in_type v.elem v.value ≡ true) vs → types_taken vs ≡ types → numbers ≡ numbers_taken vs → IsReceived kind msg numbers
received_so kind msg o vs types format numbers stamp values t f sent fitting its ns =
    record {
      shape = record { format = ap format_in (sym stamp) ∙ sent ∙ f; types = ap types_in (sym values) ∙ types_same vs ∙ its ∙ t };
      same = ns ∙ sym (numbers_same vs) ∙ ap numbers_in values;
      fit = ap (all_in (types_of kind)) ns ∙ ap (λ ts. all_in ts (numbers_taken vs)) (sym (its ∙ t)) ∙ all_fit vs fitting;
    }

-- values of other types
pub misshapen : (kind : Kind) (msg : Message) (vs : List Typed) (types : List ElemType) → map typed_of vs ≡ msg.values → types ≡ types_of kind → (types_taken vs ≡ types → ⊥) → IsShaped kind msg → ⊥
misshapen kind msg vs types values t others s = others (sym (types_same vs) ∙ ap types_in values ∙ s.types ∙ sym t)

pub formats_same : (a b : Format) → false ≡ not (sameb the_type a b) → a ≡ b
formats_same a b h = same_true the_type tt a b (by (sameb the_type a b) h)
  where
    by : (x : Bool) → false ≡ not x → x ≡ true
    by true e = refl
    by false e = cc

-- the numbers of a message, or other values
pub received_as : (kind : Kind) (msg : Message) (o : Option Stamp) (vs : List Typed) (types : List ElemType) (format : Format) (r : Option (ArrayVec ℤ)) → stamp_of o ≡ msg.stamp → map typed_of vs ≡ msg.values → types ≡ types_of kind → format ≡ format_of kind
    → format_in (stamp_of o) ≡ format → AllByRecursion (λ (v : Typed). in_type v.elem v.value ≡ true) vs → MatchOption r (types_taken vs ≡ types → ⊥) (λ taken. (types_taken vs ≡ types) × (taken.items ≡ numbers_taken vs))
    → MatchOption r (IsShaped kind msg → ⊥) (λ numbers. IsReceived kind msg numbers.items)
received_as kind msg o vs types format None stamp values t f sent fitting h = misshapen kind msg vs types values t h
received_as kind msg o vs types format (Some taken) stamp values t f sent fitting h = received_so kind msg o vs types format taken.items stamp values t f sent fitting h.0 h.1

-- ---- blocks

module _ (p : Program) (r : Running) (g : IsGood p r) (msg : Message) where
  abbrev all : List Leaf
  all = leaves (device_in (session_of p r))

  meant_is : first_leaf (is_meant msg) all ≡ addressed (device_in (session_of p r)) msg
  meant_is = go msg.purpose
    where
      go : (q : book.Purpose) → first_leaf (elim q [ To_channel ↦ is_subscriber msg.number | To_input ↦ is_input_numbered msg.number ]) all ≡ elim q [ To_channel ↦ first_leaf (is_subscriber msg.number) all | To_input ↦ first_leaf (is_input_numbered msg.number) all ]
      go To_channel = refl
      go To_input = refl

  pub none_meant : first_at (is_meant msg) p.tables.blocks.items ≡ None → addressed (device_in (session_of p r)) msg ≡ None
  none_meant h = sym meant_is ∙ none_at (is_meant msg) p.tables.blocks.items all (same_kinds p r g) h

module _ (p : Program) (r : Running) (g : IsGood p r) (msg : Message) (k : ℕ) (found : first_at (is_meant msg) p.tables.blocks.items ≡ Some k) where
  pub at : FirstAt (is_meant msg) p.tables.blocks.items (leaves (device_in (session_of p r))) k
  at = found_at (is_meant msg) p.tables.blocks.items (leaves (device_in (session_of p r))) k (same_kinds p r g) found

  pub known : addressed (device_in (session_of p r)) msg ≡ Some at.leaf
  known = sym (meant_is p r g msg) ∙ at.first

  pub inside : k < length p.tables.blocks.items
  inside = within p.tables.blocks.items k at.block at.block_stands

  pub kind_is : (x : Block) → slice_get p.tables.blocks.items k ≡ Some x → kind_of x ≡ at.leaf.kind
  kind_is x h = ap kind_of (same_at p.tables.blocks.items k x at.block h at.block_stands) ∙ at.kind

  pub stands : IsStanding at.leaf k r.memory.own.items r.memory.issued.items r.memory.conditions.items
  stands = g.stand k at.leaf at.leaf_stands

  pub remembered : k < length r.memory.conditions.items
  remembered = within r.memory.conditions.items k stands.condition stands.condition_is

  state_is : (machine_of (session_of p r)).store at.leaf.path ≡ leaf_state at.leaf.kind stands.own stands.issued stands.condition
  state_is = stored_at (leaves (device_in (session_of p r))) r.memory.own.items r.memory.issued.items r.memory.conditions.items k at.leaf stands.own stands.issued stands.condition g.program.tables.apart at.leaf_stands stands.own_is stands.issued_is stands.condition_is

  module _ (q : Purpose) (purpose : purpose_of q ≡ msg.purpose) (x : Condition) (remembers : slice_get r.memory.conditions.items k ≡ Some x) where
    condition_is : stands.condition ≡ x
    condition_is = same_at r.memory.conditions.items k stands.condition x stands.condition_is remembers

    pub closed : is_shut q x ≡ true → IsReady (machine_of (session_of p r)) at.leaf msg.purpose → ⊥
    closed f = shut at.leaf.kind stands.own stands.issued q msg.number stands.condition msg.purpose (machine_of (session_of p r)) at.leaf purpose at.so state_is (ap (is_shut q) condition_is ∙ f)

    pub ready : is_shut q x ≡ false → IsReady (machine_of (session_of p r)) at.leaf msg.purpose
    ready f = unshut at.leaf.kind stands.own stands.issued q msg.number stands.condition msg.purpose (machine_of (session_of p r)) at.leaf purpose at.so state_is (ap (is_shut q) condition_is ∙ f)

    state_condition : condition_at at.leaf.kind stands.condition ≡ ((machine_of (session_of p r)).store at.leaf.path).condition
    state_condition = ap (λ (y : LeafState). y.condition) (sym state_is)

    module _ (o : Option Stamp) (stamp : stamp_of o ≡ msg.stamp) where
      pub stale : (last : Stamp) → stale_in x o ≡ Some last → IsStale ((machine_of (session_of p r)).store at.leaf.path).condition msg.stamp (stamped_of last)
      stale last h =
          subst (λ y. IsStale y msg.stamp (stamped_of last)) state_condition
          (subst (λ u. IsStale (condition_at at.leaf.kind stands.condition) u (stamped_of last)) stamp (stale_so at.leaf.kind stands.condition o last stands.fits (ap (λ y. stale_in y o) condition_is ∙ h)))

      module _ (stamped : IsStamped msg.purpose msg.stamp) (numbers : List ℤ) (received : IsReceived at.leaf.kind msg numbers) (unclosed : is_shut q x ≡ false) where
        format_same : format_in (stamp_of o) ≡ format_of at.leaf.kind
        format_same = ap format_in stamp ∙ received.shape.format

        stamped_same : IsStamped msg.purpose (stamp_of o)
        stamped_same = subst (IsStamped msg.purpose) (sym stamp) stamped

        keeps_stamps : KeepsStamps at.leaf.kind (condition_at at.leaf.kind stands.condition)
        keeps_stamps =
            subst (KeepsStamps at.leaf.kind) (sym state_condition)
            (all_got (λ (l : Leaf). KeepsStamps l.kind ((machine_of (session_of p r)).store l.path).condition) (leaves (device_in (session_of p r))) k at.leaf g.sound.stamps at.leaf_stands)

        fresh : stale_in x o ≡ None → IsFresh ((machine_of (session_of p r)).store at.leaf.path).condition msg.stamp
        fresh h =
            subst (λ y. IsFresh y msg.stamp) state_condition
            (subst (IsFresh (condition_at at.leaf.kind stands.condition)) stamp
            (fresh_so at.leaf.kind q msg.purpose stands.condition o purpose stamped_same format_same stands.fits keeps_stamps (ap (is_shut q) condition_is ∙ unclosed) (ap (λ y. stale_in y o) condition_is ∙ h)))

        pub keeps : CanKeep (leaves (device_in (session_of p r))) (machine_of (session_of p r)) k (stamp_of o)
        keeps = record { leaf = at.leaf; purpose = msg.purpose; stands = at.leaf_stands; stamped = stamped_same; format = format_same; ready = ready unclosed }

        pub arrival : (event : ℕ) → event ≡ arrival_number q → IsArrival (leaves (device_in (session_of p r))) (record { block = k; event = event }) numbers (arriving at.leaf numbers)
        arrival event e = record { leaf = at.leaf_stands; event = ap (slice_get (events_of at.leaf.kind)) e ∙ arrives at.leaf.kind q msg.number msg.purpose purpose at.so; same = refl; message = inr received.fit }

        pub delivered : (bytes : List ℕ) (cause : ℕ) (new : Machine) → Spells msg bytes → stale_in x o ≡ None
            → Admits (cert_in (session_of p r)) (device_in (session_of p r)) (with_stamp (machine_of (session_of p r)) at.leaf (stamp_of o)) (arriving at.leaf numbers) cause new → Delivers (cert_in (session_of p r)) (device_in (session_of p r)) (machine_of (session_of p r)) bytes cause new
        delivered bytes cause new spelled none a =
            let b = subst (λ ns. Admits (cert_in (session_of p r)) (device_in (session_of p r)) (with_stamp (machine_of (session_of p r)) at.leaf (stamp_of o)) (arriving at.leaf ns) cause new) received.same a in
            let d = subst (λ u. Admits (cert_in (session_of p r)) (device_in (session_of p r)) (with_stamp (machine_of (session_of p r)) at.leaf u) (arriving at.leaf (numbers_in msg.values)) cause new) stamp b in
            record {
              message = msg;
              leaf = at.leaf;
              spelled = spelled;
              known = known;
              shape = received.shape;
              fit = ap (all_in (types_of at.leaf.kind)) (sym received.same) ∙ received.fit;
              ready = ready unclosed;
              fresh = fresh none;
              room = record { credit = d.room.credit; number = d.room.number };
              cause_is = d.cause_is;
              new_is = d.new_is;
            }
