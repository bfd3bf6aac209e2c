-- What a sound device sends is spelled in bytes.
use Rattle.std.proofs.Common.{◌≡◌, ℕ, suc, ◌+◌, ℤ, pos, Bool, true, false, cond, ◌&&◌, max, List, [], ◌∷◌, length, Option, None, Some, refl, sym, ◌∙◌, ap, subst, arith}
use Rattle.std.specs.Prelude.{int_le}
use Rattle.std.specs.List.{AllByRecursion}
use Rattle.std.specs.Str.{bytes_eq}
use Rattle.fb_words.specs.declared.elem_type.ElemType.{ElemType}
use Rattle.fb_words.specs.declared.elem_type.ElemType.TheVariants as t
use Rattle.fb_words.specs.declared.format.Format.{Format}
use Rattle.fb_words.specs.declared.format.Format.TheVariants.{First, Second}
use Rattle.fb_words.proofs.Types.{le_true}
use Rattle.fb_model.specs.Names.{Name, Path}
use Rattle.fb_model.specs.Values.{Value, One, Many, Values, numbers_of, number_of, lowest, highest, in_type}
use Rattle.fb_model.specs.System.{Variable, Device, Channel, Service, Input, Output, Publish, Subscribe, Delay, Cycle, Restart}
use Rattle.fb_model.specs.Services.{init, rsp, ind, start, stop, expire, eo, dt, qi, qo, sent, ports, service_outputs}
use Rattle.fb_model.specs.NetworkTyping.{variable_named}
use Rattle.fb_model.specs.Wires.{Kind, Charted, Serviced, leaves}
use Rattle.fb_model.specs.Store.{Stamps, Unstamped, Upcoming, Exhausted, Latest, Condition, Quiet, LeafState, sampled}
use Rattle.fb_model.specs.Messages.{To_channel, Typed, Message, spelling, IsStamped, Spells}
use Rattle.fb_model.specs.Serving.{Effect, Send, Write, Reply, typed_values, is_true, is_ready, is_fired, wait, due_after, stamps_of, stamped, can_send, emits, set_condition, set_own, set_value, receive, bit, opened, published, subscribed, started, expires, reply, Serves}
use Rattle.fb_model.specs.Spans.{whole}
use Rattle.fb_model.specs.Shapes.{IsIn}
use Rattle.fb_model.specs.Ranges.{Range, AllLie, CellsLie, variables, rows, row_of}
use Rattle.fb_model.specs.Certificates.{Certificate, HasNumber, IsNumbered, DeviceHolds}
use Rattle.fb_model.specs.Devices.{Machine}
use Rattle.fb_model.specs.Headline.{IsUpcoming, KeepsStamps, IsSound, IsSendable, SendsMessages}
use Rattle.fb_model.proofs.Placed.{all_left}
use Rattle.fb_model.proofs.Ports.{first_each, service_apart}
use Rattle.fb_model.proofs.Running.{at_leaf, before_lies}

-- ---- values

in_whole : (a : ElemType) (n : ℤ) → IsIn (whole a) n → in_type a n ≡ true
in_whole a n h = ap (λ b. b && int_le n (highest a)) (le_true (lowest a) n h.least) ∙ le_true n (highest a) h.most

zero_in : (a : ElemType) → in_type a (pos 0) ≡ true
zero_in t.Bool = refl
zero_in t.Sint = refl
zero_in t.Int = refl
zero_in t.Dint = refl
zero_in t.Lint = refl
zero_in t.Usint = refl
zero_in t.Uint = refl
zero_in t.Udint = refl
zero_in t.Time = refl

number_in : (a : ElemType) (v : Value) → AllByRecursion (IsIn (whole a)) (numbers_of v) → in_type a (number_of v) ≡ true
number_in a (One n) h = in_whole a n h.0
number_in a (Many ns) h = zero_in a

module _ (ranges : List Range) (path : Path) (service : Service) (own : Values) (lie : AllLie ranges path (Serviced service) own) where
  typed : (n : ℕ) (types : List ElemType) → AllByRecursion (λ (v : Variable). variable_named (variables (Serviced service)) v.name ≡ Some v) (ports sent n types)
      → AllByRecursion (λ (v : Typed). in_type v.type v.value ≡ true) (typed_values n types own)
  typed n [] h = tt
  typed n (type ∷ types) h =
      let row : rows ranges path (Serviced service) (sent n) ≡ whole type = ap (λ o. elim o [ None ↦ whole t.Lint | Some v ↦ row_of ranges path (Serviced service) v ]) h.0 in
      (number_in type (own (sent n)) (subst (λ s. AllByRecursion (IsIn s) (numbers_of (own (sent n)))) row (lie (sent n)).numbers), typed (n + 1) types h.1)

-- what a PUBLISH sends lies in its types
pub sent_lie : (ranges : List Range) (path : Path) (channel : Channel) (types : List ElemType) (own : Values) → AllLie ranges path (Serviced (Publish channel types)) own → AllByRecursion (λ (v : Typed). in_type v.type v.value ≡ true) (typed_values 1 types own)
sent_lie ranges path channel types own lie = typed ranges path (Publish channel types) own lie 1 types first where
  first : AllByRecursion (λ (v : Variable). variable_named (variables (Serviced (Publish channel types))) v.name ≡ Some v) (ports sent 1 types)
  first =
      all_left (λ (v : Variable). variable_named (variables (Serviced (Publish channel types))) v.name ≡ Some v) (ports sent 1 types) (service_outputs (Publish channel types))
      (first_each (variables (Serviced (Publish channel types))) (service_apart (Publish channel types))).1

values_count : (n : ℕ) (types : List ElemType) (own : Values) → length (typed_values n types own) ≡ length types
values_count n [] own = refl
values_count n (type ∷ types) own = ap suc (values_count (n + 1) types own)

-- ---- stamps

stamp_fits : (format : Format) (stamps : Stamps) → IsUpcoming format stamps → IsStamped To_channel (stamped stamps)
stamp_fits First stamps h = subst (λ s. IsStamped To_channel (stamped s)) (sym h) tt
stamp_fits Second (Upcoming stamp) h = h
stamp_fits Second Exhausted h = tt
stamp_fits Second Unstamped h = absurd h
stamp_fits Second (Latest stamp) h = absurd h

-- ---- services

-- where a message is sent, it is one to be sent
abbrev EffectFits : Option Effect → Type 0
EffectFits None = Unit {0}
EffectFits (Some (Write number values)) = Unit {0}
EffectFits (Some (Send message)) = IsSendable message

module _ (ranges : List Range) (path : Path) where
  published_fits : (channel : Channel) (types : List ElemType) (s : LeafState) → HasNumber channel.number types → IsUpcoming channel.format (stamps_of s.condition) → AllLie ranges path (Serviced (Publish channel types)) s.cells.own
      → EffectFits (published channel types s).effect
  published_fits channel types s few upcoming lie = by (can_send s.condition && is_true (s.cells.own qi)) where
    message : Message
    message = record { purpose = To_channel; number = channel.number; stamp = stamped (stamps_of s.condition); values = typed_values 1 types s.cells.own }

    spells : Spells message (spelling message)
    spells =
        record {
          number = few.number;
          stamp = stamp_fits channel.format (stamps_of s.condition) upcoming;
          count = omega (arith, values_count 1 types s.cells.own, few.few);
          values = sent_lie ranges path channel types s.cells.own lie;
          bytes_are = refl;
        }

    by : (q : Bool) → EffectFits (cond q (Some (Send message)) None)
    by true = record { purpose = refl; spelled = spells }
    by false = tt

  either : (b : Bool) (r k : Reply) → EffectFits r.effect → EffectFits k.effect → EffectFits (cond b r k).effect
  either true r k h l = h
  either false r k h l = l

  expires_fits : (service : Service) (c : Condition) (s : LeafState) → EffectFits (expires service c s).effect
  expires_fits service c s = either (is_fired s.condition) (emits service (eo ∷ []) None (set_condition c s)) (emits service [] None s) tt tt

  timer_fits : (a b x d : Reply) (k l m : Bool) → EffectFits a.effect → EffectFits b.effect → EffectFits x.effect → EffectFits d.effect → EffectFits (cond k a (cond l b (cond m x d))).effect
  timer_fits a b x d k l m ha hb hx hd = either k a (cond l b (cond m x d)) ha (either l b (cond m x d) hb (either m x d hx hd))

  reply_fits : (service : Service) (clock : ℕ) (e : Name) (values : List ℤ) (s : LeafState) → IsNumbered (Serviced service) → KeepsStamps (Serviced service) s.condition → AllLie ranges path (Serviced service) s.cells.own → EffectFits (reply service clock e values s).effect
  reply_fits (Input number types) clock e values s few keeps lie = tt
  reply_fits (Output number types) clock e values s few keeps lie = tt
  reply_fits (Publish channel types) clock e values s few keeps lie =
      either (bytes_eq e init) (opened (Publish channel types) s) (published channel types s) tt (published_fits channel types s few keeps lie)
  reply_fits (Subscribe channel types) clock e values s few keeps lie =
      either (bytes_eq e init) (opened (Subscribe channel types) s) (cond (bytes_eq e rsp) (emits (Subscribe channel types) [] None s) (subscribed channel types values s)) tt
      (either (bytes_eq e rsp) (emits (Subscribe channel types) [] None s) (subscribed channel types values s) tt
      (either (is_ready s.condition) (emits (Subscribe channel types) (ind ∷ []) None (set_own (λ v. receive 1 values (set_value qo (bit true) v)) s)) (emits (Subscribe channel types) [] None s) tt tt))
  reply_fits Delay clock e values s few keeps lie =
      timer_fits (started Delay clock (wait (s.cells.own dt)) s) (emits Delay [] None (set_condition Quiet s)) (expires Delay Quiet s) (emits Delay [] None s)
      (bytes_eq e start) (bytes_eq e stop) (bytes_eq e expire) tt tt (expires_fits Delay Quiet s) tt
  reply_fits Cycle clock e values s few keeps lie =
      timer_fits (started Cycle clock (max (wait (s.cells.own dt)) 1) s) (emits Cycle [] None (set_condition Quiet s)) (expires Cycle (due_after clock (max (wait (s.cells.own dt)) 1)) s) (emits Cycle [] None s)
      (bytes_eq e start) (bytes_eq e stop) (bytes_eq e expire) tt tt (expires_fits Cycle (due_after clock (max (wait (s.cells.own dt)) 1)) s) tt
  reply_fits Restart clock e values s few keeps lie = tt

  -- one dispatch
  served_fits : (kind : Kind) (clock : ℕ) (e : Name) (values : List ℤ) (before after : LeafState) (steps : ℕ) (outs : List Name) (effect : Option Effect) → IsNumbered kind → KeepsStamps kind before.condition → CellsLie ranges path kind before.cells
      → Serves kind clock e values before after steps outs effect → EffectFits effect
  served_fits (Charted block) clock e values before after steps outs effect few keeps lie s = subst EffectFits (sym s.1) tt
  served_fits (Serviced service) clock e values before after steps outs effect few keeps lie s = subst EffectFits (sym s.effect_is) (reply_fits service clock e values before few keeps lie.own)

-- ---- devices

pub sends_messages : (cert : Certificate) (device : Device) → DeviceHolds cert device → (old : Machine) → IsSound cert device old → SendsMessages cert device old
sends_messages cert device holding old sound q cause place steps message ended new r =
    served_fits cert.ranges r.leaf.path r.leaf.kind old.clock r.first.place.event r.first.values (sampled old.store r.leaf r.first.place.event) r.after steps r.outs (Some (Send message))
    (at_leaf (λ leaf. IsNumbered leaf.kind) (leaves device) r.first.place.path r.leaf holding.numbered r.found).0
    (at_leaf (λ leaf. KeepsStamps leaf.kind (old.store leaf.path).condition) (leaves device) r.first.place.path r.leaf sound.stamps r.found).0
    (before_lies cert device holding old sound q cause place steps (Some (Send message)) ended new r) r.served
