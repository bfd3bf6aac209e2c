-- What leaves keep of stamps stays of their format, whatever happens.
use Rattle.std.proofs.Common.{◌≡◌, ℕ, ◌+◌, ◌<◌, ◌^◌, Bool, true, false, cond, ◌==◌, ◌&&◌, ℤ, List, [], ◌∷◌, Option, Some, None, refl, sym, ◌∙◌, ap, subst, arith}
use Rattle.std.specs.List.{AllByRecursion}
use Rattle.std.specs.Str.{bytes_eq}
use Rattle.std.proofs.lemmas.Bool.{cond_both}
use Rattle.fb_words.specs.declared.format.Format.{Format}
use Rattle.fb_words.specs.declared.format.Format.TheVariants.{First, Second}
use Rattle.fb_model.specs.Names.{Name, Path, path_eq}
use Rattle.fb_model.specs.System.{Service, Input, Output, Publish, Subscribe, Delay, Cycle, Restart}
use Rattle.fb_model.specs.Services.{init, rsp, ind, qi, qo}
use Rattle.fb_model.specs.Messages.{Stamp, IsStamp, IsStamped, Purpose, To_channel, To_input}
use Rattle.fb_model.specs.Wires.{Kind, Charted, Serviced, Leaf, leaf_at}
use Rattle.fb_model.specs.Store.{Store, with_leaf, LeafState, Stamps, Unstamped, Upcoming, Exhausted, Latest, Condition, AtState, Closed, Ready, Quiet, Armed, Fired, Plain, first_cells, first_upcoming, first_latest, first_condition, first_store}
use Rattle.fb_model.specs.Serving.{Effect, bit, set_value, receive, set_own, emits, is_true, is_ready, stamps_of, last_sequence, after_send, can_send, opened, published, subscribed, reply, Serves}
use Rattle.fb_model.specs.Certificates.{IsWired}
use Rattle.fb_model.specs.Devices.{is_timer, format_in, format_of, keeping}
use Rattle.fb_model.specs.Headline.{IsUpcoming, IsLatest, KeepsStamps}
use Rattle.fb_model.proofs.Lists.{same_path}

-- what is so of each leaf with its state is so of all after a leaf's new state
pub with_leaf_keeps : (P : Leaf → LeafState → Type 0) (store : Store) (all ls : List Leaf) (leaf : Leaf) (after : LeafState) → leaf_at all leaf.path ≡ Some leaf → P leaf after
    → AllByRecursion (IsWired all) ls → AllByRecursion (λ k. P k (store k.path)) ls → AllByRecursion (λ k. P k (with_leaf store leaf.path after k.path)) ls
with_leaf_keeps P store all [] leaf after f l w h = tt
with_leaf_keeps P store all (k ∷ ks) leaf after f l w h = (
  cond_both (path_eq leaf.path k.path) after (store k.path) (P k)
      (λ t.
      let same : leaf_at all leaf.path ≡ leaf_at all k.path = ap (leaf_at all) (same_path leaf.path k.path t) in
      let both : Some leaf ≡ Some k = sym f ∙ same ∙ w.0.found in
      let k_is : leaf ≡ k = cc in
      subst (λ (j : Leaf). P j after) k_is l)
      (λ _. h.0),
  with_leaf_keeps P store all ks leaf after f l w.1 h.1,
)

-- ---- sends

step_below : (n : ℕ) → n < 2 ^ 32 → (n == last_sequence) ≡ false → n + 1 < 2 ^ 32
step_below n l e = grind arith

pub after_send_keeps : (format : Format) (stamps : Stamps) → IsUpcoming format stamps → IsUpcoming format (after_send stamps)
after_send_keeps First stamps h = ap after_send h
after_send_keeps Second (Upcoming stamp) h = by (stamp.sequence == last_sequence) refl
  where
    by : (b : Bool) → (stamp.sequence == last_sequence) ≡ b → IsUpcoming Second (cond b Exhausted (Upcoming (record { boot = stamp.boot; sequence = stamp.sequence + 1 })))
    by true e = tt
    by false e = record { boot = h.boot; sequence = step_below stamp.sequence h.sequence e }
after_send_keeps Second Exhausted h = tt
after_send_keeps Second Unstamped h = absurd h
after_send_keeps Second (Latest stamp) h = absurd h

opened_stamps : (q : Bool) (stamps : Stamps) → stamps_of (cond q (Ready stamps) (Closed stamps)) ≡ stamps
opened_stamps true stamps = refl
opened_stamps false stamps = refl

reply_stamps : (service : Service) (clock : ℕ) (e : Name) (values : List ℤ) (s : LeafState) → KeepsStamps (Serviced service) s.condition → KeepsStamps (Serviced service) (reply service clock e values s).after.condition
reply_stamps (Publish channel types) clock e values s h =
    cond_both (bytes_eq e init) (opened (Publish channel types) s) (published channel types s) (λ r. IsUpcoming channel.format (stamps_of r.after.condition))
    (λ _. subst (IsUpcoming channel.format) (sym (opened_stamps (is_true (s.cells.own qi)) (stamps_of s.condition))) h)
    (λ _. by (can_send s.condition && is_true (s.cells.own qi)))
  where
    by : (q : Bool) → IsUpcoming channel.format (stamps_of (cond q (Ready (after_send (stamps_of s.condition))) s.condition))
    by true = after_send_keeps channel.format (stamps_of s.condition) h
    by false = h
reply_stamps (Subscribe channel types) clock e values s h =
    cond_both (bytes_eq e init) (opened (Subscribe channel types) s) (cond (bytes_eq e rsp) (emits (Subscribe channel types) [] None s) (subscribed channel types values s)) (λ r. IsLatest channel.format (stamps_of r.after.condition))
    (λ _. subst (IsLatest channel.format) (sym (opened_stamps (is_true (s.cells.own qi)) (stamps_of s.condition))) h)
    (λ _. by (bytes_eq e rsp) (is_ready s.condition))
  where
    by : (t u : Bool) → IsLatest channel.format (stamps_of (cond t (emits (Subscribe channel types) [] None s)
        (cond u (emits (Subscribe channel types) (ind ∷ []) None (set_own (λ v. receive 1 values (set_value qo (bit true) v)) s)) (emits (Subscribe channel types) [] None s))).after.condition)
    by true u = h
    by false true = h
    by false false = h
reply_stamps (Input number types) clock e values s h = tt
reply_stamps (Output number types) clock e values s h = tt
reply_stamps Delay clock e values s h = tt
reply_stamps Cycle clock e values s h = tt
reply_stamps Restart clock e values s h = tt

-- one dispatch
pub served_stamps : (kind : Kind) (clock : ℕ) (e : Name) (values : List ℤ) (before after : LeafState) (steps : ℕ) (outs : List Name) (effect : Option Effect) → KeepsStamps kind before.condition → Serves kind clock e values before after steps outs effect → KeepsStamps kind after.condition
served_stamps (Charted block) clock e values before after steps outs effect h s = tt
served_stamps (Serviced service) clock e values before after steps outs effect h s =
    subst (λ (k : LeafState). KeepsStamps (Serviced service) k.condition) (sym s.after_is) (reply_stamps service clock e values before h)

-- ---- what comes in

-- a timer keeps nothing
pub timer_stamps : (kind : Kind) (c : Condition) → is_timer kind ≡ true → KeepsStamps kind c
timer_stamps (Charted block) c h = tt
timer_stamps (Serviced (Input number types)) c h = tt
timer_stamps (Serviced (Output number types)) c h = tt
timer_stamps (Serviced (Publish channel types)) c h = cc
timer_stamps (Serviced (Subscribe channel types)) c h = cc
timer_stamps (Serviced Delay) c h = tt
timer_stamps (Serviced Cycle) c h = tt
timer_stamps (Serviced Restart) c h = tt

latest_kept : (format : Format) (c : Condition) (stamp : Stamp) → Second ≡ format → IsStamp stamp → IsLatest format (stamps_of c) → IsLatest format (stamps_of (keeping c (Some stamp)))
latest_kept First c stamp e s h = cc
latest_kept Second (Ready stamps) stamp e s h = s
latest_kept Second (AtState x) stamp e s h = h
latest_kept Second (Closed stamps) stamp e s h = h
latest_kept Second Quiet stamp e s h = h
latest_kept Second (Armed due) stamp e s h = h
latest_kept Second Fired stamp e s h = h
latest_kept Second Plain stamp e s h = h

-- a message of the format of a leaf is kept so
pub message_stamps : (kind : Kind) (c : Condition) (purpose : Purpose) (stamp : Option Stamp) → IsStamped purpose stamp → format_in stamp ≡ format_of kind → KeepsStamps kind c → KeepsStamps kind (keeping c stamp)
message_stamps kind c purpose None s f h = h
message_stamps (Charted block) c purpose (Some stamp) s f h = cc
message_stamps (Serviced (Input number types)) c purpose (Some stamp) s f h = cc
message_stamps (Serviced (Output number types)) c purpose (Some stamp) s f h = cc
message_stamps (Serviced (Publish channel types)) c purpose (Some stamp) s f h = cc
message_stamps (Serviced (Subscribe channel types)) c To_channel (Some stamp) s f h = latest_kept channel.format c stamp f s h
message_stamps (Serviced (Subscribe channel types)) c To_input (Some stamp) s f h = absurd s
message_stamps (Serviced Delay) c purpose (Some stamp) s f h = cc
message_stamps (Serviced Cycle) c purpose (Some stamp) s f h = cc
message_stamps (Serviced Restart) c purpose (Some stamp) s f h = cc

-- ---- at first

upcoming_first : (stamp : Stamp) (format : Format) → IsStamp stamp → IsUpcoming format (first_upcoming stamp format)
upcoming_first stamp First s = refl
upcoming_first stamp Second s = s

latest_first : (format : Format) → IsLatest format (first_latest format)
latest_first First = refl
latest_first Second = record { boot = omega arith; sequence = omega arith }

condition_first : (stamp : Stamp) (kind : Kind) → IsStamp stamp → KeepsStamps kind (first_condition stamp kind)
condition_first stamp (Charted block) s = tt
condition_first stamp (Serviced (Input number types)) s = tt
condition_first stamp (Serviced (Output number types)) s = tt
condition_first stamp (Serviced (Publish channel types)) s = upcoming_first stamp channel.format s
condition_first stamp (Serviced (Subscribe channel types)) s = latest_first channel.format
condition_first stamp (Serviced Delay) s = tt
condition_first stamp (Serviced Cycle) s = tt
condition_first stamp (Serviced Restart) s = tt

first_at : (stamp : Stamp) (all : List Leaf) (leaf : Leaf) → leaf_at all leaf.path ≡ Some leaf → (first_store stamp all leaf.path).condition ≡ first_condition stamp leaf.kind
first_at stamp all leaf f = go all leaf.path f
  where
    go : (ks : List Leaf) (path : Path) → leaf_at ks path ≡ Some leaf → (first_store stamp ks path).condition ≡ first_condition stamp leaf.kind
    go [] path h = cc
    go (k ∷ ks) path h = by (path_eq k.path path) h (go ks path)
      where
        by : (t : Bool) → cond t (Some k) (leaf_at ks path) ≡ Some leaf → (leaf_at ks path ≡ Some leaf → (first_store stamp ks path).condition ≡ first_condition stamp leaf.kind)
            → (cond t (record { cells = first_cells k; condition = first_condition stamp k.kind }) (first_store stamp ks path)).condition ≡ first_condition stamp leaf.kind
        by true f r = (let k_is : k ≡ leaf = cc in ap (λ (l : Leaf). first_condition stamp l.kind) k_is)
        by false f r = r f

pub first_stamps : (stamp : Stamp) (all ls : List Leaf) → IsStamp stamp → AllByRecursion (IsWired all) ls → AllByRecursion (λ leaf. KeepsStamps leaf.kind (first_store stamp all leaf.path).condition) ls
first_stamps stamp all [] s w = tt
first_stamps stamp all (leaf ∷ rest) s w =
    (subst (KeepsStamps leaf.kind) (sym (first_at stamp all leaf w.0.found)) (condition_first stamp leaf.kind s), first_stamps stamp all rest s w.1)
