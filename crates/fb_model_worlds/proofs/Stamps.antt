-- What a SUBSCRIBE keeps of stamps changes at no event but an admission of a message to it, and then only to a later stamp.
use Rattle.std.proofs.Common.{◌≡◌, ℕ, Bool, true, false, cond, ℤ, List, [], ◌∷◌, Option, Some, None, refl, sym, ◌∙◌, ap, subst, arith, inl, inr}
use Rattle.std.specs.List.{AllByRecursion}
use Rattle.std.specs.Str.{bytes_eq}
use Rattle.std.proofs.lemmas.Bool.{cond_both}
use Rattle.fb_model.specs.Names.{Name, path_eq, Place}
use Rattle.fb_model.specs.System.{Device, Service, Input, Output, Publish, Subscribe, Delay, Cycle, Restart}
use Rattle.fb_model.specs.Services.{init, rsp, ind, qi, qo}
use Rattle.fb_model.specs.Messages.{Stamp}
use Rattle.fb_model.specs.Wires.{Kind, Charted, Serviced, Leaf, leaf_at, leaves}
use Rattle.fb_model.specs.Store.{Store, with_leaf, sampled, LeafState, Stamps, Unstamped, Upcoming, Exhausted, Latest, Condition, AtState, Closed, Ready, Quiet, Armed, Fired, Plain}
use Rattle.fb_model.specs.Serving.{Effect, bit, set_value, receive, set_own, emits, is_true, is_ready, stamps_of, opened, subscribed, reply, Serves}
use Rattle.fb_model.specs.Certificates.{Certificate, IsWired, DeviceHolds}
use Rattle.fb_model.specs.Devices.{Ended, Machine, is_subscriber, subscriber_of, is_timer, is_later, is_after, IsFresh, keeping, with_stamp, Tries, expired, Runs}
use Rattle.fb_model.proofs.Lists.{same_path}
use Rattle.fb_model.proofs.Placed.{path_same}
use Rattle.fb_model.proofs.Running.{at_leaf, at_first_leaf}
use Rattle.fb_model.specs.Worlds.{IsKept, KeepsStamp}

-- ---- the order of stamps

pub later_through : (a b c : Stamp) → is_later b c ≡ true → is_later a c ≡ false → is_later a b ≡ false
later_through a b c h k = grind arith

pub not_later : (a : Stamp) → is_later a a ≡ false
not_later a = grind arith

-- ---- one leaf

-- what is so of the stamps of a leaf after another leaf's new state
pub after_leaf : (Q : Stamps → Type 0) (store : Store) (all : List Leaf) (leaf k : Leaf) (after : LeafState) → leaf_at all leaf.path ≡ Some leaf → leaf_at all k.path ≡ Some k → (leaf ≡ k → Q (stamps_of after.condition)) → Q (stamps_of (store k.path).condition)
    → Q (stamps_of (with_leaf store leaf.path after k.path).condition)
after_leaf Q store all leaf k after f g l h =
    cond_both (path_eq leaf.path k.path) after (store k.path) (λ s. Q (stamps_of s.condition))
    (λ t.
    let same : leaf_at all leaf.path ≡ leaf_at all k.path = ap (leaf_at all) (same_path leaf.path k.path t) in
    let both : Some leaf ≡ Some k = sym f ∙ same ∙ g in
    l cc)
    (λ _. h)

opened_stamps : (q : Bool) (stamps : Stamps) → stamps_of (cond q (Ready stamps) (Closed stamps)) ≡ stamps
opened_stamps true stamps = refl
opened_stamps false stamps = refl

reply_keeps : (c : ℕ) (service : Service) (clock : ℕ) (e : Name) (values : List ℤ) (s : LeafState) → is_subscriber c (Serviced service) ≡ true → stamps_of (reply service clock e values s).after.condition ≡ stamps_of s.condition
reply_keeps c (Input number types) clock e values s h = cc
reply_keeps c (Output number types) clock e values s h = cc
reply_keeps c (Publish channel types) clock e values s h = cc
reply_keeps c (Subscribe channel types) clock e values s h =
    cond_both (bytes_eq e init) (opened (Subscribe channel types) s) (cond (bytes_eq e rsp) (emits (Subscribe channel types) [] None s) (subscribed channel types values s)) (λ r. stamps_of r.after.condition ≡ stamps_of s.condition)
    (λ _. opened_stamps (is_true (s.cells.own qi)) (stamps_of s.condition))
    (λ _. by (bytes_eq e rsp) (is_ready s.condition))
  where
    by : (t u : Bool) → stamps_of (cond t (emits (Subscribe channel types) [] None s)
        (cond u (emits (Subscribe channel types) (ind ∷ []) None (set_own (λ v. receive 1 values (set_value qo (bit true) v)) s)) (emits (Subscribe channel types) [] None s))).after.condition ≡ stamps_of s.condition
    by true u = refl
    by false true = refl
    by false false = refl
reply_keeps c Delay clock e values s h = cc
reply_keeps c Cycle clock e values s h = cc
reply_keeps c Restart clock e values s h = cc

served_keeps : (c : ℕ) (kind : Kind) (clock : ℕ) (e : Name) (values : List ℤ) (before after : LeafState) (steps : ℕ) (outs : List Name) (effect : Option Effect) → is_subscriber c kind ≡ true → Serves kind clock e values before after steps outs effect
    → stamps_of after.condition ≡ stamps_of before.condition
served_keeps c (Charted block) clock e values before after steps outs effect h s = cc
served_keeps c (Serviced service) clock e values before after steps outs effect h s =
    ap (λ (k : LeafState). stamps_of k.condition) s.after_is ∙ reply_keeps c service clock e values before h

not_both : (c : ℕ) (kind : Kind) → is_timer kind ≡ true → is_subscriber c kind ≡ true → ⊥
not_both c (Charted block) t h = cc
not_both c (Serviced (Input number types)) t h = cc
not_both c (Serviced (Output number types)) t h = cc
not_both c (Serviced (Publish channel types)) t h = cc
not_both c (Serviced (Subscribe channel types)) t h = cc
not_both c (Serviced Delay) t h = cc
not_both c (Serviced Cycle) t h = cc
not_both c (Serviced Restart) t h = cc

-- ---- devices

-- each SUBSCRIBE keeps of stamps what it kept
abbrev pub KeepsAll : Device → Machine → Machine → Type 0
KeepsAll device old new = (c : ℕ) (k : Leaf) → subscriber_of device c ≡ Some k → stamps_of (new.store k.path).condition ≡ stamps_of (old.store k.path).condition

module _ (cert : Certificate) (device : Device) (holding : DeviceHolds cert device) where
  pub subscriber : (c : ℕ) (k : Leaf) → subscriber_of device c ≡ Some k → (leaf_at (leaves device) k.path ≡ Some k) × (is_subscriber c k.kind ≡ true)
  subscriber c k h = let p = at_first_leaf (IsWired (leaves device)) (is_subscriber c) (leaves device) k holding.wired h in (p.0.found, p.1)

  pub tries_keep : (ls : List Leaf) (old : Machine) (count : ℕ) (new : Machine) → AllByRecursion (λ leaf. IsWired (leaves device) leaf × (is_timer leaf.kind ≡ true)) ls → Tries cert device ls old count new → KeepsAll device old new
  tries_keep [] old count new h t c k s = ap (λ (m : Machine). stamps_of (m.store k.path).condition) t.1
  tries_keep (leaf ∷ rest) old count new h t c k s =
      elim t [
        | inl x ↦ (
            let p = subscriber c k s in
            tries_keep rest (expired old leaf) x.0 new h.1 x.3 c k s
            ∙ after_leaf (λ stamps. stamps ≡ stamps_of (old.store k.path).condition) old.store (leaves device) leaf k (record { cells = (old.store leaf.path).cells; condition = Fired }) h.0.0.found p.0
            (λ i. absurd (not_both c k.kind (subst (λ (l : Leaf). is_timer l.kind ≡ true) i h.0.1) p.1)) refl
            )
        | inr x ↦ tries_keep rest old count new h.1 x.1 c k s
      ]

  pub run_keeps : (old new : Machine) (q cause : ℕ) (place : Place) (steps : ℕ) (effect : Option Effect) (ended : Option Ended) → Runs cert device old q cause place steps effect ended new → KeepsAll device old new
  run_keeps old new q cause place steps effect ended r c k s =
      let p = subscriber c k s in
      let path_is : r.leaf.path ≡ r.first.place.path = (at_leaf (IsWired (leaves device)) (leaves device) r.first.place.path r.leaf holding.wired r.found).1 in
      ap (λ (f : Store). stamps_of (f k.path).condition) r.store
      ∙ after_leaf (λ stamps. stamps ≡ stamps_of (old.store k.path).condition) old.store (leaves device) r.leaf k r.after (ap (leaf_at (leaves device)) path_is ∙ r.found) p.0
      (λ i.
      let sub : is_subscriber c r.leaf.kind ≡ true = subst (λ (l : Leaf). is_subscriber c l.kind ≡ true) (sym i) p.1 in
      served_keeps c r.leaf.kind old.clock r.first.place.event r.first.values (sampled old.store r.leaf r.first.place.event) r.after steps r.outs effect sub r.served
      ∙ ap (λ (l : Leaf). stamps_of (old.store l.path).condition) i)
      refl

-- what is the same is kept
pub same_kept : (device : Device) (old new : Machine) → KeepsAll device old new → (c : ℕ) (stamp : Stamp) → KeepsStamp device old c stamp → KeepsStamp device new c stamp
same_kept device old new k c stamp h leaf s = subst (IsKept stamp) (sym (k c leaf s)) (h leaf s)

-- ---- messages

kept_after : (c : Condition) (stamp other : Stamp) → is_after stamp (stamps_of c) ≡ true → IsKept other (stamps_of c) → IsKept other (stamps_of (keeping c (Some stamp)))
kept_after (Ready (Latest last)) stamp other f h = later_through other stamp last f h
kept_after (Ready Unstamped) stamp other f h = absurd h
kept_after (Ready (Upcoming next)) stamp other f h = absurd h
kept_after (Ready Exhausted) stamp other f h = absurd h
kept_after (AtState x) stamp other f h = h
kept_after (Closed stamps) stamp other f h = h
kept_after Quiet stamp other f h = h
kept_after (Armed due) stamp other f h = h
kept_after Fired stamp other f h = h
kept_after Plain stamp other f h = h

is_kept : (c : Condition) (stamp : Stamp) → is_ready c ≡ true → IsKept stamp (stamps_of (keeping c (Some stamp)))
is_kept (Ready stamps) stamp r = not_later stamp
is_kept (AtState x) stamp r = cc
is_kept (Closed stamps) stamp r = cc
is_kept Quiet stamp r = cc
is_kept (Armed due) stamp r = cc
is_kept Fired stamp r = cc
is_kept Plain stamp r = cc

-- an admission keeps a stamp that is later, and all that were kept
pub message_keeps : (old : Condition) (stamp : Option Stamp) (other : Stamp) → IsFresh old stamp → IsKept other (stamps_of old) → IsKept other (stamps_of (keeping old stamp))
message_keeps old None other f h = h
message_keeps old (Some stamp) other f h = kept_after old stamp other f h

-- a stamp that is kept is not fresh
pub kept_stale : (c : Condition) (stamp : Stamp) → is_after stamp (stamps_of c) ≡ true → IsKept stamp (stamps_of c) → ⊥
kept_stale c stamp f h = by (stamps_of c) f h where
  by : (s : Stamps) → is_after stamp s ≡ true → IsKept stamp s → ⊥
  by (Latest last) f h = cc
  by Unstamped f h = h
  by (Upcoming next) f h = h
  by Exhausted f h = h

module _ (cert : Certificate) (device : Device) (holding : DeviceHolds cert device) (old : Machine) (n : ℕ) (leaf : Leaf) (known : subscriber_of device n ≡ Some leaf) (stamp : Option Stamp) (fresh : IsFresh (old.store leaf.path).condition stamp) where
  pub stamped_keeps : (c : ℕ) (other : Stamp) → KeepsStamp device old c other → KeepsStamp device (with_stamp old leaf stamp) c other
  stamped_keeps c other h k s =
      after_leaf (IsKept other) old.store (leaves device) leaf k (record { cells = (old.store leaf.path).cells; condition = keeping (old.store leaf.path).condition stamp }) (subscriber cert device holding n leaf known).0 (subscriber cert device holding c k s).0
      (λ i. message_keeps (old.store leaf.path).condition stamp other fresh (subst (λ (l : Leaf). IsKept other (stamps_of (old.store l.path).condition)) (sym i) (h k s)))
      (h k s)

  pub stamped_kept : (is_ready (old.store leaf.path).condition ≡ true) → (given : Stamp) → stamp ≡ Some given → KeepsStamp device (with_stamp old leaf stamp) n given
  stamped_kept ready given e k s =
      let both : Some leaf ≡ Some k = sym known ∙ s in
      let is : leaf ≡ k = cc in
      let found = (subscriber cert device holding n leaf known).0 in
      subst (λ (l : Leaf). IsKept given (stamps_of ((with_stamp old leaf stamp).store l.path).condition)) is
      (by (path_eq leaf.path leaf.path) (path_same leaf.path))
    where
      by : (t : Bool) → t ≡ true → IsKept given (stamps_of (cond t (record { cells = (old.store leaf.path).cells; condition = keeping (old.store leaf.path).condition stamp }) (old.store leaf.path)).condition)
      by true i = subst (λ o. IsKept given (stamps_of (keeping (old.store leaf.path).condition o))) (sym e) (is_kept (old.store leaf.path).condition given ready)
      by false i = cc
