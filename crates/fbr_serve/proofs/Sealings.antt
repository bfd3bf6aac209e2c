-- What a link that seals asks of one over UDP, call by call, whatever the socket tells, and what it writes down.
use Rattle.std.proofs.Common.{◌≡◌, ◌⊎◌, ◌≤◌, ◌<◌, ℕ, Bool, true, false, List, [], ◌∷◌, length, refl, sym, ap, subst, inl, inr, arith, Option, Result, Ok, Err, IfOk, map}
use Rattle.std.specs.declared.net.ip_addr.IpAddr.{IpAddr}
use Rattle.std.specs.declared.net.socket_addr.SocketAddr.{SocketAddr}
use Rattle.std.proofs.lemmas.Bool.{both_ways, cases_Bool, cases_lt}
use Rattle.std.specs.declared.net.socket_addr.SocketAddr.TheVariants.{V4, V6}
use Rattle.std.specs.Net.Socket.{socket_port}
use Rattle.fb_addresses.specs.Addresses.{endpoint_of, parts_of}
use Rattle.fb_model.specs.System.{Device}
use Rattle.fb_model.specs.Certificates.{Certificate}
use Rattle.fb_model.specs.Devices.{Machine}
use Rattle.fb_words.specs.Links.{LinkCall, Handed, Silent, Broken, Sent}
use Rattle.fb_link.specs.Socket.{SocketCall}
use Rattle.fb_seal.specs.declared.peers.Peer.{Peer}
use Rattle.fb_pace.specs.Pacing.{Asks, Pacing}
use Rattle.fb_seal.specs.declared.peers.Reason.{Reason}
use Rattle.fb_seal.specs.declared.peers.Reason.TheVariants.{NotSealed, Stranger, Forged, Stale, Ahead, Fast}
use Rattle.fb_seal.specs.Seal.{sealed}
use Rattle.fb_seal.specs.Ledger.{Note, Extends, ExtendsAt}
use Rattle.fb_seal.specs.Passing.{Drops, IsLost, Own, Passes, Receipt, Receives, Refills, SealedStep, Sends, can_send}
use Rattle.fb_model.specs.Turning.{Chain, link_calls_of}
use Rattle.fb_device_state.specs.Sessions.{Session}
use Rattle.fb_device_state.specs.Machines.{device_in, cert_in, machine_of}
use Rattle.fbr_words.specs.Program.{Service}
use Rattle.fbr_seals.specs.Sealing.{Book, WritesDown}
use Rattle.fbr_serve.specs.declared.turns.Ran.{Ran}
use Rattle.fbr_notices.specs.Sums.{TurnAt}
use Rattle.fbr_serve.specs.Serving.{IsTaken, Turns, Over, LinkAsks, SealingLink, SealedAsks, SealsAt, sealed_at, sealed_failures, TellsSealedTurns, TellsStop}
use Rattle.fbr_serve.proofs.Traced.{Is, Step, calls_traced, over}
use Rattle.fbr_serve.proofs.Looped.{Out, Served}

-- the port of an address
pub port_is : (a : SocketAddr) → socket_port a ≡ (endpoint_of a).port
port_is (V4 a) = refl
port_is (V6 a) = refl

module _ {L S K G : Type 0} (does : S → SocketCall → S → Type 0) (socket : L → S) (peers : L → List SocketAddr) (senders : L → List IpAddr) (failures strangers : L → ℕ)
    (view : K → Book) (pacing : G → Pacing) (to : List SocketAddr) (from : List IpAddr) where
  abbrev Call : L → LinkCall → L → Type 0
  Call = Step does socket peers senders failures strangers

  abbrev Keeps : L → Type 0
  Keeps = Is does socket peers senders failures strangers to from

  abbrev at : L → List SocketCall → Over
  at = over does socket peers senders failures strangers

  -- what a ledger writes down, in the terms of its book
  abbrev pub Writes : K → Note → Bool → K → Type 0
  Writes k note done m = WritesDown (view k) note done (view m)

  -- what a gate answers, in the terms of its buckets
  abbrev pub Lets : G → ℕ → Bool → G → Type 0
  Lets g number answer h = Asks (pacing g) number answer (pacing h)

  lost : (reason : Reason) (before : List Peer) (g : G) (bytes : List ℕ) (after : List Peer) (h : G) → IsLost Lets reason before g bytes after h
      → IsLost Asks reason before (pacing g) bytes after (pacing h)
  lost NotSealed before g bytes after h is = (is.0, is.1, ap pacing is.2)
  lost Stranger before g bytes after h is = (is.0, is.1, ap pacing is.2)
  lost Forged before g bytes after h is = (is.0, is.1, ap pacing is.2)
  lost Stale before g bytes after h is = (is.0, is.1, ap pacing is.2)
  lost Ahead before g bytes after h is = (is.0, is.1, ap pacing is.2)
  lost Fast before g bytes after h is = is

  call_traced : (c : LinkCall) (l m : L) (asked : List SocketCall) → Keeps l → Call l c m → (then : List SocketCall) × LinkAsks to from (at l asked) c (at m then) × Keeps m
  call_traced c l m asked is h =
      let r = calls_traced does socket peers senders failures strangers to from (c ∷ []) l m asked is (m, h, refl) in
      (r.0, subst (λ (x : Over). LinkAsks to from (at l asked) c x) r.1.2 r.1.1, r.2)

  extends_at : (before : List Peer) (k : K) (place counter : ℕ) (after : List Peer) (m : K) → ExtendsAt Writes before k place counter after m → ExtendsAt WritesDown before (view k) place counter after (view m)
  extends_at before k place counter after m h =
      record {
        peer = h.peer;
        there = h.there;
        enough = λ less. let e = h.enough less in (e.0, ap view e.1);
        last = λ le. let e = h.last le in (e.0, ap view e.1);
        more = h.more;
      }

  extends : (before : List Peer) (k : K) (bytes : List ℕ) (after : List Peer) (m : K) → Extends Writes before k bytes after m → Extends WritesDown before (view k) bytes after (view m)
  extends before k bytes after m h =
      record {
        sealed = λ place form first. extends_at before k place _ after m (h.sealed place form first);
        unformed = λ bad. let e = h.unformed bad in (e.0, ap view e.1);
        unsealed = λ none. let e = h.unsealed none in (e.0, ap view e.1);
      }

  refills : (o : Own) (k : K) (p : Own) (m : K) → Refills Writes o k p m → Refills WritesDown o (view k) p (view m)
  refills o k p m h = record { left = λ less. let e = h.left less in (e.0, ap view e.1); more = h.more }

  drops : (reasons : List Reason) (before : List Peer) (k : K) (g : G) (s : L) (after : List Peer) (m : K) (h : G) (t : L) (asked : List SocketCall) → Keeps s
      → Drops Call Writes Lets before k g reasons s after m h t
      → (then : List SocketCall) × Drops (LinkAsks to from) WritesDown Asks before (view k) (pacing g) reasons (at s asked) after (view m) (pacing h) (at t then) × Keeps t
  drops [] before k g s after m h t asked is was =
      (asked, (ap (λ (x : L). at x asked) was.0, was.1, ap view was.2, ap pacing was.3), subst Keeps was.0 is)
  drops (reason ∷ reasons) before k g s after m h t asked is was =
      let one = call_traced (Handed 188 was.0) s was.1 asked is was.6 in
      let rest = drops reasons was.4 was.3 was.5 was.1 after m h t one.0 one.2 was.9 in (
        rest.0,
        (
          was.0,
          at was.1 one.0,
          was.2,
          view was.3,
          was.4,
          pacing was.5,
          one.1,
          extends before k was.0 was.2 was.3 was.7,
          lost reason was.2 g was.0 was.4 was.5 was.8,
          rest.1,
        ),
        rest.2,
      )

  silent : (before : List Peer) (k : K) (g : G) (n : ℕ) (s : L) (after : List Peer) (m : K) (h : G) (t : L) (asked : List SocketCall) → Keeps s → after ≡ before → m ≡ k → h ≡ g
      → ((n ≡ 16) × (s ≡ t)) ⊎ ((n < 16) × Call s Silent t)
      → (then : List SocketCall) × Receives (LinkAsks to from) WritesDown Asks before (view k) (pacing g) n (at s asked) Silent after (view m) (pacing h) (at t then) × Keeps t
  silent before k g n s after m h t asked is same kept shut (inl was) =
      (asked, (same, ap view kept, ap pacing shut, inl (was.0, ap (λ (x : L). at x asked) was.1)), subst Keeps was.1 is)
  silent before k g n s after m h t asked is same kept shut (inr was) =
      let one = call_traced Silent s t asked is was.1 in
      (one.0, (same, ap view kept, ap pacing shut, inr (was.0, one.1)), one.2)

  receives : (call : LinkCall) (before : List Peer) (k : K) (g : G) (n : ℕ) (s : L) (after : List Peer) (m : K) (h : G) (t : L) (asked : List SocketCall) → Keeps s
      → Receives Call Writes Lets before k g n s call after m h t
      → (then : List SocketCall) × Receives (LinkAsks to from) WritesDown Asks before (view k) (pacing g) n (at s asked) call after (view m) (pacing h) (at t then) × Keeps t
  receives (Handed room bytes) before k g n s after m h t asked is was =
      let one = call_traced (Handed 188 was.1) s t asked is was.4 in
      (one.0, (was.0, was.1, was.2, was.3, one.1, extends before k was.1 was.3 m was.5, was.6, was.7), one.2)
  receives Silent before k g n s after m h t asked is was = silent before k g n s after m h t asked is was.0 was.1 was.2 was.3
  receives Broken before k g n s after m h t asked is was =
      let one = call_traced Broken s t asked is was.4 in
      (one.0, (was.0, ap view was.1, ap pacing was.2, was.3, one.1), one.2)
  receives (Sent bytes ok) before k g n s after m h t asked is was = absurd was

  receipt : (o p : Own) (k : K) (g : G) (s : L) (call : LinkCall) (m : K) (h : G) (t : L) (asked : List SocketCall) → Keeps s
      → Receipt Call Writes Lets o.peers k g o.dropped s call p.peers m h p.dropped t
      → (then : List SocketCall)
      × Receipt (LinkAsks to from) WritesDown Asks o.peers (view k) (pacing g) o.dropped (at s asked) call p.peers (view m) (pacing h) p.dropped (at t then) × Keeps t
  receipt o p k g s call m h t asked is was =
      let dropped = drops was.reasons o.peers k g s was.mid was.ledger was.gate was.between asked is was.drops in
      let received = receives call was.mid was.ledger was.gate (length was.reasons) was.between p.peers m h t dropped.0 dropped.2 was.received in (
        received.0,
        record {
          reasons = was.reasons;
          mid = was.mid;
          ledger = view was.ledger;
          gate = pacing was.gate;
          between = at was.between dropped.0;
          drops = dropped.1;
          received = received.1;
          counts = was.counts;
        },
        received.2,
      )

  sends : (o : Own) (k : K) (s : L) (bytes : List ℕ) (ok : Bool) (p : Own) (m : K) (t : L) (asked : List SocketCall) → Keeps s → Sends Call Writes o k s bytes ok p m t
      → (then : List SocketCall) × Sends (LinkAsks to from) WritesDown o (view k) (at s asked) bytes ok p (view m) (at t then) × Keeps t
  sends o k s bytes ok p m t asked is h = by (cases_Bool (can_send h.filled bytes))
    where
      f : Own
      f = h.filled

      by : (can_send f bytes ≡ true) ⊎ (can_send f bytes ≡ false) → (then : List SocketCall) × Sends (LinkAsks to from) WritesDown o (view k) (at s asked) bytes ok p (view m) (at t then) × Keeps t
      by (inl can) =
          let sent = h.done can in
          let one = call_traced (Sent (sealed f.key f.number f.next bytes) ok) s t asked is sent.0 in
          (one.0, record { filled = f; refills = refills o k f m h.refills; done = λ _. (one.1, sent.1); refused = λ cannot. absurd (both_ways _ cannot can) }, one.2)
      by (inr cannot) =
          let kept = h.refused cannot in (
            asked,
            record { filled = f; refills = refills o k f m h.refills; done = λ can. absurd (both_ways _ cannot can); refused = λ _. (kept.0, ap (λ (x : L). at x asked) kept.1, kept.2) },
            subst Keeps (sym kept.1) is,
          )

  passes : (call : LinkCall) (o : Own) (k : K) (g : G) (s : L) (p : Own) (m : K) (h : G) (t : L) (asked : List SocketCall) → Keeps s → Passes Call Writes Lets o k g s call p m h t
      → (then : List SocketCall) × Passes (LinkAsks to from) WritesDown Asks o (view k) (pacing g) (at s asked) call p (view m) (pacing h) (at t then) × Keeps t
  passes (Sent bytes ok) o k g s p m h t asked is was = let r = sends o k s bytes ok p m t asked is was.0 in (r.0, (r.1, ap pacing was.1), r.2)
  passes (Handed room bytes) o k g s p m h t asked is was =
      let r = receipt o p k g s (Handed room bytes) m h t asked is was.0 in
      (r.0, (r.1, was.1), r.2)
  passes Silent o k g s p m h t asked is was = let r = receipt o p k g s Silent m h t asked is was.0 in (r.0, (r.1, was.1), r.2)
  passes Broken o k g s p m h t asked is was = let r = receipt o p k g s Broken m h t asked is was.0 in (r.0, (r.1, was.1), r.2)

  step : (failed : ℕ) (o : Own) (k : K) (g : G) (s : L) (call : LinkCall) (p : Own) (m : K) (h : G) (t : L) (asked : List SocketCall) → Keeps s
      → SealedStep Call Writes Lets failed o k g s call p m h t
      → (then : List SocketCall) × SealedStep (LinkAsks to from) WritesDown Asks failed o (view k) (pacing g) (at s asked) call p (view m) (pacing h) (at t then) × Keeps t
  step failed o k g s call p m h t asked is was = by (cases_lt failed 18446744073709551615)
    where
      by : (failed < 18446744073709551615) ⊎ (18446744073709551615 ≤ failed)
          → (then : List SocketCall) × SealedStep (LinkAsks to from) WritesDown Asks failed o (view k) (pacing g) (at s asked) call p (view m) (pacing h) (at t then) × Keeps t
      by (inl less) =
          let r = passes call o k g s p m h t asked is (was.passes less) in
          (r.0, record { passes = λ _. r.1; spent = λ e. absurd (omega (arith, less, e)) }, r.2)
      by (inr full) =
          let e = was.spent full in (
            asked,
            record {
              passes = λ less. absurd (omega (arith, full, less));
              spent = λ _. (e.0, ap (λ (x : L). at x asked) e.1, e.2, ap view e.3, ap pacing e.4);
            },
            subst Keeps (sym e.1) is,
          )

-- ---- turns

module _ {M L S K G : Type 0} (does : S → SocketCall → S → Type 0) (socket : L → S) (peers : L → List SocketAddr) (senders : L → List IpAddr) (failures strangers : L → ℕ)
    (view : K → Book) (pacing : G → Pacing) (failed : M → ℕ) (own : M → Own) (ledger : M → K) (gate : M → G) (below : M → L) where
  -- a call of a link that seals
  abbrev pub SealStep : M → LinkCall → M → Type 0
  SealStep l call m =
      SealedStep (Step does socket peers senders failures strangers) (Writes does socket peers senders failures strangers view pacing (peers (below l)) (senders (below l)))
      (Lets does socket peers senders failures strangers view pacing (peers (below l)) (senders (below l)))
      (failed l) (own l) (ledger l) (gate l) (below l) call (own m) (ledger m) (gate m) (below m)

  -- what is known of it, once its socket was asked this
  abbrev seen : M → List SocketCall → SealingLink
  seen l asked =
      record { failures = failed l; own = own l; book = view (ledger l); pacing = pacing (gate l); below = over does socket peers senders failures strangers (below l) asked }

  module _ (to : List SocketAddr) (from : List IpAddr) where
    abbrev Holds : M → Type 0
    Holds l = Is does socket peers senders failures strangers to from (below l)

    seal_calls : (cs : List LinkCall) (l m : M) (asked : List SocketCall) → Holds l → Chain SealStep l cs m
        → (then : List SocketCall) × Chain (SealedAsks to from) (seen l asked) cs (seen m then) × Holds m
    seal_calls [] l m asked is h = (asked, ap (λ (x : M). seen x asked) h, subst Holds h is)
    seal_calls (c ∷ cs) l m asked is h =
        let one = step does socket peers senders failures strangers view pacing to from (failed l) (own l) (ledger l) (gate l) (below l) c (own h.0) (ledger h.0) (gate h.0) (below h.0) asked is h.1 in
        let rest = seal_calls cs h.0 m one.0 one.2 h.2 in
        (rest.0, (seen h.0 one.0, one.1, rest.1), rest.2)

    seal_turn : (cert : Certificate) (device : Device) (s : Machine) (l : M) (x : TurnAt) (t : Machine) (m : M) (asked : List SocketCall) → Holds l → IsTaken cert device SealStep failed s l x t m
        → (then : List SocketCall) × IsTaken cert device (SealedAsks to from) sealed_failures s (seen l asked) x t (seen m then) × Holds m
    seal_turn cert device s l x t m asked is h =
        let calls = seal_calls (link_calls_of x.turn) l m asked is h.link_run in
        (calls.0, record { device_run = h.device_run; link_run = calls.1; seen = h.seen; datagrams = h.datagrams; closes = h.closes; counted = h.counted }, calls.2)

    seal_turns : (cert : Certificate) (device : Device) (s : Machine) (l : M) (xs : List TurnAt) (t : Machine) (m : M) (asked : List SocketCall) → Holds l → Turns cert device SealStep failed s l xs t m
        → (then : List SocketCall) × Turns cert device (SealedAsks to from) sealed_failures s (seen l asked) xs t (seen m then)
    seal_turns cert device s l [] t m asked is h = (asked, (h.0, ap (λ (x : M). seen x asked) h.1))
    seal_turns cert device s l (x ∷ xs) t m asked is h =
        let one = seal_turn cert device s l x h.0 h.1 asked is h.2 in
        let rest = seal_turns cert device h.0 h.1 xs t m one.0 one.2 h.3 in
        (rest.0, (h.0, seen h.1 one.0, one.1, rest.1))

  -- turns over a link that seals, to these addresses, which has done nothing yet
  pub seals_told : {E C : Type 0} (tells : C → ℕ → C → Type 0) (q : Service) (a : SealsAt) (s : Session) (l : M) (c : C) (old : Out) (t : Session) (m : M) (mid : Out) (ran : Ran) (new : Option (List ℕ)) (r : Result ℕ E)
      → Served SealStep failed tells q.life q.telling s l c old t m mid ran → seen l [] ≡ sealed_at a → peers (below l) ≡ a.to → map parts_of (senders (below l)) ≡ q.network.senders
      → IfOk r (λ status. TellsStop ran mid.printed new status) → IfOk r (λ status. TellsSealedTurns q a s old.printed new status)
  seals_told tells q a s l c old t m mid ran new (Ok status) h first to from told =
      let traced = seal_turns a.to (senders (below l)) (cert_in s) (device_in s) (machine_of s) l h.0 (machine_of t) m [] (to, refl) h.1.turns in
      record {
        senders = senders (below l);
        from = from;
        all = h.0;
        last = machine_of t;
        end = seen m traced.0;
        mid = mid.printed;
        ran = ran;
        served = record {
          turns = subst (λ (x : SealingLink). Turns (cert_in s) (device_in s) (SealedAsks a.to (senders (below l))) sealed_failures (machine_of s) x h.0 (machine_of t) (seen m traced.0)) first traced.1;
          ends = h.1.ends;
          printed = h.1.printed;
          output = h.1.output;
        };
        told = told;
      }
  seals_told tells q a s l c old t m mid ran new (Err e) h first to from told = tt
