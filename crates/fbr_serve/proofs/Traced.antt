-- What a link over UDP asks of a socket, call by call, whatever the socket tells.
use Rattle.std.proofs.Common.{◌≡◌, ℕ, Bool, List, [], ◌∷◌, ◌++◌, length, refl, ap, subst, ◌∙◌, inl, inr, arith}
use Rattle.std.specs.declared.net.ip_addr.IpAddr.{IpAddr}
use Rattle.std.specs.declared.net.socket_addr.SocketAddr.{SocketAddr}
use Rattle.std.proofs.lemmas.Bool.{cases_lt}
use Rattle.fb_model.specs.System.{Device}
use Rattle.fb_model.specs.Certificates.{Certificate}
use Rattle.fb_model.specs.Devices.{Machine}
use Rattle.fb_words.specs.Links.{LinkCall, Handed, Silent, Broken, Sent}
use Rattle.fb_link.specs.Socket.{SocketCall, SentTo, Took, Missed, SendsToEach, DropsEach, Receives, TakesFrom, Asks, UdpStep}
use Rattle.fb_model.specs.Turning.{Chain, link_calls_of}
use Rattle.fbr_notices.specs.Sums.{TurnAt}
use Rattle.fbr_serve.specs.Serving.{IsTaken, Turns, Traced, Over, LinkAsks, failed_in}

module _ {S : Type 0} (does : S → SocketCall → S → Type 0) where
  sends_traced : (bytes : List ℕ) (peers : List SocketAddr) (s : S) (ok : Bool) (t : S) (before : List SocketCall) → SendsToEach does bytes peers s ok t → (after : List SocketCall) × SendsToEach Traced bytes peers before ok after
  sends_traced bytes [] s ok t before h = (before, (refl, h.1))
  sends_traced bytes (peer ∷ peers) s ok t before h =
      let rest = sends_traced bytes peers h.1 h.3 t (before ++ SentTo peer bytes h.0 ∷ []) h.4 in
      (rest.0, (h.0, before ++ SentTo peer bytes h.0 ∷ [], refl, h.3, rest.1, h.5))

  drops_traced : (senders : List IpAddr) (room : ℕ) (strangers : List SocketAddr) (s t : S) (before : List SocketCall) → DropsEach does senders room strangers s t → (after : List SocketCall) × DropsEach Traced senders room strangers before after
  drops_traced senders room [] s t before h = (before, refl)
  drops_traced senders room (from ∷ strangers) s t before h =
      let rest = drops_traced senders room strangers h.2 t (before ++ Took from room h.1 ∷ []) h.4 in
      (rest.0, (h.0, h.1, before ++ Took from room h.1 ∷ [], refl, rest.1))

  receives_traced : (senders : List IpAddr) (room n : ℕ) (s : S) (call : LinkCall) (t : S) (before : List SocketCall) → Receives does senders room n s call t → (after : List SocketCall) × Receives Traced senders room n before call after
  receives_traced senders room n s (Handed size bytes) t before h = (before ++ Took h.2 room bytes ∷ [], (h.0, h.1, h.2, h.3, refl))
  receives_traced senders room n s Silent t before (inl h) = (before, inl (h.0, refl))
  receives_traced senders room n s Silent t before (inr h) = (before ++ Missed h.1 ∷ [], inr (h.0, h.1, h.2, refl))
  receives_traced senders room n s Broken t before h = (before ++ Missed h.1 ∷ [], (h.0, h.1, h.2, refl))
  receives_traced senders room n s (Sent bytes ok) t before h = absurd h

  takes_traced : (senders : List IpAddr) (counted : ℕ) (s : S) (call : LinkCall) (more : ℕ) (t : S) (before : List SocketCall) → TakesFrom does senders counted s call more t → (after : List SocketCall) × TakesFrom Traced senders counted before call more after
  takes_traced senders counted s call more t before h =
      let dropped = drops_traced senders h.room h.strangers s h.between before h.dropped in
      let received = receives_traced senders h.room (length h.strangers) h.between call t dropped.0 h.received in
      (received.0, record { room = h.room; strangers = h.strangers; between = dropped.0; dropped = dropped.1; received = received.1; counts = h.counts })

  asks_traced : (peers : List SocketAddr) (senders : List IpAddr) (counted : ℕ) (s : S) (call : LinkCall) (more : ℕ) (t : S) (before : List SocketCall) → Asks does peers senders counted s call more t → (after : List SocketCall) × Asks Traced peers senders counted before call more after
  asks_traced peers senders counted s (Sent bytes ok) more t before h =
      let sent = sends_traced bytes peers s ok t before h.0 in (sent.0, (sent.1, h.1))
  asks_traced peers senders counted s (Handed room bytes) more t before h = takes_traced senders counted s (Handed room bytes) more t before h
  asks_traced peers senders counted s Silent more t before h = takes_traced senders counted s Silent more t before h
  asks_traced peers senders counted s Broken more t before h = takes_traced senders counted s Broken more t before h

  step_traced : (peers : List SocketAddr) (senders : List IpAddr) (failures counted : ℕ) (s : S) (call : LinkCall) (more : ℕ) (t : S) (before : List SocketCall) → UdpStep does peers senders failures counted s call more t
      → (after : List SocketCall) × UdpStep Traced peers senders failures counted before call more after
  step_traced peers senders failures counted s call more t before h =
      elim (cases_lt failures 18446744073709551615) [
        | inl less ↦
            let asked = asks_traced peers senders counted s call more t before (h.asks less) in
            (asked.0, record { asks = λ _. asked.1; spent = λ is. absurd (omega (arith, less, is)) })
        | inr not ↦ (before, record { asks = λ less. absurd (omega (arith, not, less)); spent = λ is. let k = h.spent is in (k.0, k.1, refl) })
      ]

-- ---- turns

module _ {L S : Type 0} (does : S → SocketCall → S → Type 0) (socket : L → S) (peers : L → List SocketAddr) (senders : L → List IpAddr) (failures strangers : L → ℕ) where
  -- a call of a link over a socket
  abbrev pub Step : L → LinkCall → L → Type 0
  Step l call m = UdpStep does (peers l) (senders l) (failures l) (strangers l) (socket l) call (strangers m) (socket m) × (peers m ≡ peers l) × (senders m ≡ senders l)

  -- what is known of it, once its socket was asked this
  abbrev pub over : L → List SocketCall → Over
  over l asked = record { failures = failures l; strangers = strangers l; asked = asked }

  module _ (to : List SocketAddr) (from : List IpAddr) where
    -- a link that keeps these peers and senders
    abbrev pub Is : L → Type 0
    Is l = (peers l ≡ to) × (senders l ≡ from)

    pub calls_traced : (cs : List LinkCall) (l m : L) (before : List SocketCall) → Is l → Chain Step l cs m → (after : List SocketCall) × Chain (LinkAsks to from) (over l before) cs (over m after) × Is m
    calls_traced [] l m before is h = (before, ap (λ x. over x before) h, subst Is h is)
    calls_traced (c ∷ cs) l m before is h =
        let at : UdpStep does to from (failures l) (strangers l) (socket l) c (strangers h.0) (socket h.0) =
        subst (λ ps. UdpStep does ps from (failures l) (strangers l) (socket l) c (strangers h.0) (socket h.0)) is.0
        (subst (λ ss. UdpStep does (peers l) ss (failures l) (strangers l) (socket l) c (strangers h.0) (socket h.0)) is.1 h.1.0) in
        let one = step_traced does to from (failures l) (strangers l) (socket l) c (strangers h.0) (socket h.0) before at in
        let rest = calls_traced cs h.0 m one.0 (h.1.1 ∙ is.0, h.1.2 ∙ is.1) h.2 in
        (rest.0, (over h.0 one.0, one.1, rest.1), rest.2)

    turn_traced : (cert : Certificate) (device : Device) (s : Machine) (l : L) (x : TurnAt) (t : Machine) (m : L) (before : List SocketCall) → Is l → IsTaken cert device Step failures s l x t m
        → (after : List SocketCall) × IsTaken cert device (LinkAsks to from) failed_in s (over l before) x t (over m after) × Is m
    turn_traced cert device s l x t m before is h =
        let calls = calls_traced (link_calls_of x.turn) l m before is h.link_run in
        (calls.0, record { device_run = h.device_run; link_run = calls.1; seen = h.seen; datagrams = h.datagrams; closes = h.closes; counted = h.counted }, calls.2)

    pub turns_traced : (cert : Certificate) (device : Device) (s : Machine) (l : L) (xs : List TurnAt) (t : Machine) (m : L) (before : List SocketCall) → Is l → Turns cert device Step failures s l xs t m
        → (after : List SocketCall) × Turns cert device (LinkAsks to from) failed_in s (over l before) xs t (over m after)
    turns_traced cert device s l [] t m before is h = (before, (h.0, ap (λ x. over x before) h.1))
    turns_traced cert device s l (x ∷ xs) t m before is h =
        let one = turn_traced cert device s l x h.0 h.1 before is h.2 in
        let rest = turns_traced cert device h.0 h.1 xs t m one.0 one.2 h.3 in
        (rest.0, (h.0, over h.1 one.0, one.1, rest.1))
