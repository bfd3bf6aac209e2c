-- Turns of a device one after another, and what is told of them.
use Rattle.std.proofs.KnownBytes.{Appends-nil, Appends-trans}
use Rattle.std.proofs.Common.{◌≡◌, ◌≤◌, ◌<◌, ◌+◌, ℕ, Bool, true, false, List, [], ◌∷◌, ◌++◌, length, refl, sym, ap, ap₂, subst, ◌∙◌, arith, length-append, Option, Result, Ok, Err, IfOk}
use Rattle.std.specs.List.{AllByRecursion}
use Rattle.std.specs.Io.KnownBytes.{Appends}
use Rattle.fb_model.proofs.Lists.{all_append}
use Rattle.fb_model.specs.System.{Device}
use Rattle.fb_model.specs.Certificates.{Certificate}
use Rattle.std.specs.declared.net.ip_addr.IpAddr.{IpAddr}
use Rattle.std.specs.declared.net.socket_addr.SocketAddr.{SocketAddr}
use Rattle.fb_words.specs.Links.{LinkCall}
use Rattle.fb_link.specs.Socket.{SocketCall}
use Rattle.fb_verified.specs.Checked.{system_in, certificate_in}
use Rattle.fb_verified.specs.declared.verified.Verified.{Verified}
use Rattle.fb_device_state.specs.Sessions.{Session}
use Rattle.fb_device_state.specs.Machines.{device_at, device_in, cert_in, machine_of}
use Rattle.fb_turn.specs.declared.turning.Report.{Report}
use Rattle.fbr_words.specs.Program.{Life, Telling, Service}
use Rattle.fbr_notices.specs.declared.sums.Sums.{Sums}
use Rattle.fbr_notices.specs.declared.stop.Stop.{Stop}
use Rattle.fbr_notices.specs.declared.stop.Stop.TheVariants as stops
use Rattle.fbr_serve.specs.declared.turns.Ran.{Ran}
use Rattle.fbr_notices.specs.Sums.{TurnAt, sums_of, with_report}
use Rattle.fbr_serve.specs.Serving.{IsTaken, IsTimed, Turns, IsWhole, turn_lines, lines_of, EndsTurn, PrintsTurn, Prints, IsServed, Over, LinkAsks, failed_in, unasked, AreOf, TellsStop, TellsTurns}
use Rattle.fbr_serve.specs.Recording.{Held, Records, RecordsTurn}
use Rattle.fbr_serve.proofs.Recorded.{none_recorded, more_recorded}
use Rattle.fbr_serve.proofs.Served.{more_lines, more_sums, more_turns}
use Rattle.fbr_serve.proofs.Traced.{Step, turns_traced}

-- ---- the loop

pub same_device : (s t : Session) → s.verified ≡ t.verified → s.number ≡ t.number → device_in s ≡ device_in t
same_device s t v n = ap (λ (w : Verified). device_at (system_in w).devices s.number) v ∙ ap (λ (k : ℕ). device_at (system_in t.verified).devices k) n

-- what a device prints and what its record holds, where that is known, and whether the record has ended
pub record Out : Type 0 where
  pub printed : Option (List ℕ)
  pub recorded : Held

-- one look at a clock more
more_timed : {C : Type 0} (tells : C → ℕ → C → Type 0) (c : C) (xs : List TurnAt) (d : C) (x : TurnAt) (e : C) → IsTimed tells c xs d → tells d x.now e → IsTimed tells c (xs ++ x ∷ []) e
more_timed tells c [] d x e h t = (e, subst (λ i. tells i x.now e) (sym h) t, refl)
more_timed tells c (y ∷ ys) d x e h t = (h.0, h.1, more_timed tells h.0 ys d x e h.2 t)

-- the turns so far
pub record SoFar {L C : Type 0} (calls : L → LinkCall → L → Type 0) (count : L → ℕ) (tells : C → ℕ → C → Type 0) (clock : Bool) (first : Session) (l : L) (c : C) (old : Out) (k : ℕ) (sums : Sums) (lost : Bool) (now : Session) (m : L) (d : C) (new : Out) : Type 0 where
  pub all : List TurnAt
  pub turns : Turns (cert_in first) (device_in first) calls count (machine_of first) l all (machine_of now) m
  pub as_many : length all ≡ k
  pub whole : AllByRecursion (λ x. IsWhole (device_in first) x.turn) all
  pub sums_are : sums ≡ sums_of all
  pub printed : Prints clock old.printed new.printed all lost
  pub recorded : Records old.recorded new.recorded all
  pub timed : IsTimed tells c all d
  pub verified : now.verified ≡ first.verified
  pub number : now.number ≡ first.number

-- what a turn does, in the terms of the device that it began with
pub record Does {L : Type 0} (calls : L → LinkCall → L → Type 0) (count : L → ℕ) (clock : Bool) (s : Session) (l : L) (old : Out) (x : TurnAt) (t : Session) (m : L) (new : Out) (end : Result Report Stop) (lost : Bool) : Type 0 where
  pub taken : IsTaken (cert_in s) (device_in s) calls count (machine_of s) l x (machine_of t) m
  pub ends : EndsTurn (device_in s) x.turn end
  pub printed : PrintsTurn clock old.printed new.printed x lost
  pub recorded : RecordsTurn old.recorded new.recorded x
  pub verified : t.verified ≡ s.verified
  pub number : t.number ≡ s.number

-- the same in the terms of the first device
again : {L : Type 0} (calls : L → LinkCall → L → Type 0) (count : L → ℕ) (first s : Session) (l : L) (x : TurnAt) (t : Session) (m : L)
    → s.verified ≡ first.verified → s.number ≡ first.number → IsTaken (cert_in s) (device_in s) calls count (machine_of s) l x (machine_of t) m
    → IsTaken (cert_in first) (device_in first) calls count (machine_of s) l x (machine_of t) m
again calls count first s l x t m v n h =
    subst (λ (c : Certificate). IsTaken c (device_in first) calls count (machine_of s) l x (machine_of t) m) (ap certificate_in v)
    (subst (λ (d : Device). IsTaken (cert_in s) d calls count (machine_of s) l x (machine_of t) m) (same_device s first v n) h)

-- what is said of all turns
abbrev pub Served : {L C : Type 0} → (L → LinkCall → L → Type 0) → (L → ℕ) → (C → ℕ → C → Type 0) → Life → Telling → Session → L → C → Out → Session → L → Out → Ran → Type 0
Served {L} {C} calls count tells life telling first l c old last m new ran =
    (all : List TurnAt) × IsServed (cert_in first) (device_in first) calls count life telling (machine_of first) l old.printed all (machine_of last) m new.printed ran × Records old.recorded new.recorded all × ((d : C) × IsTimed tells c all d)

-- an end that is none by output
no_output : {A : Type 0} (a : Sums) → Ok a ≡ Err stops.Output → A
no_output a e = absurd cc

module _ {L C : Type 0} (calls : L → LinkCall → L → Type 0) (count : L → ℕ) (tells : C → ℕ → C → Type 0) (life : Life) (telling : Telling) (first : Session) (l : L) (c : C) (old : Out) where
  -- nothing has happened
  pub at_start : (sums : Sums) (lost : Bool) → sums ≡ sums_of [] → SoFar calls count tells telling.clock first l c old 0 sums lost first l c old
  at_start sums lost e =
      record {
        all = [];
        turns = (refl, refl);
        as_many = refl;
        whole = tt;
        sums_are = e;
        printed = λ _. Appends-nil old.printed;
        recorded = none_recorded old.recorded;
        timed = refl;
        verified = refl;
        number = refl;
      }

  -- one turn more
  pub one_more : (k : ℕ) (sums : Sums) (lost : Bool) (now : Session) (m : L) (d : C) (mid : Out) (x : TurnAt) (then : Session) (n : L) (e : C) (new : Out) (report : Report) (losing : Bool) (after : Sums) (either : Bool)
      → SoFar calls count tells telling.clock first l c old k sums lost now m d mid → tells d x.now e → Does calls count telling.clock now m mid x then n new (Ok report) losing → after ≡ with_report sums report → (either ≡ false → (lost ≡ false) × (losing ≡ false))
      → SoFar calls count tells telling.clock first l c old (k + 1) after either then n e new
  one_more k sums lost now m d mid x then n e new report losing after either h look does sums_are none =
      let taken = again calls count first now m x then n h.verified h.number does.taken in
      let same = same_device now first h.verified h.number in
      let whole : IsWhole (device_in first) x.turn = subst (λ (v : Device). IsWhole v x.turn) same does.ends.0 in
      record {
        all = h.all ++ x ∷ [];
        turns = more_turns (cert_in first) (device_in first) calls count (machine_of first) l h.all (machine_of now) m x (machine_of then) n h.turns taken;
        as_many = length-append h.all (x ∷ []) ∙ ap (λ i. i + 1) h.as_many;
        whole = all_append (λ y. IsWhole (device_in first) y.turn) h.all (x ∷ []) h.whole (whole, tt);
        sums_are = sums_are ∙ ap₂ with_report h.sums_are does.ends.1 ∙ sym (more_sums h.all x);
        printed = λ is. subst (Appends old.printed new.printed) (sym (more_lines telling.clock h.all x)) (Appends-trans old.printed mid.printed new.printed (lines_of telling.clock h.all) (turn_lines telling.clock x) (h.printed (none is).0) (does.printed (none is).1));
        recorded = more_recorded old.recorded mid.recorded new.recorded h.all x h.recorded does.recorded;
        timed = more_timed tells c h.all d x e h.timed look;
        verified = does.verified ∙ h.verified;
        number = does.number ∙ h.number;
      }

  -- all turns were taken, or they were ended
  pub all_taken : (k : ℕ) (sums : Sums) (lost : Bool) (now : Session) (m : L) (d : C) (new : Out) (ran : Ran) → ran ≡ record { end = Ok sums; is_lost = lost } → k ≤ life.turns → (life.until_eof ≡ false → k ≡ life.turns)
      → SoFar calls count tells telling.clock first l c old k sums lost now m d new → Served calls count tells life telling first l c old now m new ran
  all_taken k sums lost now m d new ran is le exact h =
      subst (Served calls count tells life telling first l c old now m new) (sym is)
      (h.all, record { turns = h.turns; ends = (omega (arith, h.as_many, le), λ u. h.as_many ∙ exact u, h.whole, h.sums_are); printed = h.printed; output = λ e. no_output sums e }, h.recorded, (d, h.timed))

  -- the clock failed before a turn
  pub no_clock : (k : ℕ) (sums : Sums) (lost : Bool) (now : Session) (m : L) (d : C) (new : Out) (stop : Stop) (ran : Ran) → ran ≡ record { end = Err stop; is_lost = lost } → k ≤ life.turns → stop ≡ stops.Clock
      → SoFar calls count tells telling.clock first l c old k sums lost now m d new → Served calls count tells life telling first l c old now m new ran
  no_clock k sums lost now m d new stop ran is le clock h =
      subst (Served calls count tells life telling first l c old now m new) (sym (is ∙ ap (λ (x : Stop). record { end = Err x; is_lost = lost }) clock))
      (h.all, record { turns = h.turns; ends = (omega (arith, h.as_many, le), h.whole); printed = h.printed; output = λ e. absurd cc }, h.recorded, (d, h.timed))

  -- a line was lost, and that was to end the turns
  pub output_lost : (k : ℕ) (sums : Sums) (lost : Bool) (now : Session) (m : L) (d : C) (new : Out) (ran : Ran) → ran ≡ record { end = Err stops.Output; is_lost = lost } → k ≤ life.turns → telling.strict ≡ true → lost ≡ true
      → SoFar calls count tells telling.clock first l c old k sums lost now m d new → Served calls count tells life telling first l c old now m new ran
  output_lost k sums lost now m d new ran is le strict losing h =
      subst (Served calls count tells life telling first l c old now m new) (sym is)
      (h.all, record { turns = h.turns; ends = (omega (arith, h.as_many, le), h.whole); printed = h.printed; output = λ _. (strict, losing) }, h.recorded, (d, h.timed))

  -- a turn was the last
  pub last_turn : (k : ℕ) (sums : Sums) (lost : Bool) (now : Session) (m : L) (d : C) (mid : Out) (x : TurnAt) (then : Session) (o : L) (e : C) (new : Out) (stop : Stop) (losing either : Bool) (ran : Ran) → ran ≡ record { end = Err stop; is_lost = either }
      → SoFar calls count tells telling.clock first l c old k sums lost now m d mid → tells d x.now e → k < life.turns → Does calls count telling.clock now m mid x then o new (Err stop) losing → (either ≡ false → (lost ≡ false) × (losing ≡ false))
      → Served calls count tells life telling first l c old then o new ran
  last_turn k sums lost now m d mid x then o e new stop losing either ran is h look less does none =
      subst (Served calls count tells life telling first l c old then o new) (sym is) (by stop (subst (λ (v : Device). EndsTurn v x.turn (Err stop)) same does.ends))
    where
      same : device_in now ≡ device_in first
      same = same_device now first h.verified h.number

      all : List TurnAt
      all = h.all ++ x ∷ []

      few : length all ≤ life.turns
      few = let longer = length-append h.all (x ∷ []) in omega (arith, longer, h.as_many, less)

      turns : Turns (cert_in first) (device_in first) calls count (machine_of first) l all (machine_of then) o
      turns = more_turns (cert_in first) (device_in first) calls count (machine_of first) l h.all (machine_of now) m x (machine_of then) o h.turns (again calls count first now m x then o h.verified h.number does.taken)

      printed : Prints telling.clock old.printed new.printed all either
      printed = λ is_kept. subst (Appends old.printed new.printed) (sym (more_lines telling.clock h.all x)) (Appends-trans old.printed mid.printed new.printed (lines_of telling.clock h.all) (turn_lines telling.clock x) (h.printed (none is_kept).0) (does.printed (none is_kept).1))

      recorded : Records old.recorded new.recorded all
      recorded = more_recorded old.recorded mid.recorded new.recorded h.all x h.recorded does.recorded

      timed : (f : C) × IsTimed tells c all f
      timed = (e, more_timed tells c h.all d x e h.timed look)

      by : (y : Stop) → EndsTurn (device_in first) x.turn (Err y) → Served calls count tells life telling first l c old then o new (record { end = Err y; is_lost = either })
      by stops.LinkDown cut = (all, record { turns = turns; ends = (few, record { before = h.all; last = x; all_are = refl; whole = h.whole; cut = cut }); printed = printed; output = λ f. absurd cc }, recorded, timed)
      by stops.Output no_end = absurd no_end
      by stops.Clock no_end = absurd no_end

-- ---- what is told of a link over UDP

-- turns over a link to these peers, and from these senders, that has done nothing yet
pub turns_told : {E L S C : Type 0} (does : S → SocketCall → S → Type 0) (socket : L → S) (peers : L → List SocketAddr) (senders : L → List IpAddr) (failures strangers : L → ℕ) (tells : C → ℕ → C → Type 0) (q : Service) (s : Session) (l : L) (c : C) (old : Out) (t : Session) (m : L)
    (mid : Out) (ran : Ran) (new : Option (List ℕ)) (r : Result ℕ E) → Served (Step does socket peers senders failures strangers) failures tells q.life q.telling s l c old t m mid ran → failures l ≡ 0 → strangers l ≡ 0
    → AreOf q.network (peers l) (senders l) → IfOk r (λ status. TellsStop ran mid.printed new status) → IfOk r (λ status. TellsTurns q s old.printed new status)
turns_told does socket peers senders failures strangers tells q s l c old t m mid ran new (Ok status) h none known are told =
    let traced = turns_traced does socket peers senders failures strangers (peers l) (senders l) (cert_in s) (device_in s) (machine_of s) l h.0 (machine_of t) m [] (refl, refl) h.1.turns in
    let first : record { failures = failures l; strangers = strangers l; asked = [] } ≡ unasked = ap₂ (λ a b. record { failures = a; strangers = b; asked = [] }) none known in
    record {
      peers = peers l;
      senders = senders l;
      are = are;
      all = h.0;
      last = machine_of t;
      asked = record { failures = failures m; strangers = strangers m; asked = traced.0 };
      mid = mid.printed;
      ran = ran;
      served = record {
        turns = subst (λ (o : Over). Turns (cert_in s) (device_in s) (LinkAsks (peers l) (senders l)) failed_in (machine_of s) o h.0 (machine_of t) (record { failures = failures m; strangers = strangers m; asked = traced.0 })) first traced.1;
        ends = h.1.ends;
        printed = h.1.printed;
        output = h.1.output;
      };
      told = told;
    }
turns_told does socket peers senders failures strangers tells q s l c old t m mid ran new (Err e) h none known are told = tt
