use Rattle.std.proofs.Common.{◌∙◌, [], ◌∷◌, ◌++◌, arith, sym, length-append, refl, subst}
use Rattle.std.specs.Io.Buffered.{reader_remaining}
use Rattle.fb_device_state.specs.Machines.{device_in, cert_in, machine_of}
use Rattle.fb_turn.proofs.Turned.{along}
use Rattle.fbr_serve.specs.declared.turns.Taken.{Taken}
use Rattle.fbr_notices.specs.Sums.{TurnAt}
use Rattle.fbr_serve.specs.Serving.{EndsTurn}
use Rattle.fbr_serve.specs.Recording.{none, Retakes}
use Rattle.fbr_serve.proofs.Taking.{one_more, over, stopped, summed}
use Rattle.fbr_serve.proofs.replay.take_lines.Goals as goal

pub loop-at-init : goal.loop-at-init
loop-at-init g c = ([], none, omega arith, c.none-sums.ensures, refl, refl)

pub returns-in-Last-clause-taken : goal.returns-in-Last-clause-taken
returns-in-Last-clause-taken g c =
    let h = c.loop-at.invariant in
    let old = reader_remaining g.R.Read.remaining c.loop-at.reader in
    let new = reader_remaining g.R.Read.remaining c.next_line.new.reader in
    (h.0, old, h.1, (over old new c.next_line.new.line.items c.next_line.result c.next_line.ensures c.in-Last.is, h.3))

pub returns-in-Err-end-clause-taken : goal.returns-in-Err-end-clause-taken
returns-in-Err-end-clause-taken g c =
    let h = c.loop-at.invariant in
    let old = reader_remaining g.R.Read.remaining c.loop-at.reader in
    let new = reader_remaining g.R.Read.remaining c.next_line.new.reader in
    let k = rw c.in-Ok-Some.field-0-is at c.in-Ok-Some.ensures.taken in
    let x : TurnAt = k.1 in
    let taken = along c.loop-at.device c.args.device.now (λ cert device. Retakes cert device (machine_of c.loop-at.device) k.0 x (machine_of c.take_line.new.device)) h.4 h.5 k.3 in
    let turns = one_more (cert_in c.args.device.now) (device_in c.args.device.now) (reader_remaining g.R.Read.remaining c.args.reader.now) old new (machine_of c.args.device.now) (machine_of c.loop-at.device) (machine_of c.take_line.new.device) h.0 x c.next_line.new.line.items c.deref.result.now k.0
    h.1 c.in-Whole.ensures c.deref.ensures.value k.2 taken in
    let cut = stopped (device_in c.loop-at.device) x.turn c.in-Err-end.stop (subst (EndsTurn (device_in c.loop-at.device) x.turn) c.in-Err-end.is (subst (λ (r : Taken). EndsTurn (device_in c.loop-at.device) x.turn r.end) (sym c.in-Ok-Some.taken-is) k.4)) in
    (h.0 ++ x ∷ [], new, turns, (h.0, x, refl, cut))

pub loop-at-preserved : goal.loop-at-preserved
loop-at-preserved g c =
    let h = c.loop-at.invariant in
    let old = reader_remaining g.R.Read.remaining c.loop-at.reader in
    let new = reader_remaining g.R.Read.remaining c.next_line.new.reader in
    let k = rw c.in-Ok-Some.field-0-is at c.in-Ok-Some.ensures.taken in
    let x : TurnAt = k.1 in
    let taken = along c.loop-at.device c.args.device.now (λ cert device. Retakes cert device (machine_of c.loop-at.device) k.0 x (machine_of c.take_line.new.device)) h.4 h.5 k.3 in
    let turns = one_more (cert_in c.args.device.now) (device_in c.args.device.now) (reader_remaining g.R.Read.remaining c.args.reader.now) old new (machine_of c.args.device.now) (machine_of c.loop-at.device) (machine_of c.take_line.new.device) h.0 x c.next_line.new.line.items c.deref.result.now k.0
    h.1 c.in-Whole.ensures c.deref.ensures.value k.2 taken in
    let ends = subst (EndsTurn (device_in c.loop-at.device) x.turn) c.in-Ok.is (subst (λ (r : Taken). EndsTurn (device_in c.loop-at.device) x.turn r.end) (sym c.in-Ok-Some.taken-is) k.4) in (
      h.0 ++ x ∷ [],
      turns,
      omega (arith, h.2, length-append h.0 (x ∷ [])),
      summed h.0 x c.loop-at.sums c.with-sums.result c.in-Ok.report h.3 c.with-sums.ensures ends.1,
      c.take_line.ensures.same.0 ∙ h.4,
      c.take_line.ensures.same.1 ∙ h.5,
    )
