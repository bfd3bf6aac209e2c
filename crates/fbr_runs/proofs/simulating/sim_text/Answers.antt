use Rattle.std.proofs.Common.{◌≡◌, ◌∙◌, Ok, Err, true, false, refl, sym}
use Rattle.fbr_files.specs.Reading.{held_by}
use Rattle.fbr_words.specs.Requests.{simulating_of}
use Rattle.fbr_static.proofs.Tellings.{all_kept}
use Rattle.fbr_runs.proofs.Running.{verified_of, script_run, files_refused, sim_told}
use Rattle.fbr_runs.proofs.simulating.sim_text.Goals as goal

pub returns-then-is_plain-clause-told : goal.returns-then-is_plain-clause-told
returns-then-is_plain-clause-told g c =
    let one = c.args.request.app.now in
    let two = c.args.request.cert.now in
    let same = g.S.Sources.same c.args.files.now in
    let before = g.S.Sources.contents c.args.files.now in
    let held = g.I.Read.remaining c.args.input.now in
    let old = g.W.Write.contents c.args.output.now in
    let q = simulating_of c.args.request in
    let new = g.W.Write.contents c.run_input-told.new.output in
    sim_told q same before held old new c.run_input-told.result (c.overwrites.ensures.apart c.if-overwrites.false)
    (script_run q.watched one two (held_by q.meant (before one)) (before two) held c.in-Ok.verified old new c.run_input-told.result
    (verified_of one two c.read_app-app.result.name.now c.read_file-cert.result.name.now (held_by q.meant (before one)) (before two) (Ok c.in-Ok.verified) c.read_app-app.ensures.named c.read_file-cert.ensures.named (c.in-Ok.ensures (held_by q.meant (before one)) (before two) c.read_app-app.ensures.held c.read_file-cert.ensures.held)) (λ plain. c.run_input-told.ensures.told))

pub returns-in-Ok-clause-told : goal.returns-in-Ok-clause-told
returns-in-Ok-clause-told g c =
    let one = c.args.request.app.now in
    let two = c.args.request.cert.now in
    let same = g.S.Sources.same c.args.files.now in
    let before = g.S.Sources.contents c.args.files.now in
    let held = g.I.Read.remaining c.args.input.now in
    let old = g.W.Write.contents c.args.output.now in
    let q = simulating_of c.args.request in
    let new = g.W.Write.contents c.finish.new.output in
    sim_told q same before held old new c.finish.result (c.overwrites.ensures.apart c.if-overwrites.false)
    (script_run q.watched one two (held_by q.meant (before one)) (before two) held c.in-Ok.verified old new c.finish.result
    (verified_of one two c.read_app-app.result.name.now c.read_file-cert.result.name.now (held_by q.meant (before one)) (before two) (Ok c.in-Ok.verified) c.read_app-app.ensures.named c.read_file-cert.ensures.named (c.in-Ok.ensures (held_by q.meant (before one)) (before two) c.read_app-app.ensures.held c.read_file-cert.ensures.held)) (λ plain. let e : true ≡ false = sym plain ∙ (sym c.is_plain.ensures ∙ c.if-is_plain.false) in cc))

pub returns-clause-told : goal.returns-clause-told
returns-clause-told g c =
    let one = c.args.request.app.now in
    let two = c.args.request.cert.now in
    let same = g.S.Sources.same c.args.files.now in
    let before = g.S.Sources.contents c.args.files.now in
    let held = g.I.Read.remaining c.args.input.now in
    let old = g.W.Write.contents c.args.output.now in
    let q = simulating_of c.args.request in
    let new = g.W.Write.contents c.print_outcome.new.output in
    sim_told q same before held old new c.print_outcome.result (c.overwrites.ensures.apart c.if-overwrites.false)
    (files_refused q.watched one two (held_by q.meant (before one)) (before two) held c.in-Err.fault old new c.print_outcome.result
    (verified_of one two c.read_app-app.result.name.now c.read_file-cert.result.name.now (held_by q.meant (before one)) (before two) (Err c.in-Err.fault) c.read_app-app.ensures.named c.read_file-cert.ensures.named (c.in-Err.ensures (held_by q.meant (before one)) (before two) c.read_app-app.ensures.held c.read_file-cert.ensures.held)) c.print_outcome.ensures.told)

pub returns-then-overwrites-clause-others : goal.returns-then-overwrites-clause-others
returns-then-overwrites-clause-others g c = all_kept (g.S.Sources.same c.args.files.now) _ (g.S.Sources.contents c.args.files.now) (g.S.Sources.contents c.args.files.now) refl

pub returns-then-is_plain-clause-others : goal.returns-then-is_plain-clause-others
returns-then-is_plain-clause-others g c = all_kept (g.S.Sources.same c.args.files.now) _ (g.S.Sources.contents c.args.files.now) (g.S.Sources.contents c.args.files.now) refl

pub returns-clause-others : goal.returns-clause-others
returns-clause-others g c = all_kept (g.S.Sources.same c.args.files.now) _ (g.S.Sources.contents c.args.files.now) (g.S.Sources.contents c.args.files.now) refl
