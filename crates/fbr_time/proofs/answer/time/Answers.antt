use Rattle.fbr_files.specs.Reading.{held_by}
use Rattle.fbr_words.specs.Requests.{meant_of, timing_of}
use Rattle.fbr_time.proofs.Timings.{times_accepted, times_refused}
use Rattle.fbr_time.proofs.answer.time.Goals as goal

pub returns-in-Ok-clause-told : goal.returns-in-Ok-clause-told
returns-in-Ok-clause-told g c =
    let files = g.S.Sources.contents c.args.files.now in
    times_accepted (timing_of c.args.request) files (g.W.Write.contents c.args.output.now) (g.W.Write.contents c.tell_times-status.new.output) c.read_app-app.result.name.now c.read_file-cert.result.name.now
    c.tell_times-status.result c.read_app-app.ensures.named c.read_file-cert.ensures.named c.in-Ok.verified
    (c.in-Ok.ensures (held_by (meant_of c.args.request.meant) (files c.args.request.app.now)) (files c.args.request.cert.now) c.read_app-app.ensures.held c.read_file-cert.ensures.held)

pub returns-clause-told : goal.returns-clause-told
returns-clause-told g c =
    let files = g.S.Sources.contents c.args.files.now in
    times_refused (timing_of c.args.request) files (g.W.Write.contents c.args.output.now) (g.W.Write.contents c.refuse.new.output) c.read_app-app.result.name.now c.read_file-cert.result.name.now
    c.refuse.result c.read_app-app.ensures.named c.read_file-cert.ensures.named c.in-Err.fault
    (c.in-Err.ensures (held_by (meant_of c.args.request.meant) (files c.args.request.app.now)) (files c.args.request.cert.now) c.read_app-app.ensures.held c.read_file-cert.ensures.held)
    c.refuse.ensures.told
