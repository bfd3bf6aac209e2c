use Rattle.fbr_files.specs.Reading.{held_by}
use Rattle.fbr_words.specs.Requests.{meant_of}
use Rattle.fbr_static.proofs.Tellings.{tells_files}
use Rattle.fbr_static.proofs.checking.check_text.Goals as goal

pub returns-clause-told : goal.returns-clause-told
returns-clause-told g c =
    let held_app = held_by (meant_of c.args.request.meant) (g.S.Sources.contents c.args.files.now c.args.request.app.now) in
    let held_cert = g.S.Sources.contents c.args.files.now c.args.request.cert.now in
    tells_files c.args.request.app.now c.args.request.cert.now c.read_app-app.result.name.now c.read_file-cert.result.name.now held_app held_cert c.warned_outcome-outcome.result (g.W.Write.contents c.args.output.now) (g.W.Write.contents c.print_outcome.new.output)
    c.print_outcome.result c.read_app-app.ensures.named c.read_file-cert.ensures.named (c.warned_outcome-outcome.ensures held_app held_cert c.read_app-app.ensures.held c.read_file-cert.ensures.held) c.print_outcome.ensures.told
