use Rattle.std.proofs.Common.{subst}
use Rattle.fbr_files.specs.Outcomes.{IsReadFault}
use Rattle.fbr_files.specs.Reading.{held_by}
use Rattle.fbr_words.specs.Requests.{packing_of}
use Rattle.fbr_static.proofs.Tellings.{pack_put, pack_told}
use Rattle.fbr_static.proofs.packing.pack_read.Goals as goal

pub returns-in-Ok-clause-told : goal.returns-in-Ok-clause-told
returns-in-Ok-clause-told g c = λ apart.
    let q = packing_of c.args.request in
    let before = g.S.Sources.contents c.args.files.now in
    pack_put q (g.S.Sources.same c.args.files.now) c.in-Ok.text.now before (g.S.Sources.contents c.put_out.new.files) (g.W.Write.contents c.args.output.now) (g.W.Write.contents c.put_out.new.output) c.put_out.result apart
    (c.in-Ok.ensures (held_by q.meant (before q.app)) c.read_app-app.ensures.held) c.put_out.ensures.told

pub returns-clause-told : goal.returns-clause-told
returns-clause-told g c = λ apart.
    let q = packing_of c.args.request in
    let files = g.S.Sources.contents c.args.files.now in
    pack_told q (g.S.Sources.same c.args.files.now) c.in-Err.fault files (g.W.Write.contents c.args.output.now) (g.W.Write.contents c.print_outcome.new.output) c.print_outcome.result apart
    (subst (λ n. IsReadFault n c.in-Err.fault) c.read_app-app.ensures.named (c.in-Err.ensures (held_by q.meant (files q.app)) c.read_app-app.ensures.held)) c.print_outcome.ensures.told
