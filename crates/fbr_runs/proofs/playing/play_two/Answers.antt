use Rattle.std.proofs.Common.{Ok, Err, refl}
use Rattle.fbr_files.specs.declared.fault.Fault.TheVariants.{Memory}
use Rattle.fbr_files.specs.Reading.{held_by}
use Rattle.fbr_words.specs.Requests.{meant_of}
use Rattle.fbr_static.proofs.Tellings.{all_kept}
use Rattle.fbr_runs.proofs.Running.{verified_of, stories_played, stories_refused, told_fault}
use Rattle.fbr_runs.proofs.playing.play_two.Goals as goal

pub returns-in-Ok-play_all-clause-told : goal.returns-in-Ok-play_all-clause-told
returns-in-Ok-play_all-clause-told g c =
    let one = c.args.both.app.now in
    let two = c.args.both.cert.now in
    let held_app = held_by (meant_of c.args.request.now.meant) (g.S.Sources.contents c.args.files.now one) in
    let held_cert = g.S.Sources.contents c.args.files.now two in
    stories_played one two held_app held_cert c.in-Ok.verified (g.W.Write.contents c.args.output.now) (g.W.Write.contents c.finish.new.output) c.finish.result
    (verified_of one two c.read_app-app.result.name.now c.read_file-cert.result.name.now held_app held_cert (Ok c.in-Ok.verified) c.read_app-app.ensures.named c.read_file-cert.ensures.named (c.in-Ok.ensures held_app held_cert c.read_app-app.ensures.held c.read_file-cert.ensures.held))
    c.finish.ensures.told

pub returns-in-Ok-clause-told : goal.returns-in-Ok-clause-told
returns-in-Ok-clause-told g c =
    let one = c.args.both.app.now in
    let two = c.args.both.cert.now in
    let held_app = held_by (meant_of c.args.request.now.meant) (g.S.Sources.contents c.args.files.now one) in
    let held_cert = g.S.Sources.contents c.args.files.now two in
    stories_played one two held_app held_cert c.in-Ok.verified (g.W.Write.contents c.args.output.now) (g.W.Write.contents c.spent.new.output) c.spent.result
    (verified_of one two c.read_app-app.result.name.now c.read_file-cert.result.name.now held_app held_cert (Ok c.in-Ok.verified) c.read_app-app.ensures.named c.read_file-cert.ensures.named (c.in-Ok.ensures held_app held_cert c.read_app-app.ensures.held c.read_file-cert.ensures.held))
    (told_fault Memory (g.W.Write.contents c.args.output.now) (g.W.Write.contents c.spent.new.output) c.spent.result c.spent.ensures.told)

pub returns-clause-told : goal.returns-clause-told
returns-clause-told g c =
    let one = c.args.both.app.now in
    let two = c.args.both.cert.now in
    let held_app = held_by (meant_of c.args.request.now.meant) (g.S.Sources.contents c.args.files.now one) in
    let held_cert = g.S.Sources.contents c.args.files.now two in
    stories_refused one two held_app held_cert c.in-Err.fault (g.W.Write.contents c.args.output.now) (g.W.Write.contents c.print_outcome.new.output) c.print_outcome.result
    (verified_of one two c.read_app-app.result.name.now c.read_file-cert.result.name.now held_app held_cert (Err c.in-Err.fault) c.read_app-app.ensures.named c.read_file-cert.ensures.named (c.in-Err.ensures held_app held_cert c.read_app-app.ensures.held c.read_file-cert.ensures.held))
    c.print_outcome.ensures.told

pub returns-in-Ok-clause-others : goal.returns-in-Ok-clause-others
returns-in-Ok-clause-others g c = all_kept (g.S.Sources.same c.args.files.now) _ (g.S.Sources.contents c.args.files.now) (g.S.Sources.contents c.args.files.now) refl

pub returns-clause-others : goal.returns-clause-others
returns-clause-others g c = all_kept (g.S.Sources.same c.args.files.now) _ (g.S.Sources.contents c.args.files.now) (g.S.Sources.contents c.args.files.now) refl
