use Rattle.std.proofs.Common.{Ok, Err}
use Rattle.fbr_words.specs.Requests.{question_of, sought_of}
use Rattle.fbr_static.proofs.Tellings.{alone_begins}
use Rattle.fbr_static.proofs.explaining.explain_one.Goals as goal

pub returns-in-Ok-clause-told : goal.returns-in-Ok-clause-told
returns-in-Ok-clause-told g c =
    let asked = sought_of c.least-least.result in
    let before = g.S.Sources.contents c.args.files.now in
    alone_begins (question_of c.args.request) asked before (Ok tt) (g.W.Write.contents c.args.output.now) (g.W.Write.contents c.print_whole.new.output) c.print_whole.result c.least-least.ensures.asked
    (_, c.in-Ok.ensures asked before c.read_wanted-wanted.ensures) c.print_whole.ensures.first

pub returns : goal.returns
returns g c =
    let asked = sought_of c.least-least.result in
    let before = g.S.Sources.contents c.args.files.now in
    record {
      told = alone_begins (question_of c.args.request) asked before (Err c.in-Err.fault) (g.W.Write.contents c.args.output.now) (g.W.Write.contents c.print_whole-in-Err.new.output) c.print_whole-in-Err.result c.least-least.ensures.asked
          (c.in-Err.ensures asked before c.read_wanted-wanted.ensures) c.print_whole-in-Err.ensures.first;
      status = c.print_whole-in-Err.ensures.status;
    }
