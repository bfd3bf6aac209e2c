use Rattle.std.proofs.Common.{Ok, Err}
use Rattle.fbr_check.proofs.Verdicts.{files_accepted}
use Rattle.fbr_static.proofs.Tellings.{verdict_begins}
use Rattle.fbr_static.proofs.explaining.explain_two.Goals as goal

pub returns-in-Ok-clause-told : goal.returns-in-Ok-clause-told
returns-in-Ok-clause-told g c = λ held_app held_cert read_app read_cert.
    verdict_begins c.args.app.now.name.now c.args.cert.now.name.now held_app held_cert (Ok tt) (g.W.Write.contents c.args.output.now) (g.W.Write.contents c.print_whole.new.output) c.print_whole.result
    (files_accepted {A = Unit {0}} c.args.app.now.name.now c.args.cert.now.name.now held_app held_cert c.in-Ok.verified tt (c.in-Ok.ensures held_app held_cert read_app read_cert)) c.print_whole.ensures.first

pub returns-in-Err : goal.returns-in-Err
returns-in-Err g c =
    record {
      told = λ held_app held_cert read_app read_cert.
          verdict_begins c.args.app.now.name.now c.args.cert.now.name.now held_app held_cert (Err c.in-Err.fault) (g.W.Write.contents c.args.output.now) (g.W.Write.contents c.print_whole-in-Err.new.output) c.print_whole-in-Err.result
          (c.in-Err.ensures held_app held_cert read_app read_cert) c.print_whole-in-Err.ensures.first;
      status = c.print_whole-in-Err.ensures.status;
    }
