use Rattle.fbr_check.proofs.Verdicts.{files_accepted}
use Rattle.fbr_static.proofs.checking.warned_outcome.Goals as goal

pub returns-in-Ok : goal.returns-in-Ok
returns-in-Ok g c = λ held_app held_cert read_app read_cert.
    files_accepted {A = Unit {0}} c.args.app.now.name.now c.args.cert.now.name.now held_app held_cert c.in-Ok.verified tt (c.in-Ok.ensures held_app held_cert read_app read_cert)
