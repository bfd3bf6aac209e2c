use Rattle.fbr_check.proofs.Verdicts.{files_verified, first_unread, second_unread}
use Rattle.fbr_check.proofs.verdict.files_verified.Goals as goal

pub returns-in-Ok-text : goal.returns-in-Ok-text
returns-in-Ok-text c = λ held_app held_cert read_app read_cert.
    files_verified c.args.app.now.name.now c.args.cert.now.name.now c.in-Ok.app.now c.in-Ok-text.cert.now held_app held_cert c.texts_verified.result (c.in-Ok.ensures held_app read_app) (c.in-Ok-text.ensures held_cert read_cert) c.texts_verified.ensures

pub returns-in-Err-text : goal.returns-in-Err-text
returns-in-Err-text c = λ held_app held_cert read_app read_cert.
    second_unread (Unit {0}) c.args.app.now.name.now c.args.cert.now.name.now held_app held_cert c.in-Err-text.fault (c.in-Err-text.ensures held_cert read_cert)

pub returns-in-Err : goal.returns-in-Err
returns-in-Err c = λ held_app held_cert read_app read_cert.
    first_unread (Unit {0}) c.args.app.now.name.now c.args.cert.now.name.now held_app held_cert c.in-Err.fault (c.in-Err.ensures held_app read_app)
