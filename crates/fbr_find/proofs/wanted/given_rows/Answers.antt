use Rattle.fbr_find.proofs.Texts.{unread_given}
use Rattle.fbr_find.proofs.wanted.given_rows.Goals as goal

pub returns-in-Err : goal.returns-in-Err
returns-in-Err c = λ held read. unread_given c.args.file.now.name.now held c.in-Err.fault (c.in-Err.ensures held read)
