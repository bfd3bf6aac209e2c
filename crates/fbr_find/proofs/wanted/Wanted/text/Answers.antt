use Rattle.fbr_files.specs.Reading.{held_by}
use Rattle.fbr_find.proofs.Texts.{sought_over, unread_over}
use Rattle.fbr_find.proofs.wanted.Wanted.text.Goals as goal

pub returns-in-Ok : goal.returns-in-Ok
returns-in-Ok c = λ q files read.
    sought_over q files c.in-Ok.app.now c.short_text.result (c.in-Ok.ensures (held_by q.meant (files q.app)) read.app.read) (c.short_text.ensures q files read)

pub returns-in-Err : goal.returns-in-Err
returns-in-Err c = λ q files read.
    unread_over q files c.args.self.now.app.name.now c.in-Err.fault read.app.named (c.in-Err.ensures (held_by q.meant (files q.app)) read.app.read)
