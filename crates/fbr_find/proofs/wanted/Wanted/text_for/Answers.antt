use Rattle.fb_types.specs.Views.{system_of}
use Rattle.fb_cert.specs.Views.{rows_of}
use Rattle.fbr_find.proofs.Texts.{text_found, unfound}
use Rattle.fbr_find.proofs.wanted.Wanted.text_for.Goals as goal

pub returns-in-Ok : goal.returns-in-Ok
returns-in-Ok c = λ q files read.
    text_found q files (system_of c.args.typed.now) c.args.self.now.repeats c.args.self.now.room (rows_of c.in-Ok.certificate) c.text_with_room.result read.repeats read.room (c.in-Ok.ensures q.ranges files read.ranges) c.text_with_room.ensures.text
    c.text_with_room.ensures.spelled

pub returns-in-Err : goal.returns-in-Err
returns-in-Err c = λ q files read. unfound q files (system_of c.args.typed.now) c.args.self.now.repeats c.in-Err.fault read.repeats (c.in-Err.ensures q.ranges files read.ranges)
