use Rattle.std.proofs.Common.{◌∙◌, sym}
use Rattle.fb_cert.specs.Views.{rows_of}
use Rattle.fb_find_room.proofs.Roomy.{row_deepened}
use Rattle.fb_find_room.proofs.room.deepen.Goals as goal

pub returns-in-Some : goal.returns-in-Some
returns-in-Some c = λ ds are.
    row_deepened c.args.times ds (rows_of c.args.certificate.now) (rows_of c.set_depth.new.self) c.args.index c.in-Some.depth c.set_depth.result (sym c.in-Some.is ∙ c.in_ok-depth.ensures ds are) c.set_depth.ensures.tells c.set_depth.ensures.set
