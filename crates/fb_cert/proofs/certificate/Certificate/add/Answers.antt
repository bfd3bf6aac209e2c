use Rattle.fb_cert.specs.Views.{rows_in, text_row_of}
use Rattle.fb_cert.proofs.Sayables.{added_sayable}
use Rattle.fb_cert.proofs.certificate.Certificate.add.Goals as goal

pub invariant_of-self : goal.invariant_of-self
invariant_of-self c =
    added_sayable c.add.result (rows_in c.self.inside.lists) (rows_in c.add.new.self) (text_row_of c.args.row) c.self.invariant
    (c.is_sayable.ensures.said c.if-not-is_sayable.false) c.add.ensures.added c.add.ensures.kept
