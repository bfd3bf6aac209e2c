use Rattle.std.proofs.Common.{sym, subst}
use Rattle.fb_cert.specs.Rows.{rows_in}
use Rattle.fb_cert.specs.Sayable.{AreSayable}
use Rattle.fb_cert.proofs.Sayables.{sayable_depth}
use Rattle.fb_cert.proofs.certificate.Certificate.set_depth.Goals as goal

pub invariant_of-self : goal.invariant_of-self
invariant_of-self c =
    subst AreSayable (sym c.set_depth.ensures)
    (sayable_depth (rows_in c.self.inside.lists) c.args.index c.args.depth c.self.invariant (record { some = c.if-depth-lt1.false; fits = c.if-depth-gt-MOST_PLACES.false }))
