use Rattle.fb_model.specs.Finding.{AreTaken}
use Rattle.fb_cert.specs.Views.{certificate_of, rows_of}
use Rattle.fb_types.specs.Views.{system_of}
use Rattle.fb_find.specs.Bounds.{IsPathWithin}
use Rattle.fb_find.proofs.Promised.{finds_least}
use Rattle.fb_find.proofs.within.find_within.Goals as goal

pub returns-clause-least : goal.returns-clause-least
returns-clause-least c =
    let s = system_of c.args.typed.now in
    finds_least (AreTaken (certificate_of c.args.ranges.now).ranges s.devices) (IsPathWithin (rows_of c.args.ranges.now) c.args.repeats s) c.args.repeats s c.sought_within.result c.sought_within.ensures.found c.sought_within.ensures.refused
    c.sought_within.ensures.denies
