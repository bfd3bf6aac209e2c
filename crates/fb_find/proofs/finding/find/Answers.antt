use Rattle.fb_model.specs.FinderRanges.{AreFound}
use Rattle.fb_model.specs.Finding.{FailsFound}
use Rattle.fb_types.specs.Views.{system_of}
use Rattle.fb_find.proofs.Promised.{finds_least}
use Rattle.fb_find.proofs.finding.find.Goals as goal

pub returns-clause-least : goal.returns-clause-least
returns-clause-least c =
    let s = system_of c.args.typed.now in
    finds_least (AreFound s.devices) (FailsFound s) c.args.repeats s c.sought.result c.sought.ensures.found c.sought.ensures.refused c.sought.ensures.denies
