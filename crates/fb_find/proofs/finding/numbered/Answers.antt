use Rattle.fb_find.proofs.Given.{has_numbering}
use Rattle.fb_find.proofs.finding.numbered.Goals as goal

pub returns : goal.returns
returns c = λ s given.
    has_numbering c.args.repeats c.args.flat.now.devices.items c.in-Ok.numbering s given (c.in-Ok.ensures.rows s given.tables given.words) (c.in-Ok.ensures.ends s given.tables) c.in-Ok.ensures.texts.0 c.in-Ok.ensures.texts.1
