use Rattle.fb_seal.proofs.Spelling.{too_short}
use Rattle.fb_seal.proofs.form.is_tagged.Goals as goal

pub returns-in-None : goal.returns-in-None
returns-in-None c = too_short c.args.key.now c.args.bytes.now c.in-None.ensures.cases
