use Rattle.fbr_find.proofs.Texts.{asked_of}
use Rattle.fbr_find.proofs.wanted.Wanted.text_over.Goals as goal

pub returns-in-Ok : goal.returns-in-Ok
returns-in-Ok c = λ q files read. asked_of q files c.args.app.now c.in-Ok.typed c.text_unless_long-text.result c.in-Ok.ensures.typed c.in-Ok.ensures.short (c.text_unless_long-text.ensures q files read)
