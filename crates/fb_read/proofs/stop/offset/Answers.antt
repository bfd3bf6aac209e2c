use Rattle.std.proofs.lemmas.Grind.{common_steps}
use Rattle.std.proofs.lemmas.List.{length-map}
use Rattle.std.proofs.Common.{arith}
use Rattle.fb_lex.specs.Views.{token_of}
use Rattle.fb_read.proofs.Fronts.{started}
use Rattle.fb_read.proofs.stop.offset.Goals as goal

pub returns-in-Some : goal.returns-in-Some
returns-in-Some c = rw (length-map c.args.tokens.now token_of) (grind (arith, common_steps, started c.args.length c.args.tokens.now, c.in-Some.ensures.lookup, c.saturating_sub.ensures))
