use Rattle.std.proofs.Common.{arith}
use Rattle.std.proofs.lemmas.Grind.{text_groups}
use Rattle.fb_flat.proofs.bundle.put.Goals as goal

pub returns : goal.returns
returns c = λ k. grind (arith, text_groups)
