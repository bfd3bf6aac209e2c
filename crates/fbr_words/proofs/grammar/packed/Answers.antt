use Rattle.std.proofs.Common.{codes}
use Rattle.fbr_words.specs.Program.{over_file, output}
use Rattle.fbr_words.proofs.grammar.packed.Goals as goal

pub returns : goal.returns
returns c = c.with.ensures (over_file (codes "pack")) output c.over_file.ensures c.output.ensures.rule c.output.ensures.local
