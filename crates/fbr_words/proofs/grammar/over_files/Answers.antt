use Rattle.std.proofs.Common.{codes}
use Rattle.fbr_words.specs.Program.{file, over_file}
use Rattle.fbr_words.proofs.grammar.over_files.Goals as goal

pub returns : goal.returns
returns c = c.with.ensures (over_file c.args.name.now) (file (codes "CERT")) c.over_file.ensures c.file.ensures.rule c.file.ensures.local
