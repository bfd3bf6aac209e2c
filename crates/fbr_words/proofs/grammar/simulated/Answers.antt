use Rattle.std.proofs.Common.{codes}
use Rattle.fbr_words.specs.Program.{json, over_files, watched_by}
use Rattle.fbr_words.proofs.grammar.simulated.Goals as goal

pub returns : goal.returns
returns c = c.with.ensures (watched_by (over_files (codes "sim"))) json (c.watched-kept.ensures (over_files (codes "sim")) c.over_files.ensures) c.json.ensures.rule c.json.ensures.local
