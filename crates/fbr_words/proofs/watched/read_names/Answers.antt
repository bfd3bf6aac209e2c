use Rattle.std.proofs.Common.{ap, rules}
use Rattle.fbr_words.specs.Program.{whole}
use Rattle.fbr_words.proofs.Each.{now_of, none_yet}
use Rattle.fbr_words.proofs.watched.read_names.Goals as goal

pub loop-word-init : goal.loop-word-init
loop-word-init c = (none_yet whole (now_of c.new-names.result.items) _ (ap now_of c.new-names.ensures), search rules)
