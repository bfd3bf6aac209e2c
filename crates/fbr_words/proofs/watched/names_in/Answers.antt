use Rattle.std.proofs.Common.{◌∙◌, ap, Some}
use Rattle.clap.specs.Words.{found_of}
use Rattle.clap.proofs.WalkLemmas.{raw_values-rows}
use Rattle.fbr_words.specs.Program.{names_in}
use Rattle.fbr_words.proofs.Each.{now_of}
use Rattle.fbr_words.proofs.watched.names_in.Goals as goal

pub returns-in-Some : goal.returns-in-Some
returns-in-Some c = c.read_names.ensures ∙ ap names_in (c.in-Some.ensures ∙ raw_values-rows (found_of c.args.words.now) c.args.id.now)

pub returns-in-None : goal.returns-in-None
returns-in-None c = ap (λ xs. Some (now_of xs)) c.new.ensures ∙ ap names_in (c.in-None.ensures ∙ raw_values-rows (found_of c.args.words.now) c.args.id.now)
