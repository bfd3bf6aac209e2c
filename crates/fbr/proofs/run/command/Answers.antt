use Rattle.std.proofs.Common.{◌⊎◌}
use Rattle.fbr_files.specs.declared.fault.Fault.TheVariants.{Memory}
use Rattle.fbr_files.specs.Outcomes.{Tells, refusal}
use Rattle.fbr.specs.Answers.{AnswersOrder}
use Rattle.fbr.proofs.Told.{or_three}
use Rattle.fbr.proofs.run.command.Goals as goal

pub returns-clause-answers : goal.returns-clause-answers
returns-clause-answers g c = λ q two is.
    or_three c.run_words.result c.unwrap_or-2.result
    (λ status. AnswersOrder q (g.S.Sources.same c.args.files.now) (g.S.Sources.contents c.args.files.now) (g.S.Sources.contents c.run_words.new.files) (g.I.Read.remaining c.args.input.now) (g.W.Write.contents c.args.output.now) (g.W.Write.contents c.run_words.new.output) status
    ⊎ Tells (refusal Memory) (g.W.Write.contents c.args.output.now) (g.W.Write.contents c.run_words.new.output) status)
    c.unwrap_or-2.ensures (c.run_words.ensures.answers q is)
