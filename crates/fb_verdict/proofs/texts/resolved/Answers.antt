use Rattle.std.proofs.Common.{◌∙◌, subst, sym}
use Rattle.fb_tree.specs.Files.{source_of}
use Rattle.fb_types.specs.Views.{system_of}
use Rattle.fb_model.specs.Verdicts.{IsTypingFault}
use Rattle.fb_verdict.proofs.Reading.{typing_fault, no_space}
use Rattle.fb_verdict.proofs.texts.resolved.Goals as goal

pub returns-in-Ok-clause-accepts : goal.returns-in-Ok-clause-accepts
returns-in-Ok-clause-accepts c = λ system is. c.in-Ok.ensures.only system is

pub returns-in-Err-clause-refused : goal.returns-in-Err-clause-refused
returns-in-Err-clause-refused c = subst (IsTypingFault (source_of c.args.source.now)) (sym c.from.ensures) (typing_fault (source_of c.args.source.now) c.in-Err.fault c.in-Err.ensures.refused)

pub returns-in-Err-clause-accepts : goal.returns-in-Err-clause-accepts
returns-in-Err-clause-accepts c = λ system is. c.from.ensures ∙ no_space system_of c.in-Err.fault system (c.in-Err.ensures.only system is)
