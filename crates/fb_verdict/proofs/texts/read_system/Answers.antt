use Rattle.std.proofs.Common.{◌∙◌, subst, sym}
use Rattle.fb_tree.specs.Files.{source_of}
use Rattle.fb_model.specs.Verdicts.{IsTextFault}
use Rattle.fb_verdict.proofs.Reading.{no_memory, along, text_fault, typed_of}
use Rattle.fb_verdict.proofs.texts.read_system.Goals as goal

pub returns-in-Ok-clause-accepts : goal.returns-in-Ok-clause-accepts
returns-in-Ok-clause-accepts c = λ source system short is e. c.resolved-typed.ensures.accepts system (along _ source system (c.in-Ok.ensures.only source is short) e)

pub returns-in-Err-clause-accepts : goal.returns-in-Err-clause-accepts
returns-in-Err-clause-accepts c = λ source system short is e. c.from.ensures ∙ no_memory c.in-Err.fault source (c.in-Err.ensures.only source is short)

pub returns-in-Ok-clause-typed : goal.returns-in-Ok-clause-typed
returns-in-Ok-clause-typed c = typed_of c.args.text.now (source_of c.in-Ok.source) c.resolved-typed.result c.in-Ok.ensures.found c.resolved-typed.ensures.typed c.resolved-typed.ensures.offsets

pub returns-in-Err-clause-refused : goal.returns-in-Err-clause-refused
returns-in-Err-clause-refused c = subst (IsTextFault c.args.text.now) (sym c.from.ensures) (text_fault c.args.text.now c.in-Err.fault c.in-Err.ensures.reads)
