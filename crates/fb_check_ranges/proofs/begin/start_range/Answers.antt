use Rattle.std.proofs.Common.{sym, subst}
use Rattle.fb_model.specs.Spans.{Span}
use Rattle.fb_model.specs.System.{start_of}
use Rattle.fb_model.specs.BlockTyping.{variable_of}
use Rattle.fb_types_blocks.specs.Views.{declared_of}
use Rattle.fb_check_ranges.specs.Beginning.{IsRange}
use Rattle.fb_check_ranges.proofs.Starting.{start_some, start_none}
use Rattle.fb_check_ranges.proofs.begin.start_range.Goals as goal

pub returns-in-Some : goal.returns-in-Some
returns-in-Some c = λ x. subst (λ (s : Span). IsRange s (start_of (variable_of (declared_of x c.args.variable.now)))) (sym c.only.ensures) (start_some x c.args.variable.now c.in-Some.number c.in-Some.is)

pub returns-in-None : goal.returns-in-None
returns-in-None c = λ x. subst (λ (s : Span). IsRange s (start_of (variable_of (declared_of x c.args.variable.now)))) (sym c.only-in-None.ensures) (start_none x c.args.variable.now c.in-None.is)
