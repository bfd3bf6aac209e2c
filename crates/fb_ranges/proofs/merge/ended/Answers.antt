use Rattle.std.proofs.Common.{List, map, sym, ap, subst, ◌∙◌}
use Rattle.std.specs.Borrow.{Bor}
use Rattle.st_types.specs.declared.term.VariableName.{VariableName}
use Rattle.fb_model.specs.Clear.{reset}
use Rattle.fb_ranges.specs.Views.{names_of, spans_of}
use Rattle.fb_ranges.proofs.Noted.{IsNoted}
use Rattle.fb_ranges.proofs.merge.ended.Goals as goal

pub returns-clause-ends : goal.returns-clause-ends
returns-clause-ends c = c.in_ok-ends.ensures ∙ ap (λ (l : List (Bor VariableName)). map (spans_of c.args.ranges.now) (names_of l)) c.deref.ensures.value

pub returns-clause-ranges : goal.returns-clause-ranges
returns-clause-ranges c = λ spans h.
    c.in_ok-take_back.ensures spans (subst (λ (l : List (Bor VariableName)). IsNoted l spans c.args.before.now) (sym c.deref-2.ensures.value) h)
    ∙ ap (λ (l : List (Bor VariableName)). reset (names_of l) spans (spans_of c.args.ranges.now)) c.deref-2.ensures.value
