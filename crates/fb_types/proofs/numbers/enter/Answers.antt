use Rattle.std.proofs.Common.{sym, ◌∙◌}
use Rattle.fb_model.specs.NumberFaults.{number_taken}
use Rattle.fb_types.proofs.Numbered.{taken_already}
use Rattle.fb_types.proofs.numbers.enter.Goals as goal

pub returns-else-branch-clause-refused : goal.returns-else-branch-clause-refused
returns-else-branch-clause-refused c =
    number_taken (sym c.number.ensures ∙ c.in-Some.is) (taken_already _ c.in_ok-insert-in-Some.field-0 c.in_ok-insert-in-Some.ensures.added c.if-branch.false) c.taken.ensures
