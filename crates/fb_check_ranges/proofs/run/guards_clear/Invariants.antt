use Rattle.std.proofs.Common.{take}
use Rattle.std.specs.List.{AllByRecursion}
use Rattle.fb_model.specs.Ranges.{IsClearGuard}
use Rattle.fb_types_blocks.specs.declared.typed.Transition.{Transition}
use Rattle.fb_ranges.specs.Views.{spans_of}
use Rattle.fb_check_ranges.specs.Clearing.{guard_in}
use Rattle.fb_check_ranges.proofs.run.guards_clear.Given as goal

abbrev pub invariant-loop-transition : goal.invariant-loop-transition
invariant-loop-transition l = AllByRecursion (λ (t : Transition). IsClearGuard (spans_of l.rows) (guard_in t)) (take l.transition-index l.transitions)
