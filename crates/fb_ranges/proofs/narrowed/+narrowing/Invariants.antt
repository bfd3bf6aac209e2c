use Rattle.std.proofs.Common.{◌≡◌, ◌+◌, ◌*◌, take, map, max}
use denote.Param.Weighed.{most}
use Rattle.st_types.specs.Views.{joined, term_of, tail_of}
use Rattle.fb_model.specs.Clear.{narrowed}
use Rattle.fb_ranges.specs.Views.{spans_of}
use Rattle.st_types.proofs.term.TypedExpr.TheLaws.{the_size as expr_size}
use Rattle.st_types.proofs.term.TypedLink.TheLaws.{the_size as link_size}
use Rattle.fb_ranges.proofs.narrowed.+narrowing.Given as goal

abbrev pub decreases-narrow : goal.decreases-narrow
decreases-narrow l = 3 * expr_size l.condition.now

abbrev pub decreases-narrow_chain : goal.decreases-narrow_chain
decreases-narrow_chain l = 3 * max (expr_size l.first.now) (most link_size l.links.now) + 2

abbrev pub decreases-narrow_front : goal.decreases-narrow_front
decreases-narrow_front l = 3 * expr_size l.first.now + 1

abbrev pub invariant-narrow_chain-loop-i : goal.invariant-narrow_chain-loop-i
invariant-narrow_chain-loop-i l =
    spans_of l.ranges ≡ narrowed (joined (term_of l.first) (map tail_of (take l.i l.links))) l.holds (spans_of l.fn.ranges)
