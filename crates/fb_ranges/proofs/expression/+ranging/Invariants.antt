use Rattle.std.proofs.Common.{◌≡◌, ◌+◌, ◌*◌, drop, map}
use denote.Param.Weighed.{most}
use Rattle.fb_model.specs.Language.{given}
use Rattle.st_types.specs.Views.{tail_of}
use Rattle.fb_ranges_intervals.specs.Views.{span_of}
use Rattle.fb_ranges.specs.Views.{clear_range, linked, linked_in, spans_of}
use Rattle.st_types.proofs.term.TypedExpr.TheLaws.{the_size as expr_size}
use Rattle.st_types.proofs.term.TypedLink.TheLaws.{the_size as link_size}
use Rattle.fb_ranges.proofs.expression.+ranging.Given as goal

abbrev pub decreases-range : goal.decreases-range
decreases-range l = 2 * expr_size l.expr.now

abbrev pub decreases-range_links : goal.decreases-range_links
decreases-range_links l = 2 * most link_size l.links.now + 1

abbrev pub invariant-range_links-loop-link : goal.invariant-range_links-loop-link
invariant-range_links-loop-link l =
    record {
      range : linked_in (spans_of l.ranges) (map tail_of (drop l.link-index l.links)) (span_of l.all.range) ≡ linked_in (spans_of l.ranges) (map tail_of l.links) (span_of l.initial.all.range);
      clear : given (clear_range l.all) (linked (spans_of l.ranges) (map tail_of (drop l.link-index l.links))) ≡ given (clear_range l.initial.all) (linked (spans_of l.ranges) (map tail_of l.links));
    }
