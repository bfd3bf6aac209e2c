use Rattle.std.proofs.Common.{◌≡◌, ◌+◌, ◌*◌, ◌++◌, drop, map}
use denote.Param.Weighed.{most}
use Rattle.st_types.specs.Views.{tail_of}
use Rattle.st_types.proofs.term.TypedExpr.TheLaws.{the_size as expr_size}
use Rattle.st_types.proofs.term.TypedLink.TheLaws.{the_size as link_size}
use Rattle.fb_ranges.specs.Narrowing.{read_behind}
use Rattle.fb_ranges.proofs.touched.+reading.Given as goal
use Rattle.fb_ranges.specs.Views.{names_of}

abbrev pub decreases-add_read : goal.decreases-add_read
decreases-add_read l = 2 * expr_size l.expr.now

abbrev pub decreases-add_read_behind : goal.decreases-add_read_behind
decreases-add_read_behind l = 2 * most link_size l.links.now + 1

abbrev pub invariant-add_read_behind-loop-link : goal.invariant-add_read_behind-loop-link
invariant-add_read_behind-loop-link l = names_of l.names.items ++ read_behind (map tail_of (drop l.link-index l.links)) ≡ names_of l.initial.names.items ++ read_behind (map tail_of l.links)
