use Rattle.std.proofs.Common.{◌≡◌, ◌+◌, ◌*◌, drop, map, max}
use denote.Param.Weighed.{most}
use Rattle.fb_tree.specs.Algorithms.{link_of}
use Rattle.st_types.specs.Views.{operand_of, entries}
use Rattle.st_types.specs.Elaborating.{typed_links}
use Rattle.fb_tree.proofs.expression.Expr.TheLaws.{the_size as expr_size}
use Rattle.fb_tree.proofs.expression.Link.TheLaws.{the_size as link_size}
use Rattle.st_types.proofs.expression.+typing.Given as goal

abbrev pub decreases-typed : goal.decreases-typed
decreases-typed l = 4 * expr_size l.expr.now

abbrev pub decreases-typed_links : goal.decreases-typed_links
decreases-typed_links l = 4 * most link_size l.links.now + 1

abbrev pub decreases-call : goal.decreases-call
decreases-call l = 4 * most expr_size l.arguments.now + 3

abbrev pub decreases-typed_call : goal.decreases-typed_call
decreases-typed_call l = 4 * most expr_size l.arguments.now + 2

abbrev pub decreases-call_one : goal.decreases-call_one
decreases-call_one l = 4 * expr_size l.a.now + 1

abbrev pub decreases-call_two : goal.decreases-call_two
decreases-call_two l = 4 * max (expr_size l.a.now) (expr_size l.b.now) + 1

abbrev pub decreases-call_three : goal.decreases-call_three
decreases-call_three l = 4 * max (expr_size l.a.now) (max (expr_size l.b.now) (expr_size l.c.now)) + 1

abbrev pub invariant-typed_links-loop-link : goal.invariant-typed_links-loop-link
invariant-typed_links-loop-link l = typed_links (entries l.scope) (operand_of l.whole) (map link_of (drop l.link-index l.links)) ≡ typed_links (entries l.scope) (operand_of l.initial.whole) (map link_of l.links)
