use Rattle.std.proofs.Common.{◌≡◌, ◌+◌, ◌*◌, drop, map}
use denote.Param.Weighed.{most}
use Rattle.st_types.specs.Views.{term_of, loose_tail_of}
use Rattle.st_types.specs.Elaborating.{settled_tails}
use Rattle.st_types.proofs.term.Loose.TheLaws.{the_size as loose_size}
use Rattle.st_types.proofs.term.LooseLink.TheLaws.{the_size as link_size}
use Rattle.st_types.proofs.operand.+settling.Given as goal

abbrev pub decreases-settled : goal.decreases-settled
decreases-settled l = 2 * loose_size l.loose.now

abbrev pub decreases-settled_links : goal.decreases-settled_links
decreases-settled_links l = 2 * most link_size l.links.now + 1

abbrev pub invariant-settled_links-loop-link : goal.invariant-settled_links-loop-link
invariant-settled_links-loop-link l = settled_tails l.of (term_of l.whole) (map loose_tail_of (drop l.link-index l.links)) ≡ settled_tails l.of (term_of l.initial.whole) (map loose_tail_of l.links)
