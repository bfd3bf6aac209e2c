use Rattle.std.proofs.Common.{◌≡◌, ◌+◌, ◌*◌, true, drop, map}
use denote.Param.Weighed.{most}
use Rattle.fb_model.specs.TypedText.{constant}
use Rattle.fb_model.specs.Language.{value_of}
use Rattle.st_types.specs.Views.{joined}
use Rattle.st_exec.specs.CodeViews.{code_tail}
use Rattle.st_exec.specs.Placed.{placed_link, all_true}
use Rattle.st_exec.proofs.code.Code.TheLaws.{the_size as code_size}
use Rattle.st_exec.proofs.code.CodeLink.TheLaws.{the_size as link_size}
use Rattle.st_exec.specs.Cells.{values_of, forms_of}
use Rattle.st_exec.proofs.evaluate.+evaluating.Given as goal

abbrev pub decreases-eval : goal.decreases-eval
decreases-eval l = 2 * code_size l.code.now

abbrev pub decreases-eval_links : goal.decreases-eval_links
decreases-eval_links l = 2 * most link_size l.links.now + 1

abbrev pub invariant-eval_links-loop-link : goal.invariant-eval_links-loop-link
invariant-eval_links-loop-link l = record {
  left : value_of (joined (constant l.whole) (map code_tail (drop l.link-index l.links))) (values_of l.store) ≡ value_of (joined (constant l.initial.whole) (map code_tail l.links)) (values_of l.store);
  slots : all_true (map (placed_link (forms_of l.store)) (drop l.link-index l.links)) ≡ true;
}
