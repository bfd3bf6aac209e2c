use Rattle.std.proofs.Common.{◌≡◌, true, map, take}
use Rattle.st_types.specs.Views.{tail_of}
use Rattle.st_exec.specs.CodeViews.{code_tail}
use Rattle.st_exec.specs.Placed.{placed_link, all_true}
use Rattle.st_exec.proofs.expression.+coding.Given as goal

abbrev pub invariant-coded_links-loop-link : goal.invariant-coded_links-loop-link
invariant-coded_links-loop-link l = record {
  same : map code_tail l.coded.items ≡ map tail_of (take l.link-index l.links);
  slots : all_true (map (placed_link l.layout) l.coded.items) ≡ true;
}
