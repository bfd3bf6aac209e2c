use Rattle.std.proofs.Common.{◌≡◌, ◌≤◌, drop, map}
use Rattle.st_types.specs.Views.{tail_of}
use Rattle.fb_prices.specs.Words.{prices_of}
use Rattle.fb_find_laws.specs.Nodes.{capped}
use Rattle.fb_work_statements.specs.Sums.{linked_work}
use Rattle.fb_work_statements.proofs.expression.+expression.Given as goal

abbrev pub invariant-links_work-loop-link : goal.invariant-links_work-loop-link
invariant-links_work-loop-link l =
    record {
      least : l.all ≤ 1000000000001;
      sum :
          capped (linked_work (prices_of l.prices) (map tail_of (drop l.link-index l.links)) l.all)
          ≡ capped (linked_work (prices_of l.prices) (map tail_of l.links) l.first);
    }
