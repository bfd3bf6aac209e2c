use Rattle.std.proofs.Common.{◌≡◌, ◌++◌, map, drop, Some}
use Rattle.fb_types_blocks.specs.Views.{procedures_of}
use Rattle.fb_ranges.specs.Views.{spans_of}
use Rattle.fb_find_demands.specs.Prices.{prices}
use Rattle.fb_find_demands.proofs.Costs.{procedure}
use Rattle.fb_find_demands.proofs.prices.known_prices.Given as goal

abbrev pub invariant-loop-index : goal.invariant-loop-index
invariant-loop-index l =
    record {
      same : spans_of l.work ≡ spans_of l.ranges;
      all :
          l.prices.items ++ prices (Some (spans_of l.ranges)) (map procedure (drop l.index l.procedures.entries))
          ≡ prices (Some (spans_of l.ranges)) (procedures_of l.procedures);
    }
