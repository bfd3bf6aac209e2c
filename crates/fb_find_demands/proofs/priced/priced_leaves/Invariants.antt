use Rattle.std.proofs.Common.{◌≡◌, ◌++◌, map, drop}
use Rattle.std.specs.List.{AllByRecursion}
use Rattle.fb_ranges.specs.Views.{spans_of}
use Rattle.fb_find_demands.specs.Rights.{rights_of}
use Rattle.fb_find_demands.specs.Prices.{priced, IsPriced}
use Rattle.fb_find_demands.proofs.priced.priced_leaves.Given as goal

abbrev pub invariant-loop-index : goal.invariant-loop-index
invariant-loop-index l =
    record {
      known : AllByRecursion IsPriced l.known.items;
      all :
          rights_of l.rights.items ++ priced l.numbering l.follows (map (λ x. x.now) (drop l.index l.leaves)) (map spans_of (drop l.index l.tables))
          ≡ priced l.numbering l.follows (map (λ x. x.now) l.leaves) (map spans_of l.tables);
    }
