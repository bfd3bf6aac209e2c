use Rattle.std.proofs.Common.{◌≡◌, ◌++◌, map, drop, None}
use Rattle.fb_types_blocks.specs.Views.{procedures_of}
use Rattle.fb_find_demands.specs.Prices.{prices}
use Rattle.fb_find_demands.proofs.Costs.{procedure}
use Rattle.fb_find_demands.proofs.prices.unknown_prices.Given as goal

abbrev pub invariant-loop : goal.invariant-loop
invariant-loop l = l.prices.items ++ prices None (map procedure (drop l.counter l.procedures.entries)) ≡ prices None (procedures_of l.procedures)
