use Rattle.std.proofs.Common.{List, [], ◌∷◌, Some, map, refl}
use Rattle.std.specs.declared.string.String.{String}
use Rattle.std.specs.declared.alloc.Global.{Global}
use Rattle.st_types.specs.declared.whole.Algo.{Algo}
use Rattle.fb_ranges.specs.Views.{spans_of}
use Rattle.fb_find_demands.proofs.Loops.{rest_at, turn}
use Rattle.fb_find_demands.specs.Prices.{most, prices}
use Rattle.fb_find_demands.proofs.Answering.{pushed}
use Rattle.fb_find_demands.proofs.Costs.{procedure}
use Rattle.fb_find_demands.proofs.prices.known_prices.Goals as goal

pub loop-index-preserved : goal.loop-index-preserved
loop-index-preserved c =
    let spans = Some (spans_of c.args.ranges.now) in
    let xs = c.args.procedures.now.entries in
    let i = c.loop-index.index in
    let old = c.loop-index.prices.items in
    let new = c.push.new.self.items in
    let x : String Global × Algo = (c.in-Some.field-0-0.now, c.in-Some.algorithm.now) in
    let more = pushed old new c.in_ok-price.field-0 (most spans (procedure x).algorithm) c.in_ok-push.ensures.items c.in_ok-price.ensures.answer in
    record {
      same = c.in_ok-price.ensures.rest;
      all =
          turn (λ (es : List (String Global × Algo)). prices spans (map procedure es)) xs i x (most spans (procedure x).algorithm ∷ []) old new _ (rest_at xs i x c.in-Some.ensures.entry) refl
          more c.loop-index.invariant.all;
    }
