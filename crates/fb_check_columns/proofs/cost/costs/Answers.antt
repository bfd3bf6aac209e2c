use Rattle.std.proofs.Common.{◌≡◌, ℕ, List, map, take, subst, Global, arith}
use Rattle.std.proofs.lemmas.List.{take_all}
use Rattle.std.specs.declared.string.String.{String}
use Rattle.fb_model.specs.System as system
use Rattle.fb_model.specs.Clear.{cost}
use Rattle.fb_model.specs.Ranges.{IsClearAlgorithm}
use Rattle.st_types.specs.declared.whole.Algo.{Algo}
use Rattle.fb_ranges.specs.Views.{spans_of}
use Rattle.fb_check_columns.specs.Reckoning.{AreSums}
use Rattle.fb_model.proofs.Lists.{got}
use Rattle.fb_check_columns.proofs.Lists.{all_image_at}
use Rattle.fb_check_columns.proofs.Values.{more_sums}
use Rattle.fb_check_columns.proofs.Costing.{procedure_of, twice_more}
use Rattle.fb_check_columns.proofs.cost.costs.Goals as goal

pub loop-index-preserved : goal.loop-index-preserved
loop-index-preserved c =
    let spans = spans_of c.args.rows.now in
    let es = c.args.procedures.now.entries in
    let e : String Global × Algo = (c.in-Some.field-0-0.now, c.in-Some.algorithm.now) in
    let g = got es c.loop-index.index e c.in-Some.ensures.entry in
    let f : system.Procedure → ℕ = λ p. cost spans p.algorithm in
    record {
      same = c.in_ok-cost.ensures.rest;
      sums =
          λ clear.
          let one = c.in_ok-cost.ensures.value (all_image_at (λ (p : system.Procedure). IsClearAlgorithm spans p.algorithm) procedure_of es c.loop-index.index e clear g.0 g.1) in
          rw (twice_more f es c.loop-index.index e g.0 g.1, c.in_ok-push.ensures.items) (more_sums _ _ _ _ (c.loop-index.invariant.sums clear) one);
    }

pub returns-clause-values : goal.returns-clause-values
returns-clause-values c =
    λ clear.
    let spans = spans_of c.args.rows.now in
    let es = c.args.procedures.now.entries in
    let all : take c.loop-index.index es ≡ es = take_all c.loop-index.index es (let l = c.loop-index-test.false in let e = c.len-index-end.ensures.len in omega (arith, l, e)) in
    subst (λ (xs : List (String Global × Algo)). AreSums c.loop-index.costs.items (map (λ (p : system.Procedure). cost spans p.algorithm) (map procedure_of xs))) all (c.loop-index.invariant.sums clear)
