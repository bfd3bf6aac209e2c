use Rattle.std.proofs.Common.{subst, arith}
use Rattle.std.proofs.lemmas.List.{take_all}
use Rattle.std.specs.List.{AllByRecursion}
use Rattle.std.proofs.lemmas.Result.{err_from_is_err_and}
use Rattle.fb_model.specs.Ranges.{IsClearAlgorithm}
use Rattle.fb_ranges.specs.Views.{spans_of}
use Rattle.fb_check_ranges.specs.Clearing.{Procedure, procedure_name, procedure_text, AlgorithmFails}
use Rattle.fb_model.proofs.Lists.{got}
use Rattle.fb_check_ranges.proofs.Lists.{all_more}
use Rattle.fb_check_ranges.proofs.Blaming.{one_named}
use Rattle.fb_check_ranges.proofs.run.algorithms_clear.Goals as goal

pub returns-in_err-algorithm_clear : goal.returns-in_err-algorithm_clear
returns-in_err-algorithm_clear c =
    let p = err_from_is_err_and c.from_residual-in_err-algorithm_clear.result c.from_residual-in_err-algorithm_clear.ensures.1 in
    let e : Procedure = (c.in-Some.name.now, c.in-Some.algo.now) in
    let g = got c.args.procedures.now.entries c.loop-index.index e c.in-Some.ensures.entry in
    rw (p.1, p.2) (one_named c.args.path.now procedure_name (λ (q : Procedure). AlgorithmFails (spans_of c.args.rows.now) (procedure_text q)) c.args.procedures.now.entries c.loop-index.index e c.in_err-algorithm_clear.field-0.0 g.0 g.1
    (rw c.as_str.ensures.value at c.in_err-algorithm_clear.ensures.answer))

pub loop-index-preserved : goal.loop-index-preserved
loop-index-preserved c =
    let e : Procedure = (c.in-Some.name.now, c.in-Some.algo.now) in
    let g = got c.args.procedures.now.entries c.loop-index.index e c.in-Some.ensures.entry in
    record {
      same = c.in_ok-algorithm_clear.ensures.rest;
      all =
          all_more (λ (q : Procedure). IsClearAlgorithm (spans_of c.args.rows.now) (procedure_text q)) c.args.procedures.now.entries c.loop-index.index e g.0 g.1 c.loop-index.invariant.all
          c.in_ok-algorithm_clear.ensures.answer;
    }

pub returns : goal.returns
returns c =
    subst (AllByRecursion (λ (p : Procedure). IsClearAlgorithm (spans_of c.args.rows.now) (procedure_text p)))
    (take_all c.loop-index.index c.args.procedures.now.entries (omega (arith, c.loop-index-test.false, c.len-index-end.ensures.len)))
    c.loop-index.invariant.all
