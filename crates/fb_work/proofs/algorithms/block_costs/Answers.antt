use Rattle.std.proofs.Common.{◌<◌, ◌++◌, ◌∷◌, [], ℕ, List, map, refl, ap, ◌∙◌}
use Rattle.std.specs.List.{Any}
use Rattle.std.specs.declared.string.String.{String}
use Rattle.std.specs.declared.alloc.Global.{Global}
use Rattle.fb_model.specs.System as system
use Rattle.fb_model.specs.CertificateText.{most_steps}
use Rattle.st_types.specs.declared.whole.Algo.{Algo}
use Rattle.fb_ranges.specs.Views.{spans_of}
use Rattle.fb_prices.specs.Words.{prices_of}
use Rattle.fb_find_demands.proofs.Loops.{rest_at, turn}
use Rattle.fb_work.specs.Algorithms.{OrMemory, called}
use Rattle.fb_work.proofs.Lists.{any_mapped, procedure}
use Rattle.fb_work.proofs.Told.{told_of, told_same}
use Rattle.fb_work.proofs.algorithms.block_costs.Goals as goal

pub returns-in_err-call_work-clause-dear : goal.returns-in_err-call_work-clause-dear
returns-in_err-call_work-clause-dear c =
    let cost : system.Procedure → ℕ = λ q. called (prices_of c.args.prices.now) (spans_of c.args.rows.now) q.algorithm in
    let xs = c.args.procedures.now.entries in
    let x : String Global × Algo = (c.in-Some.field-0-0.now, c.in-Some.algorithm.now) in
    let w = c.in_err-call_work.field-0.0 in
    told_same c.from_residual.result w (OrMemory (Any (λ (q : system.Procedure). most_steps < cost q) (map procedure xs))) c.from_residual.ensures.1
    (told_of w _ _ (any_mapped procedure (λ (q : system.Procedure). most_steps < cost q) xs c.loop-index.index x c.in-Some.ensures.entry) c.in_err-call_work.ensures.dear)

pub loop-index-preserved : goal.loop-index-preserved
loop-index-preserved c =
    let cost : system.Procedure → ℕ = λ q. called (prices_of c.args.prices.now) (spans_of c.args.rows.now) q.algorithm in
    let xs = c.args.procedures.now.entries in
    let i = c.loop-index.index in
    let x : String Global × Algo = (c.in-Some.field-0-0.now, c.in-Some.algorithm.now) in
    let old = c.loop-index.costs.items in
    turn (λ (es : List (String Global × Algo)). map cost (map procedure es)) xs i x (cost (procedure x) ∷ []) old c.add.new.numbers.items _ (rest_at xs i x c.in-Some.ensures.entry) refl
    (c.in_ok-add.ensures ∙ ap (λ n. old ++ n ∷ []) c.in_ok-call_work.ensures.value) c.loop-index.invariant
