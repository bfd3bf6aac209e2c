use Rattle.std.proofs.Common.{◌≡◌, ◌++◌, ◌+◌, ◌-◌, ◌≤◌, map, drop, length, sym, ap, ◌∙◌, arith}
use Rattle.std.specs.Prelude.{slice_get}
use Rattle.std.proofs.lemmas.Result.{err_from_is_err_and}
use Rattle.std.proofs.lemmas.List.{length-map, length-append}
use Rattle.fb_tree.specs.Words.{word_of}
use Rattle.fb_model.specs.BlockTyping.{words_in}
use Rattle.fb_tree.specs.Files as tree
use Rattle.fb_types_blocks.proofs.Variables.{words_left, excess_left, get_behind}
use Rattle.fb_types_blocks.proofs.variable.few_variables.Goals as goal

pub returns-in_err-at_most-clause-refused : goal.returns-in_err-at_most-clause-refused
returns-in_err-at_most-clause-refused c =
    let x = c.source-item.result in
    let i = c.loop-source.source-index in
    let l = c.loop-source in
    let all = words_in (map tree.variable_of c.args.sources.now) in
    let rest = words_in (map tree.variable_of (drop (i + 1) c.args.sources.now)) in
    let p = err_from_is_err_and c.from_residual.result c.from_residual.ensures.1 in
    let same : slice_get (map word_of x.names.items ++ rest) l.left ≡ slice_get all c.args.most = sym (ap (λ ws. slice_get ws l.left) (words_left c.args.sources.now i x c.loop-source-test.true c.source-item.is)) ∙ l.invariant.same in
    rw (p.1, p.2) (excess_left l.left c.args.most (map word_of x.names.items) rest all c.in_err-at_most.field-0.0 same (rw c.deref.ensures.value at c.in_err-at_most.ensures.refused))

pub loop-source-preserved : goal.loop-source-preserved
loop-source-preserved c =
    let ns = c.source-item.result.names.items in
    let i = c.loop-source.source-index in
    let l = c.loop-source in
    let rest = words_in (map tree.variable_of (drop (i + 1) c.args.sources.now)) in
    let left = words_left c.args.sources.now i c.source-item.result c.loop-source-test.true c.source-item.is in
    let few : length ns ≤ l.left = rw c.deref.ensures.value at c.in_ok-at_most.ensures.few in
    let len : c.len-left.result ≡ length ns = let e = ap length c.deref.ensures.value in omega (arith, c.len-left.ensures, c.deref.ensures.len, e) in
    let shown = length-map ns word_of in
    let split = ap length left ∙ length-append (map word_of ns) rest in
    let past : length (map word_of ns) ≤ l.left = omega (arith, shown, few) in
    let here : l.left - c.len-left.result ≡ l.left - length (map word_of ns) = omega (arith, shown, len) in
    record {
      count = omega (arith, l.invariant.count, split, shown, few, len);
      same = ap (λ k. slice_get rest k) here ∙ sym (get_behind (map word_of ns) rest l.left past) ∙ sym (ap (λ ws. slice_get ws l.left) left) ∙ l.invariant.same;
    }
