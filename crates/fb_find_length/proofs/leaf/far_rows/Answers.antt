use Rattle.std.proofs.Common.{◌≡◌, ◌+◌, ◌<◌, MatchOption, sym, subst, ap, arith, ◌∙◌}
use Rattle.fb_model.specs.Wires.{Charted}
use Rattle.fb_types_blocks.specs.Views.{block_of}
use Rattle.fb_find_length.specs.Counting.{far_length}
use Rattle.fb_find_length.proofs.Counting.{far_is, unspent, spent_twice}
use Rattle.fb_find_length.proofs.leaf.far_rows.Goals as goal

pub returns-in_err-left-in-Some : goal.returns-in_err-left-in-Some
returns-in_err-left-in-Some c =
    let n = c.args.path in
    let b = c.args.block.now in
    let far = ap (λ r. far_length r n (Charted (block_of b))) c.in-Some.is ∙ far_is c.in-Some.field-0 n b in
    unspent c.args.left _ c.from_residual.result c.from_residual.ensures (omega (arith, far, c.in_err-left-in-Some.ensures))

pub returns-in_ok-left-in-Some : goal.returns-in_ok-left-in-Some
returns-in_ok-left-in-Some c =
    let n = c.args.path in
    let b = c.args.block.now in
    let r = c.table-in-Some.result in
    let far = ap (λ o. far_length o n (Charted (block_of b))) c.in-Some.is ∙ far_is c.in-Some.field-0 n b in
    let both = spent_twice c.args.left c.in_ok-left-in-Some.left _ _ r c.in_ok-left-in-Some.ensures c.table-in-Some.ensures in
    subst (λ z. MatchOption r (c.args.left < z) (λ rest. rest + z ≡ c.args.left)) (sym far) both
