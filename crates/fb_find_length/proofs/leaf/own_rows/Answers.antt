use Rattle.std.proofs.Common.{◌≡◌, ◌+◌, ◌<◌, MatchOption, sym, subst, arith}
use Rattle.fb_find_length.proofs.Counting.{own_is, unspent, spent_twice}
use Rattle.fb_find_length.proofs.leaf.own_rows.Goals as goal

pub returns-in_err-left-2 : goal.returns-in_err-left-2
returns-in_err-left-2 c =
    let own = own_is c.args.path c.args.block.now in
    unspent c.args.left _ c.from_residual-in_err-left-2.result c.from_residual-in_err-left-2.ensures (omega (arith, own, c.in_ok-left.ensures, c.in_err-left-2.ensures))

pub returns : goal.returns
returns c =
    let own = own_is c.args.path c.args.block.now in
    let r = c.table-2.result in
    let last = spent_twice c.in_ok-left.left c.in_ok-left-2.left _ _ r c.in_ok-left-2.ensures c.table-2.ensures in
    subst (λ z. MatchOption r (c.args.left < z) (λ rest. rest + z ≡ c.args.left)) (sym own) (spent_twice c.args.left c.in_ok-left.left _ _ r c.in_ok-left.ensures last)
