use Rattle.std.proofs.Common.{◌+◌, map, drop, subst}
use Rattle.std.proofs.lemmas.Result.{err_from_is_err_and}
use Rattle.fb_types_networks.proofs.Loops.{next_left, none_left}
use Rattle.fb_types.specs.Uses.{use_of}
use Rattle.fb_types.proofs.Numbered.{NumbersSo, numbers_begun, numbers_more, numbers_wrong, numbers_done}
use Rattle.fb_types.proofs.numbers.each_differs.Goals as goal

pub loop-used-init : goal.loop-used-init
loop-used-init c = rw c.new-numbers.ensures.empty (numbers_begun c.args.kind (map use_of c.args.uses.now))

pub loop-used-preserved : goal.loop-used-preserved
loop-used-preserved c =
    let xs = c.args.uses.now in
    let i = c.loop-used.used-index in
    let x = c.used-item.result in
    let so = subst (λ l. NumbersSo c.args.kind (map use_of xs) c.loop-used.numbers.keys l) (next_left use_of xs i x c.loop-used-test.true c.used-item.is) c.loop-used.invariant in
    numbers_more c.args.kind (map use_of xs) c.loop-used.numbers.keys (use_of x) (map use_of (drop (i + 1) xs)) so _ c.in_ok-enter.ensures.added c.in_ok-enter.ensures.new

pub returns-in_err-enter-clause-refused : goal.returns-in_err-enter-clause-refused
returns-in_err-enter-clause-refused c =
    let p = err_from_is_err_and c.from_residual.result c.from_residual.ensures.1 in
    let xs = c.args.uses.now in
    let i = c.loop-used.used-index in
    let x = c.used-item.result in
    let so = subst (λ l. NumbersSo c.args.kind (map use_of xs) c.loop-used.numbers.keys l) (next_left use_of xs i x c.loop-used-test.true c.used-item.is) c.loop-used.invariant in
    rw (p.1, p.2) (numbers_wrong c.args.kind (map use_of xs) c.loop-used.numbers.keys (use_of x) (map use_of (drop (i + 1) xs)) so c.in_err-enter.field-0.0 c.in_err-enter.ensures.refused)

pub returns-clause-new : goal.returns-clause-new
returns-clause-new c =
    let xs = c.args.uses.now in
    numbers_done c.args.kind (map use_of xs) c.loop-used.numbers.keys (subst (λ l. NumbersSo c.args.kind (map use_of xs) c.loop-used.numbers.keys l) (none_left use_of xs c.loop-used.used-index c.loop-used-test.false) c.loop-used.invariant)
