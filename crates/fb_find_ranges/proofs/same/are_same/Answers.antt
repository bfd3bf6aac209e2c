use Rattle.std.proofs.Common.{arith}
use Rattle.std.proofs.lemmas.Bool.Decides.{nat_tests}
use Rattle.fb_find_ranges.proofs.Entries.{other_leaves}
use Rattle.fb_find_ranges.proofs.same.are_same.Goals as goal

pub returns-then-some-others : goal.returns-then-some-others
returns-then-some-others c = other_leaves c.args.some.now c.args.others.now (λ e. let t = c.if-some-others.true in grind (arith, nat_tests))
