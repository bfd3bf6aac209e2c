use Rattle.std.proofs.Common.{arith}
use Rattle.fb_seal.proofs.Masks.{first_set, between_clear, others_kept, one_low}
use Rattle.fb_seal.proofs.window.shifted.Goals as goal

pub returns-then-by-lt64-clause-first : goal.returns-then-by-lt64-clause-first
returns-then-by-lt64-clause-first c = first_set c.args.mask c.args.by c.requires (omega arith)

pub returns-then-by-lt64-clause-between : goal.returns-then-by-lt64-clause-between
returns-then-by-lt64-clause-between c = between_clear c.args.mask c.args.by

pub returns-then-by-lt64-clause-others : goal.returns-then-by-lt64-clause-others
returns-then-by-lt64-clause-others c = λ i le fits. others_kept c.args.mask c.args.by i c.requires le fits

pub returns-else-by-lt64-clause-between : goal.returns-else-by-lt64-clause-between
returns-else-by-lt64-clause-between c = λ i lt less fits. one_low i lt
