use Rattle.std.proofs.Common.{Some, sym, subst, w64}
use Rattle.std.proofs.Math.Facts.{to_z-of_z}
use Rattle.fb_model.specs.BlockTyping.{IsStart, no_start, a_start}
use Rattle.fb_tree.specs.Files as tree
use Rattle.fb_types_blocks.proofs.variable.start.Goals as goal

pub returns-in_ok-constant-in-Some-clause-found : goal.returns-in_ok-constant-in-Some-clause-found
returns-in_ok-constant-in-Some-clause-found c =
    let inv = rw c.in_ok-constant-in-Some.was at c.constant.type_inv in
    let s = tree.start_of c.in-Some.source in
    rw c.in-Some.is (subst (λ n. IsStart c.args.of (Some s) (Some n)) (sym (to_z-of_z {w = w64} (record { sfits = inv.1.1.1.1.0.1 }))) (a_start c.in_ok-constant-in-Some.ensures.found))

pub returns-in-None-clause-found : goal.returns-in-None-clause-found
returns-in-None-clause-found c = rw c.in-None.is no_start
