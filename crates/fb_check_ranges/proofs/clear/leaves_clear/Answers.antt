use denote.Ref.{Bor}
use Rattle.std.proofs.Common.{map}
use Rattle.std.proofs.lemmas.Result.{err_from_is_err_and}
use Rattle.fb_cert.specs.Views.{certificate_of}
use Rattle.fb_flat.specs.declared.flat.Leaf.{Leaf}
use Rattle.fb_check_ranges.specs.Tables.{LeafPasses, LeafRefused}
use Rattle.fb_lists.proofs.Lists.{there_at}
use Rattle.fb_check_ranges.proofs.Lists.{all_on, any_at, all_dropped}
use Rattle.fb_check_ranges.proofs.Composed.{leaves_pass, leaves_refused}
use Rattle.fb_check_ranges.proofs.clear.leaves_clear.Goals as goal

pub returns-in_err-leaf_clear-clause-refused : goal.returns-in_err-leaf_clear-clause-refused
returns-in_err-leaf_clear-clause-refused c =
    λ places bs are known.
    let f = c.in_err-leaf_clear.field-0.0 in
    let p = err_from_is_err_and c.from_residual.result c.from_residual.ensures.1 in
    let ranges = (certificate_of c.args.certificate.now).ranges in
    let ls = map (λ (l : Bor Leaf). l.now) c.args.leaves.now in
    let at = there_at (λ (l : Bor Leaf). l.now) c.args.leaves.now c.loop-leaf.leaf-index c.leaf-item.result c.loop-leaf-test.true c.leaf-item.is in
    rw (p.1, p.2) (leaves_refused ranges bs f ls bs (any_at (LeafRefused ranges bs f) ls c.loop-leaf.leaf-index c.leaf-item.result.now at.0 at.1 (λ b is k. c.in_err-leaf_clear.ensures.refused ls bs b places are known is k)) are known)

pub loop-leaf-preserved : goal.loop-leaf-preserved
loop-leaf-preserved c =
    let ranges = (certificate_of c.args.certificate.now).ranges in
    let ls = map (λ (l : Bor Leaf). l.now) c.args.leaves.now in
    let at = there_at (λ (l : Bor Leaf). l.now) c.args.leaves.now c.loop-leaf.leaf-index c.leaf-item.result c.loop-leaf-test.true c.leaf-item.is in
    record {
      pass =
          λ places bs are known.
          all_on (LeafPasses ranges bs) ls c.loop-leaf.leaf-index c.leaf-item.result.now at.0 at.1 (λ b is k. c.in_ok-leaf_clear.ensures.clears ls bs b places are known is k) (c.loop-leaf.invariant.pass places bs are known);
      known = c.in_ok-leaf_clear.ensures.known;
    }

pub returns-clause-clears : goal.returns-clause-clears
returns-clause-clears c =
    λ places bs are known.
    let ranges = (certificate_of c.args.certificate.now).ranges in
    let ls = map (λ (l : Bor Leaf). l.now) c.args.leaves.now in
    leaves_pass ranges bs ls bs (c.loop-leaf.invariant.pass places bs are known (all_dropped (LeafPasses ranges bs) (λ (l : Bor Leaf). l.now) c.args.leaves.now c.loop-leaf.leaf-index c.loop-leaf-test.false)) are known
