use Rattle.std.proofs.Common.{◌≡◌, refl, w64, to_z, of_z, arith}
use Rattle.std.proofs.Math.Facts.{to_z-of_z}
use Rattle.std.proofs.lemmas.Result.{err_from_is_err_and}
use Rattle.fb_model.specs.BlockTyping.{some_bounds}
use Rattle.fb_tree.specs.Files as tree
use Rattle.fb_model.specs.BlockFaults.{low_no_number, high_no_number, low_above_high, excess_element}
use Rattle.fb_types_blocks.proofs.Numbers.{bound_found, bound_refused}
use Rattle.fb_types_blocks.proofs.variable.bounds.Goals as goal

pub returns-in_err-low-clause-refused : goal.returns-in_err-low-clause-refused
returns-in_err-low-clause-refused c =
    let p = err_from_is_err_and c.from_residual.result c.from_residual.ensures.1 in
    rw (p.1, p.2) (low_no_number (rw c.in_err-low.was at (bound_refused (tree.bounds_of c.args.source.now).low c.bound.result c.bound.ensures)))

pub returns-in_err-high-clause-refused : goal.returns-in_err-high-clause-refused
returns-in_err-high-clause-refused c =
    let p = err_from_is_err_and c.from_residual-in_err-high.result c.from_residual-in_err-high.ensures.1 in
    rw (p.1, p.2) (high_no_number (rw c.in_err-high.was at (bound_refused (tree.bounds_of c.args.source.now).high c.bound-2.result c.bound-2.ensures)))

pub returns-in_default-clause-refused : goal.returns-in_default-clause-refused
returns-in_default-clause-refused c =
    let b = tree.bounds_of c.args.source.now in
    let inv = rw c.in_ok-low.was at c.bound.type_inv in
    let jnv = rw c.in_ok-high.was at c.bound-2.type_inv in
    let l : to_z w64 (of_z w64 c.in_ok-low.low) ≡ c.in_ok-low.low = to_z-of_z {w = w64} (record { sfits = inv.1.1.1.1.0.1 }) in
    let h : to_z w64 (of_z w64 c.in_ok-high.high) ≡ c.in_ok-high.high = to_z-of_z {w = w64} (record { sfits = jnv.1.1.1.1.0.1 }) in
    let low = bound_found b.low c.in_ok-low.low c.in_ok-low.ensures in
    let high = bound_found b.high c.in_ok-high.high c.in_ok-high.ensures in
    low_above_high c.in_ok-low.low c.in_ok-high.high c.in_default.ensures.0 low high (rw (l, h) at c.in_default.ensures.1) refl

pub returns-then-distance-ge-ELEMENTS-clause-refused : goal.returns-then-distance-ge-ELEMENTS-clause-refused
returns-then-distance-ge-ELEMENTS-clause-refused c =
    let b = tree.bounds_of c.args.source.now in
    let inv = rw c.in_ok-low.was at c.bound.type_inv in
    let jnv = rw c.in_ok-high.was at c.bound-2.type_inv in
    let l : to_z w64 (of_z w64 c.in_ok-low.low) ≡ c.in_ok-low.low = to_z-of_z {w = w64} (record { sfits = inv.1.1.1.1.0.1 }) in
    let h : to_z w64 (of_z w64 c.in_ok-high.high) ≡ c.in_ok-high.high = to_z-of_z {w = w64} (record { sfits = jnv.1.1.1.1.0.1 }) in
    let low = bound_found b.low c.in_ok-low.low c.in_ok-low.ensures in
    let high = bound_found b.high c.in_ok-high.high c.in_ok-high.ensures in
    excess_element c.in_ok-low.low c.in_ok-high.high c.in-Some.distance low high (rw (l, h) at c.in-Some.ensures) (omega (arith, c.if-distance-ge-ELEMENTS.true)) refl

pub returns-clause-found : goal.returns-clause-found
returns-clause-found c =
    let b = tree.bounds_of c.args.source.now in
    let inv = rw c.in_ok-low.was at c.bound.type_inv in
    let jnv = rw c.in_ok-high.was at c.bound-2.type_inv in
    let l : to_z w64 (of_z w64 c.in_ok-low.low) ≡ c.in_ok-low.low = to_z-of_z {w = w64} (record { sfits = inv.1.1.1.1.0.1 }) in
    let h : to_z w64 (of_z w64 c.in_ok-high.high) ≡ c.in_ok-high.high = to_z-of_z {w = w64} (record { sfits = jnv.1.1.1.1.0.1 }) in
    let low = bound_found b.low c.in_ok-low.low c.in_ok-low.ensures in
    let high = bound_found b.high c.in_ok-high.high c.in_ok-high.ensures in
    rw (l, h) (some_bounds low high (rw (l, h) at c.in-Some.ensures) (omega (arith, c.if-distance-ge-ELEMENTS.false)))
