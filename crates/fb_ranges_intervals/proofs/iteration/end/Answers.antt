use Rattle.std.proofs.Common.{◌≡◌, to_z, of_z, w64, inl, inr, arith}
use Rattle.std.proofs.lemmas.Int.{ints}
use Rattle.fb_model.specs.Clear.{is_single}
use Rattle.fb_model.proofs.Results.{and_left}
use Rattle.fb_ranges_intervals.specs.Views.{span_of}
use Rattle.fb_ranges_intervals.proofs.Counting.{last_between}
use Rattle.fb_ranges_intervals.proofs.iteration.end.Goals as goal

pub last_value-requires-clause-high : goal.last_value-requires-clause-high
last_value-requires-clause-high c =
    let r = span_of c.args.first in
    let s = span_of c.args.last in
    let f : to_z w64 (of_z w64 c.args.first.low) ≡ c.args.first.low = omega (arith, ints) in
    let k : to_z w64 (of_z w64 c.args.step) ≡ c.args.step = omega (arith, ints) in
    let b = last_between r s c.args.step c.args.iterations c.args.first.ordered (and_left (is_single r) (is_single s) c.requires.known) c.requires.most c.requires.some in
    rw (f, k) (elim b [ inl h ↦ omega (arith, ints) | inr h ↦ omega (arith, ints) ])
