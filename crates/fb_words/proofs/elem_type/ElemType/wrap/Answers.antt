use Rattle.std.proofs.Common.{◌≡◌, pos, ◌-ℤ◌, ◌<ℤ◌, ◌≤ℤ◌, to_z, of_z, arith}
use Rattle.std.specs.Int.{w128, int_rem_euclid}
use Rattle.std.proofs.lemmas.Int.{ints}
use Rattle.fb_words.specs.Numbers.{highest, size, wrapped}
use Rattle.fb_words.proofs.Types.{bounded, wrapped_above, wrapped_within}
use Rattle.fb_words.proofs.elem_type.ElemType.wrap.Goals as goal

pub returns-then-from-rest : goal.returns-then-from-rest
returns-then-from-rest c =
    let b = bounded c.args.self in
    let r = c.rem_euclid-rest.result in
    let h : highest c.args.self <ℤ r = omega (arith, ints) in
    let p : to_z w128 (of_z w128 c.args.number) ≡ c.args.number = omega (arith, ints) in
    let q : to_z w128 (of_z w128 c.size-size.result) ≡ pos (size c.args.self) = omega (arith, ints) in
    let e : r ≡ int_rem_euclid c.args.number (pos (size c.args.self)) = cc in
    let w : wrapped c.args.self c.args.number ≡ r -ℤ pos (size c.args.self) = wrapped_above c.args.self c.args.number r e h in
    omega (arith, ints)

pub returns-else-from-rest : goal.returns-else-from-rest
returns-else-from-rest c =
    let b = bounded c.args.self in
    let r = c.rem_euclid-rest.result in
    let h : r ≤ℤ highest c.args.self = omega (arith, ints) in
    let p : to_z w128 (of_z w128 c.args.number) ≡ c.args.number = omega (arith, ints) in
    let q : to_z w128 (of_z w128 c.size-size.result) ≡ pos (size c.args.self) = omega (arith, ints) in
    let e : r ≡ int_rem_euclid c.args.number (pos (size c.args.self)) = cc in
    let w : wrapped c.args.self c.args.number ≡ r = wrapped_within c.args.self c.args.number r e h in
    omega (arith, ints)
