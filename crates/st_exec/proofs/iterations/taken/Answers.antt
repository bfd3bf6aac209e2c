use Rattle.std.proofs.Common.{◌≡◌, pos, ◌*ℤ◌, to_z, of_z, inl, inr, arith}
use Rattle.std.specs.Int.{w128}
use Rattle.std.proofs.lemmas.Int.{ints}
use Rattle.st_exec.proofs.Looping.{taken_between}
use Rattle.st_exec.proofs.iterations.taken.Goals as goal

pub overflow_cast-result : goal.overflow_cast-result
overflow_cast-result c =
    let b = taken_between c.args.first c.args.last c.args.step c.args.iteration c.requires in
    let p : to_z w128 (of_z w128 c.from-2.result) ≡ pos c.args.iteration = omega (arith, ints) in
    let q : to_z w128 (of_z w128 c.from-3.result) ≡ c.args.step = omega (arith, ints) in
    let m : to_z w128 (of_z w128 c.from-2.result) *ℤ to_z w128 (of_z w128 c.from-3.result) ≡ pos c.args.iteration *ℤ c.args.step = cc in
    elim b.between [ inl h ↦ omega (arith, ints) | inr h ↦ omega (arith, ints) ]

pub returns : goal.returns
returns c =
    let b = taken_between c.args.first c.args.last c.args.step c.args.iteration c.requires in
    let p : to_z w128 (of_z w128 c.from-2.result) ≡ pos c.args.iteration = omega (arith, ints) in
    let q : to_z w128 (of_z w128 c.from-3.result) ≡ c.args.step = omega (arith, ints) in
    let m : to_z w128 (of_z w128 c.from-2.result) *ℤ to_z w128 (of_z w128 c.from-3.result) ≡ pos c.args.iteration *ℤ c.args.step = cc in
    elim b.between [ inl h ↦ omega (arith, ints) | inr h ↦ omega (arith, ints) ]
