use Rattle.std.proofs.Common.{◌-◌, ◌<◌, ◌≤◌, length, refl, arith}
use Rattle.std.proofs.lemmas.Option.{slice_get_read}
use Rattle.fb_world.proofs.Bounds.{if_some, root_told}
use Rattle.fb_world.proofs.world.World.root.Goals as goal

pub returns-clause-bounded : goal.returns-clause-bounded
returns-clause-bounded c =
    rw (← c.self.view_is) (λ m e within.
    let here : c.args.number - 1 < length c.self.inside.course.roots.items = omega (arith, c.if-number-eq0.false, c.if-number-len.false, c.len.ensures, c.self.inside.course.roots.ok.0) in
    let stands = slice_get_read c.self.inside.course.roots.items (length c.self.inside.course.roots.items) (c.args.number - 1) c.index-root.result.now refl here c.index-root.ensures in
    if_some c.index-root.result.now.opening.far (λ most. c.index-root.result.now.steps ≤ most) (λ most. c.min.result ≤ most) (λ most l. omega (arith, l, c.min.ensures))
    (root_told c.self.inside.verified.value c.self.inside.course c.self.invariant c.args.number c.index-root.result.now stands (omega (arith, c.if-number-eq0.false)) m e within))
