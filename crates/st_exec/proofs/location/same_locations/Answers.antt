use Rattle.std.proofs.Common.{string_bytes, refl, sym, ap, ◌∙◌, arith}
use Rattle.std.specs.declared.string.String.{String}
use Rattle.std.specs.declared.alloc.Global.{Global}
use Rattle.st_exec.specs.declared.location.Location.{Location}
use Rattle.st_exec.specs.Laid.{form_in}
use Rattle.fb_model_laws.proofs.Alike.{alike_more, alike_whole, names_alike, bounds_alike}
use Rattle.st_exec.proofs.location.same_locations.Goals as goal

pub loop-at-init : goal.loop-at-init
loop-at-init c = refl

pub loop-at-preserved : goal.loop-at-preserved
loop-at-preserved c =
    let x : String Global × Location = (c.in-Some-Some.name.now, c.in-Some-Some.location.now) in
    let y : String Global × Location = (c.in-Some-Some.next.now, c.in-Some-Some.like.now) in
    let name = names_alike x.0 y.0 c.if-ne.ensures in
    let bounds = bounds_alike x.1.bounds y.1.bounds c.if-ne-2.ensures in
    alike_more form_in c.args.one.now.entries c.args.other.now.entries c.loop-at.at x y c.in-Some-Some.ensures.entry c.in-Some-Some.ensures'.entry (sym c.len.ensures.len ∙ c.if-len.false ∙ c.len-2.ensures.len) c.loop-at.invariant
    (ap (λ n. (n, x.1.bounds)) name ∙ ap (λ b. (string_bytes y.0, b)) bounds)

pub returns : goal.returns
returns c t =
    alike_whole form_in c.args.one.now.entries c.args.other.now.entries c.loop-at.at (omega (arith, c.loop-at-test.false, c.len-at-end.ensures.len)) (sym c.len.ensures.len ∙ c.if-len.false ∙ c.len-2.ensures.len) c.loop-at.invariant
