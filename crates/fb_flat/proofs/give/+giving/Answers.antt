use Rattle.std.proofs.Common.{◌≡◌, ◌++◌, ◌∷◌, [], suc, None, Some, map, ap, sym, subst, ◌∙◌, arith}
use Rattle.fb_types_blocks.specs.Views.{variables_of}
use Rattle.fb_types_networks.specs.declared.typed.Body.{out-Body}
use Rattle.fb_types_networks.specs.declared.typed.Network.{out-Network}
use Rattle.fb_types_networks.specs.Views.{body_of}
use Rattle.fb_model.specs.Names.{Name}
use Rattle.fb_model.specs.System.{constant}
use Rattle.fb_model.specs.Wires.{Source, Constant, given_by, given_in}
use Rattle.fb_flat.specs.declared.lookup.Inside.TheVariants as within
use Rattle.fb_flat.specs.Sites.{path_of, inner_of}
use Rattle.fb_flat.specs.Sources.{source_of as shown, written_source}
use Rattle.fb_flat.specs.Leaves.{values_in}
use Rattle.fb_flat.specs.Bundled.{seen, target_of}
use Rattle.fb_flat.specs.Indexes.{IsInside, sized, size_of}
use Rattle.fb_flat.specs.Sizes.{sized_inside}
use Rattle.fb_flat.proofs.Indexing.{stands, sized_at}
use Rattle.fb_flat.proofs.Following.{ok_along, gives_at, same_fed, when_some, when_none}
use Rattle.fb_flat.proofs.give.+giving.Goals as goal

pub give-pass-requires : goal.give-pass-requires
give-pass-requires t c =
    let i = c.args.instance.now in
    let v = c.in-Composite.indexed in
    let inside : IsInside (out-Body i.body) (within.Composite c.in-Composite.face v) = subst (IsInside (out-Body i.body)) c.in-Composite.is c.requires.1.1 in
    let e : sized i ≡ suc (size_of v) = sized_inside i c.in-Composite.face v inside in
    omega (arith, e)

pub give_named-give-requires : goal.give_named-give-requires
give_named-give-requires t c =
    let n = c.args.indexed.now in
    let x = c.index-instances-position.result in
    let at = stands c.instances.result.now (out-Network n).instances.items c.in-Some.position x c.instances.ensures c.in-Some.ensures.within c.index-instances-position.is in
    let l = sized_at n c.in-Some.position x at in
    (omega (arith, l), c.inside.ensures x at)

pub give_named-returns-in-None : goal.give_named-returns-in-None
give_named-returns-in-None t c = ap written_source (sym (gives_at c.args.indexed.now (path_of c.args.trail.now) c.args.name.now c.args.port.now None c.in-None.ensures.first))

pub give_named-returns-in-Some : goal.give_named-returns-in-Some
give_named-returns-in-Some t c =
    let n = c.args.indexed.now in
    let x = c.index-instances-position.result in
    let at = stands c.instances.result.now (out-Network n).instances.items c.in-Some.position x c.instances.ensures c.in-Some.ensures.within c.index-instances-position.is in
    let path = path_of c.args.trail.now in
    let port = c.args.port.now in
    let given : given_by (body_of x.body) (path ++ c.as_str.result.now ∷ []) port ≡ given_in (inner_of n) path c.args.name.now port =
    ap (λ m. given_by (body_of x.body) (path ++ m ∷ []) port) c.as_str.ensures.value ∙ sym (gives_at n path c.args.name.now port (Some x) (sym c.in-Some.ensures.first ∙ at)) in
    ok_along shown (ap written_source given) c.give.result c.give.ensures

pub pass-returns-in-None : goal.pass-returns-in-None
pass-returns-in-None t c =
    let n = c.args.indexed.now in
    let port = c.args.port.now in
    let outer : Name → Source = λ i. Constant (constant [] (variables_of c.args.face.now.inputs) i) in
    let other : Source = Constant (constant [] (variables_of c.args.face.now.outputs) port) in
    let none = when_none target_of None port (values_in n) c.in_ok-arriving.field-0 c.in-None.is c.in_ok-arriving.ensures in
    c.start.ensures ∙ ap written_source (same_fed None port (given_in (inner_of n) (path_of c.args.trail.now)) outer other [] (values_in n) none)

pub pass-loop-connection-init : goal.pass-loop-connection-init
pass-loop-connection-init t c =
    let n = c.args.indexed.now in
    let port = c.args.port.now in
    let outer : Name → Source = λ i. Constant (constant [] (variables_of c.args.face.now.inputs) i) in
    let other : Source = Constant (constant [] (variables_of c.args.face.now.outputs) port) in
    let items = c.deref-connection-items.result.now in
    let same =
    when_some target_of None port (values_in n) c.in_ok-arriving.field-0 c.in-Some.connections items c.in-Some.is c.deref-connection-items.ensures.value c.in_ok-arriving.ensures in
    same_fed None port (given_in (inner_of n) (path_of c.args.trail.now)) outer other (map seen items) (values_in n) same
