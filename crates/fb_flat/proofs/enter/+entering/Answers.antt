use Rattle.std.proofs.Common.{◌≡◌, ◌+◌, ◌<◌, ◌++◌, ◌∷◌, [], suc, None, Some, OnOk, IfErr, map, ap, sym, subst, ◌∙◌, arith}
use Rattle.std.proofs.lemmas.List.{append-nil}
use Rattle.fb_types_networks.specs.declared.typed.Body.{out-Body}
use Rattle.fb_types_networks.specs.declared.typed.Network.{out-Network}
use Rattle.fb_types_networks.specs.Views.{body_of}
use Rattle.fb_model.specs.Wires.{entered, entered_in, enter_count, enter_count_in, follow_count}
use Rattle.fb_flat.specs.declared.lookup.Inside.TheVariants as within
use Rattle.fb_flat.specs.Sites.{path_of, inner_of, events_in}
use Rattle.fb_flat.specs.Walks.{IsStop, reached, spots_of}
use Rattle.fb_flat.specs.Bundled.{seen, source_of}
use Rattle.fb_flat.specs.Indexes.{IsInside, sized, size_of}
use Rattle.fb_flat.specs.Sizes.{sized_inside}
use Rattle.fb_flat.proofs.Indexing.{stands, sized_at}
use Rattle.fb_flat.proofs.Following.{composite_is, enters_at, counts_at, same_followed, same_count, when_some, when_none}
use Rattle.fb_flat.proofs.enter.+entering.Goals as goal

pub enter-pass-requires : goal.enter-pass-requires
enter-pass-requires t c =
    let i = c.args.instance.now in
    let v = c.in-Composite.indexed in
    let inside : IsInside (out-Body i.body) (within.Composite c.in-Composite.field-0 v) = subst (IsInside (out-Body i.body)) c.in-Composite.is c.requires.1.1 in
    let e : sized i ≡ suc (size_of v) = sized_inside i c.in-Composite.field-0 v inside in
    omega (arith, e)

pub enter-returns-in-Composite-clause-refused : goal.enter-returns-in-Composite-clause-refused
enter-returns-in-Composite-clause-refused t c =
    let i = c.args.instance.now in
    let v = c.in-Composite.indexed in
    let inside : IsInside (out-Body i.body) (within.Composite c.in-Composite.field-0 v) = subst (IsInside (out-Body i.body)) c.in-Composite.is c.requires.1.1 in
    let port = c.args.port.now in
    let count : follow_count (events_in v) None port (enter_count_in (inner_of v)) (λ o. 0) ≡ enter_count (body_of i.body) port = sym (ap (λ b. enter_count b port) (composite_is i.body c.in-Composite.field-0 v inside)) in
    subst (λ m. IfErr c.pass.result (IsStop (c.args.walk.now.left < m))) count c.pass.ensures.refused

pub enter_named-enter-requires : goal.enter_named-enter-requires
enter_named-enter-requires t c =
    let n = c.args.indexed.now in
    let x = c.index-instances-position.result in
    let at = stands c.instances.result.now (out-Network n).instances.items c.in-Some.position x c.instances.ensures c.in-Some.ensures.within c.index-instances-position.is in
    let l = sized_at n c.in-Some.position x at in
    (omega (arith, l), c.inside.ensures x at)

pub enter_named-returns-in-None-clause-reached : goal.enter_named-returns-in-None-clause-reached
enter_named-returns-in-None-clause-reached t c =
    let w = reached c.args.walk.now in
    sym (append-nil w) ∙ ap (λ ps. w ++ spots_of ps) (sym (enters_at c.args.indexed.now (path_of c.args.trail.now) c.args.name.now c.args.port.now None c.in-None.ensures.first))

pub enter_named-returns-in-None-clause-counted : goal.enter_named-returns-in-None-clause-counted
enter_named-returns-in-None-clause-counted t c =
    let e : enter_count_in (inner_of c.args.indexed.now) c.args.name.now c.args.port.now ≡ 0 = counts_at c.args.indexed.now c.args.name.now c.args.port.now None c.in-None.ensures.first in
    omega (arith, e)

pub enter_named-returns-in-Some-clause-reached : goal.enter_named-returns-in-Some-clause-reached
enter_named-returns-in-Some-clause-reached t c =
    let n = c.args.indexed.now in
    let x = c.index-instances-position.result in
    let at = stands c.instances.result.now (out-Network n).instances.items c.in-Some.position x c.instances.ensures c.in-Some.ensures.within c.index-instances-position.is in
    let path = path_of c.args.trail.now in
    let port = c.args.port.now in
    let places : entered (body_of x.body) (path ++ c.as_str.result.now ∷ []) port ≡ entered_in (inner_of n) path c.args.name.now port =
    ap (λ m. entered (body_of x.body) (path ++ m ∷ []) port) c.as_str.ensures.value ∙ sym (enters_at n path c.args.name.now port (Some x) (sym c.in-Some.ensures.first ∙ at)) in
    subst (λ ps. OnOk c.enter.result (reached c.enter.new.walk ≡ reached c.args.walk.now ++ spots_of ps)) places c.enter.ensures.reached

pub enter_named-returns-in-Some-clause-counted : goal.enter_named-returns-in-Some-clause-counted
enter_named-returns-in-Some-clause-counted t c =
    let n = c.args.indexed.now in
    let x = c.index-instances-position.result in
    let at = stands c.instances.result.now (out-Network n).instances.items c.in-Some.position x c.instances.ensures c.in-Some.ensures.within c.index-instances-position.is in
    subst (λ m. OnOk c.enter.result (c.enter.new.walk.left + m ≡ c.args.walk.now.left)) (sym (counts_at n c.args.name.now c.args.port.now (Some x) (sym c.in-Some.ensures.first ∙ at))) c.enter.ensures.counted

pub enter_named-returns-in-Some-clause-refused : goal.enter_named-returns-in-Some-clause-refused
enter_named-returns-in-Some-clause-refused t c =
    let n = c.args.indexed.now in
    let x = c.index-instances-position.result in
    let at = stands c.instances.result.now (out-Network n).instances.items c.in-Some.position x c.instances.ensures c.in-Some.ensures.within c.index-instances-position.is in
    subst (λ m. IfErr c.enter.result (IsStop (c.args.walk.now.left < m))) (sym (counts_at n c.args.name.now c.args.port.now (Some x) (sym c.in-Some.ensures.first ∙ at))) c.enter.ensures.refused

pub pass-returns-in-None-clause-reached : goal.pass-returns-in-None-clause-reached
pass-returns-in-None-clause-reached t c =
    let n = c.args.indexed.now in
    let port = c.args.port.now in
    let w = reached c.args.walk.now in
    let none = when_none source_of None port (events_in n) c.in_ok-leaving.field-0 c.in-None.is c.in_ok-leaving.ensures in
    sym (append-nil w) ∙ ap (λ ps. w ++ spots_of ps) (same_followed None port (entered_in (inner_of n) (path_of c.args.trail.now)) (λ o. []) [] (events_in n) none)

pub pass-returns-in-None-clause-counted : goal.pass-returns-in-None-clause-counted
pass-returns-in-None-clause-counted t c =
    let n = c.args.indexed.now in
    let port = c.args.port.now in
    let none = when_none source_of None port (events_in n) c.in_ok-leaving.field-0 c.in-None.is c.in_ok-leaving.ensures in
    let e : 0 ≡ follow_count (events_in n) None port (enter_count_in (inner_of n)) (λ o. 0) = same_count None port (enter_count_in (inner_of n)) (λ o. 0) [] (events_in n) none in
    omega (arith, e)

pub pass-loop-connection-init : goal.pass-loop-connection-init
pass-loop-connection-init t c =
    let n = c.args.indexed.now in
    let port = c.args.port.now in
    let items = c.deref-connection-items.result.now in
    let same =
    when_some source_of None port (events_in n) c.in_ok-leaving.field-0 c.in-Some.connections items c.in-Some.is c.deref-connection-items.ensures.value c.in_ok-leaving.ensures in
    record {
      reached = ap (λ ps. reached c.args.walk.now ++ spots_of ps) (same_followed None port (entered_in (inner_of n) (path_of c.args.trail.now)) (λ o. []) (map seen items) (events_in n) same);
      left = ap (λ m. c.args.walk.now.left + m) (sym (same_count None port (enter_count_in (inner_of n)) (λ o. 0) (map seen items) (events_in n) same));
    }
