use Rattle.std.proofs.Common.{◌≡◌, ◌+◌, ◌<◌, ◌≤◌, ◌++◌, suc, IfErr, length, get_or, map, refl, ap, sym, subst, ◌∙◌, string_bytes, arith}
use Rattle.std.proofs.lemmas.Result.{err_from_is_err_and}
use Rattle.fb_types_networks.specs.declared.typed.Body.{out-Body}
use Rattle.fb_types_networks.specs.declared.typed.Network.{out-Network}
use Rattle.fb_model.specs.System as book
use Rattle.fb_model.specs.Wires.{leaves_in, count_of}
use Rattle.fb_types_networks.specs.Views.{body_of}
use Rattle.fb_types.proofs.Gathered.{gathered_more, gathered_all}
use Rattle.fb_flat.specs.declared.lookup.Inside.TheVariants as within
use Rattle.fb_flat.specs.Sites.{path_of, inner_of, left_count}
use Rattle.fb_flat.specs.Walks.{IsStop}
use Rattle.fb_flat.specs.Leaves.{composed, leaf_of, written}
use Rattle.fb_flat.specs.Indexes.{IsInside, sized, size_of}
use Rattle.fb_flat.specs.Sizes.{sized_inside}
use Rattle.fb_flat.proofs.Indexing.{stands, sized_at}
use Rattle.fb_flat.proofs.Following.{composite_is, inner_is}
use Rattle.fb_flat.proofs.Collecting.{stop_weaker, targets_in, sources_in, counts_in, leaves_among, leaves_under, leaves_step, paid_on, paid_all, unpaid}
use Rattle.fb_flat.proofs.leaves.+collecting.Goals as goal

pub collect-collect_all-requires : goal.collect-collect_all-requires
collect-collect_all-requires t c =
    let i = c.args.instance.now in
    let v = c.in-Composite.indexed in
    let inside : IsInside (out-Body i.body) (within.Composite c.in-Composite.field-0 v) = subst (IsInside (out-Body i.body)) c.in-Composite.is c.requires in
    let e : sized i ≡ suc (size_of v) = sized_inside i c.in-Composite.field-0 v inside in
    omega (arith, e)

pub collect-returns-in-Composite-clause-refused : goal.collect-returns-in-Composite-clause-refused
collect-returns-in-Composite-clause-refused t c =
    let i = c.args.instance.now in
    let v = c.in-Composite.indexed in
    let inside : IsInside (out-Body i.body) (within.Composite c.in-Composite.field-0 v) = subst (IsInside (out-Body i.body)) c.in-Composite.is c.requires in
    let outer = left_count c.args.around.now in
    let count : count_of (composed v) outer ≡ count_of (body_of i.body) outer = sym (ap (λ b. count_of b outer) (composite_is i.body c.in-Composite.field-0 v inside)) in
    subst (λ m. IfErr c.collect_all.result (IsStop (c.args.table.now.left < m))) count c.collect_all.ensures.refused

pub collect_all-collect-requires : goal.collect_all-collect-requires
collect_all-collect-requires t c =
    let n = c.args.indexed.now in
    let r = c.args.trail.now in
    let a = c.args.around.now in
    let xs = (out-Network n).instances.items in
    let k = c.loop-position.position in
    let x = c.instance-item.result in
    let many : length c.instances-instance-items.result.now ≡ length xs = ap length c.instances-instance-items.ensures in
    let test = c.loop-position-test.true in
    let lt : k < length xs = omega (arith, many, test) in
    let at : x ≡ get_or xs k x = c.instance-item.is ∙ ap (λ l. get_or l k x) c.instances-instance-items.ensures in
    let here = stands xs xs k x refl lt at in
    let l = sized_at n k x here in
    (omega (arith, l), c.inside.ensures x here)

pub collect_all-returns-in_err-collect-clause-refused : goal.collect_all-returns-in_err-collect-clause-refused
collect_all-returns-in_err-collect-clause-refused t c =
    let n = c.args.indexed.now in
    let r = c.args.trail.now in
    let a = c.args.around.now in
    let xs = (out-Network n).instances.items in
    let k = c.loop-position.position in
    let x = c.instance-item.result in
    let many : length c.instances-instance-items.result.now ≡ length xs = ap length c.instances-instance-items.ensures in
    let test = c.loop-position-test.true in
    let lt : k < length xs = omega (arith, many, test) in
    let at : x ≡ get_or xs k x = c.instance-item.is ∙ ap (λ l. get_or l k x) c.instances-instance-items.ensures in
    let p = err_from_is_err_and c.from_residual.result c.from_residual.ensures.1 in
    let over : IsStop (c.loop-position.table.left < count_of (body_of x.body) (counts_in n a (string_bytes x.name))) c.in_err-collect.field-0.0 = c.in_err-collect.ensures.refused in
    rw (p.1, p.2) (stop_weaker _ _ c.in_err-collect.field-0.0 (λ h. unpaid (counts_in n a) xs k x lt at c.loop-position.table.left c.args.table.now.left c.loop-position.invariant.left h (inner_of n) (inner_is n)) over)

pub collect_all-loop-position-preserved : goal.collect_all-loop-position-preserved
collect_all-loop-position-preserved t c =
    let n = c.args.indexed.now in
    let r = c.args.trail.now in
    let a = c.args.around.now in
    let xs = (out-Network n).instances.items in
    let k = c.loop-position.position in
    let x = c.instance-item.result in
    let many : length c.instances-instance-items.result.now ≡ length xs = ap length c.instances-instance-items.ensures in
    let test = c.loop-position-test.true in
    let lt : k < length xs = omega (arith, many, test) in
    let at : x ≡ get_or xs k x = c.instance-item.is ∙ ap (λ l. get_or l k x) c.instances-instance-items.ensures in
    let one = leaves_under (path_of r) (targets_in n r a) (sources_in n r a) in
    let made : map leaf_of c.collect.new.table.leaves.items ≡ map leaf_of c.loop-position.table.leaves.items ++ one c.as_str.result.now x = c.in_ok-collect.ensures.added in
    let paid : c.collect.new.table.left + count_of (body_of x.body) (counts_in n a (string_bytes x.name)) ≡ c.loop-position.table.left = c.in_ok-collect.ensures.counted in
    record {
      added =
          gathered_more (leaves_among (path_of r) (targets_in n r a) (sources_in n r a)) (λ y. one (string_bytes y.name) y) (leaves_step (path_of r) (targets_in n r a) (sources_in n r a))
          xs k x lt at _ _ _ c.loop-position.invariant.added (made ∙ ap (λ m. map leaf_of c.loop-position.table.leaves.items ++ one m x) c.as_str.ensures.value);
      left = paid_on (counts_in n a) xs k x lt at c.loop-position.table.left c.collect.new.table.left c.args.table.now.left c.loop-position.invariant.left paid;
    }

pub collect_all-returns-clause-added : goal.collect_all-returns-clause-added
collect_all-returns-clause-added t c =
    let n = c.args.indexed.now in
    let r = c.args.trail.now in
    let a = c.args.around.now in
    let xs = (out-Network n).instances.items in
    let k = c.loop-position.position in
    let many : length c.instances-instance-items.result.now ≡ length xs = ap length c.instances-instance-items.ensures in
    let test = c.loop-position-test.false in
    let le : length xs ≤ k = omega (arith, many, test) in
    gathered_all (leaves_among (path_of r) (targets_in n r a) (sources_in n r a)) refl xs k le _ _ c.loop-position.invariant.added
    ∙ ap (λ (is : book.Instances). map leaf_of c.args.table.now.leaves.items ++ map written (leaves_in is 0 (path_of r) (targets_in n r a) (sources_in n r a))) (sym (inner_is n))

pub collect_all-returns-clause-counted : goal.collect_all-returns-clause-counted
collect_all-returns-clause-counted t c =
    let n = c.args.indexed.now in
    let r = c.args.trail.now in
    let a = c.args.around.now in
    let xs = (out-Network n).instances.items in
    let k = c.loop-position.position in
    let many : length c.instances-instance-items.result.now ≡ length xs = ap length c.instances-instance-items.ensures in
    let test = c.loop-position-test.false in
    let le : length xs ≤ k = omega (arith, many, test) in
    paid_all (counts_in n a) xs k le c.loop-position.table.left c.args.table.now.left c.loop-position.invariant.left (inner_of n) (inner_is n)
