use Rattle.std.proofs.Common.{◌≡◌, ◌+◌, ◌++◌, ◌∷◌, [], map, take, refl, sym, subst, ◌∙◌, arith}
use Rattle.std.proofs.lemmas.List.{take_all}
use Rattle.std.specs.List.{AllByRecursion}
use Rattle.indexmap.specs.IndexMap.{index_map_len}
use Rattle.fb_tree.specs.Files as trees_of
use Rattle.fb_types_blocks.proofs.Lists.{mapped_more}
use Rattle.fb_types.specs.Made.{tree_of}
use Rattle.fb_types.specs.Rings.{found_in, met_by, IsPassed, IsStep}
use Rattle.fb_types.proofs.Nested.{among_at}
use Rattle.fb_types.proofs.Ringed.{passed_same, passed_more, closing_among, met_among}
use Rattle.fb_types.proofs.rings.look_among.Goals as goal

pub loop-instance-init : goal.loop-instance-init
loop-instance-init c = record { len = refl; same = λ x. refl; passed = tt }

pub loop-instance-preserved : goal.loop-instance-preserved
loop-instance-preserved c =
    let xs = c.args.instances.now in
    let k = c.loop-instance.instance-index in
    let x = c.instance-item.result in
    let old = found_in c.args.left.now in
    let now = found_in c.loop-instance.left in
    let path = map tree_of c.args.path.now ++ trees_of.block_of c.args.top.now ∷ [] in
    let i = trees_of.instance_of x in
    let p = subst (IsStep now (found_in c.look_at.new.left) path (i ∷ [])) c.in-Passed.is c.look_at.ensures.step in
    let fallen = subst (λ s. index_map_len c.look_at.new.left + met_by s ≡ index_map_len c.loop-instance.left) c.in-Passed.is c.look_at.ensures.falls in
    record {
      len = omega (arith, fallen, c.loop-instance.invariant.len);
      same = λ y. p.1 y ∙ c.loop-instance.invariant.same y;
      passed = subst (AllByRecursion (IsPassed old path)) (sym (mapped_more trees_of.instance_of xs k x c.loop-instance-test.true c.instance-item.is)) (passed_more old path (map trees_of.instance_of (take k xs)) i c.loop-instance.invariant.passed (passed_same now old path i c.loop-instance.invariant.same p.0.0));
    }

pub returns-in-Closing-clause-step : goal.returns-in-Closing-clause-step
returns-in-Closing-clause-step c =
    let xs = c.args.instances.now in
    let k = c.loop-instance.instance-index in
    let x = c.instance-item.result in
    let path = map tree_of c.args.path.now ++ trees_of.block_of c.args.top.now ∷ [] in
    let i = trees_of.instance_of x in
    let p = subst (IsStep (found_in c.loop-instance.left) (found_in c.look_at.new.left) path (i ∷ [])) c.in-Closing.is c.look_at.ensures.step in
    closing_among path i (map trees_of.instance_of xs) c.in-Closing.at (among_at trees_of.instance_of xs k x c.loop-instance-test.true c.instance-item.is) p

pub returns-in-Inside-clause-step : goal.returns-in-Inside-clause-step
returns-in-Inside-clause-step c =
    let xs = c.args.instances.now in
    let k = c.loop-instance.instance-index in
    let x = c.instance-item.result in
    let old = found_in c.args.left.now in
    let now = found_in c.loop-instance.left in
    let path = map tree_of c.args.path.now ++ trees_of.block_of c.args.top.now ∷ [] in
    let i = trees_of.instance_of x in
    let p = subst (IsStep now (found_in c.look_at.new.left) path (i ∷ [])) c.in-Inside.is c.look_at.ensures.step in
    met_among now old (found_in c.look_at.new.left) i (map trees_of.instance_of xs) (tree_of c.in-Inside.block) c.loop-instance.invariant.same (among_at trees_of.instance_of xs k x c.loop-instance-test.true c.instance-item.is) p

pub returns-clause-step : goal.returns-clause-step
returns-clause-step c =
    let path = map tree_of c.args.path.now ++ trees_of.block_of c.args.top.now ∷ [] in
    (subst (λ l. AllByRecursion (IsPassed (found_in c.args.left.now) path) (map trees_of.instance_of l)) (take_all c.loop-instance.instance-index c.args.instances.now c.loop-instance-test.false) c.loop-instance.invariant.passed, c.loop-instance.invariant.same)
