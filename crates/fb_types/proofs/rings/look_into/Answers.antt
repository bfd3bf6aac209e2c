use Rattle.std.proofs.Common.{◌++◌, ◌∷◌, [], map, refl, sym, ap, subst}
use Rattle.std.specs.List.{AllByRecursion}
use Rattle.fb_model.specs.Declarations.{BodyTree}
use Rattle.fb_tree.specs.Files as trees_of
use Rattle.fb_types.specs.Made.{tree_of}
use Rattle.fb_types.specs.Rings.{found_in, parts_of, IsPassed, IsStep}
use Rattle.fb_types.proofs.rings.look_into.Goals as goal

pub returns-in-Chart-clause-step : goal.returns-in-Chart-clause-step
returns-in-Chart-clause-step c =
    let path = map tree_of c.args.path.now ++ trees_of.block_of c.args.top.now ∷ [] in
    (subst (λ (b : BodyTree). AllByRecursion (IsPassed (found_in c.args.left.now) path) (parts_of b)) (sym (ap trees_of.block_body_of c.in-Chart.is)) tt, λ x. refl)

pub returns-in-Network-clause-step : goal.returns-in-Network-clause-step
returns-in-Network-clause-step c =
    let path = map tree_of c.args.path.now ++ trees_of.block_of c.args.top.now ∷ [] in
    subst (λ (b : BodyTree). IsStep (found_in c.args.left.now) (found_in c.look_among.new.left) path (parts_of b) c.look_among.result) (sym (ap trees_of.block_body_of c.in-Network.is))
    (subst (λ l. IsStep (found_in c.args.left.now) (found_in c.look_among.new.left) path (map trees_of.instance_of l) c.look_among.result) c.deref.ensures.value c.look_among.ensures.step)
