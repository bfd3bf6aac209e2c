use Rattle.std.proofs.Common.{map, ap, refl, subst}
use Rattle.std.specs.List.{Contains}
use Rattle.std.proofs.lemmas.Result.{err_from_is_err_and}
use Rattle.fb_model.specs.Typing.{most_instances}
use Rattle.fb_model.specs.NetworkTyping.{no_face}
use Rattle.fb_tree.specs.Files as trees_of
use Rattle.fb_types_blocks.proofs.Refused.{either_of}
use Rattle.fb_model.specs.SourceFaults.{IsCrowd, faulty_instance, too_deep_inside, too_many, faulty_wires}
use Rattle.fb_types.specs.Made.{AreMade}
use Rattle.fb_types.proofs.Systems.{resource_typed, named_resource, resource_provides}
use Rattle.fb_types.proofs.resource.resource.Goals as goal

pub returns-in_err-instances-clause-refused : goal.returns-in_err-instances-clause-refused
returns-in_err-instances-clause-refused c = λ bs table memo.
    let p = err_from_is_err_and c.from_residual.result c.from_residual.ensures.1 in
    let f = c.in_err-instances.field-0.0 in
    rw (p.1, p.2)
    (either_of (λ h. let among = subst (λ l. Contains (map trees_of.instance_of l) h.0) c.deref.ensures.value h.1 in either_of (λ k. faulty_instance among k) (λ k. too_deep_inside among k.1 k.2) h.2)
    (λ k. too_many (subst (λ l. IsCrowd bs most_instances (map trees_of.instance_of l) f) c.deref.ensures.value k)) (c.in_err-instances.ensures.refused bs table memo))

pub returns-in_err-network-clause-refused : goal.returns-in_err-network-clause-refused
returns-in_err-network-clause-refused c = λ bs table memo.
    let p = err_from_is_err_and c.from_residual-in_err-network.result c.from_residual-in_err-network.ensures.1 in
    let xs = c.in_ok-instances.instances.items in
    let w = (trees_of.resource_of c.args.source.now).network in
    let made = subst (λ l. AreMade bs (map trees_of.instance_of l) xs) c.deref.ensures.value (c.in_ok-instances.ensures.made bs table memo) in
    rw (p.1, p.2) (faulty_wires made.parts.typed (c.in_err-network.ensures.refused (named_resource bs w xs made)))

pub returns-clause-typed : goal.returns-clause-typed
returns-clause-typed c = λ bs table memo.
    let xs = c.in_ok-instances.instances.items in
    let r = trees_of.resource_of c.args.source.now in
    let made = subst (λ l. AreMade bs (map trees_of.instance_of l) xs) c.deref.ensures.value (c.in_ok-instances.ensures.made bs table memo) in
    resource_typed bs r (record { name = c.in_ok-name.name; at = c.args.source.now.name.at; network = c.in_ok-network.network }) xs no_face refl made
    (c.in_ok-network.ensures.typed (named_resource bs r.network xs made)) c.in_ok-instances.ensures.few c.in_ok-name.ensures.cases

pub returns-clause-uses : goal.returns-clause-uses
returns-clause-uses c = λ bs table memo.
    let xs = c.in_ok-instances.instances.items in
    let r = trees_of.resource_of c.args.source.now in
    let made = subst (λ l. AreMade bs (map trees_of.instance_of l) xs) c.deref.ensures.value (c.in_ok-instances.ensures.made bs table memo) in
    resource_provides bs r (record { name = c.in_ok-name.name; at = c.args.source.now.name.at; network = c.in_ok-network.network }) xs made (ap (λ v. v.items) c.in_ok-network.ensures.instances)
