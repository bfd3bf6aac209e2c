use Rattle.std.proofs.Common.{◌≤◌, inl, inr, map, subst}
use Rattle.std.proofs.lemmas.Result.{err_from_is_err_and}
use Rattle.fb_model.specs.Typing.{most_instances}
use Rattle.fb_model.specs.NetworkTyping.{most_deep, instance_count}
use Rattle.fb_tree.specs.Files as trees_of
use Rattle.fb_types_networks.specs.Views.{instances_of}
use Rattle.fb_types.specs.Counts.{IsCrowded}
use Rattle.fb_types.proofs.Systems.{crowd}
use Rattle.fb_types.proofs.resource.instances.Goals as goal

pub returns-in_ok-few-in-Ok-clause-made : goal.returns-in_ok-few-in-Ok-clause-made
returns-in_ok-few-in-Ok-clause-made c = λ bs table memo. record { n = c.in-Ok.field-0-1; parts = c.in-Ok.ensures.made bs table memo }

pub returns-in_ok-few-in-Ok-clause-few : goal.returns-in_ok-few-in-Ok-clause-few
returns-in_ok-few-in-Ok-clause-few c = subst (λ l. instance_count (instances_of l) ≤ most_instances) c.deref.ensures.value c.in_ok-few-in-Ok.ensures.few

pub returns-in_err-few-in-Ok-clause-refused : goal.returns-in_err-few-in-Ok-clause-refused
returns-in_err-few-in-Ok-clause-refused c = λ bs table memo.
    let p = err_from_is_err_and c.from_residual.result c.from_residual.ensures.1 in
    let xs = c.in-Ok.instances.items in
    let f = c.in_err-few-in-Ok.field-0.0 in
    rw (p.1, p.2) (inr (crowd bs most_instances most_deep (map trees_of.instance_of c.args.sources.now) xs c.in-Ok.field-0-1 f (c.in-Ok.ensures.made bs table memo) (subst (λ l. IsCrowded most_instances l f) c.deref.ensures.value c.in_err-few-in-Ok.ensures.refused)))

pub returns-in-Err-clause-refused : goal.returns-in-Err-clause-refused
returns-in-Err-clause-refused c = λ bs table memo. let h = c.in-Err.ensures.refused bs table memo (λ i d a o. tt) in inl (h.part, h.among, c.refusal.ensures.of_instance bs h.part table h.halted)
