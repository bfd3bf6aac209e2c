use Rattle.std.proofs.Common.{◌≡◌, ◌≤◌, [], map, length, sym, ap, subst, ◌∙◌}
use Rattle.std.specs.List.{Contains}
use Rattle.std.proofs.lemmas.List.{length-map}
use Rattle.std.proofs.lemmas.Result.{err_from_is_err_and}
use Rattle.fb_model.specs.Typing.{AreDistinct, AreNewNumbers}
use Rattle.fb_model.specs.NetworkTyping.{most_resources, AreResources, inputs, outputs, subscribed, device_services}
use Rattle.fb_tree.specs.Files as trees_of
use Rattle.fb_model.specs.BlockFaults.{IsRepetition, IsExcess}
use Rattle.fb_model.specs.NumberFaults.{IsNumberFault}
use Rattle.fb_model.specs.Nesting.{ResourcesProvide}
use Rattle.fb_model.specs.SourceFaults.{repeated_resource, excess_resource, faulty_resource, faulty_numbers}
use Rattle.fb_types.specs.Views.{resource_of, resource_offsets, offsets_in, device_uses}
use Rattle.fb_types.proofs.Systems.{resource_words, resource_names}
use Rattle.fb_types.proofs.device.device.Goals as goal

pub returns-in_err-at_most-clause-refused : goal.returns-in_err-at_most-clause-refused
returns-in_err-at_most-clause-refused c = λ bs table memo.
    let p = err_from_is_err_and c.from_residual.result c.from_residual.ensures.1 in
    let f = c.in_err-at_most.field-0.0 in
    rw (p.1, p.2) (excess_resource (resource_words (λ ws. IsExcess most_resources ws f) c.args.source.now.resources.items c.deref.result.now c.deref.ensures.value c.in_err-at_most.ensures.refused))

pub returns-in_err-table-clause-refused : goal.returns-in_err-table-clause-refused
returns-in_err-table-clause-refused c = λ bs table memo.
    let p = err_from_is_err_and c.from_residual-in_err-table.result c.from_residual-in_err-table.ensures.1 in
    let f = c.in_err-table.field-0.0 in
    rw (p.1, p.2) (repeated_resource (resource_words (λ ws. IsRepetition [] ws f) c.args.source.now.resources.items c.deref-2.result.now c.deref-2.ensures.value c.in_err-table.ensures.refused))

pub returns-in_err-resources-clause-refused : goal.returns-in_err-resources-clause-refused
returns-in_err-resources-clause-refused c = λ bs table memo.
    let p = err_from_is_err_and c.from_residual-in_err-resources.result c.from_residual-in_err-resources.ensures.1 in
    let h = c.in_err-resources.ensures.refused bs table memo in
    rw (p.1, p.2) (faulty_resource (subst (λ l. Contains (map trees_of.resource_of l) h.0) c.deref-3.ensures.value h.1) h.2)

pub returns-in_err-numbers_differ-clause-refused : goal.returns-in_err-numbers_differ-clause-refused
returns-in_err-numbers_differ-clause-refused c = λ bs table memo.
    let p = err_from_is_err_and c.from_residual-in_err-numbers_differ.result c.from_residual-in_err-numbers_differ.ensures.1 in
    let uses = subst (λ l. ResourcesProvide bs (map trees_of.resource_of l) (device_uses c.in_ok-resources.resources.items)) c.deref-3.ensures.value (c.in_ok-resources.ensures.uses bs table memo) in
    let f = c.in_err-numbers_differ.field-0.0 in
    rw (p.1, p.2) (faulty_numbers uses (subst (λ l. IsNumberFault (device_uses l) f) c.deref-4.ensures.value c.in_err-numbers_differ.ensures.refused))

pub returns-clause-offsets : goal.returns-clause-offsets
returns-clause-offsets c = subst (λ l. resource_offsets c.in_ok-resources.resources.items ≡ offsets_in (map trees_of.resource_of l)) c.deref-3.ensures.value c.in_ok-resources.ensures.offsets

pub returns-clause-typed : goal.returns-clause-typed
returns-clause-typed c = λ bs table memo.
    let xs = c.args.source.now.resources.items in
    let qs = c.in_ok-resources.resources.items in
    record {
      name = c.in_ok-name.ensures.cases;
      names = resource_names AreDistinct xs c.deref-2.result.now c.deref-2.ensures.value c.in_ok-table.ensures.distinct;
      few = subst (λ n. n ≤ most_resources) (ap length c.deref.ensures.value ∙ sym (length-map xs trees_of.resource_of)) c.in_ok-at_most.ensures.few;
      resources = subst (λ l. AreResources bs (map trees_of.resource_of l) (map resource_of qs)) c.deref-3.ensures.value (c.in_ok-resources.ensures.typed bs table memo);
      inputs_differ = subst (λ l. AreNewNumbers [] (inputs (device_services (map resource_of l)))) c.deref-4.ensures.value c.in_ok-numbers_differ.ensures.inputs;
      outputs_differ = subst (λ l. AreNewNumbers [] (outputs (device_services (map resource_of l)))) c.deref-4.ensures.value c.in_ok-numbers_differ.ensures.outputs;
      channels_differ = subst (λ l. AreNewNumbers [] (subscribed (device_services (map resource_of l)))) c.deref-4.ensures.value c.in_ok-numbers_differ.ensures.channels;
    }

pub returns-clause-uses : goal.returns-clause-uses
returns-clause-uses c = λ bs table memo.
    subst (λ l. ResourcesProvide bs (map trees_of.resource_of l) (device_uses c.in_ok-resources.resources.items)) c.deref-3.ensures.value (c.in_ok-resources.ensures.uses bs table memo)
