use Rattle.std.proofs.Common.{List, map, ap, subst, ◌∙◌}
use Rattle.std.specs.List.{AllByRecursion}
use Rattle.std.proofs.lemmas.List.{length-map}
use Rattle.fb_model.specs.System as book
use Rattle.fb_model.specs.BlockTyping.{AreKnown, typed_event, variable_of}
use Rattle.fb_tree.specs.Files as tree
use Rattle.fb_types_blocks.specs.Views.{declared_in, events_of}
use Rattle.fb_types_blocks.proofs.Interfaces.{map_names, few_declared}
use Rattle.fb_types_blocks.proofs.interface.ports.Goals as goal

pub returns-clause-found : goal.returns-clause-found
returns-clause-found c =
    let b = tree.block_of c.args.source.now in
    let ins = c.in_ok-inputs.inputs in
    let outs = c.in_ok-inputs.outputs in
    let inputs = c.in_ok-inputs.ensures.inputs in
    let outputs = c.in_ok-inputs.ensures.outputs in
    let made : List book.Event → List book.Event → book.Face = λ es fs. record { event_inputs = es; event_outputs = fs; inputs = map variable_of (declared_in ins); outputs = map variable_of (declared_in outs) } in
    record {
      inputs = inputs;
      outputs = outputs;
      takes = subst (λ ns. AllByRecursion (λ e. AreKnown ns e.carries) b.event_inputs) (map_names ins) c.in_ok-event_inputs.ensures.takes;
      gives = subst (λ ns. AllByRecursion (λ e. AreKnown ns e.carries) b.event_outputs) (map_names outs) c.in_ok-event_inputs.ensures.gives;
      few_event_inputs = rw (length-map c.args.source.now.event_inputs.items tree.event_of) c.in_ok-limits.ensures.few_event_inputs;
      few_event_outputs = rw (length-map c.args.source.now.event_outputs.items tree.event_of) c.in_ok-limits.ensures.few_event_outputs;
      few_inputs = few_declared b.inputs (declared_in ins) 64 inputs c.in_ok-limits.ensures.few_inputs;
      few_outputs = few_declared b.outputs (declared_in outs) 64 outputs c.in_ok-limits.ensures.few_outputs;
      face = ap (λ xs. made xs (events_of c.in_ok-event_inputs.event_outputs)) c.in_ok-event_inputs.ensures.event_inputs ∙ ap (λ xs. made (map typed_event b.event_inputs) xs) c.in_ok-event_inputs.ensures.event_outputs;
    }
