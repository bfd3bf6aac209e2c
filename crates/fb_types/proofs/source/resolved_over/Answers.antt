use Rattle.std.proofs.Common.{◌≡◌, ◌≤◌, ◌++◌, [], map, length, sym, ap, subst, ◌∙◌}
use Rattle.std.specs.List.{AllByRecursion, Contains}
use Rattle.std.proofs.lemmas.List.{length-map}
use Rattle.std.proofs.lemmas.Result.{err_from_is_err_and}
use Rattle.fb_model.specs.Typing.{AreDistinct, AreNewNumbers}
use Rattle.fb_model.specs.NetworkTyping.{most_devices, IsProper, AreDevices, AreAlike, senders, all_services}
use Rattle.fb_tree.specs.Files as trees_of
use Rattle.fb_model.specs.BlockFaults.{IsRepetition, IsExcess}
use Rattle.fb_model.specs.NumberFaults.{IsChannelFault}
use Rattle.fb_model.specs.Nesting.{DevicesProvide}
use Rattle.fb_model.specs.SourceFaults.{IsFirstFault, faulty_declaration, repeated_device, excess_device, faulty_device, faulty_channels}
use Rattle.fb_types.specs.Made.{IsNamed}
use Rattle.fb_types.specs.Views.{device_of, system_offsets, all_offsets, system_uses}
use Rattle.fb_types.proofs.Systems.{device_words, device_names}
use Rattle.fb_types.proofs.Whole.{all_named}
use Rattle.fb_types.proofs.source.resolved_over.Goals as goal

pub returns-in_err-all_declared-clause-refused : goal.returns-in_err-all_declared-clause-refused
returns-in_err-all_declared-clause-refused c = λ library table memo distinct.
    let p = err_from_is_err_and c.from_residual.result c.from_residual.ensures.1 in
    let xs = c.args.source.now.blocks.items in
    let bs = map trees_of.block_of xs ++ library in
    let named = subst (λ l. AllByRecursion (IsNamed bs) (map trees_of.block_of l)) (sym c.deref.ensures.value) (all_named (map trees_of.block_of xs) library distinct) in
    let h = c.in_err-all_declared.ensures.refused bs table memo named in
    let f = c.in_err-all_declared.field-0.0 in
    rw (p.1, p.2) (faulty_declaration (subst (λ l. IsFirstFault bs (map trees_of.block_of l) f) c.deref.ensures.value h))

pub returns-in_err-at_most-clause-refused : goal.returns-in_err-at_most-clause-refused
returns-in_err-at_most-clause-refused c = λ library table memo distinct.
    let p = err_from_is_err_and c.from_residual-in_err-at_most.result c.from_residual-in_err-at_most.ensures.1 in
    let f = c.in_err-at_most.field-0.0 in
    rw (p.1, p.2) (excess_device (device_words (λ ws. IsExcess most_devices ws f) c.args.source.now.system.devices.items c.deref-2.result.now c.deref-2.ensures.value c.in_err-at_most.ensures.refused))

pub returns-in_err-table-clause-refused : goal.returns-in_err-table-clause-refused
returns-in_err-table-clause-refused c = λ library table memo distinct.
    let p = err_from_is_err_and c.from_residual-in_err-table.result c.from_residual-in_err-table.ensures.1 in
    let f = c.in_err-table.field-0.0 in
    rw (p.1, p.2) (repeated_device (device_words (λ ws. IsRepetition [] ws f) c.args.source.now.system.devices.items c.deref-3.result.now c.deref-3.ensures.value c.in_err-table.ensures.refused))

pub returns-in_err-devices-clause-refused : goal.returns-in_err-devices-clause-refused
returns-in_err-devices-clause-refused c = λ library table memo distinct.
    let p = err_from_is_err_and c.from_residual-in_err-devices.result c.from_residual-in_err-devices.ensures.1 in
    let xs = c.args.source.now.blocks.items in
    let bs = map trees_of.block_of xs ++ library in
    let named = subst (λ l. AllByRecursion (IsNamed bs) (map trees_of.block_of l)) (sym c.deref.ensures.value) (all_named (map trees_of.block_of xs) library distinct) in
    let kept = c.in_ok-all_declared.ensures.kept bs table memo named in
    let h = c.in_err-devices.ensures.refused bs table kept in
    let proper = subst (λ l. AllByRecursion (IsProper bs) (map trees_of.block_of l)) c.deref.ensures.value (c.in_ok-all_declared.ensures.proper bs table memo named) in
    rw (p.1, p.2) (faulty_device proper (subst (λ l. Contains (map trees_of.device_of l) h.0) c.deref-4.ensures.value h.1) h.2)

pub returns-in_err-channels_alike-clause-refused : goal.returns-in_err-channels_alike-clause-refused
returns-in_err-channels_alike-clause-refused c = λ library table memo distinct.
    let p = err_from_is_err_and c.from_residual-in_err-channels_alike.result c.from_residual-in_err-channels_alike.ensures.1 in
    let xs = c.args.source.now.blocks.items in
    let bs = map trees_of.block_of xs ++ library in
    let named = subst (λ l. AllByRecursion (IsNamed bs) (map trees_of.block_of l)) (sym c.deref.ensures.value) (all_named (map trees_of.block_of xs) library distinct) in
    let kept = c.in_ok-all_declared.ensures.kept bs table memo named in
    let f = c.in_err-channels_alike.field-0.0 in
    let uses = subst (λ l. DevicesProvide bs (map trees_of.device_of l) (system_uses c.in_ok-devices.devices.items)) c.deref-4.ensures.value (c.in_ok-devices.ensures.uses bs table kept) in
    rw (p.1, p.2) (faulty_channels uses (subst (λ l. IsChannelFault (system_uses l) f) c.deref-5.ensures.value c.in_err-channels_alike.ensures.refused))

pub returns-clause-offsets : goal.returns-clause-offsets
returns-clause-offsets c = subst (λ l. system_offsets c.in_ok-devices.devices.items ≡ all_offsets (map trees_of.device_of l)) c.deref-4.ensures.value c.in_ok-devices.ensures.offsets

pub returns-clause-typed : goal.returns-clause-typed
returns-clause-typed c = λ library table memo distinct.
    let xs = c.args.source.now.blocks.items in
    let bs = map trees_of.block_of xs ++ library in
    let named = subst (λ l. AllByRecursion (IsNamed bs) (map trees_of.block_of l)) (sym c.deref.ensures.value) (all_named (map trees_of.block_of xs) library distinct) in
    let kept = c.in_ok-all_declared.ensures.kept bs table memo named in
    let ds = c.args.source.now.system.devices.items in
    record {
      names = distinct;
      blocks = subst (λ l. AllByRecursion (IsProper bs) (map trees_of.block_of l)) c.deref.ensures.value (c.in_ok-all_declared.ensures.proper bs table memo named);
      device_names = device_names AreDistinct ds c.deref-3.result.now c.deref-3.ensures.value c.in_ok-table.ensures.distinct;
      few = subst (λ n. n ≤ most_devices) (ap length c.deref-2.ensures.value ∙ sym (length-map ds trees_of.device_of)) c.in_ok-at_most.ensures.few;
      devices = subst (λ l. AreDevices bs (map trees_of.device_of l) (map device_of c.in_ok-devices.devices.items)) c.deref-4.ensures.value (c.in_ok-devices.ensures.typed bs table kept);
      channels = subst (λ l. AreAlike (all_services (map device_of l))) c.deref-5.ensures.value c.in_ok-channels_alike.ensures.alike;
      senders_differ = subst (λ l. AreNewNumbers [] (senders (all_services (map device_of l)))) c.deref-5.ensures.value c.in_ok-channels_alike.ensures.senders;
    }
