use Rattle.std.proofs.Common.{◌≡◌, ◌++◌, ◌∷◌, [], map, take, refl, sym, ap, subst, ◌∙◌}
use Rattle.std.proofs.lemmas.Result.{err_from_is_err_and}
use Rattle.std.proofs.lemmas.List.{take_all, map_push}
use Rattle.fb_model.specs.NetworkTyping.{AreDevices, no_device}
use Rattle.fb_tree.specs.Files as trees_of
use Rattle.fb_types_blocks.proofs.Lists.{mapped_more}
use Rattle.fb_types.specs.Views.{device_of, system_offsets, all_offsets, device_uses, system_uses}
use Rattle.fb_model.specs.Nesting.{DevicesProvide, by_no_device}
use Rattle.fb_model.specs.SourceFaults.{no_memory_for_device}
use Rattle.fb_types.proofs.Nested.{among_at}
use Rattle.fb_types.proofs.Systems.{all_offsets_more, devices_more, devices_provide_more, system_uses_more}
use Rattle.fb_types.proofs.device.devices.Goals as goal

pub loop-source-init : goal.loop-source-init
loop-source-init c = record { offsets = rw c.new-devices.ensures.items refl; kept = λ bs table memo. memo; typed = λ bs table memo. rw c.new-devices.ensures.items no_device; uses = λ bs table memo. rw c.new-devices.ensures.items by_no_device }

pub returns-in_err-device-clause-refused : goal.returns-in_err-device-clause-refused
returns-in_err-device-clause-refused c = λ bs table memo.
    let p = err_from_is_err_and c.from_residual.result c.from_residual.ensures.1 in
    let x = c.source-item.result in
    let among = among_at trees_of.device_of c.args.sources.now c.loop-source.source-index x c.loop-source-test.true c.source-item.is in
    rw (p.1, p.2) (trees_of.device_of x, among, c.in_err-device.ensures.refused bs table (c.loop-source.invariant.kept bs table memo))

pub returns-in_err-push-clause-refused : goal.returns-in_err-push-clause-refused
returns-in_err-push-clause-refused c = λ bs table memo.
    let p = err_from_is_err_and c.from_residual-in_err-push.result c.from_residual-in_err-push.ensures.1 in
    let x = c.source-item.result in
    let among = among_at trees_of.device_of c.args.sources.now c.loop-source.source-index x c.loop-source-test.true c.source-item.is in
    rw (p.1, p.2) (trees_of.device_of x, among, no_memory_for_device refl)

pub loop-source-preserved : goal.loop-source-preserved
loop-source-preserved c =
    let xs = c.args.sources.now in
    let i = c.loop-source.source-index in
    let x = c.source-item.result in
    let made = c.loop-source.devices.items in
    let q = c.in_ok-device.field-0 in
    let next = sym (mapped_more trees_of.device_of xs i x c.loop-source-test.true c.source-item.is) in
    record {
      offsets = all_offsets_more made xs i x c.push.new.self.items q c.loop-source-test.true c.source-item.is c.in_ok-push.ensures.items c.loop-source.invariant.offsets c.in_ok-device.ensures.offsets;
      kept = λ bs table memo. c.in_ok-device.ensures.kept bs table (c.loop-source.invariant.kept bs table memo);
      typed = λ bs table memo.
          let one = c.in_ok-device.ensures.typed bs table (c.loop-source.invariant.kept bs table memo) in
          let more = devices_more bs (map trees_of.device_of (take i xs)) (map device_of made) (trees_of.device_of x) (device_of q) (c.loop-source.invariant.typed bs table memo) one in
          subst (λ l. AreDevices bs l (map device_of c.push.new.self.items)) next (subst (λ l. AreDevices bs (map trees_of.device_of (take i xs) ++ trees_of.device_of x ∷ []) l) (sym (ap (map device_of) c.in_ok-push.ensures.items ∙ map_push device_of made q)) more);
      uses = λ bs table memo.
          let one = c.in_ok-device.ensures.uses bs table (c.loop-source.invariant.kept bs table memo) in
          let more = devices_provide_more bs (map trees_of.device_of (take i xs)) (system_uses made) (trees_of.device_of x) (device_uses q.resources.items) (c.loop-source.invariant.uses bs table memo) one in
          subst (λ l. DevicesProvide bs l (system_uses c.push.new.self.items)) next (subst (λ l. DevicesProvide bs (map trees_of.device_of (take i xs) ++ trees_of.device_of x ∷ []) l) (sym (ap system_uses c.in_ok-push.ensures.items ∙ system_uses_more made q)) more);
    }

pub returns-clause-offsets : goal.returns-clause-offsets
returns-clause-offsets c =
    subst (λ l. system_offsets c.loop-source.devices.items ≡ all_offsets (map trees_of.device_of l)) (take_all c.loop-source.source-index c.args.sources.now c.loop-source-test.false) c.loop-source.invariant.offsets

pub returns-clause-typed : goal.returns-clause-typed
returns-clause-typed c = λ bs table memo.
    subst (λ l. AreDevices bs (map trees_of.device_of l) (map device_of c.loop-source.devices.items)) (take_all c.loop-source.source-index c.args.sources.now c.loop-source-test.false) (c.loop-source.invariant.typed bs table memo)

pub returns-clause-uses : goal.returns-clause-uses
returns-clause-uses c = λ bs table memo.
    subst (λ l. DevicesProvide bs (map trees_of.device_of l) (system_uses c.loop-source.devices.items)) (take_all c.loop-source.source-index c.args.sources.now c.loop-source-test.false) (c.loop-source.invariant.uses bs table memo)
