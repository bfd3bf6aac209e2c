use Rattle.std.proofs.Common.{◌≡◌, ◌+◌, ◌≤◌, ◌++◌, ◌∷◌, [], List, take, map, sym, ap, subst, ◌∙◌, arith}
use Rattle.std.specs.List.{AllByRecursion, Any}
use Rattle.std.proofs.lemmas.List.{map_push}
use Rattle.std.proofs.lemmas.Result.{err_from_is_err_and}
use Rattle.fb_model.specs.System as book
use Rattle.fb_model.proofs.Lists.{all_append}
use Rattle.fb_types.specs.declared.typed.Resource.{Resource}
use Rattle.fb_types.specs.declared.typed.Device.{Device}
use Rattle.fb_types.specs.Views.{device_of}
use Rattle.fb_model.specs.Wires.{resource_count, most_followed}
use Rattle.fb_flat.specs.Leaves.{IsFull, flat_device, written_device}
use Rattle.fb_flat.proofs.Systems.{any_here, limit_weaker, mapped_more}
use Rattle.fb_flat.proofs.leaves.flat_devices.Goals as goal

pub returns-in_err-device-clause-refused : goal.returns-in_err-device-clause-refused
returns-in_err-device-clause-refused c =
    let ds = c.args.typed.now.devices.items in
    let k = c.loop-source.source-index in
    let d = c.source-item.result in
    let p = err_from_is_err_and c.from_residual.result c.from_residual.ensures.1 in
    rw (p.1, p.2) (limit_weaker (λ at. Any (λ (r : Resource). IsFull r at) d.resources.items) _ c.in_err-device.field-0.0
    (λ at h. any_here (λ (e : Device). Any (λ (r : Resource). IsFull r at) e.resources.items) ds k d (omega arith) (cc) h) c.in_err-device.ensures.refused)

pub loop-source-preserved : goal.loop-source-preserved
loop-source-preserved c =
    let ds = c.args.typed.now.devices.items in
    let fs = c.loop-source.devices.items in
    let k = c.loop-source.source-index in
    let d = c.source-item.result in
    let f = c.in_ok-device.field-0 in
    let more : map device_of (take (k + 1) ds) ≡ map device_of (take k ds) ++ device_of d ∷ [] = mapped_more device_of ds k d (omega arith) (cc) in
    record {
      leaves =
          ap (map flat_device) c.in_ok-push.ensures.items ∙ map_push flat_device fs f
          ∙ ap (λ ws. ws ++ flat_device f ∷ []) c.loop-source.invariant.leaves
          ∙ ap (λ w. map written_device (map device_of (take k ds)) ++ w ∷ []) c.in_ok-device.ensures.written
          ∙ sym (ap (map written_device) more ∙ map_push written_device (map device_of (take k ds)) (device_of d));
      few =
          subst (λ (es : List book.Device). AllByRecursion (λ (e : book.Device). AllByRecursion (λ (r : book.Resource). resource_count r ≤ most_followed) e.resources) es) (sym more)
          (all_append (λ (e : book.Device). AllByRecursion (λ (r : book.Resource). resource_count r ≤ most_followed) e.resources) (map device_of (take k ds)) (device_of d ∷ []) c.loop-source.invariant.few (c.in_ok-device.ensures.few, tt));
    }
