-- Where too many connections are followed, it is at a resource of the source.
use Rattle.std.proofs.Common.{◌≡◌, ◌∙◌, ℕ, List, [], ◌∷◌, map, sym, subst}
use Rattle.std.specs.List.{Any}
use Rattle.fb_model.specs.Declarations.{ResourceTree, DeviceTree, SourceTree}
use Rattle.fb_model.specs.EventBlocks.{Elaborates}
use Rattle.fb_types_blocks.proofs.Faultless.{any_nil, any_cons}
use Rattle.fb_types_blocks.proofs.Refused.{either_of}
use Rattle.fb_types.specs.declared.typed.Resource.{Resource}
use Rattle.fb_types.specs.declared.typed.Device.{Device}
use Rattle.fb_types.specs.declared.typed.Configuration.{Configuration}
use Rattle.fb_types.specs.Views.{resource_of, device_of, system_of, resource_offsets, system_offsets, offsets_in, all_offsets}
use Rattle.fb_model.specs.SourceFaults.{AnyCrowded, this_resource, later_resource, SomeCrowded, this_device, later_device, IsCrowdedSource}
use Rattle.fb_flat.specs.Leaves.{IsFull}

resources_crowded : (rs : List ResourceTree) (qs : List Resource) (at : ℕ) → resource_offsets qs ≡ offsets_in rs → Any (λ q. IsFull q at) qs → AnyCrowded rs (map resource_of qs) at
resources_crowded rs [] at e a = absurd (any_nil a)
resources_crowded [] (q ∷ qs) at e a = absurd cc
resources_crowded (r ∷ rs) (q ∷ qs) at e a =
    let here : q.at ≡ r.name.at = cc in
    let more : resource_offsets qs ≡ offsets_in rs = cc in
    either_of (λ (h : IsFull q at). subst (AnyCrowded (r ∷ rs) (map resource_of (q ∷ qs))) (sym here ∙ sym h.1) (this_resource h.0)) (λ b. later_resource (resources_crowded rs qs at more b)) (any_cons q qs a)

pub devices_crowded : (ts : List DeviceTree) (ds : List Device) (at : ℕ) → system_offsets ds ≡ all_offsets ts → Any (λ d. Any (λ q. IsFull q at) d.resources.items) ds → SomeCrowded ts (map device_of ds) at
devices_crowded ts [] at e a = absurd (any_nil a)
devices_crowded [] (d ∷ ds) at e a = absurd cc
devices_crowded (t ∷ ts) (d ∷ ds) at e a =
    let here : resource_offsets d.resources.items ≡ offsets_in t.resources = cc in
    let more : system_offsets ds ≡ all_offsets ts = cc in
    either_of (λ b. this_device (resources_crowded t.resources d.resources.items at here b)) (λ b. later_device (devices_crowded ts ds at more b)) (any_cons d ds a)

-- the law
pub crowded_at : (source : SourceTree) (typed : Configuration) (at : ℕ) → Elaborates source (system_of typed) → system_offsets typed.devices.items ≡ all_offsets source.system.devices → Any (λ d. Any (λ r. IsFull r at) d.resources.items) typed.devices.items → IsCrowdedSource source at
crowded_at source typed at h e a = record { system = system_of typed; typed = h; crowded = devices_crowded source.system.devices typed.devices.items at e a }
