use Rattle.std.proofs.Common.{◌≡◌, ◌++◌, ap, ap₂, ◌∙◌, map, true, [], Bor}
use Rattle.std.specs.List.{flat_map}
use Rattle.fb_flat.specs.declared.flat.Leaf.{Leaf}
use Rattle.fb_find_demands.specs.Channels.{channels_ask}
use Rattle.fb_find_demands.specs.Rights.{numbered}
use Rattle.fb_find_demands.specs.Leaves.{leaves_under, leaf_rights}
use Rattle.fb_find_demands.proofs.Systems.{network_same}
use Rattle.fb_find_demands.proofs.plain.network_rights.Goals as goal

pub returns : goal.returns
returns c = λ s a z e.
    let n = c.args.numbering.now in
    let fs = c.args.flat.now.devices.items in
    let first : map (λ (l : Bor Leaf). l.now) c.as_slice-2.result.now ≡ leaves_under fs = ap (map (λ (l : Bor Leaf). l.now)) c.as_slice-2.ensures.value ∙ c.in_ok-leaves.ensures ∙ ap leaves_under c.as_slice.ensures.value in
    let second : map (λ (l : Bor Leaf). l.now) c.as_slice-3.result.now ≡ leaves_under fs = ap (map (λ (l : Bor Leaf). l.now)) c.as_slice-3.ensures.value ∙ c.in_ok-leaves.ensures ∙ ap leaves_under c.as_slice.ensures.value in
    c.in_ok-add_channels.ensures
    ∙ ap₂ (λ xs ys. xs ++ numbered n (channels_ask 1 ys n.channels.items)) (c.in_ok-rights.ensures ∙ ap (flat_map (leaf_rights n 1 true [])) first) second
    ∙ network_same n fs s.devices a z e
