use Rattle.std.proofs.Common.{◌≡◌, ap, ◌∙◌, map, false, [], Vec, Bor}
use Rattle.std.specs.List.{flat_map}
use Rattle.std.specs.declared.alloc.Global.{Global}
use Rattle.fb_flat.specs.declared.flat.Leaf.{Leaf}
use Rattle.fb_model.specs.Certificates.{all_leaves}
use Rattle.fb_model.specs.Demands.{bare_demands}
use Rattle.fb_model.specs.Columns.{demands}
use Rattle.fb_find_demands.specs.declared.right.Right.{Right}
use Rattle.fb_find_demands.specs.Rights.{numbered, rights_of}
use Rattle.fb_find_demands.specs.Leaves.{leaves_under, leaf_rights}
use Rattle.fb_find_demands.proofs.Answering.{ok_is}
use Rattle.fb_find_demands.proofs.Systems.{bare_same, places_same}
use Rattle.fb_find_demands.proofs.plain.plain_rights.Goals as goal

pub returns-clause-bare : goal.returns-clause-bare
returns-clause-bare c = λ s a z u.
    let n = c.args.numbering.now in
    let fs = c.args.flat.now.devices.items in
    let ls = map (λ (l : Bor Leaf). l.now) c.as_slice-2.result.now in
    let are : ls ≡ leaves_under fs = ap (map (λ (l : Bor Leaf). l.now)) c.as_slice-2.ensures.value ∙ c.in_ok-leaves.ensures ∙ ap leaves_under c.as_slice.ensures.value in
    ok_is (λ (v : Vec Right Global). rights_of v.items) (flat_map (leaf_rights n c.args.unit false []) ls) (numbered n (bare_demands (all_leaves s.devices)))
    (ap (λ k. flat_map (leaf_rights n k false []) ls) u ∙ ap (flat_map (leaf_rights n 1 false [])) are ∙ bare_same n fs s.devices a z) c.plain_leaves.result c.plain_leaves.ensures

pub returns-clause-places : goal.returns-clause-places
returns-clause-places c = λ s a z u ranges.
    let n = c.args.numbering.now in
    let fs = c.args.flat.now.devices.items in
    let ls = map (λ (l : Bor Leaf). l.now) c.as_slice-2.result.now in
    let are : ls ≡ leaves_under fs = ap (map (λ (l : Bor Leaf). l.now)) c.as_slice-2.ensures.value ∙ c.in_ok-leaves.ensures ∙ ap leaves_under c.as_slice.ensures.value in
    ok_is (λ (v : Vec Right Global). rights_of v.items) (flat_map (leaf_rights n c.args.unit false []) ls) (numbered n (demands 0 ranges (all_leaves s.devices)))
    (ap (λ k. flat_map (leaf_rights n k false []) ls) u ∙ ap (flat_map (leaf_rights n 0 false [])) are ∙ places_same n ranges fs s.devices a z) c.plain_leaves.result c.plain_leaves.ensures
