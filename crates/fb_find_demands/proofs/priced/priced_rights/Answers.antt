use Rattle.std.proofs.Common.{◌≡◌, false, ap, ◌∙◌, map, Vec, Bor}
use Rattle.std.specs.declared.alloc.Global.{Global}
use Rattle.fb_flat.specs.declared.flat.Leaf.{Leaf}
use Rattle.fb_model.specs.Certificates.{all_leaves}
use Rattle.fb_model.specs.Columns.{demands}
use Rattle.fb_ranges.specs.Views.{spans_of}
use Rattle.fb_find_demands.specs.declared.right.Right.{Right}
use Rattle.fb_find_demands.specs.Rights.{numbered, rights_of}
use Rattle.fb_find_demands.specs.Leaves.{leaves_under}
use Rattle.fb_find_demands.specs.Prices.{priced}
use Rattle.fb_find_demands.proofs.Answering.{ok_is}
use Rattle.fb_find_demands.proofs.Costs.{priced_same}
use Rattle.fb_find_demands.proofs.priced.priced_rights.Goals as goal

pub returns : goal.returns
returns c = λ s a z ranges t h.
    let n = c.args.numbering.now in
    let fs = c.args.flat.now.devices.items in
    let ts = map spans_of c.args.tables.now in
    let ls = map (λ (l : Bor Leaf). l.now) c.as_slice-2.result.now in
    let are : ls ≡ leaves_under fs = ap (map (λ (l : Bor Leaf). l.now)) c.as_slice-2.ensures.value ∙ c.in_ok-leaves.ensures ∙ ap leaves_under c.as_slice.ensures.value in
    ok_is (λ (v : Vec Right Global). rights_of v.items) (priced n false ls ts) (numbered n (demands 1 ranges (all_leaves s.devices)))
    (ap (λ xs. priced n false xs ts) are ∙ priced_same n ranges fs s.devices ts a z t h) c.priced_leaves.result c.priced_leaves.ensures
