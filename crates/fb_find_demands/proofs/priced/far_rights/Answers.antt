use Rattle.std.proofs.Common.{◌≡◌, ◌++◌, ap, ap₂, ◌∙◌, map, true, Bor}
use Rattle.fb_flat.specs.declared.flat.Leaf.{Leaf}
use Rattle.fb_ranges.specs.Views.{spans_of}
use Rattle.fb_find_demands.specs.Channels.{channels_ask}
use Rattle.fb_find_demands.specs.Rights.{numbered}
use Rattle.fb_find_demands.specs.Leaves.{leaves_under}
use Rattle.fb_find_demands.specs.Prices.{priced}
use Rattle.fb_find_demands.proofs.Costs.{far_same}
use Rattle.fb_find_demands.proofs.priced.far_rights.Goals as goal

pub returns : goal.returns
returns c = λ s a z e ranges t h.
    let n = c.args.numbering.now in
    let fs = c.args.flat.now.devices.items in
    let ts = map spans_of c.args.tables.now in
    let first : map (λ (l : Bor Leaf). l.now) c.as_slice-2.result.now ≡ leaves_under fs = ap (map (λ (l : Bor Leaf). l.now)) c.as_slice-2.ensures.value ∙ c.in_ok-leaves.ensures ∙ ap leaves_under c.as_slice.ensures.value in
    let second : map (λ (l : Bor Leaf). l.now) c.as_slice-3.result.now ≡ leaves_under fs = ap (map (λ (l : Bor Leaf). l.now)) c.as_slice-3.ensures.value ∙ c.in_ok-leaves.ensures ∙ ap leaves_under c.as_slice.ensures.value in
    c.in_ok-add_channels.ensures
    ∙ ap₂ (λ xs ys. xs ++ numbered n (channels_ask c.args.repeats ys n.channels.items)) (c.in_ok-rights.ensures ∙ ap (λ xs. priced n true xs ts) first) second
    ∙ far_same n c.args.repeats ranges fs s.devices ts a z e t h
