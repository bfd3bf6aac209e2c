use Rattle.std.proofs.Common.{◌≡◌, map, ap, ◌∙◌, Bor, string_bytes}
use Rattle.fb_model.specs.Certificates.{all_leaves, channels_of, with_repeats}
use Rattle.fb_types_blocks.specs.Views.{names_of}
use Rattle.fb_flat.specs.declared.flat.Leaf.{Leaf}
use Rattle.fb_check_rows.specs.Texts.{texts_of}
use Rattle.fb_check_rows.specs.declared.kind.RowKind.TheVariants.{Charge, Weight}
use Rattle.fb_check_rows.proofs.Members.{gathered_same}
use Rattle.fb_find_demands.specs.Leaves.{leaves_under}
use Rattle.fb_find_demands.specs.Ends.{channels_in, end_in}
use Rattle.fb_find_demands.proofs.Rows.{apart_texts, rows_are}
use Rattle.fb_find_demands.proofs.Systems.{all_are}
use Rattle.fb_find_demands.proofs.Ends.{channels_are, ends_are}
use Rattle.fb_find_demands.proofs.nodes.numbering.Goals as goal

pub returns-clause-rows : goal.returns-clause-rows
returns-clause-rows c = λ s a w.
    let fs = c.args.flat.now.devices.items in
    let are : map (λ (l : Bor Leaf). l.now) c.as_slice-2.result.now ≡ leaves_under fs = ap (map (λ (l : Bor Leaf). l.now)) c.as_slice-2.ensures.value ∙ c.in_ok-leaves.ensures ∙ ap leaves_under c.as_slice.ensures.value in
    let channels : c.in_ok-channels.channels.items ≡ with_repeats c.args.repeats (channels_of (all_leaves s.devices)) =
    c.in_ok-channels.ensures ∙ ap (λ ls. with_repeats c.args.repeats (channels_in ls)) are ∙ ap (with_repeats c.args.repeats) (channels_are (leaves_under fs) (all_leaves s.devices) (all_are fs s.devices a)) in
    rows_are c.args.repeats fs s.devices (names_of c.in_ok-states.states) (names_of c.in_ok-events.events) c.in_ok-channels.channels.items a w (gathered_same (names_of c.in_ok-states.states) (texts_of Charge fs) c.in_ok-states.ensures.rows)
    (gathered_same (names_of c.in_ok-events.events) (texts_of Weight fs) c.in_ok-events.ensures.rows) (apart_texts c.in_ok-states.states.keys c.len.ensures.unique) (apart_texts c.in_ok-events.events.keys c.len-2.ensures.unique) channels

pub returns-clause-ends : goal.returns-clause-ends
returns-clause-ends c = λ s a.
    let fs = c.args.flat.now.devices.items in
    let are : map (λ (l : Bor Leaf). l.now) c.as_slice-3.result.now ≡ leaves_under fs = ap (map (λ (l : Bor Leaf). l.now)) c.as_slice-3.ensures.value ∙ c.in_ok-leaves.ensures ∙ ap leaves_under c.as_slice.ensures.value in
    ends_are (leaves_under fs) (all_leaves s.devices) (all_are fs s.devices a) (map string_bytes c.in_ok-ends.ends.items) c.in_ok-channels.channels.items
    (c.in_ok-ends.ensures ∙ ap (λ ls. map (end_in ls) c.as_slice-4.result.now) are ∙ ap (map (end_in (leaves_under fs))) c.as_slice-4.ensures.value)
