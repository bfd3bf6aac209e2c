use Rattle.std.proofs.Common.{◌≡◌, map, length, refl, sym, ap, ◌∙◌, string_bytes}
use Rattle.std.proofs.lemmas.List.{length-map}
use Rattle.fb_model.specs.Certificates.{all_leaves, steps_of}
use Rattle.fb_model.specs.CertificateText.{most_steps}
use Rattle.fb_model.specs.Columns.{number_of}
use Rattle.fb_model.specs.Demands.{bare_demands}
use Rattle.fb_types_blocks.specs.Views.{names_of}
use Rattle.fb_find_demands.specs.Rights.{rights_of, numbered}
use Rattle.fb_find.specs.Columns.{AreSmallest}
use Rattle.fb_model_turns.specs.Turns.{added}
use Rattle.fb_turns.specs.Counting.{all_right, counts_in, AreLeastCounts}
use Rattle.fb_turns.proofs.Counted.{counted}
use Rattle.fb_turns.proofs.Ready.{closed, all_column, all_meet, small, all_least}
use Rattle.fb_check_rows.proofs.Loops.{ok_weaker}
use Rattle.fb_turns.proofs.turns.all_counts.Goals as goal

pub least-requires : goal.least-requires
least-requires c =
    let s = c.requires.0 in
    let cert = c.requires.1 in
    let i = c.requires.2 in
    let n = c.args.numbering.now in
    let fs = c.args.flat.now.devices.items in
    let o = c.args.order.now in
    let asked = rights_of c.in_ok-asked.asked.items in
    let many : c.len.result ≡ length (names_of n.states) = c.len.ensures.len ∙ sym (length-map n.states.keys string_bytes) in
    let bare : asked ≡ numbered n (bare_demands (all_leaves s.devices)) = c.in_ok-asked.ensures.bare s i.numbered.given.tables (closed fs n o s cert i) refl in
    let read : rights_of c.in_ok-rights.rights.items ≡ map (all_right (length (names_of n.states))) asked =
    c.in_ok-rights.ensures ∙ ap (λ k. map (all_right k) (rights_of c.as_slice.result.now)) many ∙ ap (λ rs. map (all_right (length (names_of n.states))) (rights_of rs)) c.as_slice.ensures.value in
    (map (counted n) (bare_demands (all_leaves s.devices)), number_of (steps_of cert), all_column fs n o s cert i asked (rights_of c.in_ok-rights.rights.items) bare read, all_meet fs n o s cert i, small fs n o s cert i)

pub returns : goal.returns
returns c = λ s cert i.
    let n = c.args.numbering.now in
    let fs = c.args.flat.now.devices.items in
    let o = c.args.order.now in
    let asked = rights_of c.in_ok-asked.asked.items in
    let ds = map (counted n) (bare_demands (all_leaves s.devices)) in
    let many : c.len.result ≡ length (names_of n.states) = c.len.ensures.len ∙ sym (length-map n.states.keys string_bytes) in
    let bare : asked ≡ numbered n (bare_demands (all_leaves s.devices)) = c.in_ok-asked.ensures.bare s i.numbered.given.tables (closed fs n o s cert i) refl in
    let read : rights_of c.in_ok-rights.rights.items ≡ map (all_right (length (names_of n.states))) asked =
    c.in_ok-rights.ensures ∙ ap (λ k. map (all_right k) (rights_of c.as_slice.result.now)) many ∙ ap (λ rs. map (all_right (length (names_of n.states))) (rights_of rs)) c.as_slice.ensures.value in
    ok_weaker (λ v. AreSmallest n ds most_steps v.items) (λ v. AreLeastCounts added s (counts_in n v.items)) (λ v k. all_least fs n o s cert i v.items k) c.least.result
    (c.least.ensures ds (all_column fs n o s cert i asked (rights_of c.in_ok-rights.rights.items) bare read))
