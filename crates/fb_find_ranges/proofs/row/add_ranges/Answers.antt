use denote.Ref.{Bor}
use Rattle.std.proofs.Common.{◌≡◌, map, ap, ◌∙◌}
use Rattle.fb_flat.specs.declared.flat.Leaf.{Leaf}
use Rattle.fb_ranges.specs.Views.{spans_of}
use Rattle.fb_cert.specs.Views.{rows_of}
use Rattle.fb_find_ranges.specs.AddedRows.{adding, all_rows, flat_leaves}
use Rattle.fb_find_ranges.proofs.Added.{ranges_added}
use Rattle.std.proofs.lemmas.Result.{on_ok_weaker}
use Rattle.fb_find_ranges.proofs.row.add_ranges.Goals as goal

pub returns : goal.returns
returns c =
    λ s are plain up apart none many.
    let all : map (λ (l : Bor Leaf). l.now) c.in_ok-leaves.leaves.items ≡ flat_leaves c.args.flat.now.devices.items = c.in_ok-leaves.ensures ∙ ap flat_leaves c.as_slice.ensures.value in
    let leaves = ap (λ (xs : _). map (λ (l : Bor Leaf). l.now) xs) c.as_slice-2.ensures.value ∙ all in
    on_ok_weaker c.add_leaves.result
    (λ e. ranges_added c.args.flat.now.devices.items s (map spans_of c.args.tables.now) (rows_of c.args.certificate.now) (rows_of c.add_leaves.new.certificate) are plain up apart none many
    (e ∙ ap (λ ls. adding (all_rows (map spans_of c.args.tables.now) ls) (rows_of c.args.certificate.now)) leaves))
    c.add_leaves.ensures
