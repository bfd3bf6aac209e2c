use denote.Ref.{Bor}
use Rattle.std.proofs.Common.{sym, ap, ◌∙◌}
use Rattle.std.specs.Option.{option_map}
use Rattle.fb_flat.specs.declared.flat.Leaf.{Leaf}
use Rattle.fb_ranges_intervals.specs.Views.{span_of}
use Rattle.fb_check_ranges.proofs.Placing.{lies_there, lies_nowhere}
use Rattle.fb_check_ranges.proofs.link.output_lies.Goals as goal

pub returns-in_ok-leaf_row-in-Some : goal.returns-in_ok-leaf_row-in-Some
returns-in_ok-leaf_row-in-Some c =
    λ ls h.
    let found = sym (h c.args.path.now) ∙ ap (option_map (λ (l : Bor Leaf). l.now)) (sym c.in-Some.ensures.value) in
    lies_there c.args.certificate.now ls c.args.path.now c.args.name.now (span_of c.args.row) c.in-Some.leaf.now.now (span_of c.in_ok-leaf_row-in-Some.field-0) c.is_within.result found c.is_within.ensures c.in_ok-leaf_row-in-Some.ensures

pub returns-in-None : goal.returns-in-None
returns-in-None c =
    λ ls h.
    let found = sym (h c.args.path.now) ∙ ap (option_map (λ (l : Bor Leaf). l.now)) (sym c.in-None.ensures.value) in
    lies_nowhere c.args.certificate.now ls c.args.path.now c.args.name.now (span_of c.args.row) found
