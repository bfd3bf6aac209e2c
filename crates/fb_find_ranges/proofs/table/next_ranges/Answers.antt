use Rattle.fb_words.specs.declared.elem_type.ElemType.TheVariants as t
use Rattle.fb_model.specs.Spans.{whole}
use Rattle.std.proofs.Common.{◌∙◌, map}
use Rattle.fb_ranges.specs.Views.{spans_of}
use Rattle.fb_find_ranges.specs.Views.{line_of}
use Rattle.fb_find_ranges.proofs.Again.{put_again}
use Rattle.fb_find_ranges.proofs.table.next_ranges.Goals as goal

pub returns : goal.returns
returns c =
    c.in_ok-put.ensures ∙ put_again (map line_of c.args.old.now.rows.items) (map line_of c.args.rows.now) (λ x. whole t.Lint) (spans_of c.in_ok-ranges.ranges) c.requires.names c.in_ok-ranges.ensures
