use Rattle.std.proofs.Common.{map}
use Rattle.fb_types_blocks.specs.Views.{variables_of}
use Rattle.fb_flat.specs.Tables.{source_at}
use Rattle.fb_find_ranges.specs.Lines.{first_from}
use Rattle.fb_find_ranges.specs.Views.{line_of}
use Rattle.fb_find_ranges.proofs.Entries.{next_row}
use Rattle.fb_find_ranges.proofs.first.add_rows.Goals as goal

pub loop-index-preserved : goal.loop-index-preserved
loop-index-preserved c =
    next_row (first_from (variables_of c.args.inputs.now) (source_at c.args.sources.now)) c.args.variables.now.entries c.loop-index.index (c.in-Some.name.now, c.in-Some.variable.now) c.loop-index.rows.items c.push.new.self.items (map line_of c.args.rows.now.items) c.row_first.result c.as_str.result.now
    c.in-Some.ensures.entry c.as_str.ensures.value c.in_ok-push.ensures.items c.row_first.ensures c.loop-index.invariant
