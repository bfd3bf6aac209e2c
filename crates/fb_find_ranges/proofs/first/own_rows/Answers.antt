use Rattle.std.proofs.Common.{◌≡◌, ◌∙◌, map, sym, ap, Vec, Global}
use Rattle.std.proofs.lemmas.Result.{IfOk-weaker}
use Rattle.fb_model.specs.Store.{inputs}
use Rattle.fb_model.specs.Wires.{Kind, Charted}
use Rattle.fb_types_blocks.specs.Views.{block_of}
use Rattle.fb_flat.specs.Leaves.{kind_of}
use Rattle.fb_flat.specs.Tables.{source_at}
use Rattle.fb_find_ranges.specs.declared.rows.Row.{Row}
use Rattle.fb_find_ranges.specs.Lines.{first_from, lines_by}
use Rattle.fb_find_ranges.specs.Views.{line_of}
use Rattle.fb_find_ranges.proofs.first.own_rows.Goals as goal

pub returns-in-Basic : goal.returns-in-Basic
returns-in-Basic c =
    let source = source_at c.args.leaf.now.inputs.items in
    let kind = kind_of c.args.leaf.now.body in
    let own = Charted (block_of c.in-Basic.block.value) in
    IfOk-weaker c.block_rows.result (λ (v : Vec Row Global). map line_of v.items ≡ lines_by (first_from (inputs own) source) own) (λ (v : Vec Row Global). map line_of v.items ≡ lines_by (first_from (inputs kind) source) kind)
    (λ v e. e ∙ ap (λ (k : Kind). lines_by (first_from (inputs k) source) k) (sym (ap kind_of c.in-Basic.is))) (rw (c.as_slice.ensures.value, c.deref.ensures) at c.block_rows.ensures)
