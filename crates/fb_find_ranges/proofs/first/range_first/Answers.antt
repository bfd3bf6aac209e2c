use Rattle.std.proofs.Common.{◌≡◌, Bool, true, false, sym, ap, subst, ◌∙◌}
use Rattle.std.specs.Prelude.{if◌then◌else◌}
use Rattle.fb_model.specs.Names.{Name, is_in}
use Rattle.fb_model.specs.Values.{Value, numbers_of}
use Rattle.fb_model.specs.System as book
use Rattle.fb_model.specs.System.{start_of}
use Rattle.fb_model.specs.Store.{variable_names, first_input}
use Rattle.fb_model.specs.BlockTyping.{variable_of}
use Rattle.fb_model.specs.Wires.{Source}
use Rattle.fb_model.specs.FinderRanges.{held}
use Rattle.fb_types_blocks.specs.Views.{declared_of, variables_of}
use Rattle.fb_flat.specs.Tables.{source_at}
use Rattle.fb_check_ranges.specs.Beginning.{IsRange}
use Rattle.fb_ranges_intervals.specs.Views.{span_of}
use Rattle.fb_find_ranges.proofs.Entries.{found_named}
use Rattle.fb_find_ranges.proofs.Ranging.{range_is}
use Rattle.fb_find_ranges.proofs.first.range_first.Goals as goal

pub returns-then-contains_key : goal.returns-then-contains_key
returns-then-contains_key c =
    let x : Name = c.args.name.now in
    let v : book.Variable = variable_of (declared_of x c.args.variable.now) in
    let value : Value = first_input (source_at c.args.sources.now x) (start_of v) in
    let first : IsRange (span_of c.first_range.result) value = subst (λ (s : Source). IsRange (span_of c.first_range.result) (first_input s (start_of v))) c.source_named.ensures (c.first_range.ensures x) in
    let named : is_in x (variable_names (variables_of c.args.inputs.now)) ≡ true = sym (found_named x c.args.inputs.now.entries) ∙ (sym c.contains_key.ensures ∙ c.if-contains_key.true) in
    range_is (span_of c.first_range.result) value first ∙ ap (λ (b : Bool). held (numbers_of (if b then value else start_of v))) (sym named)

pub returns-else-contains_key : goal.returns-else-contains_key
returns-else-contains_key c =
    let x : Name = c.args.name.now in
    let v : book.Variable = variable_of (declared_of x c.args.variable.now) in
    let value : Value = first_input (source_at c.args.sources.now x) (start_of v) in
    let named : is_in x (variable_names (variables_of c.args.inputs.now)) ≡ false = sym (found_named x c.args.inputs.now.entries) ∙ (sym c.contains_key.ensures ∙ c.if-contains_key.false) in
    range_is (span_of c.start_range.result) (start_of v) (c.start_range.ensures x) ∙ ap (λ (b : Bool). held (numbers_of (if b then value else start_of v))) (sym named)
