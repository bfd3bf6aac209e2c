use Rattle.std.proofs.Common.{◌≡◌, map, OnOk, sym, ap, subst, ◌∙◌, string_bytes}
use Rattle.fb_model.specs.Wires.{Charted}
use Rattle.fb_types_blocks.specs.Views.{names_of, block_of}
use Rattle.fb_check_rows.specs.Members.{gathered}
use Rattle.fb_check_rows.specs.Texts.{texts_in, row_names}
use Rattle.fb_check_rows.proofs.Tables.{state_names_are, event_names_are}
use Rattle.fb_check_rows.proofs.requirement.require_block.Goals as goal

pub returns-in-Charge-clause-rows : goal.returns-in-Charge-clause-rows
returns-in-Charge-clause-rows c =
    let b = c.args.block.now in
    let e : map (λ p. string_bytes p.0) b.states.entries ≡ row_names c.args.kind (Charted (block_of b)) = sym (state_names_are b.states.entries) ∙ ap (λ k. row_names k (Charted (block_of b))) (sym c.in-Charge.is) in
    subst (λ ns. OnOk c.require_table.result (names_of c.require_table.new.rows ≡ gathered (names_of c.args.rows.now) (texts_in c.args.path.now ns))) e c.require_table.ensures.rows

pub returns-in-Weight-clause-rows : goal.returns-in-Weight-clause-rows
returns-in-Weight-clause-rows c =
    let b = c.args.block.now in
    let e : map (λ p. string_bytes p.0) b.face.event_inputs.entries ≡ row_names c.args.kind (Charted (block_of b)) = sym (event_names_are b.face.event_inputs.entries) ∙ ap (λ k. row_names k (Charted (block_of b))) (sym c.in-Weight.is) in
    subst (λ ns. OnOk c.require_table-in-Weight.result (names_of c.require_table-in-Weight.new.rows ≡ gathered (names_of c.args.rows.now) (texts_in c.args.path.now ns))) e c.require_table-in-Weight.ensures.rows
