use Rattle.std.proofs.Common.{◌≡◌, ◌++◌, ◌∷◌, [], map, take, sym, ap, ◌∙◌, string_bytes}
use Rattle.fb_types_blocks.proofs.Lists.{mapped_more}
use Rattle.fb_check_columns.specs.Reckoning.{weight_of, table_names}
use Rattle.fb_check_columns.proofs.Each.{got_at}
use Rattle.fb_check_columns.proofs.rows.weights.Goals as goal

pub loop-index-preserved : goal.loop-index-preserved
loop-index-preserved c =
    let f = weight_of c.args.column c.args.certificate.now c.args.path.now in
    let i = c.loop-index.index in
    let names = table_names c.args.inputs.now in
    let x = string_bytes c.in-Some.event.now in
    let g = got_at (λ p. string_bytes p.0) c.args.inputs.now.entries i (c.in-Some.event.now, c.in-Some.field-0-1.now) c.in-Some.ensures.entry in
    let n : c.in_ok-weight.weight ≡ f x = c.in_ok-weight.ensures.value ∙ ap f c.as_str.ensures.value in
    c.in_ok-push.ensures.items ∙ ap (λ xs. xs ++ c.in_ok-weight.weight ∷ []) c.loop-index.invariant ∙ ap (λ y. map f (take i names) ++ y ∷ []) n ∙ sym (mapped_more f names i x g.0 g.1)
