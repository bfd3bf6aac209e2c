use Rattle.std.proofs.Common.{◌≡◌, subst, string_bytes, Global}
use Rattle.std.specs.declared.string.String.{String}
use Rattle.std.specs.declared.vec.Vec.{Vec}
use Rattle.std.proofs.lemmas.Result.{err_from_is_err_and}
use Rattle.fb_model.specs.Names.{Name}
use Rattle.fb_check_columns.specs.Columns.{crossing_need}
use Rattle.fb_check_columns.specs.Reckoning.{table_names}
use Rattle.fb_check_columns.specs.Paying.{InputPays, IsWeight, Pays}
use Rattle.fb_check_columns.proofs.Each.{all_more, one_weight, got_at}
use Rattle.fb_check_columns.proofs.Values.{image_got}
use Rattle.fb_check_columns.proofs.chart.inputs_pay.Goals as goal

pub returns-in_err-weighed : goal.returns-in_err-weighed
returns-in_err-weighed c =
    let p = err_from_is_err_and c.from_residual.result c.from_residual.ensures.1 in
    let rows = c.args.rows.now in
    let table = rows.block.now.face.event_inputs in
    let i = c.loop-index.index in
    let x = string_bytes c.in-Some.event.now in
    let entry : String Global × Vec (String Global) Global = (c.in-Some.event.now, c.in-Some.field-0-1.now) in
    let g = got_at (λ p. string_bytes p.0) table.entries i entry c.in-Some.ensures.entry in
    let v = crossing_need rows.column c.args.next in
    let weight = c.weight_at.ensures.value x (image_got (λ p. string_bytes p.0) table.entries i entry c.in-Some.ensures.entry) in
    let pays = InputPays rows.column rows.certificate.now rows.path.now c.args.next in
    let e = c.in_err-weighed.field-0.0 in
    let named = subst (λ (z : Name). IsWeight rows.path.now (λ y. (z ≡ y) × (Pays c.weight_at.result v → ⊥)) e) c.as_str.ensures.value (c.in_err-weighed.ensures v c.crossing-need.ensures) in
    rw (p.1, p.2) (one_weight rows.path.now (λ (z : Name). z) pays (table_names table) i x e g.0 g.1 (subst (λ m. IsWeight rows.path.now (λ y. (x ≡ y) × (Pays m v → ⊥)) e) weight named))

pub loop-index-preserved : goal.loop-index-preserved
loop-index-preserved c =
    let rows = c.args.rows.now in
    let table = rows.block.now.face.event_inputs in
    let i = c.loop-index.index in
    let x = string_bytes c.in-Some.event.now in
    let entry : String Global × Vec (String Global) Global = (c.in-Some.event.now, c.in-Some.field-0-1.now) in
    let g = got_at (λ p. string_bytes p.0) table.entries i entry c.in-Some.ensures.entry in
    let v = crossing_need rows.column c.args.next in
    let weight = c.weight_at.ensures.value x (image_got (λ p. string_bytes p.0) table.entries i entry c.in-Some.ensures.entry) in
    let pays = InputPays rows.column rows.certificate.now rows.path.now c.args.next in
    all_more pays (table_names table) i x g.0 g.1 c.loop-index.invariant (subst (λ m. Pays m v) weight (c.in_ok-weighed.ensures v c.crossing-need.ensures))
