use Rattle.std.proofs.Common.{◌≡◌, ◌≤◌, ◌+◌, Some, ap, sym, subst, ◌∙◌, string_bytes}
use Rattle.fb_check_columns.specs.Sums.{IsSum}
use Rattle.fb_check_columns.specs.Columns.{unit_of}
use Rattle.fb_check_columns.specs.Reckoning.{charge_of, value_at, table_names}
use Rattle.fb_check_columns.specs.Paying.{SourcePays}
use Rattle.fb_check_columns.proofs.Each.{names_charge}
use Rattle.fb_check_columns.proofs.Values.{sum_at}
use Rattle.fb_check_columns.proofs.chart.source_pays.Goals as goal

pub returns-in_ok-most-in-None : goal.returns-in_ok-most-in-None
returns-in_ok-most-in-None c =
    λ ns h.
    let t = c.args.transition.now in
    let column = c.args.rows.now.column in
    let charge = charge_of column c.args.rows.now.certificate.now c.args.rows.now.path.now in
    let source = string_bytes t.source in
    let names = table_names c.args.rows.now.block.now.states in
    let own = value_at names ns 0 in
    let v = own source + unit_of column + charge (string_bytes t.target) in
    let same : c.at.result ≡ value_at names c.args.costs.now (Some 0) source = c.at.ensures ∙ ap (value_at names c.args.costs.now (Some 0)) c.as_str-source.ensures.value in
    let costs : IsSum c.at.result (own source) = subst (λ s. IsSum s (own source)) (sym same) (sum_at names c.args.costs.now ns source h) in
    let next : c.in_ok-next-in-None.next ≡ charge (string_bytes t.target) = c.in_ok-next-in-None.ensures.value ∙ ap charge c.as_str.ensures.value in
    let most : c.in_ok-most-in-None.most ≡ charge source = c.in_ok-most-in-None.ensures.value ∙ ap charge c.as_str-source.ensures.value in
    let paid = c.charged.ensures v (c.plus.ensures (own source + unit_of column) (charge (string_bytes t.target)) (c.plus-own.ensures (own source) (unit_of column) costs c.unit.ensures.value) next) in
    names_charge c.args.rows.now.path.now c.as_str-source.result.now source (v ≤ c.in_ok-most-in-None.most) (SourcePays column c.args.rows.now.certificate.now c.args.rows.now.path.now own t) c.charged.result c.as_str-source.ensures.value
    (λ p. λ none. subst (λ m. v ≤ m) most p) (λ q. subst (λ m. v ≤ m) (sym most) (q c.in-None.is)) paid
