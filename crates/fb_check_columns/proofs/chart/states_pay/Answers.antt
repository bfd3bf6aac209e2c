use Rattle.std.proofs.Common.{◌≡◌, ◌≤◌, sym, subst, string_bytes}
use Rattle.std.proofs.lemmas.Result.{err_from_is_err_and}
use Rattle.fb_model.specs.Names.{Name}
use Rattle.fb_model.proofs.Lists.{got}
use Rattle.fb_check_columns.specs.Sums.{IsSum}
use Rattle.fb_check_columns.specs.Reckoning.{NamedActions, own_of}
use Rattle.fb_check_columns.specs.Paying.{IsCharge, StatePays}
use Rattle.fb_check_columns.proofs.Each.{all_more, one_charge}
use Rattle.fb_check_columns.proofs.Values.{sum_here, image_got}
use Rattle.fb_check_columns.proofs.chart.states_pay.Goals as goal

pub returns-in_err-charged : goal.returns-in_err-charged
returns-in_err-charged c =
    λ ns h.
    let p = err_from_is_err_and c.from_residual.result c.from_residual.ensures.1 in
    let k = c.args.rows.now.block.now in
    let i = c.loop-index.index in
    let s : NamedActions = (c.in-Some.name.now, c.in-Some.field-0-1.now) in
    let g = got k.states.entries i s c.in-Some.ensures.entry in
    let v = own_of k ns s in
    let x = string_bytes s.0 in
    let cost : IsSum c.sum_at-cost.result v = subst (λ n. IsSum n v) (sym c.sum_at-cost.ensures) (sum_here (own_of k ns) c.args.costs.now k.states.entries i s h c.in-Some.ensures.entry) in
    let most = c.charge_at-most.ensures.value x (image_got (λ (p : NamedActions). string_bytes p.0) k.states.entries i s c.in-Some.ensures.entry) in
    let pays = StatePays c.args.rows.now.column c.args.rows.now.certificate.now c.args.rows.now.path.now k ns in
    let e = c.in_err-charged.field-0.0 in
    let named = subst (λ (z : Name). IsCharge c.args.rows.now.path.now (λ y. (z ≡ y) × (v ≤ c.charge_at-most.result → ⊥)) e) c.as_str.ensures.value (c.in_err-charged.ensures v cost) in
    rw (p.1, p.2) (one_charge c.args.rows.now.path.now (λ (z : NamedActions). string_bytes z.0) pays k.states.entries i s e g.0 g.1 (subst (λ m. IsCharge c.args.rows.now.path.now (λ y. (x ≡ y) × (v ≤ m → ⊥)) e) most named))

pub loop-index-preserved : goal.loop-index-preserved
loop-index-preserved c =
    λ ns h.
    let k = c.args.rows.now.block.now in
    let i = c.loop-index.index in
    let s : NamedActions = (c.in-Some.name.now, c.in-Some.field-0-1.now) in
    let g = got k.states.entries i s c.in-Some.ensures.entry in
    let v = own_of k ns s in
    let x = string_bytes s.0 in
    let cost : IsSum c.sum_at-cost.result v = subst (λ n. IsSum n v) (sym c.sum_at-cost.ensures) (sum_here (own_of k ns) c.args.costs.now k.states.entries i s h c.in-Some.ensures.entry) in
    let most = c.charge_at-most.ensures.value x (image_got (λ (p : NamedActions). string_bytes p.0) k.states.entries i s c.in-Some.ensures.entry) in
    let pays = StatePays c.args.rows.now.column c.args.rows.now.certificate.now c.args.rows.now.path.now k ns in
    all_more pays k.states.entries i s g.0 g.1 (c.loop-index.invariant ns h) (subst (λ m. v ≤ m) most (c.in_ok-charged.ensures v cost))
