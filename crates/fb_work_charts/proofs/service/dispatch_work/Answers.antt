use Rattle.std.proofs.Common.{◌≡◌, inl, inr, ◌+◌, ◌*◌, Bool, true, false, cond, ap, ◌∙◌, arith}
use Rattle.std.specs.Str.{bytes_eq}
use Rattle.fb_model.specs.Services.{start, stop}
use Rattle.fb_model.specs.System.{Delay}
use Rattle.fb_model_work.specs.Spending.{Prices, in_service}
use Rattle.fb_prices.specs.declared.primitive.Primitive.TheVariants as p
use Rattle.fb_prices.specs.Words.{prices_of}
use Rattle.fb_find_laws.specs.Nodes.{capped}
use Rattle.fb_work_charts.proofs.service.dispatch_work.Goals as goal

-- the price of what is chosen is the chosen price
chosen : (prices : Prices) (b c : Bool)
    → prices (cond b p.Start (cond c p.Stop p.Expire)) + prices p.Value * 0 ≡ cond b (prices p.Start) (cond c (prices p.Stop) (prices p.Expire))
chosen prices true c = omega arith
chosen prices false true = omega arith
chosen prices false false = omega arith

pub returns-in-Delay : goal.returns-in-Delay
returns-in-Delay c =
    let prices = prices_of c.args.prices.now in
    let e = c.args.event.now in
    let timer : c.with_values-in-Delay.result ≡ capped (in_service prices Delay e) =
    c.with_values-in-Delay.ensures
    ∙ ap (λ k. capped (prices k + prices p.Value * 0)) c.timer_primitive.ensures
    ∙ ap capped (chosen prices (bytes_eq e start) (bytes_eq e stop)) in
    elim c.in-Delay.is [ inl h ↦ rw h timer | inr h ↦ rw h timer ]
