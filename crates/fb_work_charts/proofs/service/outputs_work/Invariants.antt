use Rattle.std.proofs.Common.{◌≡◌, ◌+◌, ◌≤◌, [], map, drop}
use Rattle.fb_model.specs.Wires.{Serviced}
use Rattle.fb_types_services.specs.Views.{service_of}
use Rattle.fb_find_laws.specs.Nodes.{capped}
use Rattle.fb_prices.specs.Words.{prices_of}
use Rattle.fb_model_work.specs.Spending.{in_outputs}
use Rattle.fb_work_charts.specs.Reckoning.{tariff_of}
use Rattle.fb_work_charts.proofs.service.outputs_work.Given as goal

abbrev pub invariant-loop-output : goal.invariant-loop-output
invariant-loop-output l =
    let issued = in_outputs (prices_of l.scene.prices.now) (Serviced (service_of l.service)) (tariff_of [] l.scene).targets in
    record {
      few : l.sum ≤ 1000000000001;
      rest : capped (l.sum + issued (map (λ o. o.now) (drop l.output-index l.outputs))) ≡ capped (issued (map (λ o. o.now) l.outputs));
    }
