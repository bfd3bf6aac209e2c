use Rattle.std.proofs.Common.{◌≡◌, ◌+◌, ◌≤◌, map, drop}
use Rattle.std.specs.Option.{option_map}
use Rattle.fb_types_blocks.specs.Views.{transition_of}
use Rattle.fb_find_laws.specs.Nodes.{capped}
use Rattle.fb_prices.specs.Words.{prices_of}
use Rattle.fb_model_work.specs.Work.{trials}
use Rattle.fb_work_charts.proofs.trial.trials_work.Given as goal

abbrev pub invariant-loop-transition : goal.invariant-loop-transition
invariant-loop-transition l =
    record {
      few : l.sum ≤ 1000000000001;
      rest :
          capped (l.sum + trials (prices_of l.prices) (map transition_of (drop l.transition-index l.transitions)) l.source (option_map (λ e. e.now) l.waiting))
          ≡ capped (trials (prices_of l.prices) (map transition_of l.transitions) l.source (option_map (λ e. e.now) l.waiting));
    }
