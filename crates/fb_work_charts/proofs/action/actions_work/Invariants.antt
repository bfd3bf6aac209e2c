use Rattle.std.proofs.Common.{◌≡◌, ◌+◌, ◌≤◌, map, drop}
use Rattle.fb_types_blocks.specs.Views.{action_of, block_of}
use Rattle.fb_find_laws.specs.Nodes.{capped}
use Rattle.fb_work_charts.specs.Charges.{actions_work}
use Rattle.fb_work_charts.proofs.Tariffs.{tariff_in}
use Rattle.fb_work_charts.proofs.action.actions_work.Given as goal

abbrev pub invariant-loop-action : goal.invariant-loop-action
invariant-loop-action l =
    record {
      few : l.sum ≤ 1000000000001;
      rest :
          capped (l.sum + actions_work (tariff_in l.scene l.block) (block_of l.block) (map action_of (drop l.action-index l.actions)))
          ≡ capped (actions_work (tariff_in l.scene l.block) (block_of l.block) (map action_of l.actions));
    }
