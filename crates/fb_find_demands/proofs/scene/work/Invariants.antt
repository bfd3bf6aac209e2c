use Rattle.std.proofs.Common.{◌≡◌, ◌+◌, ◌≤◌, map, drop}
use Rattle.fb_model.specs.Demands.{work}
use Rattle.fb_types_blocks.specs.Views.{action_of}
use Rattle.fb_find_laws.specs.Nodes.{capped}
use Rattle.fb_find_demands.specs.Grounds.{ground_in}
use Rattle.fb_find_demands.proofs.scene.work.Given as goal

abbrev pub invariant-loop-action : goal.invariant-loop-action
invariant-loop-action l = (l.sum ≤ 1000000000001) × (capped (l.sum + work (ground_in l.scene) (map action_of (drop l.action-index l.actions))) ≡ capped (work (ground_in l.scene) (map action_of l.actions)))
