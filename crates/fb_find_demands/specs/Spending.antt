-- What a state runs and emits, reckoned once.
use Rattle.std.specs.Prelude.{◌≡◌, List, map, string_bytes}
use Rattle.std.specs.declared.string.String.{String}
use Rattle.std.specs.declared.vec.Vec.{Vec}
use Rattle.std.specs.declared.alloc.Global.{Global}
use Rattle.fb_model.specs.Demands.{emitted, work}
use Rattle.fb_find_laws.specs.Nodes.{capped}
use Rattle.fb_types_blocks.specs.declared.typed.Action.{Action}
use Rattle.fb_find_demands.specs.declared.scene.Scene.{Scene}
use Rattle.fb_find_demands.specs.declared.chart.Spent.{Spent}
use Rattle.fb_find_demands.specs.Grounds.{actions_in, ground_in}
use Rattle.fb_find_demands.specs.Rights.{numbers_of}

abbrev pub States : Type 0
States = List (String Global × Vec Action Global)

-- these are what the actions of the state of its name run and emit
pub record IsSpent (scene : Scene) (states : States) (s : Spent) : Type 0 where
  pub runs : s.work ≡ capped (work (ground_in scene) (actions_in states (string_bytes s.state)))
  pub emits : s.terms.items ≡ map (numbers_of scene.numbering.now) (emitted (ground_in scene) (actions_in states (string_bytes s.state)))
