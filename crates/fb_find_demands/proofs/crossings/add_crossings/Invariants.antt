use Rattle.std.proofs.Common.{◌≡◌, ◌++◌, drop}
use Rattle.std.specs.List.{flat_map}
use Rattle.fb_find_demands.specs.Crossed.{crossed}
use Rattle.fb_find_demands.specs.Rights.{rights_of}
use Rattle.fb_find_demands.proofs.crossings.add_crossings.Given as goal

abbrev pub invariant-loop-crossing : goal.invariant-loop-crossing
invariant-loop-crossing l =
    rights_of l.rights.items ++ flat_map (crossed l.node l.scene.unit l.place) (drop l.crossing-index l.crossings) ≡ rights_of l.initial.rights.items ++ flat_map (crossed l.node l.scene.unit l.place) l.crossings
