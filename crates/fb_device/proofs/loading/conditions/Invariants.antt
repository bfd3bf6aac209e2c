use Rattle.std.proofs.Common.{◌≡◌, map, take}
use Rattle.fb_chart.specs.declared.table.Block.{Block}
use Rattle.fb_chart.specs.Views.{kind_of}
use Rattle.fb_device.specs.Starting.{first_of}
use Rattle.fb_device.proofs.loading.conditions.Given as goal

abbrev pub invariant-loop-block : goal.invariant-loop-block
invariant-loop-block l = l.conditions.items ≡ map (λ (x : Block). first_of l.stamp (kind_of x)) (take l.block-index l.blocks)
