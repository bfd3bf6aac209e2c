-- The tariff of a block.
use Rattle.fb_types_blocks.specs.declared.typed.Block.{Block}
use Rattle.fb_find_demands.specs.Grounds.{table_names}
use Rattle.fb_work_charts.specs.declared.scene.Scene.{Scene}
use Rattle.fb_work_charts.specs.Charges.{Tariff}
use Rattle.fb_work_charts.specs.Reckoning.{tariff_of}

abbrev pub tariff_in : Scene → Block → Tariff
tariff_in scene block = tariff_of (table_names block.procedures) scene
