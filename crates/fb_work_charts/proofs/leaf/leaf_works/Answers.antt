use Rattle.std.proofs.Common.{◌≡◌, ◌++◌, OnOk, subst}
use Rattle.fb_types_blocks.specs.declared.typed.Block.{Block}
use Rattle.fb_types_blocks.specs.Views.{block_of}
use Rattle.fb_work_charts.specs.Charges.{chart_works}
use Rattle.fb_work_charts.specs.Reckoning.{all_capped}
use Rattle.fb_work_charts.proofs.Tariffs.{tariff_in}
use Rattle.fb_work_charts.proofs.leaf.leaf_works.Goals as goal

pub returns-in-Basic : goal.returns-in-Basic
returns-in-Basic c =
    let works = λ (b : Block). all_capped (chart_works (tariff_in c.args.scene.now b) (block_of b)) in
    let says = λ (b : Block). OnOk c.add_chart.result (c.add_chart.new.works.items ≡ c.args.works.now.items ++ works b) in
    rw c.in-Basic.is (subst says c.deref.ensures c.add_chart.ensures)
