use Rattle.std.proofs.Common.{◌++◌, ap, ◌∙◌}
use Rattle.fb_cert.specs.Views.{certificate_of}
use Rattle.fb_flat.specs.Leaves.{kind_of}
use Rattle.fb_flat.specs.Tables.{targets_of}
use Rattle.fb_prices.specs.Words.{prices_of}
use Rattle.fb_find_demands.specs.Grounds.{algorithms_of, priced}
use Rattle.fb_work_charts.specs.Charges.{kind_works}
use Rattle.fb_work_charts.specs.Reckoning.{all_capped}
use Rattle.fb_work.proofs.Tariffs.{leaf_same}
use Rattle.fb_work.proofs.system.add_leaf.Goals as goal

pub returns-clause-value : goal.returns-clause-value
returns-clause-value c = λ l is words closed.
    let prices = prices_of c.args.prices.now in
    let leaf = c.args.leaf.now in
    let old = c.args.works.now.items in
    let costs = c.in_ok-costs.costs.items in
    c.in_ok-leaf_works.ensures
    ∙ ap (λ cs. old ++ all_capped (kind_works (record { prices = prices; algorithm = priced (algorithms_of leaf.body) cs; targets = targets_of c.as_slice-2.result.now }) (kind_of leaf.body))) c.as_slice.ensures.value
    ∙ ap (λ os. old ++ all_capped (kind_works (record { prices = prices; algorithm = priced (algorithms_of leaf.body) costs; targets = targets_of os }) (kind_of leaf.body))) c.as_slice-2.ensures.value
    ∙ ap (λ ws. old ++ all_capped ws) (leaf_same prices (certificate_of c.args.certificate.now).ranges leaf l costs is closed (c.in_ok-costs.ensures.value l is words))
