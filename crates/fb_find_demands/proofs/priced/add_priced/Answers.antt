use Rattle.std.proofs.Common.{◌++◌, ap, ◌∙◌, option_map}
use Rattle.fb_ranges.specs.Views.{spans_of}
use Rattle.fb_flat.specs.Leaves.{kind_of}
use Rattle.fb_find_demands.specs.Rights.{rights_of}
use Rattle.fb_find_demands.specs.Leaves.{leaf_rights}
use Rattle.fb_find_demands.specs.Prices.{kind_prices}
use Rattle.fb_find_demands.proofs.Answering.{on_ok_is}
use Rattle.fb_find_demands.proofs.priced.add_priced.Goals as goal

pub returns-clause-rights : goal.returns-clause-rights
returns-clause-rights c =
    let n = c.args.numbering.now in
    let l = c.args.tabled.now.leaf.now in
    let old = rights_of c.args.rights.now.items in
    let ps = kind_prices (option_map (λ t. spans_of t.now) c.args.tabled.now.table) (kind_of l.body) in
    on_ok_is (rights_of c.add_leaf.new.rights.items) (old ++ leaf_rights n 1 c.args.follows c.as_slice.result.now l) (old ++ leaf_rights n 1 c.args.follows ps l) (ap (λ xs. old ++ leaf_rights n 1 c.args.follows xs l) (c.as_slice.ensures.value ∙ c.in_ok-prices.ensures.answer))
    c.add_leaf.result c.add_leaf.ensures
