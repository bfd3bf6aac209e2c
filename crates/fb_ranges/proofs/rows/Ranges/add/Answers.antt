use Rattle.std.proofs.Common.{◌∙◌, ◌++◌, ◌∷◌, [], ap}
use Rattle.fb_ranges.specs.Views.{keys_of, spans_in}
use Rattle.fb_ranges.proofs.Tables.{pushed}
use Rattle.fb_ranges.proofs.rows.Ranges.add.Goals as goal

pub returns-clause-set : goal.returns-clause-set
returns-clause-set c =
    let self = c.args.self.now in
    ap (λ rs. spans_in (keys_of c.put.new.names.value) rs) (c.in-Ok.ensures.items ∙ ap (λ rs. rs ++ c.args.interval ∷ []) c.in_ok-reserve.ensures.items)
    ∙ pushed c.args.name.now self.names.value.keys self.rows.items c.args.interval (keys_of c.put.new.names.value) self.even c.requires
    (c.in_ok-put.ensures.set ∙ ap (λ n. keys_of self.names.value ++ n ∷ []) c.in_ok-key.ensures.ok)
