use Rattle.std.proofs.Common.{◌∙◌, ap}
use Rattle.std.specs.Prelude.{map, string_bytes}
use Rattle.std.specs.Result.{is_ok}
use Rattle.fb_ranges.specs.Views.{keys_of}
use Rattle.fb_ranges.proofs.Tables.{at_err, cloned, on_err, one_more}
use Rattle.fb_ranges.proofs.table.put.Goals as goal

pub returns-in_err-names-clause-unchanged : goal.returns-in_err-names-clause-unchanged
returns-in_err-names-clause-unchanged c = on_err c.from_residual.result (cloned c.args.names.now.value c.make_mut.follows.lender-at-none.value (at_err c.make_mut.result c.in_err-names.field-0.0 c.in_err-names.was c.make_mut.follows.holds-at-none))

pub returns-in_err-insert-clause-unchanged : goal.returns-in_err-insert-clause-unchanged
returns-in_err-insert-clause-unchanged c =
    on_err c.from_residual-in_err-insert.result
    (ap keys_of (c.make_mut.follows.holds c.insert.new.self (ap is_ok c.in_ok-names.was)) ∙ ap (map string_bytes) c.in_err-insert.ensures.err ∙ cloned c.args.names.now.value c.in_ok-names.names.now c.in_ok-names.ensures.value)

pub returns-clause-set : goal.returns-clause-set
returns-clause-set c =
    one_more c.args.names.now.value c.in_ok-names.names.now (c.make_mut.follows.lender c.insert.new.self).value c.args.name
    (cloned c.args.names.now.value c.in_ok-names.names.now c.in_ok-names.ensures.value) c.requires
    (ap (λ s. s.keys) (c.make_mut.follows.holds c.insert.new.self (ap is_ok c.in_ok-names.was)) ∙ c.in_ok-insert.ensures.keys)
