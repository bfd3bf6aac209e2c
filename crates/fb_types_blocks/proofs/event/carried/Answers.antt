use Rattle.std.proofs.Common.{inr}
use Rattle.std.proofs.lemmas.Result.{err_from_is_err_and}
use Rattle.fb_tree.specs.Words.{word_of}
use Rattle.fb_types_blocks.specs.Answers.{names_in_map}
use Rattle.fb_model.specs.BlockFaults.{IsUnknown}
use Rattle.fb_types_blocks.proofs.Refused.{any_at}
use Rattle.fb_types_blocks.proofs.event.carried.Goals as goal

pub returns-in_err-known-clause-refused : goal.returns-in_err-known-clause-refused
returns-in_err-known-clause-refused c =
    let f = c.in_err-known.field-0.0 in
    let p = err_from_is_err_and c.from_residual.result c.from_residual.ensures.1 in
    rw (p.1, p.2) (inr (any_at (λ w. IsUnknown (names_in_map c.args.variables.now) w f) word_of c.args.names.now c.loop-name.name-index c.name-item.result c.loop-name-test.true c.name-item.is c.in_err-known.ensures.refused))
