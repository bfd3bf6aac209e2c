use Rattle.std.proofs.Common.{◌++◌, [], map, subst}
use Rattle.std.proofs.lemmas.Result.{err_from_is_err_and}
use Rattle.fb_model.specs.Typing.{AreDistinct}
use Rattle.fb_tree.specs.Files as trees_of
use Rattle.fb_model.specs.BlockFaults.{IsRepetition}
use Rattle.fb_model.specs.SourceFaults.{repeated_type}
use Rattle.fb_types.specs.Made.{IsTable}
use Rattle.fb_types.proofs.Systems.{block_words, block_names, nothing_made}
use Rattle.fb_types.proofs.source.resolved.Goals as goal

pub returns-in_err-table-clause-refused : goal.returns-in_err-table-clause-refused
returns-in_err-table-clause-refused c =
    let p = err_from_is_err_and c.from_residual.result c.from_residual.ensures.1 in
    let f = c.in_err-table.field-0.0 in
    rw (p.1, p.2) (repeated_type (block_words (λ ws. IsRepetition [] ws f) c.args.source.now.blocks.items c.deref.result.now c.deref.ensures.value c.in_err-table.ensures.refused))

pub returns-clause-typed : goal.returns-clause-typed
returns-clause-typed c =
    let xs = c.args.source.now.blocks.items in
    let bs = map trees_of.block_of xs ++ map trees_of.block_of c.args.library.now in
    c.resolved_over.ensures.typed (map trees_of.block_of c.args.library.now)
    (subst (λ l. IsTable (map trees_of.block_of l ++ map trees_of.block_of c.args.library.now) c.in_ok-types.types) c.deref-2.ensures.value c.in_ok-types.ensures)
    (nothing_made bs c.new-memo.result c.new-memo.ensures.empty)
    (block_names AreDistinct xs c.deref.result.now c.deref.ensures.value c.in_ok-table.ensures.distinct)

pub returns-clause-refused : goal.returns-clause-refused
returns-clause-refused c =
    let xs = c.args.source.now.blocks.items in
    let bs = map trees_of.block_of xs ++ map trees_of.block_of c.args.library.now in
    c.resolved_over.ensures.refused (map trees_of.block_of c.args.library.now)
    (subst (λ l. IsTable (map trees_of.block_of l ++ map trees_of.block_of c.args.library.now) c.in_ok-types.types) c.deref-2.ensures.value c.in_ok-types.ensures)
    (nothing_made bs c.new-memo.result c.new-memo.ensures.empty)
    (block_names AreDistinct xs c.deref.result.now c.deref.ensures.value c.in_ok-table.ensures.distinct)
