use Rattle.std.proofs.Common.{◌≡◌, true}
use Rattle.fb_model.specs.Names.{is_in}
use Rattle.fb_types_blocks.specs.Views.{names_of}
use Rattle.fb_cert.specs.Views.{rows_of}
use Rattle.fb_find_search.proofs.Keeping.{first_same, first_then}
use Rattle.fb_find_search.proofs.searching.add_ranges.Goals as goal

pub loop-index-init : goal.loop-index-init
loop-index-init c = first_same (λ path. is_in path (names_of c.args.paths.now) ≡ true) (rows_of c.args.rows.now)

pub returns-in_err-add_range : goal.returns-in_err-add_range
returns-in_err-add_range c = first_then (λ path. is_in path (names_of c.args.paths.now) ≡ true) (rows_of c.args.rows.now) (rows_of c.loop-index.rows) (rows_of c.add_range.new.rows) c.loop-index.invariant c.add_range.ensures

pub loop-index-preserved : goal.loop-index-preserved
loop-index-preserved c = first_then (λ path. is_in path (names_of c.args.paths.now) ≡ true) (rows_of c.args.rows.now) (rows_of c.loop-index.rows) (rows_of c.add_range.new.rows) c.loop-index.invariant c.add_range.ensures
