use Rattle.std.proofs.Common.{◌≡◌, ◌∙◌, true}
use Rattle.fb_model.specs.Names.{is_in}
use Rattle.fb_types_blocks.specs.Views.{names_of}
use Rattle.fb_cert.specs.Views.{rows_of}
use Rattle.fb_check_rows.proofs.Tables.{known}
use Rattle.fb_find_search.proofs.Keeping.{first_added, first_kept, first_same}
use Rattle.fb_find_search.proofs.searching.add_range.Goals as goal

pub returns-then-not-contains : goal.returns-then-not-contains
returns-then-not-contains c = first_same (λ path. is_in path (names_of c.args.paths.now) ≡ true) (rows_of c.args.rows.now)

pub returns-in-Ok : goal.returns-in-Ok
returns-in-Ok c =
    let path = c.args.row.0.now in
    let interval = c.args.row.1 in
    first_added (λ path. is_in path (names_of c.args.paths.now) ≡ true) (rows_of c.args.rows.now) (rows_of c.args.rows.now) (rows_of c.add.new.self) path interval.low interval.high c.in-Ok.field-0
    (known path c.args.paths.now.keys c.contains.result c.contains.ensures ∙ c.if-not-contains.false) (first_same (λ path. is_in path (names_of c.args.paths.now) ≡ true) (rows_of c.args.rows.now)) c.in-Ok.ensures.added

pub returns-in-Err : goal.returns-in-Err
returns-in-Err c = first_kept (λ path. is_in path (names_of c.args.paths.now) ≡ true) (rows_of c.args.rows.now) (rows_of c.args.rows.now) (rows_of c.add.new.self) (first_same (λ path. is_in path (names_of c.args.paths.now) ≡ true) (rows_of c.args.rows.now)) c.in-Err.ensures.kept
