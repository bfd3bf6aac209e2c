use Rattle.std.proofs.Common.{◌≡◌, true}
use Rattle.fb_model.specs.Names.{is_in}
use Rattle.fb_types_blocks.specs.Views.{names_of}
use Rattle.fb_cert.specs.Views.{rows_of}
use Rattle.fb_check_rows.specs.Texts.{texts_of}
use Rattle.fb_check_rows.specs.declared.kind.RowKind.TheVariants.{Range}
use Rattle.fb_find_search.proofs.Keeping.{first_as}
use Rattle.fb_find_search.proofs.Proposing.{of_texts}
use Rattle.fb_find_search.proofs.searching.add_proposed.Goals as goal

pub returns-in-Ok : goal.returns-in-Ok
returns-in-Ok c =
    let texts = texts_of Range c.args.flat.now.devices.items in
    first_as (λ path. is_in path (names_of c.in-Ok.paths) ≡ true) (λ path. is_in path texts ≡ true) (rows_of c.args.rows.now) (rows_of c.add_ranges.new.rows) (of_texts (names_of c.in-Ok.paths) texts c.in-Ok.ensures.rows) c.add_ranges.ensures
