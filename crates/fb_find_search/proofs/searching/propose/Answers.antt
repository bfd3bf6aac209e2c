use Rattle.std.proofs.Common.{◌≡◌, true}
use Rattle.fb_model.specs.Names.{is_in}
use Rattle.fb_cert.specs.Views.{rows_of}
use Rattle.fb_check_rows.specs.Texts.{texts_of}
use Rattle.fb_check_rows.specs.declared.kind.RowKind.TheVariants.{Range}
use Rattle.fb_find_search.proofs.Keeping.{first_same}
use Rattle.fb_find_search.proofs.searching.propose.Goals as goal

pub returns-in-Err : goal.returns-in-Err
returns-in-Err c = first_same (λ path. is_in path (texts_of Range c.args.flat.now.devices.items) ≡ true) (rows_of c.args.rows.now)
