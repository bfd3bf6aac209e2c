use Rattle.std.proofs.Common.{◌≡◌, true}
use Rattle.fb_model.specs.Names.{is_in}
use Rattle.fb_cert.specs.Views.{rows_of}
use Rattle.fb_types.specs.Views.{system_of}
use Rattle.fb_check_rows.specs.Texts.{texts_of}
use Rattle.fb_check_rows.specs.declared.kind.RowKind.TheVariants.{Range}
use Rattle.fb_find_search.specs.Searching.{IsRanged}
use Rattle.fb_find_search.proofs.Keeping.{first_as, first_same}
use Rattle.fb_find_search.proofs.Proposing.{ranged}
use Rattle.fb_find_search.proofs.searching.add_more.Goals as goal

pub returns-in-Ok : goal.returns-in-Ok
returns-in-Ok c =
    let s = system_of c.args.typed.now in
    let fs = c.in-Ok.flat.devices.items in
    first_as (λ path. is_in path (texts_of Range fs) ≡ true) (IsRanged s) (rows_of c.args.rows.now) (rows_of c.propose-added.new.rows) (ranged s fs c.stands_in_text.ensures c.in-Ok.ensures.leaves) c.propose-added.ensures

pub returns-in-Err-OutOfMemory : goal.returns-in-Err-OutOfMemory
returns-in-Err-OutOfMemory c = first_same (IsRanged (system_of c.args.typed.now)) (rows_of c.args.rows.now)

pub returns-in-Err : goal.returns-in-Err
returns-in-Err c = first_same (IsRanged (system_of c.args.typed.now)) (rows_of c.args.rows.now)
