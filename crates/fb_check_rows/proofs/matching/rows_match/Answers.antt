use Rattle.fb_types_blocks.proofs.Lists.{on_ok}
use Rattle.fb_cert.specs.Views.{rows_of, book_of}
use Rattle.fb_check_rows.specs.Texts.{HaveOtherRows}
use Rattle.fb_check_rows.specs.Faults.{IsRowFault}
use Rattle.fb_check_rows.proofs.Spelled.{spelled}
use Rattle.fb_check_rows.proofs.Matches.{all_rows, fault_is, err_weaker}
use Rattle.fb_check_rows.proofs.matching.rows_match.Goals as goal

pub returns-clause-rows : goal.returns-clause-rows
returns-clause-rows c =
    let ds = c.args.flat.now.devices.items in
    let rows = rows_of c.args.certificate.now in
    let once = spelled c.stands_in_text.ensures.0 (book_of rows) c.stands_in_text.ensures.1 in
    λ s are words. on_ok (λ h. all_rows s ds rows are words once h) c.compare.result c.compare.ensures.same

pub returns-clause-refused : goal.returns-clause-refused
returns-clause-refused c =
    let ds = c.args.flat.now.devices.items in
    let rows = rows_of c.args.certificate.now in
    λ s are words. err_weaker (HaveOtherRows ds rows) (IsRowFault s (book_of rows)) (λ f h. fault_is s ds rows are words f h) c.compare.result c.compare.ensures.refused
