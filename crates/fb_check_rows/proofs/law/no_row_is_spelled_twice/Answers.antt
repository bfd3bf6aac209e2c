use Rattle.fb_check_rows.proofs.Spelled.{spelled}
use Rattle.fb_check_rows.proofs.law.no_row_is_spelled_twice.Goals as goal

pub returns : goal.returns
returns c = spelled
