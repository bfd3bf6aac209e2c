use Rattle.fb_find_ranges.proofs.Capitals.{rows_have_capitals}
use Rattle.fb_find_ranges.proofs.found_law.rows_have_capitals.Goals as goal

pub returns : goal.returns
returns c = λ kind devices s are plain capitals. rows_have_capitals kind devices s are capitals
