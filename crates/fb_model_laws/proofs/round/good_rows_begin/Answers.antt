use Rattle.fb_model_laws.proofs.Beginning.{good_rows_begin}
use Rattle.fb_model_laws.proofs.round.good_rows_begin.Goals as goal

pub returns : goal.returns
returns c = good_rows_begin
