use Rattle.fb_record.proofs.Spelled.{line_back, head_back}
use Rattle.fb_record.proofs.law.records_read_back.Goals as goal

pub returns-clause-turns : goal.returns-clause-turns
returns-clause-turns c = λ e h. line_back e h

pub returns-clause-heads : goal.returns-clause-heads
returns-clause-heads c = λ device app cert boot d b. head_back device app cert boot d b
