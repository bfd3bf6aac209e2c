use Rattle.fb_model_laws.proofs.Meeting.{column_meets}
use Rattle.fb_model_laws.proofs.demand.columns_meet_demands.Goals as goal

pub returns : goal.returns
returns c = column_meets
