use Rattle.fb_model_laws.proofs.Blocks.{all_charts_shapely}
use Rattle.fb_model_laws.proofs.shape.charts_have_shapes.Goals as goal

pub returns : goal.returns
returns c = all_charts_shapely
