use Rattle.fb_model_causes.proofs.Bounding.{bounds_one}
use Rattle.fb_model_causes.proofs.arrivals_are_bounded.Goals as goal

pub returns : goal.returns
returns c = λ system cert hold far w f es as' new repeats total arrival opening run e few a was told within. bounds_one system cert hold w f es as' new run far repeats total arrival opening e few a was told within
