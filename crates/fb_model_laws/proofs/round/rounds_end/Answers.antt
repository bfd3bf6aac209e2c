use Rattle.std.proofs.Common.{List}
use Rattle.std.specs.List.{AllByRecursion}
use Rattle.fb_model.specs.System.{Device}
use Rattle.fb_model.specs.Ranges.{Range}
use Rattle.fb_model.specs.Wires.{leaves}
use Rattle.fb_model.proofs.Lists.{all_both}
use Rattle.fb_model_laws.specs.Leaves.{AreApart, IsFed}
use Rattle.fb_model_laws.proofs.Paths.{all_apart}
use Rattle.fb_model_laws.proofs.Values.{all_fed}
use Rattle.fb_model.specs.FinderRanges.{IsLast}
use Rattle.fb_model_laws.proofs.Finishing.{rounds_end}
use Rattle.fb_model_laws.proofs.round.rounds_end.Goals as goal

pub returns : goal.returns
returns c = λ library source system e.
    all_both (λ (d : Device). AreApart (leaves d)) (λ (d : Device). AllByRecursion (IsFed (leaves d)) (leaves d)) (λ (d : Device). (zs : List Range) × IsLast (leaves d) zs) system.devices
    (λ d apart fed. rounds_end (leaves d) apart fed) (all_apart library source system e) (all_fed library source system e)
