use Rattle.std.proofs.Common.{◌≡◌, List, Some, slice_get, subst, true, false}
use Rattle.std.specs.Prelude.{MatchOption}
use Rattle.std.specs.List.{AllByRecursion}
use Rattle.fb_verified.specs.Lookups.{is_same_path}
use Rattle.fb_device_state.specs.Machines.{device_in}
use Rattle.fb_world_course.specs.declared.station.Station.{Station}
use Rattle.fb_world.proofs.Bounds.{named_so}
use Rattle.fb_world.proofs.world.World.device.Goals as goal

pub returns : goal.returns
returns c =
    rw (← c.self.view_is) (named_so c.self.inside.verified.value c.self.inside.course c.self.invariant c.args.name.now c.numbered.result
    (subst (λ (xs : List Station). MatchOption c.numbered.result (AllByRecursion (λ (s : Station). is_same_path (device_in s.device).name c.args.name.now ≡ false) xs) (λ n. (s : Station) × (slice_get xs n ≡ Some s) × (is_same_path (device_in s.device).name c.args.name.now ≡ true))) c.deref.ensures.value c.numbered.ensures))
