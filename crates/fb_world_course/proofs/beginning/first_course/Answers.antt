use Rattle.std.proofs.Common.{refl, subst}
use Rattle.fb_verified.specs.declared.verified.Verified.{Verified}
use Rattle.fb_verified.specs.Checked.{IsChecked}
use Rattle.fb_world_course.specs.declared.course.Course.{Course}
use Rattle.fb_world_course.proofs.First.{few_devices, is_first, kept_first}
use Rattle.fb_world_course.proofs.beginning.first_course.Goals as goal

pub returns-clause-first : goal.returns-clause-first
returns-clause-first c =
    let new : Course = record { stations = c.in_ok-stations.stations; datagrams = c.new.result; roots = c.begin_all.new.roots; dispatches = 0 } in
    let checked : IsChecked c.args.verified.now.value = subst (λ (v : Verified). IsChecked v) c.deref.ensures c.fits.ensures in
    is_first c.args.verified.now.value checked new c.in_ok-stations.ensures.begun c.new.ensures.items refl

pub returns-clause-kept : goal.returns-clause-kept
returns-clause-kept c =
    let new : Course = record { stations = c.in_ok-stations.stations; datagrams = c.new.result; roots = c.begin_all.new.roots; dispatches = 0 } in
    let checked : IsChecked c.args.verified.now.value = subst (λ (v : Verified). IsChecked v) c.deref.ensures c.fits.ensures in
    kept_first c.args.verified.now.value checked new c.in_ok-stations.ensures.begun c.new.ensures.items refl (few_devices c.args.verified.now.value checked)
