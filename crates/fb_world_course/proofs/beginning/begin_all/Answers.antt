use Rattle.std.proofs.Common.{◌+◌, ◌<◌, List, length, sym, ap, subst, arith}
use Rattle.std.proofs.lemmas.List.{length-map}
use Rattle.fb_types.specs.declared.typed.Configuration.{Configuration}
use Rattle.fb_types.specs.Views.{device_of}
use Rattle.fb_verified.specs.declared.verified.Verified.{Verified}
use Rattle.fb_verified.specs.Checked.{system_in}
use Rattle.fb_world_course.specs.declared.station.Station.{Station}
use Rattle.fb_world_course.specs.Beginning.{HaveBegun}
use Rattle.fb_world_course.proofs.First.{few_devices, begun_nothing, begun_more}
use Rattle.fb_world_course.proofs.beginning.begin_all.Goals as goal

pub loop-number-init : goal.loop-number-init
loop-number-init c = record { begun = begun_nothing c.args.verified.now.value c.in_ok-stations.stations.items c.args.roots.now.items c.in_ok-stations.ensures.items c.requires.none; room = omega (arith, c.in_ok-stations.ensures.capacity) }

pub overflow_cast-number : goal.overflow_cast-number
overflow_cast-number c =
    omega (
      arith,
      c.loop-number-test.true,
      c.len-count.ensures,
      ap (λ (t : Configuration). length t.devices.items) c.typed.ensures,
      ap (λ (v : Verified). length v.typed.devices.items) c.deref.ensures,
      length-map c.args.verified.now.value.typed.devices.items device_of,
      few_devices c.args.verified.now.value c.requires.checked,
      c.typed.result.now.devices.ok.0,
    )

pub loop-number-preserved : goal.loop-number-preserved
loop-number-preserved c =
    let within : c.loop-number.number < length (system_in c.args.verified.now.value).devices =
    omega (
      arith,
      c.loop-number-test.true,
      c.len-count.ensures,
      ap (λ (t : Configuration). length t.devices.items) c.typed.ensures,
      ap (λ (v : Verified). length v.typed.devices.items) c.deref.ensures,
      length-map c.args.verified.now.value.typed.devices.items device_of,
      c.typed.result.now.devices.ok.0,
    ) in
    record {
      begun = subst (λ (xs : List Station). HaveBegun c.args.verified.now.value (c.loop-number.number + 1) xs c.begin.new.roots.items) (sym c.push_reserved.ensures.items)
          (begun_more c.args.verified.now.value c.requires.checked c.loop-number.number c.loop-number.stations.items c.loop-number.roots.items c.begin.new.roots.items c.in_ok-begin.field-0 within c.loop-number.invariant.begun c.in_ok-begin.ensures.begins);
      room = omega (arith, c.loop-number.invariant.room, c.push_reserved.ensures.capacity);
    }
