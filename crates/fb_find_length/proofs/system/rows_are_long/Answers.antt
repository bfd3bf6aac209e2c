use Rattle.std.proofs.Common.{◌≡◌, ◌+◌, ◌<◌, MatchOption, map, ap, subst, ◌∙◌}
use Rattle.fb_types.specs.declared.typed.Configuration.{Configuration}
use Rattle.fb_types.specs.Views.{device_of, system_of}
use Rattle.fb_find_length.specs.Counting.{devices_length}
use Rattle.fb_find_length.proofs.Leaves.{devices_least, told}
use Rattle.fb_find_length.proofs.system.rows_are_long.Goals as goal

pub returns : goal.returns
returns c =
    let r = c.args.repeats in
    let e = ap (λ ds. devices_length r (map device_of ds)) (c.deref.ensures.value ∙ ap (λ (t : Configuration). t.devices.items) c.configuration.ensures) ∙ devices_least r (system_of c.args.typed.now) in
    told c.devices.result c.is_none.result _ c.is_none.ensures (subst (λ z. MatchOption c.devices.result (16777216 < z) (λ rest. rest + z ≡ 16777216)) e c.devices.ensures)
