use Rattle.std.proofs.lemmas.Result.{IfOk-weaker, IfErr-weaker}
use Rattle.std.proofs.Common.{sym, ◌∙◌, ap, slice_get, ◌≡◌}
use Rattle.fb_verified.specs.declared.verified.Verified.{Verified}
use Rattle.fb_verified.specs.Checked.{system_in}
use Rattle.fb_model.specs.Devices.{silent}
use Rattle.fb_wire.specs.Views.{stamped_of}
use Rattle.fb_device_state.specs.Machines.{device_in, device_at}
use Rattle.fb_device_state.proofs.Blocks.{within}
use Rattle.fb_lists.proofs.Lists.{same_at}
use Rattle.fb_device_state.proofs.Devices.{device_stands}
use Rattle.fb_device.proofs.Found.{found_device, no_device_named, missing_so, missing_memory}
use Rattle.fb_device.proofs.loading.made_ready.Goals as goal

pub alone_ready-requires : goal.alone_ready-requires
alone_ready-requires c =
    let f = found_device c.args.verified c.args.device.now c.in-Some.number (sym c.device_named.ensures ∙ c.in-Some.is) in
    record { within = within (system_in c.args.verified).devices c.in-Some.number f.0 f.1; early = c.requires }

pub returns-in-Some-clause-ready : goal.returns-in-Some-clause-ready
returns-in-Some-clause-ready c =
    let f = found_device c.args.verified c.args.device.now c.in-Some.number (sym c.device_named.ensures ∙ c.in-Some.is) in
    let within_devices = within (system_in c.args.verified).devices c.in-Some.number f.0 f.1 in
    let device_is : device_at (system_in c.args.verified).devices c.in-Some.number ≡ f.0 = same_at (system_in c.args.verified).devices c.in-Some.number _ f.0 (device_stands (system_in c.args.verified).devices c.in-Some.number within_devices) f.1 in
    IfOk-weaker c.alone_ready.result _ _
    (λ r e.
    let here : device_in r ≡ device_at (system_in c.args.verified).devices c.in-Some.number =
    ap (λ (v : Verified). device_at (system_in v).devices r.number) e.0 ∙ ap (device_at (system_in c.args.verified).devices) e.1 in
    record {
      same = e.0;
      device = f.0;
      stands = ap (slice_get (system_in c.args.verified).devices) e.1 ∙ f.1;
      named = f.2;
      silent = e.2 ∙ ap (λ d. silent d c.args.first (stamped_of c.args.stamp)) (here ∙ device_is);
    })
    c.alone_ready.ensures.ready

pub returns-in-None-clause-refused : goal.returns-in-None-clause-refused
returns-in-None-clause-refused c = missing_so c.args.verified c.args.device.now c.no_device.result (no_device_named c.args.verified c.args.device.now (sym c.device_named.ensures ∙ c.in-None.is)) c.no_device.ensures

pub returns-in-Some-clause-refused : goal.returns-in-Some-clause-refused
returns-in-Some-clause-refused c = IfErr-weaker c.alone_ready.result _ _ (λ e h. missing_memory c.args.verified c.args.device.now e h) c.alone_ready.ensures.refused
