use Rattle.std.proofs.Common.{List, ◌++◌, sym, subst, ap}
use Rattle.std.specs.List.{AllByRecursion, Any}
use Rattle.fb_model.specs.System.{Device}
use Rattle.fb_model.specs.Wires as wires
use Rattle.fb_model.specs.Wires.{leaves}
use Rattle.fb_model.specs.Ranges.{rows}
use Rattle.fb_model.specs.Certificates.{all_leaves}
use Rattle.fb_model_laws.specs.Leaves.{IsClosed}
use Rattle.fb_model_laws.specs.Words.{IsWordyDevice}
use Rattle.fb_cert.specs.Views.{certificate_of}
use Rattle.fb_flat.specs.declared.flat.FlatDevice.{FlatDevice}
use Rattle.fb_flat.specs.Tables.{AreDevices}
use Rattle.fb_prices.specs.Words.{prices_of}
use Rattle.fb_work.specs.Algorithms.{IsDear, OrMemory}
use Rattle.fb_work.proofs.Lists.{each_at, got_at}
use Rattle.fb_work.proofs.Systems.{any_device, device_at, device_list, device_more, devices_done, devices_end}
use Rattle.fb_work.proofs.Told.{told_of, told_same}
use Rattle.fb_work.proofs.system.system_works.Goals as goal

pub loop-device-init : goal.loop-device-init
loop-device-init c = λ ds are words closed. ap (λ ns. ns ++ device_list (prices_of c.args.prices.now) (certificate_of c.args.certificate.now).ranges ds) c.new-works.ensures.items

pub returns-in_err-add_device-clause-dear : goal.returns-in_err-add_device-clause-dear
returns-in_err-add_device-clause-dear c = λ ds are words.
    let prices = prices_of c.args.prices.now in
    let ranges = (certificate_of c.args.certificate.now).ranges in
    let Dear : wires.Leaf → Type 0 = λ l. IsDear prices (rows ranges l.path l.kind) l.kind in
    let xs : List FlatDevice = c.deref-device-items.result.now in
    let here : AreDevices xs ds = subst (λ (fs : List FlatDevice). AreDevices fs ds) (sym c.deref-device-items.ensures.value) are in
    let i = c.loop-device.device-index in
    let x : FlatDevice = c.device-item.result in
    let at = device_at xs ds i x here (got_at xs i x c.loop-device-test.true c.device-item.is) in
    let w = c.in_err-add_device.field-0.0 in
    told_same c.from_residual.result w (OrMemory (Any Dear (all_leaves ds))) c.from_residual.ensures.1
    (told_of w (Any Dear (leaves at.0)) (Any Dear (all_leaves ds)) (any_device Dear ds i at.0 at.1) (c.in_err-add_device.ensures.dear at.0 at.2 (each_at IsWordyDevice ds i at.0 at.1 words)))

pub loop-device-preserved : goal.loop-device-preserved
loop-device-preserved c = λ ds are words closed.
    let prices = prices_of c.args.prices.now in
    let ranges = (certificate_of c.args.certificate.now).ranges in
    let xs : List FlatDevice = c.deref-device-items.result.now in
    let i = c.loop-device.device-index in
    let x : FlatDevice = c.device-item.result in
    let at = device_at xs ds i x are (got_at xs i x c.loop-device-test.true c.device-item.is) in
    device_more prices ranges ds i at.0 c.loop-device.works.items c.add_device.new.works.items (device_list prices ranges ds) at.1
    (c.in_ok-add_device.ensures.value at.0 at.2 (each_at IsWordyDevice ds i at.0 at.1 words) (each_at (λ (d : Device). AllByRecursion (λ (l : wires.Leaf). IsClosed l.kind) (leaves d)) ds i at.0 at.1 closed))
    (c.loop-device.invariant ds are words closed)

pub returns-clause-value : goal.returns-clause-value
returns-clause-value c = λ ds are words closed.
    let prices = prices_of c.args.prices.now in
    let ranges = (certificate_of c.args.certificate.now).ranges in
    let xs : List FlatDevice = c.deref-device-items.result.now in
    let here : AreDevices xs ds = subst (λ (fs : List FlatDevice). AreDevices fs ds) (sym c.deref-device-items.ensures.value) are in
    let i = c.loop-device.device-index in
    devices_done prices ranges ds i c.loop-device.works.items (device_list prices ranges ds) (devices_end xs ds i here c.loop-device-test.false) (c.loop-device.invariant ds here words closed)
