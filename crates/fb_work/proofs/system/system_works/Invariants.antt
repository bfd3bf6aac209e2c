use Rattle.std.proofs.Common.{◌≡◌, ◌++◌, List, drop}
use Rattle.std.specs.List.{AllByRecursion}
use Rattle.fb_model.specs.System.{Device}
use Rattle.fb_model_laws.specs.Words.{IsWordyDevice}
use Rattle.fb_cert.specs.Views.{certificate_of}
use Rattle.fb_flat.specs.Tables.{AreDevices}
use Rattle.fb_find_demands.specs.Leaves.{AreClosed}
use Rattle.fb_prices.specs.Words.{prices_of}
use Rattle.fb_work.proofs.Systems.{device_list}
use Rattle.fb_work.proofs.system.system_works.Given as goal

-- what is there, and the work of the devices that are left, is the whole
abbrev pub invariant-loop-device : goal.invariant-loop-device
invariant-loop-device l =
    (ds : List Device) → AreDevices l.device-items ds → AllByRecursion IsWordyDevice ds → AreClosed ds
    → l.works.items ++ device_list (prices_of l.prices) (certificate_of l.certificate).ranges (drop l.device-index ds) ≡ device_list (prices_of l.prices) (certificate_of l.certificate).ranges ds
