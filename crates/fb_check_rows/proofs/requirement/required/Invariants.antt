use Rattle.std.proofs.Common.{◌≡◌, [], drop}
use Rattle.std.specs.List.{flat_map}
use Rattle.fb_types_blocks.specs.Views.{names_of}
use Rattle.fb_check_rows.specs.Members.{gathered}
use Rattle.fb_check_rows.specs.Texts.{device_texts, texts_of}
use Rattle.fb_check_rows.proofs.requirement.required.Given as goal

-- with the rows of the devices that are left, all are there
abbrev pub invariant-loop-device : goal.invariant-loop-device
invariant-loop-device l = gathered (names_of l.rows) (flat_map (device_texts l.kind) (drop l.device-index l.flat.devices.items)) ≡ gathered [] (texts_of l.kind l.flat.devices.items)
