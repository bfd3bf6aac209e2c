use Rattle.std.proofs.Common.{◌≡◌, drop}
use Rattle.std.specs.List.{flat_map}
use Rattle.fb_types_blocks.specs.Views.{names_of}
use Rattle.fb_check_rows.specs.Members.{gathered}
use Rattle.fb_check_rows.specs.Texts.{resource_texts, device_texts}
use Rattle.fb_check_rows.proofs.requirement.require_device.Given as goal

-- with the rows of the resources that are left, all are there
abbrev pub invariant-loop-resource : goal.invariant-loop-resource
invariant-loop-resource l = gathered (names_of l.rows) (flat_map (resource_texts l.kind) (drop l.resource-index l.device.resources.items)) ≡ gathered (names_of l.initial.rows) (device_texts l.kind l.device)
