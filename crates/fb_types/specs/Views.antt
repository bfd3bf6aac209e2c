-- What typed systems are in the book, without where they lie in memory, and the services in them with their offsets.
use Rattle.std.specs.Prelude.{ℕ, List, [], ◌∷◌, ◌++◌, map, string_bytes}
use Rattle.fb_model.specs.System as book
use Rattle.fb_model.specs.Declarations as decl
use Rattle.fb_types_networks.specs.Views.{wired_of}
use Rattle.fb_model.specs.NetworkFaults.{placed_in}
use Rattle.fb_types_networks.specs.declared.typed.Network.{out-Network}
use Rattle.fb_types.specs.declared.typed.Resource.{Resource}
use Rattle.fb_types.specs.declared.typed.Device.{Device}
use Rattle.fb_types.specs.declared.typed.Configuration.{Configuration}
use Rattle.fb_types.specs.Uses.{uses_in}
use Rattle.fb_model.specs.Nesting.{Used}

abbrev pub resource_of : Resource → book.Resource
resource_of r = record { name = string_bytes r.name; inner = placed_in ((wired_of r.network).0); events = (wired_of r.network).1; values = (wired_of r.network).2 }

abbrev pub device_of : Device → book.Device
device_of d = record { name = string_bytes d.name; resources = map resource_of d.resources.items }

abbrev pub system_of : Configuration → book.System
system_of t = record { devices = map device_of t.devices.items }

-- the offsets of the names of resources, and of those of devices, in order
abbrev pub resource_offsets : List Resource → List ℕ
resource_offsets rs = map (λ r. r.at) rs

abbrev pub system_offsets : List Device → List (List ℕ)
system_offsets ds = map (λ d. resource_offsets d.resources.items) ds

-- as they stand in a source
abbrev pub offsets_in : List decl.ResourceTree → List ℕ
offsets_in rs = map (λ r. r.name.at) rs

abbrev pub all_offsets : List decl.DeviceTree → List (List ℕ)
all_offsets ds = map (λ d. offsets_in d.resources) ds

abbrev pub resource_uses : Resource → List Used
resource_uses r = uses_in (out-Network r.network).instances.items

abbrev pub device_uses : List Resource → List Used
device_uses [] = []
device_uses (r ∷ rs) = resource_uses r ++ device_uses rs

abbrev pub system_uses : List Device → List Used
system_uses [] = []
system_uses (d ∷ ds) = device_uses d.resources.items ++ system_uses ds
