-- Resources that follow too many connections.
use Rattle.std.specs.Prelude.{◌≡◌, ◌<◌, string_bytes}
use Rattle.fb_model.specs.Names.{Name}
use Rattle.fb_model.specs.Wires.{most_followed, resource_count}
use Rattle.fb_flat.specs.Sites.{dotted}
use Rattle.fb_types.specs.declared.typed.Resource.{Resource}
use Rattle.fb_types.specs.Views.{resource_of}

-- this one of a device does, and this is its path
abbrev pub IsCrowded : Name → Name → Resource → Type 0
IsCrowded device text r = (text ≡ dotted device (string_bytes r.name)) × (most_followed < resource_count (resource_of r))
