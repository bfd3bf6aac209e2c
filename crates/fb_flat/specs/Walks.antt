-- What a walk over connections has reached, and when it stops.
use Rattle.std.specs.Prelude.{List, map, string_bytes}
use Rattle.fb_model.specs.Names.{Name, Place}
use Rattle.fb_flat.specs.declared.flat.Target.{Target}
use Rattle.fb_flat.specs.declared.walk.Walk.{Walk}
use Rattle.fb_flat.specs.declared.walk.Stop.{Stop}
use Rattle.fb_flat.specs.declared.walk.Stop.TheVariants as s
use Rattle.fb_flat.specs.Sites.{text_of}

-- an event input: its leaf's path in one text, and the event
abbrev pub Spot : Type 0
Spot = Name × Name

abbrev pub spot_of : Place → Spot
spot_of p = (text_of p.path, p.event)

abbrev pub target_spot : Target → Spot
target_spot t = (string_bytes t.path, string_bytes t.event)

-- what is reached so far
abbrev pub reached : Walk → List Spot
reached w = map target_spot w.targets.items

abbrev pub spots_of : List Place → List Spot
spots_of ps = map spot_of ps

-- memory ran out, or this is so
abbrev pub IsStop : Type 0 → Stop → Type 0
IsStop P s.OutOfMemory = Unit {0}
IsStop P s.Full = P
