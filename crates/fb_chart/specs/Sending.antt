-- What goes out of event outputs.
use Rattle.std.specs.Prelude.{List, [], ◌∷◌, ◌++◌, string_bytes, if◌then◌else◌}
use Rattle.std.specs.Str.{bytes_eq}
use Rattle.fb_model.specs.Names.{Name}
use Rattle.fb_chart.specs.declared.table.Point.{Point}
use Rattle.fb_chart.specs.declared.table.Output.{Output}

-- event inputs of blocks, one after another
abbrev pub Points : Type 0
Points = List Point

-- where the output of a name leads
abbrev pub targets_of : List Output → Name → Points
targets_of [] o = []
targets_of (x ∷ xs) o = if bytes_eq (string_bytes x.name) o then x.targets.items else targets_of xs o

-- where these outputs lead, one after another
abbrev pub sent_to : List Output → List Name → Points
sent_to outputs [] = []
sent_to outputs (o ∷ os) = targets_of outputs o ++ sent_to outputs os
