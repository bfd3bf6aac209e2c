-- Where data inputs take their values from, as it is written: paths are one text.
-- IEC 61499-1 edition 2, 5.3 (composite types and their connections).
use Rattle.std.specs.Prelude.{ℕ, pos, nat_lt, List, [], map, length, replicate, string_bytes, if◌then◌else◌}
use Rattle.fb_model.specs.Names.{Name}
use Rattle.fb_model.specs.Values.{Value, One, Many}
use Rattle.fb_model.specs.Services.{service_inputs}
use Rattle.fb_model.specs.BlockTyping.{extent}
use Rattle.fb_model.specs.Store.{variable_names}
use Rattle.fb_model.specs.Wires as wires
use Rattle.fb_model.specs.Wires.{Kind, Charted, Serviced, Output_of, Constant}
use Rattle.fb_types_services.specs.Views.{values_of}
use Rattle.fb_flat.specs.declared.flat.Source.{Source}
use Rattle.fb_flat.specs.declared.flat.Source.TheVariants as s
use Rattle.fb_flat.specs.declared.flat.Input.{Input}
use Rattle.fb_flat.specs.Sites.{text_of}

-- ---- what is written of sources

-- an output of a leaf, by the leaf's path in one text, or a value
pub data WrittenSource : Type 0 where
  Output_at : (path name : Name) → WrittenSource
  Fixed : (value : Value) → WrittenSource

abbrev pub written_source : wires.Source → WrittenSource
written_source (Output_of path name) = Output_at (text_of path) name
written_source (Constant value) = Fixed value

-- a data input, and where its value comes from
abbrev pub Fed : Type 0
Fed = Name × WrittenSource

abbrev pub fed_by : (Name → wires.Source) → List Name → List Fed
fed_by source xs = map (λ x. (x, written_source (source x))) xs

-- more values than this have no names of their own: numbers of ports have two digits
abbrev pub most_values : ℕ
most_values = 99

-- the data inputs of a leaf, in the order of its type. None are written of a service with more values than there are names for
abbrev pub written_inputs : Kind → List Name
written_inputs (Charted block) = variable_names block.inputs
written_inputs (Serviced service) = if nat_lt most_values (length (values_of service)) then [] else variable_names (service_inputs service)

-- ---- what the tables hold

abbrev pub source_of : Source → WrittenSource
source_of (s.Output path name) = Output_at (string_bytes path) (string_bytes name)
source_of (s.Number number) = Fixed (One number)
source_of (s.Zeros low high) = Fixed (Many (replicate (extent (low, high)) (pos 0)))

abbrev pub input_of : Input → Fed
input_of i = (string_bytes i.name, source_of i.source)
