-- Inputs with the constants of their sources or their start values, in a store and in the book.
use Rattle.std.proofs.Common.{◌≡◌, Bool, true, false, cond, ◌||◌, List, [], ◌∷◌, ◌++◌, map, Option, None, Some, refl, sym, ap, ◌∙◌, string_bytes, Global}
use Rattle.std.specs.List.{AllByRecursion}
use Rattle.std.specs.Option.{option_map}
use Rattle.std.specs.Map.{lookup}
use Rattle.std.specs.Str.{bytes_eq}
use Rattle.std.specs.declared.string.String.{String}
use Rattle.fb_model.specs.Names.{Name, is_in}
use Rattle.fb_model.specs.Values.{Value}
use Rattle.fb_model.specs.Language.{given}
use Rattle.fb_model.specs.System as book
use Rattle.fb_model.specs.System.{start_of, start_in}
use Rattle.fb_model.specs.Services.{sent, service_inputs}
use Rattle.fb_model.specs.NetworkTyping.{variable_named}
use Rattle.fb_model.specs.BlockTyping.{extent, variable_of}
use Rattle.fb_model.specs.Store.{inputs, first_input}
use Rattle.fb_model.specs.Ranges.{length_in}
use Rattle.fb_model.specs.Wires as wires
use Rattle.fb_model.specs.Wires.{Output_of, Constant}
use Rattle.fb_model.proofs.Lists.{same_name}
use Rattle.fb_types_blocks.specs.declared.typed.Variable.{Variable}
use Rattle.fb_types_blocks.specs.Views.{declared_of}
use Rattle.fb_types_services.specs.Views.{service_of}
use Rattle.fb_flat.specs.declared.flat.Source.{Source}
use Rattle.fb_flat.specs.declared.flat.Source.TheVariants as s
use Rattle.fb_flat.specs.declared.flat.Body.{Body}
use Rattle.fb_flat.specs.declared.flat.Body.TheVariants as b
use Rattle.fb_flat.specs.declared.flat.Input.{Input}
use Rattle.fb_flat.specs.Leaves.{kind_of}
use Rattle.fb_flat.specs.Tables.{book_source, source_at, input_names}
use Rattle.fb_flat.proofs.Sources.{start_at, start_found, service_start}
use Rattle.st_exec.specs.Cells.{Cell, values_of, names_of, shape_of, filled}
use Rattle.fb_device_values.specs.Filling.{number_in, input_declared, bounds_if, start_if, input_cell}
use Rattle.fb_device_values.proofs.Starts.{IsUniform, zeros_uniform, start_uniform, IsBare, ports_bare}

-- ---- what is declared of an input

abbrev Entries : Type 0
Entries = List (String Global × Variable)

length_found : (x : Name) (es : Entries) → length_in (map variable_of (map (λ p. declared_of (string_bytes p.0) p.1) es)) x ≡ option_map extent (bounds_if (lookup (λ k. bytes_eq x (string_bytes k)) es))
length_found x [] = refl
length_found x (e ∷ es) = by (bytes_eq x (string_bytes e.0)) (length_found x es) where
  by : (b : Bool) → length_in (map variable_of (map (λ p. declared_of (string_bytes p.0) p.1) es)) x ≡ option_map extent (bounds_if (lookup (λ k. bytes_eq x (string_bytes k)) es))
      → given (cond b (Some (variable_of (declared_of (string_bytes e.0) e.1))) (variable_named (map variable_of (map (λ p. declared_of (string_bytes p.0) p.1) es)) x)) (λ v. v.length)
      ≡ option_map extent (bounds_if (cond b (Some e.1) (lookup (λ k. bytes_eq x (string_bytes k)) es)))
  by true h = refl
  by false h = h

bare_length : (vs : List book.Variable) (x : Name) → AllByRecursion IsBare vs → length_in vs x ≡ None
bare_length [] x h = refl
bare_length (v ∷ vs) x h = by (bytes_eq x v.name) (bare_length vs x h.1) where
  by : (b : Bool) → length_in vs x ≡ None → given (cond b (Some v) (variable_named vs x)) (λ w. w.length) ≡ None
  by true again = h.0.0
  by false again = again

inputs_bare : (service : book.Service) → AllByRecursion IsBare (service_inputs service)
inputs_bare (book.Input number types) = tt
inputs_bare (book.Output number types) = ports_bare sent 1 types
inputs_bare (book.Publish channel types) = ((refl, refl), ports_bare sent 1 types)
inputs_bare (book.Subscribe channel types) = ((refl, refl), tt)
inputs_bare book.Delay = ((refl, refl), tt)
inputs_bare book.Cycle = ((refl, refl), tt)
inputs_bare book.Restart = tt

pub input_length : (body : Body) (x : Name) → option_map extent (bounds_if (input_declared body x)) ≡ length_in (inputs (kind_of body)) x
input_length (b.Basic block) x = sym (length_found x block.value.face.inputs.entries)
input_length (b.Served service) x = sym (bare_length (service_inputs (service_of service)) x (inputs_bare (service_of service)))

pub input_start : (body : Body) (x : Name) → start_if (input_declared body x) ≡ start_in (inputs (kind_of body)) x
input_start (b.Basic block) x = start_if_found (lookup (λ k. bytes_eq x (string_bytes k)) block.value.face.inputs.entries) ∙ sym (start_found x block.value.face.inputs.entries) where
  start_if_found : (o : Option Variable) → start_if o ≡ start_at o
  start_if_found None = refl
  start_if_found (Some v) = refl
input_start (b.Served service) x = sym (service_start (service_of service) x)

-- ---- one number, or the same in each element

abbrev IsUniformSource : wires.Source → Type 0
IsUniformSource (Output_of path name) = Unit {0}
IsUniformSource (Constant value) = IsUniform value

book_uniform : (o : Source) → IsUniformSource (book_source o)
book_uniform (s.Output path name) = tt
book_uniform (s.Number number) = tt
book_uniform (s.Zeros low high) = zeros_uniform _

source_uniform : (ins : List Input) (x : Name) → IsUniformSource (source_at ins x)
source_uniform [] x = tt
source_uniform (i ∷ ins) x = by (bytes_eq x (string_bytes i.name)) (source_uniform ins x) where
  by : (c : Bool) → IsUniformSource (source_at ins x) → IsUniformSource (cond c (book_source i.source) (source_at ins x))
  by true h = book_uniform i.source
  by false h = h

chosen_uniform : (o : wires.Source) (v : Value) → IsUniformSource o → IsUniform v → IsUniform (first_input o v)
chosen_uniform (Output_of path name) v h k = k
chosen_uniform (Constant value) v h k = h

start_if_uniform : (o : Option Variable) → IsUniform (start_if o)
start_if_uniform None = tt
start_if_uniform (Some v) = start_uniform [] v.of_type v.bounds v.start

-- what an input has at first is one number, or the same in each element
pub first_uniform : (body : Body) (ins : List Input) (x : Name) → IsUniform (first_input (source_at ins x) (start_if (input_declared body x)))
first_uniform body ins x = chosen_uniform (source_at ins x) (start_if (input_declared body x)) (source_uniform ins x) (start_if_uniform (input_declared body x))

-- ---- inputs before other variables

pub inputs_named : (body : Body) (ins : List Input) → names_of (map (input_cell body) ins) ≡ input_names ins
inputs_named body [] = refl
inputs_named body (i ∷ ins) = ap (λ ns. string_bytes i.name ∷ ns) (inputs_named body ins)

pub inputs_shaped : (body : Body) (ins : List Input) (rest : List Cell) (x : Name) → shape_of (map (input_cell body) ins ++ rest) x ≡ cond (is_in x (input_names ins)) (bounds_if (input_declared body x)) (shape_of rest x)
inputs_shaped body [] rest x = refl
inputs_shaped body (i ∷ ins) rest x = by (bytes_eq x (string_bytes i.name)) refl (inputs_shaped body ins rest x) where
  by : (c : Bool) → bytes_eq x (string_bytes i.name) ≡ c → shape_of (map (input_cell body) ins ++ rest) x ≡ cond (is_in x (input_names ins)) (bounds_if (input_declared body x)) (shape_of rest x)
      → cond c (bounds_if (input_declared body (string_bytes i.name))) (shape_of (map (input_cell body) ins ++ rest) x) ≡ cond (c || is_in x (input_names ins)) (bounds_if (input_declared body x)) (shape_of rest x)
  by true e again = ap (λ y. bounds_if (input_declared body y)) (sym (same_name x (string_bytes i.name) e))
  by false e again = again

-- what an input of a name has at first, by these inputs
abbrev pub first_at : Body → List Input → Name → Value
first_at body ins x = filled (bounds_if (input_declared body x)) (number_in (first_input (source_at ins x) (start_if (input_declared body x))))

pub inputs_valued : (body : Body) (ins : List Input) (rest : List Cell) (x : Name) → values_of (map (input_cell body) ins ++ rest) x ≡ cond (is_in x (input_names ins)) (first_at body ins x) (values_of rest x)
inputs_valued body [] rest x = refl
inputs_valued body (i ∷ ins) rest x = by (bytes_eq x (string_bytes i.name)) refl (inputs_valued body ins rest x) where
  by : (c : Bool) → bytes_eq x (string_bytes i.name) ≡ c → values_of (map (input_cell body) ins ++ rest) x ≡ cond (is_in x (input_names ins)) (first_at body ins x) (values_of rest x)
      → cond c (input_cell body i).value (values_of (map (input_cell body) ins ++ rest) x)
      ≡ cond (c || is_in x (input_names ins)) (filled (bounds_if (input_declared body x)) (number_in (first_input (cond c (book_source i.source) (source_at ins x)) (start_if (input_declared body x))))) (values_of rest x)
  by true e again = ap (λ y. filled (bounds_if (input_declared body y)) (number_in (first_input (book_source i.source) (start_if (input_declared body y))))) (sym (same_name x (string_bytes i.name) e))
  by false e again = again
