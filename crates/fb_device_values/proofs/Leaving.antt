-- The stores of a leaf of the tables have the first values of the book's leaf.
use Rattle.std.proofs.Common.{◌≡◌, Bool, true, false, cond, ◌||◌, List, [], ◌∷◌, ◌++◌, Some, refl, sym, ap, subst, ◌∙◌, arith}
use Rattle.std.proofs.Math.Path.{fun_ext}
use Rattle.std.specs.Option.{option_map}
use Rattle.std.specs.Str.{bytes_eq}
use Rattle.fb_model.specs.Names.{Name, is_in}
use Rattle.fb_model.specs.Values.{Value, Values}
use Rattle.fb_model.specs.Language.{given}
use Rattle.fb_model.specs.System as book
use Rattle.fb_model.specs.System.{start_of, start_in}
use Rattle.fb_model.specs.NetworkTyping.{variable_named}
use Rattle.fb_model.specs.BlockTyping.{extent}
use Rattle.fb_model.specs.Wires as wires
use Rattle.fb_model.specs.Wires.{Kind, Charted, Serviced}
use Rattle.fb_model.specs.Store.{variable_names, inputs, outputs, internals, first_input, first_cells}
use Rattle.fb_model.specs.Ranges.{Range, variables, length_in, HasLength, CellsLie}
use Rattle.fb_model.proofs.Lists.{same_name}
use Rattle.fb_model.proofs.Names.{eq_turned}
use Rattle.fb_model_laws.specs.Leaves.{IsGoodKind}
use Rattle.fb_model_laws.specs.Leaves as good
use Rattle.fb_types_services.specs.Views.{service_of}
use Rattle.fb_flat.specs.declared.flat.Body.{Body}
use Rattle.fb_flat.specs.declared.flat.Body.TheVariants as b
use Rattle.fb_flat.specs.declared.flat.Leaf.{Leaf}
use Rattle.fb_flat.specs.Leaves.{kind_of}
use Rattle.fb_flat.specs.Sources.{written_inputs}
use Rattle.fb_flat.specs.Tables.{source_at, input_names, IsLeaf}
use Rattle.fb_types_blocks.specs.Views.{declared_in}
use Rattle.st_exec.specs.Cells.{Cell, values_of, forms_of, names_of, shape_of, length_of}
use Rattle.fb_chart.specs.Sampling.{AreStores}
use Rattle.fb_device_values.specs.First.{HasFirstCells}
use Rattle.fb_device_values.specs.Drafts.{Holds}
use Rattle.fb_device_values.specs.Filling.{input_declared, bounds_if, start_if, input_cells, output_cells, internal_cells, own_cells, IsSmall, IsFilled}
use Rattle.fb_device_values.proofs.Starts.{filled_is, AreStarts, starts_append, names_are, lengths_are, values_are, variables_start, ports_start, outputs_bare}
use Rattle.fb_device_values.proofs.Inputs.{input_length, input_start, first_uniform, inputs_named, inputs_shaped, first_at, inputs_valued}
use Rattle.fb_flat.proofs.Few.{IsSmallKind}

-- ---- outputs and internal variables

pub outputs_start : (body : Body) → AreStarts (output_cells body) (outputs (kind_of body))
outputs_start (b.Basic block) = variables_start (declared_in block.value.face.outputs)
outputs_start (b.Served service) = ports_start _ (outputs_bare (service_of service))

internals_start : (body : Body) → AreStarts (internal_cells body) (internals (kind_of body))
internals_start (b.Basic block) = variables_start (declared_in block.value.internals)
internals_start (b.Served service) = tt

others_start : (body : Body) → AreStarts (output_cells body ++ internal_cells body) (outputs (kind_of body) ++ internals (kind_of body))
others_start body = starts_append (output_cells body) (internal_cells body) (outputs (kind_of body)) (internals (kind_of body)) (outputs_start body) (internals_start body)

small_body : (body : Body) → IsSmallKind (kind_of body) → IsSmall body
small_body (b.Basic block) h = tt
small_body (b.Served service) h = omega (arith, h)

-- ---- variables of the book

names_joined : (cs ds : List Cell) → names_of (cs ++ ds) ≡ names_of cs ++ names_of ds
names_joined [] ds = refl
names_joined (c ∷ cs) ds = ap (λ ns. c.name ∷ ns) (names_joined cs ds)

both_named : (vs ws : List book.Variable) → variable_names (vs ++ ws) ≡ variable_names vs ++ variable_names ws
both_named [] ws = refl
both_named (v ∷ vs) ws = ap (λ ns. v.name ∷ ns) (both_named vs ws)

both_long : (vs ws : List book.Variable) (x : Name) → length_in (vs ++ ws) x ≡ cond (is_in x (variable_names vs)) (length_in vs x) (length_in ws x)
both_long [] ws x = refl
both_long (v ∷ vs) ws x = by (bytes_eq x v.name) (both_long vs ws x) where
  by : (c : Bool) → length_in (vs ++ ws) x ≡ cond (is_in x (variable_names vs)) (length_in vs x) (length_in ws x)
      → given (cond c (Some v) (variable_named (vs ++ ws) x)) (λ w. w.length) ≡ cond (c || is_in x (variable_names vs)) (given (cond c (Some v) (variable_named vs x)) (λ w. w.length)) (length_in ws x)
  by true h = refl
  by false h = h

-- a variable that is the first of its name has its length there
first_long : (all vs : List book.Variable) (x : Name) → good.AreFirst all vs → is_in x (variable_names vs) ≡ true → length_in vs x ≡ length_in all x
first_long all [] x f h = absurd cc
first_long all (v ∷ vs) x f h = by (bytes_eq x v.name) refl h (first_long all vs x f.1) where
  by : (c : Bool) → bytes_eq x v.name ≡ c → (c || is_in x (variable_names vs)) ≡ true → (is_in x (variable_names vs) ≡ true → length_in vs x ≡ length_in all x)
      → given (cond c (Some v) (variable_named vs x)) (λ w. w.length) ≡ length_in all x
  by true e h again = sym (ap (λ y. length_in all y) (same_name x v.name e) ∙ ap (λ o. given o (λ w. w.length)) f.0)
  by false e h again = again h

none_started : (vs : List book.Variable) (x : Name) → is_in x (variable_names vs) ≡ false → HasLength (length_in vs x) (start_in vs x)
none_started [] x h = tt
none_started (v ∷ vs) x h = subst (λ c. HasLength (length_in (v ∷ vs) x) (cond c (start_of v) (start_in vs x))) (eq_turned x v.name) (by (bytes_eq x v.name) h (none_started vs x)) where
  by : (c : Bool) → (c || is_in x (variable_names vs)) ≡ false → (is_in x (variable_names vs) ≡ false → HasLength (length_in vs x) (start_in vs x)) → HasLength (given (cond c (Some v) (variable_named vs x)) (λ w. w.length)) (cond c (start_of v) (start_in vs x))
  by true h again = absurd cc
  by false h again = again h

-- outputs have their forms, also where there is none of a name
issued_form : (all vs : List book.Variable) → good.AreFirst all vs → ((y : Name) → is_in y (variable_names vs) ≡ true → HasLength (length_in all y) (start_in vs y)) → (y : Name) → HasLength (length_in vs y) (start_in vs y)
issued_form all vs f h y = by (is_in y (variable_names vs)) refl where
  by : (c : Bool) → is_in y (variable_names vs) ≡ c → HasLength (length_in vs y) (start_in vs y)
  by true e = subst (λ n. HasLength n (start_in vs y)) (sym (first_long all vs y f e)) (h y e)
  by false e = none_started vs y e

-- ---- one leaf

-- the first working values, by what a leaf is and where its inputs take theirs from
abbrev pub own_at : Kind → (Name → wires.Source) → Values
own_at kind source = λ x. cond (is_in x (variable_names (inputs kind))) (first_input (source x) (start_in (inputs kind) x)) (start_in (outputs kind ++ internals kind) x)

-- what is known of a leaf of the tables, by what it is and where its inputs take their values from
pub record IsReady (l : Leaf) (source : Name → wires.Source) (kind : Kind) : Type 0 where
  pub small : IsSmallKind kind
  pub named : input_names l.inputs.items ≡ variable_names (inputs kind)
  pub sources : (x : Name) → is_in x (variable_names (inputs kind)) ≡ true → source_at l.inputs.items x ≡ source x
  pub good : IsGoodKind kind
  pub own_forms : (x : Name) → HasLength (length_in (variables kind) x) (own_at kind source x)
  pub issued_forms : (y : Name) → is_in y (variable_names (outputs kind)) ≡ true → HasLength (length_in (variables kind) y) (start_in (outputs kind) y)

-- what is shown of its stores
pub record IsBegun (working given_out : List Cell) (source : Name → wires.Source) (kind : Kind) : Type 0 where
  pub stores : AreStores kind (forms_of working) (forms_of given_out)
  pub own : values_of working ≡ own_at kind source
  pub issued : values_of given_out ≡ start_in (outputs kind)

module _ (l : Leaf) (source : Name → wires.Source) (r : IsReady l source (kind_of l.body)) (working given_out : List Cell) (own : Holds working (own_cells l)) (issued : Holds given_out (output_cells l.body)) where
  abbrev ins : List book.Variable
  ins = inputs (kind_of l.body)

  abbrev others : List book.Variable
  others = outputs (kind_of l.body) ++ internals (kind_of l.body)

  abbrev rest : List Cell
  rest = output_cells l.body ++ internal_cells l.body

  abbrev first : Name → Value
  first x = first_input (source x) (start_in ins x)

  form : (x : Name) (c : Bool) → is_in x (variable_names ins) ≡ c → HasLength (cond c (length_in ins x) (length_in others x)) (cond c (first x) (start_in others x))
  form x c e =
      subst (λ d. HasLength (cond d (length_in ins x) (length_in others x)) (cond d (first x) (start_in others x))) e
      (subst (λ n. HasLength n (own_at (kind_of l.body) source x)) (both_long ins others x) (r.own_forms x))

  input_is : (x : Name) → is_in x (variable_names ins) ≡ true → first_at l.body l.inputs.items x ≡ first x
  input_is x e =
      let same : first_input (source_at l.inputs.items x) (start_if (input_declared l.body x)) ≡ first x = ap (λ o. first_input o (start_if (input_declared l.body x))) (r.sources x e) ∙ ap (λ v. first_input (source x) v) (input_start l.body x) in
      let long : HasLength (option_map extent (bounds_if (input_declared l.body x))) (first x) = subst (λ n. HasLength n (first x)) (sym (input_length l.body x)) (form x true e) in
      filled_is (bounds_if (input_declared l.body x)) (first_input (source_at l.inputs.items x) (start_if (input_declared l.body x))) (first_uniform l.body l.inputs.items x)
      (subst (λ v. HasLength (option_map extent (bounds_if (input_declared l.body x))) v) (sym same) long)
      ∙ same

  own_is : (x : Name) → values_of working x ≡ own_at (kind_of l.body) source x
  own_is x =
      own.values x ∙ inputs_valued l.body l.inputs.items rest x ∙ ap (λ ns. cond (is_in x ns) (first_at l.body l.inputs.items x) (values_of rest x)) r.named ∙ by (is_in x (variable_names ins)) refl
    where
      by : (c : Bool) → is_in x (variable_names ins) ≡ c → cond c (first_at l.body l.inputs.items x) (values_of rest x) ≡ cond c (first x) (start_in others x)
      by true e = input_is x e
      by false e = values_are rest others x (others_start l.body) (form x false e)

  lengths : (x : Name) → length_of working x ≡ length_in (variables (kind_of l.body)) x
  lengths x =
      ap (option_map extent) (own.shapes x ∙ inputs_shaped l.body l.inputs.items rest x ∙ ap (λ ns. cond (is_in x ns) (bounds_if (input_declared l.body x)) (shape_of rest x)) r.named) ∙ by (is_in x (variable_names ins)) ∙ sym (both_long ins others x)
    where
      by : (c : Bool) → option_map extent (cond c (bounds_if (input_declared l.body x)) (shape_of rest x)) ≡ cond c (length_in ins x) (length_in others x)
      by true = input_length l.body x
      by false = lengths_are rest others x (others_start l.body)

  names : names_of (own_cells l) ≡ variable_names (variables (kind_of l.body))
  names =
      names_joined (input_cells l) rest ∙ ap (λ ns. ns ++ names_of rest) (inputs_named l.body l.inputs.items ∙ r.named) ∙ ap (λ ns. variable_names ins ++ ns) (names_are rest others (others_start l.body))
      ∙ sym (both_named ins others)

  pub begun : IsBegun working given_out source (kind_of l.body)
  begun =
      record {
        stores =
            record {
              own_names = λ x. own.names x ∙ ap (is_in x) names;
              own_lengths = lengths;
              issued_names = λ x. issued.names x ∙ ap (is_in x) (names_are (output_cells l.body) (outputs (kind_of l.body)) (outputs_start l.body));
              issued_lengths = λ x h.
                  ap (option_map extent) (issued.shapes x) ∙ lengths_are (output_cells l.body) (outputs (kind_of l.body)) x (outputs_start l.body)
                  ∙ first_long (variables (kind_of l.body)) (outputs (kind_of l.body)) x r.good.outputs_first h;
            };
        own = fun_ext own_is;
        issued = fun_ext (λ x.
            issued.values x
            ∙ values_are (output_cells l.body) (outputs (kind_of l.body)) x (outputs_start l.body) (issued_form (variables (kind_of l.body)) (outputs (kind_of l.body)) r.good.outputs_first r.issued_forms x));
      }

-- ---- a leaf of the book

-- what is known of a leaf of the book
pub record IsKnown (ranges : List Range) (leaf : wires.Leaf) : Type 0 where
  pub small : IsSmallKind leaf.kind
  pub written : written_inputs leaf.kind ≡ variable_names (inputs leaf.kind)
  pub good : IsGoodKind leaf.kind
  pub starts : CellsLie ranges leaf.path leaf.kind (first_cells leaf)

ready : (ranges : List Range) (l : Leaf) (leaf : wires.Leaf) → IsLeaf l leaf → IsKnown ranges leaf → IsReady l leaf.source leaf.kind
ready ranges l leaf is k =
    record {
      small = k.small;
      named = is.inputs ∙ k.written;
      sources = λ x h. is.sources x (ap (is_in x) k.written ∙ h);
      good = k.good;
      own_forms = λ x. (k.starts.own x).form;
      issued_forms = λ y h. (k.starts.issued y h).form;
    }

-- the stores that are filled for a leaf have its first values
pub leaf_begun : (ranges : List Range) (l : Leaf) (leaf : wires.Leaf) (working given_out : List Cell) → IsLeaf l leaf → IsKnown ranges leaf → IsFilled l working given_out → HasFirstCells leaf working given_out
leaf_begun ranges l leaf working given_out is k filled =
    let r : IsReady l leaf.source (kind_of l.body) = subst (IsReady l leaf.source) (sym is.kind) (ready ranges l leaf is k) in
    let few = small_body l.body r.small in
    let b : IsBegun working given_out leaf.source leaf.kind = subst (IsBegun working given_out leaf.source) is.kind (begun l leaf.source r working given_out (filled.own few) (filled.issued few)) in
    record { stores = b.stores; own = b.own; issued = b.issued }
