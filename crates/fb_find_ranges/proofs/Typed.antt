-- What variables have at first lies in their types.
use Rattle.std.proofs.Common.{◌≡◌, Bool, true, false, ◌||◌, List, [], ◌∷◌, ◌++◌, Option, Some, refl, sym, ap, subst, ◌∙◌, if◌then◌else◌}
use Rattle.std.specs.Str.{bytes_eq}
use Rattle.std.specs.List.{AllByRecursion}
use Rattle.fb_model.specs.Names.{Name, is_in}
use Rattle.fb_model.specs.Values.{numbers_of}
use Rattle.fb_model.specs.System.{Variable, start_of}
use Rattle.fb_model.specs.NetworkTyping.{variable_named}
use Rattle.fb_model.specs.Wires.{Source, Output_of, Constant, Kind, Leaf}
use Rattle.fb_model.specs.Store.{variable_names, inputs, outputs, internals, first_input}
use Rattle.fb_model.specs.Spans.{whole}
use Rattle.fb_model.specs.Ranges.{variables}
use Rattle.fb_model.proofs.Lists.{all_append, all_both}
use Rattle.fb_model_laws.specs.Leaves.{HasType, StartsFit, IsGoodKind, Yields, Feeds, IsFed}
use Rattle.fb_model.specs.FinderRanges.{held, first_value}
use Rattle.fb_model_laws.proofs.HoldingRows.{all_first, named_more}
use Rattle.fb_model_laws.proofs.Spans.{Inside, held_typed}

all_start : (kind : Kind) → IsGoodKind kind → StartsFit (variables kind)
all_start kind g = all_append _ (inputs kind) (outputs kind ++ internals kind) g.inputs_start (all_append _ (outputs kind) (internals kind) g.outputs_start g.internals_start)

-- a name among those of variables is that of one
named_some : (vs : List Variable) (x : Name) → is_in x (variable_names vs) ≡ true → (v : Variable) × (variable_named vs x ≡ Some v)
named_some [] x h = absurd cc
named_some (w ∷ ws) x h = by (bytes_eq x w.name) h (named_some ws x) where
  by : (b : Bool) → (b || is_in x (variable_names ws)) ≡ true → (is_in x (variable_names ws) ≡ true → (v : Variable) × (variable_named ws x ≡ Some v)) → (v : Variable) × ((if b then Some w else variable_named ws x) ≡ Some v)
  by true h f = (w, refl)
  by false h f = f h

input_typed : (all : List Leaf) (v : Variable) (s : Source) → HasType v.type (start_of v) → Yields all v.type s → HasType v.type (first_input s (start_of v))
input_typed all v (Output_of from y) t h = t
input_typed all v (Constant value) t h = h

first_typed : (all : List Leaf) (leaf : Leaf) (v : Variable) → IsFed all leaf → variable_named (variables leaf.kind) v.name ≡ Some v → HasType v.type (start_of v) → HasType v.type (first_value leaf v)
first_typed all leaf v f e t = by (is_in v.name (variable_names (inputs leaf.kind))) refl where
  by : (b : Bool) → is_in v.name (variable_names (inputs leaf.kind)) ≡ b → HasType v.type (if b then first_input (leaf.source v.name) (start_of v) else start_of v)
  by true h =
      let w = named_some (inputs leaf.kind) v.name h in
      let m : variable_named (variables leaf.kind) v.name ≡ Some w.0 = named_more (inputs leaf.kind) (outputs leaf.kind ++ internals leaf.kind) v.name w.0 w.1 in
      let s : Some w.0 ≡ Some v = sym m ∙ e in
      let q : w.0 ≡ v = cc in
      let n : variable_named (inputs leaf.kind) v.name ≡ Some v = w.1 ∙ ap Some q in
      input_typed all v (leaf.source v.name) t (subst (λ (o : Option Variable). Feeds all o (leaf.source v.name)) n (f.feeds v.name))
  by false h = t

-- the range that a variable begins with
pub first_inside : (all : List Leaf) (leaf : Leaf) → IsFed all leaf → AllByRecursion (λ (v : Variable). Inside (held (numbers_of (first_value leaf v))) (whole v.type)) (variables leaf.kind)
first_inside all leaf f =
    all_both (λ (v : Variable). variable_named (variables leaf.kind) v.name ≡ Some v) (λ (v : Variable). HasType v.type (start_of v)) (λ (v : Variable). Inside (held (numbers_of (first_value leaf v))) (whole v.type)) (variables leaf.kind)
    (λ v e t. held_typed v.type (numbers_of (first_value leaf v)) (first_typed all leaf v f e t)) (all_first leaf.kind f.good) (all_start leaf.kind f.good)
