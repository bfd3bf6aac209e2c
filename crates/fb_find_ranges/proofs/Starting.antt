-- The lines of the tables' leaves at first are those of the book's leaves.
use denote.Ref.{Bor}
use Rattle.std.proofs.Common.{◌≡◌, pos, Bool, true, false, ◌||◌, List, [], ◌∷◌, map, Option, None, Some, refl, sym, ap, subst, ◌∙◌, string_bytes, Result, Ok, Err, Vec, Global}
use Rattle.std.proofs.Math.Path.{fun_ext}
use Rattle.std.specs.Prelude.{if◌then◌else◌, IfOk}
use Rattle.std.specs.Str.{bytes_eq}
use Rattle.std.specs.List.{AllByRecursion}
use Rattle.fb_model.specs.Names.{Name, is_in}
use Rattle.fb_model.specs.Values.{One}
use Rattle.fb_model.specs.System.{Variable, Block}
use Rattle.fb_model.specs.NetworkTyping.{variable_named}
use Rattle.fb_model.specs.Wires as wires
use Rattle.fb_model.specs.Wires.{Source, Constant, Kind, Charted, Serviced}
use Rattle.fb_model.specs.Store.{variable_names, inputs}
use Rattle.fb_model_laws.specs.Leaves.{IsFed, Feeds}
use Rattle.fb_flat.specs.declared.flat.Leaf.{Leaf}
use Rattle.fb_flat.specs.declared.flat.Input.{Input}
use Rattle.fb_flat.specs.Tables.{source_at, input_names, IsLeaf, AreLeaves}
use Rattle.fb_ranges.specs.declared.rows.Ranges.{Ranges}
use Rattle.fb_ranges.specs.Views.{spans_of}
use Rattle.fb_find_ranges.specs.Found.{AreLastTables}
use Rattle.fb_find_ranges.specs.Lines.{lines_by, first_from, first_lined, Lined, spans_by}
use Rattle.fb_find_ranges.specs.Views.{shown}
use Rattle.fb_find_ranges.proofs.Keeping.{SameSources, AreLined}
use Rattle.fb_find_ranges.proofs.Ending.{first_by}

-- what is no input has no source
source_none : (is : List Input) (x : Name) → is_in x (input_names is) ≡ false → source_at is x ≡ Constant (One (pos 0))
source_none [] x h = refl
source_none (i ∷ is) x h = by (bytes_eq x (string_bytes i.name)) h (source_none is x) where
  by : (b : Bool) → (b || is_in x (input_names is)) ≡ false → (is_in x (input_names is) ≡ false → source_at is x ≡ Constant (One (pos 0))) → (if b then Rattle.fb_flat.specs.Tables.book_source i.source else source_at is x) ≡ Constant (One (pos 0))
  by true h next = absurd cc
  by false h next = next h

named_none : (vs : List Variable) (x : Name) → is_in x (variable_names vs) ≡ false → variable_named vs x ≡ None
named_none [] x h = refl
named_none (w ∷ ws) x h = by (bytes_eq x w.name) h (named_none ws x) where
  by : (b : Bool) → (b || is_in x (variable_names ws)) ≡ false → (is_in x (variable_names ws) ≡ false → variable_named ws x ≡ None) → (if b then Some w else variable_named ws x) ≡ None
  by true h f = absurd cc
  by false h f = f h

sources_same : (all : List wires.Leaf) (is : List Input) (source : Name → Source) (block : Block) → input_names is ≡ variable_names block.inputs → ((x : Name) → is_in x (variable_names block.inputs) ≡ true → source_at is x ≡ source x)
    → ((x : Name) → Feeds all (variable_named block.inputs x) (source x)) → (x : Name) → source_at is x ≡ source x
sources_same all is source block names are feeds x = by (is_in x (variable_names block.inputs)) refl where
  by : (b : Bool) → is_in x (variable_names block.inputs) ≡ b → source_at is x ≡ source x
  by true h = are x h
  by false h =
      let none : source x ≡ Constant (One (pos 0)) = subst (λ (o : Option Variable). Feeds all o (source x)) (named_none block.inputs x h) (feeds x) in
      source_none is x (ap (is_in x) names ∙ h) ∙ sym none

same_sources : (all : List wires.Leaf) (l : Leaf) (b : wires.Leaf) (kind : Kind) → b.kind ≡ kind → IsLeaf l b → IsFed all b → SameSources (source_at l.inputs.items) b.source kind
same_sources all l b (Charted block) e is fed =
    sources_same all l.inputs.items b.source block (is.inputs ∙ ap Rattle.fb_flat.specs.Sources.written_inputs e)
    (λ x h. is.sources x (subst (λ (k : Kind). is_in x (Rattle.fb_flat.specs.Sources.written_inputs k) ≡ true) (sym e) h))
    (λ x. subst (λ (k : Kind). Feeds all (variable_named (inputs k) x) (b.source x)) e (fed.feeds x))
same_sources all l b (Serviced service) e is fed = tt

lines_first : (kind : Kind) (some others : Name → Source) → SameSources some others kind → lines_by (first_from (inputs kind) some) kind ≡ lines_by (first_from (inputs kind) others) kind
lines_first (Charted block) some others h = ap (λ f. lines_by (first_from (inputs (Charted block)) f) (Charted block)) (fun_ext h)
lines_first (Serviced service) some others h = refl

pub all_first_lined : (all : List wires.Leaf) (ls : List (Bor Leaf)) (bs : List wires.Leaf) → AreLeaves (map (λ (l : Bor Leaf). l.now) ls) bs → AllByRecursion (IsFed all) bs → AreLined first_by (map (λ (l : Bor Leaf). first_lined (shown l.now)) ls) bs
all_first_lined all [] [] h feds = tt
all_first_lined all [] (b ∷ bs) h feds = absurd h
all_first_lined all (l ∷ ls) [] h feds = absurd h
all_first_lined all (l ∷ ls) (b ∷ bs) h feds =
    let sources = same_sources all l.now b b.kind refl h.0 feds.0 in (
      record {
        leaf = record { path = h.0.path; kind = h.0.kind; sources = sources };
        lines = ap (λ (k : Kind). lines_by (first_from (inputs k) (source_at l.now.inputs.items)) k) h.0.kind ∙ lines_first b.kind (source_at l.now.inputs.items) b.source sources;
      },
      all_first_lined all ls bs h.1 feds.1,
    )

-- what is told where memory did not run out
pub told : {E : Type 0} (bs : List wires.Leaf) (r : Result (Vec Ranges Global) E) (ss : List Lined) → IfOk r (λ v. map spans_of v.items ≡ map (λ (s : Lined). spans_by s.lines) ss) → AreLastTables bs (map (λ (s : Lined). spans_by s.lines) ss) → IfOk r (λ v. AreLastTables bs (map spans_of v.items))
told bs (Ok v) ss is last = subst (AreLastTables bs) (sym is) last
told bs (Err e) ss is last = tt
