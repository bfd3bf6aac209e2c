-- Variables that are added one after another.
use Rattle.std.proofs.Common.{◌≡◌, ◌∙◌, ℕ, ◌+◌, ◌<◌, ℤ, List, [], ◌∷◌, ◌++◌, map, take, length, get_or, slice_get, Some, refl, sym, ap, string_bytes, Global}
use Rattle.std.specs.declared.string.String.{String}
use Rattle.std.proofs.lemmas.List.{take_more, map_push, append_assoc}
use Rattle.fb_model.proofs.Lists.{got}
use Rattle.fb_model.specs.Names.{Name}
use Rattle.fb_model.specs.System.{start_of}
use Rattle.fb_model.specs.BlockTyping.{variable_of}
use Rattle.fb_types_blocks.specs.declared.typed.Variable.{Variable}
use Rattle.fb_types_blocks.specs.Views.{declared_of}
use Rattle.st_exec.specs.Cells.{Cell, declared}
use Rattle.fb_device_values.specs.Filling.{number_in, variable_cell}

-- one more
pub added_next : {X : Type 0} (f : X → Cell) (xs : List X) (i : ℕ) (x : X) (a s t : List Cell) → i < length xs → x ≡ get_or xs i x → s ≡ a ++ map f (take i xs) → t ≡ s ++ f x ∷ [] → t ≡ a ++ map f (take (i + 1) xs)
added_next f xs i x a s t l e h k =
    let more : take (i + 1) xs ≡ take i xs ++ x ∷ [] = take_more xs i x l ∙ ap (λ y. take i xs ++ y ∷ []) (sym e) in
    let all : map f (take (i + 1) xs) ≡ map f (take i xs) ++ f x ∷ [] = ap (map f) more ∙ map_push f (take i xs) x in
    k ∙ ap (λ u. u ++ f x ∷ []) h ∙ append_assoc a (map f (take i xs)) (f x ∷ []) ∙ ap (λ u. a ++ u) (sym all)

-- inputs, outputs and internal variables, one after another
pub added_all : (ins outs inner start s t u : List Cell) → start ≡ [] → s ≡ start ++ ins → t ≡ s ++ outs → u ≡ t ++ inner → u ≡ ins ++ (outs ++ inner)
added_all ins outs inner start s t u e h k l = l ∙ ap (λ w. w ++ inner) (k ∙ ap (λ w. w ++ outs) (h ∙ ap (λ w. w ++ ins) e)) ∙ append_assoc ins outs inner

-- ---- variables of the tables by their places

abbrev pub NamedVariable : Type 0
NamedVariable = String Global × Variable

abbrev pub entry_cell : NamedVariable → Cell
entry_cell e = variable_cell (declared_of (string_bytes e.0) e.1)

abbrev pub entry_cells : List NamedVariable → List Cell
entry_cells es = map variable_cell (map (λ (p : NamedVariable). declared_of (string_bytes p.0) p.1) es)

-- one by one or all at once
entries_are : (es : List NamedVariable) → map entry_cell es ≡ entry_cells es
entries_are [] = refl
entries_are (e ∷ es) = ap (λ cs. entry_cell e ∷ cs) (entries_are es)

-- one more variable
pub entry_next : (es : List NamedVariable) (i : ℕ) (e : NamedVariable) (a s t : List Cell) (name : Name) (number : ℤ) → Some e ≡ slice_get es i → name ≡ string_bytes e.0 → number ≡ number_in (start_of (variable_of (declared_of (string_bytes e.0) e.1)))
    → s ≡ a ++ entry_cells (take i es) → t ≡ s ++ declared name e.1.bounds number ∷ [] → t ≡ a ++ entry_cells (take (i + 1) es)
entry_next es i e a s t name number h n k l m =
    let g = got es i e h in
    let last : t ≡ s ++ entry_cell e ∷ [] = m ∙ ap (λ x. s ++ declared x e.1.bounds number ∷ []) n ∙ ap (λ v. s ++ declared (string_bytes e.0) e.1.bounds v ∷ []) k in
    added_next entry_cell es i e a s t g.0 g.1 (l ∙ ap (λ cs. a ++ cs) (sym (entries_are (take i es)))) last ∙ ap (λ cs. a ++ cs) (entries_are (take (i + 1) es))
