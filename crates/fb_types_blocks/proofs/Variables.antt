-- Declarations of variables, one after another.
use Rattle.std.proofs.Common.{◌≡◌, ℕ, suc, zero, ◌+◌, ◌-◌, ◌<◌, ◌≤◌, ℤ, List, [], ◌∷◌, ◌++◌, Option, Some, map, length, drop, get_or, refl, sym, ap, subst, ◌∙◌, append_assoc, arith}
use Rattle.std.specs.Prelude.{slice_get}
use Rattle.std.proofs.lemmas.List.{append-nil, map-append}
use Rattle.fb_words.specs.declared.elem_type.ElemType.{ElemType}
use Rattle.fb_tree.specs.declared.name.Name.{Name as TextName}
use Rattle.fb_tree.specs.Words.{word_of}
use Rattle.fb_model.specs.Names.{Name}
use Rattle.fb_model.specs.Productions.{Word}
use Rattle.fb_model.specs.Declarations as decl
use Rattle.fb_model.specs.Typing.{AreNew, texts}
use Rattle.fb_model.specs.BlockTyping.{Declared, declared, names_in, words_in, AreDeclared, AreBounds, IsStart, none, more}
use Rattle.fb_tree.specs.declared.tree.VariableTree.{VariableTree}
use Rattle.fb_tree.specs.Files as tree
use Rattle.fb_faults.specs.declared.typing.TypeFault.{TypeFault}
use Rattle.fb_faults.specs.declared.typing.TypeFault.TheVariants.{Limit}
use Rattle.fb_model.specs.BlockFaults.{IsExcess}
use Rattle.fb_types_blocks.proofs.Lists.{map_map, texts_append, new_split}
use Rattle.fb_types_blocks.proofs.Refused.{drop_step}

-- the words that are left, from the declaration at i on
pub words_left : (vs : List VariableTree) (i : ℕ) (v : VariableTree) → i < length vs → v ≡ get_or vs i v
    → words_in (map tree.variable_of (drop i vs)) ≡ map word_of v.names.items ++ words_in (map tree.variable_of (drop (i + 1) vs))
words_left vs i v lt e = ap (λ xs. words_in (map tree.variable_of xs)) (drop_step vs i v lt e)

-- names are texts of words
pub names_are : (ns : List TextName) → map (λ n. (word_of n).text) ns ≡ texts (map word_of ns)
names_are ns = sym (map_map (λ w. w.text) word_of ns)

pub names_shared : (a : ElemType) (b : Option (ℤ × ℤ)) (n : Option ℤ) (ws : List Word) → names_in (map (declared a b n) ws) ≡ texts ws
names_shared a b n ws = map_map (λ d. d.name) (declared a b n) ws

-- the names of variables are those of their declarations
pub names_declared : (vs : List decl.VariableTree) (ds : List Declared) → AreDeclared vs ds → names_in ds ≡ texts (words_in vs)
names_declared [] [] none = refl
names_declared [] (d ∷ ds) x = elim x [ ]
names_declared (v ∷ vs) ds (more {b = b} {n = n} {ds = es} x y rest) =
    map-append (λ d. d.name) (map (declared v.type b n) v.names) es ∙ ap (λ ts. ts ++ names_in es) (names_shared v.type b n v.names) ∙ ap (λ ts. texts v.names ++ ts) (names_declared vs es rest) ∙ sym (texts_append v.names (words_in vs))

-- the first declarations are declared, with those that are left
abbrev pub Left : List decl.VariableTree → List Declared → List decl.VariableTree → Type 0
Left all so_far rest = (ds : List Declared) → AreDeclared rest ds → AreDeclared all (so_far ++ ds)

pub left_step : (all rest : List decl.VariableTree) (so_far after : List Declared) (v : decl.VariableTree) (a : ElemType) (b : Option (ℤ × ℤ)) (n : Option ℤ) → Left all so_far (v ∷ rest) → a ≡ v.type → AreBounds v.bounds b → IsStart v.type v.start n → after ≡ so_far ++ map (declared a b n) v.names → Left all after rest
left_step all rest so_far after v a b n left e x y sum ds h =
    subst (AreDeclared all) (sym (append_assoc so_far (map (declared v.type b n) v.names) ds) ∙ ap (λ xs. xs ++ ds) (sym (sum ∙ ap (λ t. so_far ++ map (declared t b n) v.names) e))) (left (map (declared v.type b n) v.names ++ ds) (more x y h))

pub left_none : (all : List decl.VariableTree) (so_far : List Declared) → Left all so_far [] → AreDeclared all so_far
left_none all so_far left = subst (AreDeclared all) (append-nil so_far) (left [] none)

-- the names that are left are new, of the first declaration and of the others
pub first_new : (before : List Name) (ws rest : List Word) → AreNew before (texts (ws ++ rest)) → AreNew before (texts ws)
first_new before ws rest h = (new_split before (texts ws) (texts rest) (subst (AreNew before) (texts_append ws rest) h)).0

pub others_new : (so_far after : List Declared) (a : ElemType) (b : Option (ℤ × ℤ)) (n : Option ℤ) (ws rest : List Word) → AreNew (names_in so_far) (texts (ws ++ rest)) → after ≡ so_far ++ map (declared a b n) ws → AreNew (names_in after) (texts rest)
others_new so_far after a b n ws rest h e =
    subst (λ ns. AreNew ns (texts rest)) (sym (ap names_in e ∙ map-append (λ d. d.name) so_far (map (declared a b n) ws) ∙ ap (λ ts. names_in so_far ++ ts) (names_shared a b n ws)))
    (new_split (names_in so_far) (texts ws) (texts rest) (subst (AreNew (names_in so_far)) (texts_append ws rest) h)).1

-- ---- how many there are

get_front : {X : Type 0} (xs ys : List X) (i : ℕ) (x : X) → slice_get xs i ≡ Some x → slice_get (xs ++ ys) i ≡ Some x
get_front [] ys i x h = absurd (none i h) where
  none : (i : ℕ) → slice_get [] i ≡ Some x → ⊥
  none zero e = cc
  none (suc i) e = cc
get_front (z ∷ xs) ys zero x h = h
get_front (z ∷ xs) ys (suc i) x h = get_front xs ys i x h

pub get_behind : {X : Type 0} (xs ys : List X) (i : ℕ) → length xs ≤ i → slice_get (xs ++ ys) i ≡ slice_get ys (i - length xs)
get_behind [] ys i h = ap (λ k. slice_get ys k) (let e : i ≡ i - 0 = omega arith in e)
get_behind (z ∷ xs) ys zero h = absurd (omega (arith, h))
get_behind (z ∷ xs) ys (suc i) h = get_behind xs ys i (omega (arith, h)) ∙ ap (λ k. slice_get ys k) (let e : i - length xs ≡ suc i - suc (length xs) = omega arith in e)

pub excess_left : (left most : ℕ) (ws rest all : List Word) (f : TypeFault) → slice_get (ws ++ rest) left ≡ slice_get all most → IsExcess left ws f → IsExcess most all f
excess_left left most ws rest all (Limit at) same h = (h.0, sym same ∙ get_front ws rest left h.0 h.1, h.2)
excess_left left most ws rest all f same h = absurd h
