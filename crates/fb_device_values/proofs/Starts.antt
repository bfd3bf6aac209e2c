-- Variables with their start values, in a store and in the book.
use Rattle.std.proofs.Common.{◌≡◌, ℕ, suc, ◌+◌, ℤ, pos, Bool, true, false, cond, List, [], ◌∷◌, ◌++◌, map, length, replicate, string_bytes, Option, None, Some, refl, sym, ap, subst, ◌∙◌}
use Rattle.std.specs.declared.string.String.{String}
use Rattle.std.specs.declared.alloc.Global.{Global}
use Rattle.std.specs.List.{AllByRecursion}
use Rattle.std.specs.Option.{option_map}
use Rattle.std.specs.Str.{bytes_eq}
use Rattle.std.proofs.lemmas.List.{length-replicate}
use Rattle.fb_words.specs.declared.elem_type.ElemType.{ElemType}
use Rattle.fb_model.specs.Names.{Name}
use Rattle.fb_model.specs.Values.{Value, One, Many}
use Rattle.fb_model.specs.Language.{given}
use Rattle.fb_model.specs.System as book
use Rattle.fb_model.specs.System.{start_of, start_in, zeros}
use Rattle.fb_model.specs.Services.{received, ports, service_outputs}
use Rattle.fb_model.specs.NetworkTyping.{variable_named}
use Rattle.fb_model.specs.BlockTyping.{Declared, extent, variable_of}
use Rattle.fb_model.specs.Store.{variable_names}
use Rattle.fb_model.specs.Ranges.{length_in, HasLength}
use Rattle.fb_model.proofs.Names.{eq_turned}
use Rattle.st_exec.specs.Cells.{Cell, values_of, names_of, shape_of, length_of, filled}
use Rattle.fb_device_values.specs.Filling.{first_number, number_in, variable_cell, port_cell, port_cells}

-- ---- values all of whose elements are the same

abbrev pub IsUniform : Value → Type 0
IsUniform (One n) = Unit {0}
IsUniform (Many ns) = ns ≡ replicate (length ns) (first_number ns)

pub filled_is : (bounds : Option (ℤ × ℤ)) (v : Value) → IsUniform v → HasLength (option_map extent bounds) v → filled bounds (number_in v) ≡ v
filled_is None (One n) u h = refl
filled_is None (Many ns) u h = absurd h
filled_is (Some b) (One n) u h = absurd h
filled_is (Some b) (Many ns) u h = ap (λ k. Many (replicate k (first_number ns))) (sym h) ∙ ap Many (sym u)

pub zeros_uniform : (n : ℕ) → IsUniform (Many (replicate (suc n) (pos 0)))
zeros_uniform n = ap (λ k. replicate k (pos 0)) (sym (length-replicate (suc n) (pos 0)))

pub start_uniform : (x : Name) (a : ElemType) (bounds : Option (ℤ × ℤ)) (start : Option ℤ) → IsUniform (start_of (variable_of (record { name = x; type = a; bounds = bounds; start = start })))
start_uniform x a bounds (Some n) = tt
start_uniform x a None None = tt
start_uniform x a (Some b) None = zeros_uniform _

-- ---- one by one

-- a variable of a store is this one of the book, with its start value
pub record IsStart (c : Cell) (v : book.Variable) : Type 0 where
  pub name : c.name ≡ v.name
  pub length : option_map extent c.bounds ≡ v.length
  pub value : HasLength v.length (start_of v) → c.value ≡ start_of v

abbrev pub AreStarts : List Cell → List book.Variable → Type 0
AreStarts [] [] = Unit {0}
AreStarts (c ∷ cs) (v ∷ vs) = IsStart c v × AreStarts cs vs
AreStarts [] (v ∷ vs) = ⊥
AreStarts (c ∷ cs) [] = ⊥

pub starts_append : (cs ds : List Cell) (vs ws : List book.Variable) → AreStarts cs vs → AreStarts ds ws → AreStarts (cs ++ ds) (vs ++ ws)
starts_append [] ds [] ws h k = k
starts_append [] ds (v ∷ vs) ws h k = absurd h
starts_append (c ∷ cs) ds [] ws h k = absurd h
starts_append (c ∷ cs) ds (v ∷ vs) ws h k = (h.0, starts_append cs ds vs ws h.1 k)

pub names_are : (cs : List Cell) (vs : List book.Variable) → AreStarts cs vs → names_of cs ≡ variable_names vs
names_are [] [] h = refl
names_are [] (v ∷ vs) h = absurd h
names_are (c ∷ cs) [] h = absurd h
names_are (c ∷ cs) (v ∷ vs) h = ap (λ n. n ∷ names_of cs) h.0.name ∙ ap (λ ns. v.name ∷ ns) (names_are cs vs h.1)

pub lengths_are : (cs : List Cell) (vs : List book.Variable) (x : Name) → AreStarts cs vs → length_of cs x ≡ length_in vs x
lengths_are [] [] x h = refl
lengths_are [] (v ∷ vs) x h = absurd h
lengths_are (c ∷ cs) [] x h = absurd h
lengths_are (c ∷ cs) (v ∷ vs) x h = ap (λ n. option_map extent (cond (bytes_eq x n) c.bounds (shape_of cs x))) h.0.name ∙ by (bytes_eq x v.name) (lengths_are cs vs x h.1) where
  by : (b : Bool) → length_of cs x ≡ length_in vs x → option_map extent (cond b c.bounds (shape_of cs x)) ≡ given (cond b (Some v) (variable_named vs x)) (λ w. w.length)
  by true again = h.0.length
  by false again = again

pub values_are : (cs : List Cell) (vs : List book.Variable) (x : Name) → AreStarts cs vs → HasLength (length_in vs x) (start_in vs x) → values_of cs x ≡ start_in vs x
values_are [] [] x h l = refl
values_are [] (v ∷ vs) x h l = absurd h
values_are (c ∷ cs) [] x h l = absurd h
values_are (c ∷ cs) (v ∷ vs) x h l =
    ap (λ n. cond (bytes_eq x n) c.value (values_of cs x)) h.0.name
    ∙ by (bytes_eq x v.name) (subst (λ b. HasLength (length_in (v ∷ vs) x) (cond b (start_of v) (start_in vs x))) (eq_turned v.name x) l) (values_are cs vs x h.1)
    ∙ ap (λ b. cond b (start_of v) (start_in vs x)) (eq_turned x v.name)
  where
    by : (b : Bool) → HasLength (given (cond b (Some v) (variable_named vs x)) (λ w. w.length)) (cond b (start_of v) (start_in vs x)) → (HasLength (length_in vs x) (start_in vs x) → values_of cs x ≡ start_in vs x)
        → cond b c.value (values_of cs x) ≡ cond b (start_of v) (start_in vs x)
    by true l again = h.0.value l
    by false l again = again l

-- ---- variables of blocks

pub variables_start : (ds : List Declared) → AreStarts (map variable_cell ds) (map variable_of ds)
variables_start [] = tt
variables_start (d ∷ ds) = (record { name = refl; length = refl; value = λ h. filled_is d.bounds (start_of (variable_of d)) (start_uniform d.name d.type d.bounds d.start) h }, variables_start ds)

-- ---- ports of services

-- without length and start value
abbrev pub IsBare : book.Variable → Type 0
IsBare v = (v.length ≡ None) × (v.start ≡ None)

bare_start : (v : book.Variable) → IsBare v → One (pos 0) ≡ start_of v
bare_start v h = sym (ap (λ o. elim o [ None ↦ zeros v.length | Some value ↦ value ]) h.1 ∙ ap zeros h.0)

pub ports_start : (vs : List book.Variable) → AllByRecursion IsBare vs → AreStarts (port_cells vs) vs
ports_start [] h = tt
ports_start (v ∷ vs) h = (record { name = refl; length = sym h.0.0; value = λ l. bare_start v h.0 }, ports_start vs h.1)

pub ports_bare : (f : ℕ → Name) (n : ℕ) (types : List ElemType) → AllByRecursion IsBare (ports f n types)
ports_bare f n [] = tt
ports_bare f n (type ∷ types) = ((refl, refl), ports_bare f (n + 1) types)

pub outputs_bare : (s : book.Service) → AllByRecursion IsBare (service_outputs s)
outputs_bare (book.Input number types) = ports_bare received 1 types
outputs_bare (book.Output number types) = tt
outputs_bare (book.Publish channel types) = ((refl, refl), tt)
outputs_bare (book.Subscribe channel types) = ((refl, refl), ports_bare received 1 types)
outputs_bare book.Delay = tt
outputs_bare book.Cycle = tt
outputs_bare book.Restart = tt

-- what is added by names
pub cells_named : (names : List (String Global)) (xs : List Name) → map string_bytes names ≡ xs → map (λ s. port_cell (string_bytes s)) names ≡ map port_cell xs
cells_named [] [] h = refl
cells_named [] (x ∷ xs) h = cc
cells_named (n ∷ ns) [] h = cc
cells_named (n ∷ ns) (x ∷ xs) h =
    let first : string_bytes n ≡ x = cc in
    let rest : map string_bytes ns ≡ xs = cc in
    ap (λ y. port_cell y ∷ map (λ s. port_cell (string_bytes s)) ns) first ∙ ap (λ cs. port_cell x ∷ cs) (cells_named ns xs rest)
