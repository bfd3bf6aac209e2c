-- The places of events among names, and the transitions that are open.
use Rattle.std.proofs.Common.{◌≡◌, ℕ, zero, suc, ◌+◌, ◌<◌, arith, Bool, true, false, not, cond, List, [], ◌∷◌, ◌++◌, length, map, get_or, slice_get, Option, Some, None, option_map, refl, sym, ap, subst, ◌∙◌, string_bytes}
use Rattle.std.specs.Prelude.{◌==◌}
use Rattle.std.specs.List.{flat_map}
use Rattle.std.specs.Str.{bytes_eq}
use Rattle.std.proofs.lemmas.Bool.Decides.{nat_tests}
use Rattle.std.proofs.lemmas.List.{map-append}
use Rattle.std.specs.declared.string.String.{String}
use Rattle.std.specs.declared.vec.Vec.{Vec}
use Rattle.std.specs.declared.alloc.Global.{Global}
use Rattle.indexmap.specs.IndexMap.{IndexMap}
use Rattle.fb_model.specs.Names.{Name}
use Rattle.fb_model.specs.System as book
use Rattle.fb_model.specs.Charts.{is_open}
use Rattle.fb_model.specs.Certificates.{event_names}
use Rattle.fb_model.proofs.Lists.{same_name}
use Rattle.fb_model.proofs.Placed.{name_same}
use Rattle.fb_model.specs.Demands.{Node, event, state, Ground, crossing_demand, of_crossing, of_input, of_least}
use Rattle.fb_find_laws.specs.Nodes.{by_number, index_in}
use Rattle.fb_types_networks.proofs.Places.{place}
use Rattle.fb_types_blocks.specs.declared.typed.Action.{Action}
use Rattle.fb_types_blocks.specs.declared.typed.Block.{Block}
use Rattle.fb_types_blocks.specs.declared.typed.Transition.{Transition}
use Rattle.fb_types_blocks.specs.Views.{block_of, states_of, transition_of}
use Rattle.fb_find_demands.specs.declared.numbered.Numbering.{Numbering}
use Rattle.fb_find_demands.specs.Crossed.{crossed, crossing_of, input_rights, is_crossed, state_numbers}
use Rattle.fb_find_demands.specs.Rights.{numbered, numbers_of}
use Rattle.fb_find_demands.specs.Grounds.{table_names}
use Rattle.fb_find_demands.specs.Spending.{States}
use Rattle.fb_find_demands.proofs.Entries.{event_in, state_of}

abbrev pub Entries : Type 0
Entries = List (String Global × Vec (String Global) Global)

pub names_are : (es : Entries) → map string_bytes (map (λ p. p.0) es) ≡ event_names (map event_in es)
names_are [] = refl
names_are (e ∷ es) = ap (λ ns. string_bytes e.0 ∷ ns) (names_are es)

-- ---- places of names

here_within : (b : Bool) (k m : ℕ) → b ≡ true → cond (not b) (1 + k) 0 < m + 1
here_within true k m h = omega arith
here_within false k m h = absurd cc

next_within : (b : Bool) (k m : ℕ) → k < m → cond (not b) (1 + k) 0 < m + 1
next_within true k m h = omega arith
next_within false k m h = omega (arith, h)

-- the place of a name that stands there is within
pub entry_within : (es : Entries) (i : ℕ) (x : String Global × Vec (String Global) Global) → Some x ≡ slice_get es i → index_in (event_names (map event_in es)) (string_bytes x.0) < length (event_names (map event_in es))
entry_within [] i x h = absurd cc
entry_within (e ∷ es) zero x h =
    let names = event_names (map event_in es) in
    let same : e ≡ x = cc in
    let k = here_within (bytes_eq (string_bytes x.0) (string_bytes e.0)) (index_in names (string_bytes x.0)) (length names) (ap (λ (y : String Global × Vec (String Global) Global). bytes_eq (string_bytes x.0) (string_bytes y.0)) same ∙ name_same (string_bytes x.0)) in
    omega (arith, k)
entry_within (e ∷ es) (suc i) x h =
    let names = event_names (map event_in es) in
    let k = next_within (bytes_eq (string_bytes x.0) (string_bytes e.0)) (index_in names (string_bytes x.0)) (length names) (entry_within es i x h) in
    omega (arith, k)

same_step : (n x e : Name) (i j m : ℕ) (b c : Bool) → (j < m → i ≡ j → x ≡ e) → bytes_eq x n ≡ b → bytes_eq e n ≡ c → cond (not c) (1 + j) 0 < m + 1 → cond (not b) (1 + i) 0 ≡ cond (not c) (1 + j) 0 → x ≡ e
same_step n x e i j m true true again p q l h = same_name x n p ∙ sym (same_name e n q)
same_step n x e i j m true false again p q l h = absurd (omega (arith, h))
same_step n x e i j m false true again p q l h = absurd (omega (arith, h))
same_step n x e i j m false false again p q l h = again (omega (arith, l)) (omega (arith, h))

-- names at one place are the same
same_named : (names : List Name) (x e : Name) → index_in names e < length names → index_in names x ≡ index_in names e → x ≡ e
same_named [] x e l h = absurd (omega (arith, l))
same_named (n ∷ ns) x e l h = same_step n x e (index_in ns x) (index_in ns e) (length ns) (bytes_eq x n) (bytes_eq e n) (same_named ns x e) refl refl (omega (arith, l)) h

equal : (a : ℕ) → (a == a) ≡ true
equal a = grind (arith, nat_tests)

differs : (a b : ℕ) → (a ≡ b → ⊥) → (a == b) ≡ false
differs a b h = grind (arith, nat_tests)

same_place : (names : List Name) (x e : Name) → index_in names e < length names → (index_in names x == index_in names e) ≡ bytes_eq x e
same_place names x e l = by (bytes_eq x e) refl where
  by : (b : Bool) → bytes_eq x e ≡ b → (index_in names x == index_in names e) ≡ b
  by true p = ap (λ z. index_in names z == index_in names e) (same_name x e p) ∙ equal (index_in names e)
  by false p = differs (index_in names x) (index_in names e) (λ k. let s : bytes_eq x e ≡ true = ap (bytes_eq x) (sym (same_named names x e l k)) ∙ name_same x in absurd cc)

-- ---- numbers of states

before : (o : Option ℕ) (i : ℕ) → option_map suc o ≡ Some i → (j : ℕ) × (o ≡ Some j) × (i ≡ suc j)
before None i e = absurd cc
before (Some j) i e = (j, refl, cc)

number_step : (h : Name → ℕ) (n : Name) (ns : List Name) (x : Name) → ((j : ℕ) → place (bytes_eq x) ns ≡ Some j → get_or (map h ns) j 0 ≡ h x)
    → (b : Bool) → bytes_eq x n ≡ b → (i : ℕ) → cond b (Some 0) (option_map suc (place (bytes_eq x) ns)) ≡ Some i → get_or (h n ∷ map h ns) i 0 ≡ h x
number_step h n ns x again true p zero e = ap h (sym (same_name x n p))
number_step h n ns x again true p (suc i) e = absurd cc
number_step h n ns x again false p i e = let j = before (place (bytes_eq x) ns) i e in subst (λ k. get_or (h n ∷ map h ns) k 0 ≡ h x) (sym j.2) (again j.0 j.1)

number_at : (h : Name → ℕ) (names : List Name) (x : Name) (i : ℕ) → place (bytes_eq x) names ≡ Some i → get_or (map h names) i 0 ≡ h x
unfolding place
number_at h [] x i e = absurd cc
number_at h (n ∷ ns) x i e = number_step h n ns x (λ j k. number_at h ns x j k) (bytes_eq x n) refl i e

named_numbers : (f : Node → ℕ) (g : Ground) (es : States) → state_numbers f g (map state_of es) ≡ map (λ x. f (state (g.own x))) (map (λ p. string_bytes p.0) es)
named_numbers f g [] = refl
named_numbers f g (e ∷ es) = ap (λ ks. f (state (g.own (string_bytes e.0))) ∷ ks) (named_numbers f g es)

-- what stands at the place of a state's name is its number
pub number_of_state : {S : Type 0} (f : Node → ℕ) (g : Ground) (m : IndexMap (String Global) (Vec Action Global) S) (numbers : List ℕ) (x : Name) (i k : ℕ) → numbers ≡ state_numbers f g (states_of m) → place (bytes_eq x) (table_names m) ≡ Some i → k ≡ get_or numbers i 0 → k ≡ f (state (g.own x))
number_of_state f g m numbers x i k e p h = h ∙ ap (λ ks. get_or ks i 0) (e ∙ named_numbers f g m.entries) ∙ number_at (λ y. f (state (g.own y))) (table_names m) x i p

-- ---- transitions by numbers

open_is : (names : List Name) (o : Option Name) (e : Name) → index_in names e < length names → is_crossed (option_map (index_in names) o) (index_in names e) ≡ is_open o (Some e)
open_is names None e l = refl
open_is names (Some x) e l = same_place names x e l

crossing_is : (f : Node → ℕ) (g : Ground) (names : List Name) (e : Name) (t : book.Transition) → index_in names e < length names → crossed (f (event (g.own e))) g.unit (index_in names e) (crossing_of f g names t) ≡ map (by_number f) (of_crossing g e t)
crossing_is f g names e t l = ap (λ b. cond b (by_number f (crossing_demand g e t.target) ∷ []) []) (open_is names t.event e l) ∙ by (is_open t.event (Some e)) where
  by : (b : Bool) → cond b (by_number f (crossing_demand g e t.target) ∷ []) [] ≡ map (by_number f) (cond b (crossing_demand g e t.target ∷ []) [])
  by true = refl
  by false = refl

crossings_are : (f : Node → ℕ) (g : Ground) (names : List Name) (e : Name) (ts : List Transition) → index_in names e < length names
    → flat_map (crossed (f (event (g.own e))) g.unit (index_in names e)) (map (λ t. crossing_of f g names (transition_of t)) ts) ≡ map (by_number f) (flat_map (of_crossing g e) (map transition_of ts))
crossings_are f g names e [] l = refl
crossings_are f g names e (t ∷ ts) l =
    ap (λ ys. ys ++ flat_map (crossed (f (event (g.own e))) g.unit (index_in names e)) (map (λ t. crossing_of f g names (transition_of t)) ts)) (crossing_is f g names e (transition_of t) l)
    ∙ ap (λ ys. map (by_number f) (of_crossing g e (transition_of t)) ++ ys) (crossings_are f g names e ts l)
    ∙ sym (map-append (by_number f) (of_crossing g e (transition_of t)) (flat_map (of_crossing g e) (map transition_of ts)))

-- what an event input asks with the transitions by numbers
pub input_is : (n : Numbering) (g : Ground) (block : Block) (names : List Name) (e : Name) → index_in names e < length names
    → input_rights (numbers_of n) g names e (map (λ t. crossing_of (numbers_of n) g names (transition_of t)) block.transitions.items) ≡ numbered n (of_input g (block_of block) e)
input_is n g block names e l = ap (λ ys. by_number (numbers_of n) (of_least g e) ∷ ys) (crossings_are (numbers_of n) g names e block.transitions.items l)
