-- The number of a name.
use Rattle.std.proofs.Common.{◌≡◌, ℕ, zero, suc, ◌≤◌, Bool, true, false, cond, ◌||◌, List, [], ◌∷◌, map, Option, Some, None, option_map, slice_get, position, string_bytes, Global, refl, sym, ap, subst, ◌∙◌, arith}
use Rattle.std.specs.Str.{bytes_eq}
use Rattle.std.specs.declared.string.String.{String}
use Rattle.std.specs.declared.vec.Vec.{Vec}
use Rattle.indexmap.specs.IndexMap.{IndexMap, keys}
use Rattle.fb_model.specs.Names.{Name, is_in}
use Rattle.fb_model.specs.System as book
use Rattle.fb_model.specs.Services.{init, req, rsp, start, stop, arrive, expire, begin, service_events}
use Rattle.fb_model.specs.Certificates.{event_names, names}
use Rattle.fb_model.proofs.Lists.{same_name}
use Rattle.fb_types_blocks.specs.Views.{event_of, action_of}
use Rattle.fb_types_blocks.specs.Answers.{names_in_map}
use Rattle.fb_types_networks.proofs.Places.{place, place_below, position_is, position_map}
use Rattle.fb_device_tables.specs.Filling.{IsNumber, NamedActions, service_event, most_numbers}

-- ---- places

-- the index of a name in a table is its place among the names
pub placed : {V S : Type 0} (m : IndexMap (String Global) V S) (x : Name) → place (bytes_eq x) (names_in_map m) ≡ position (λ s. bytes_eq x (string_bytes s)) (keys m)
placed m x = sym (position_is (bytes_eq x) (names_in_map m)) ∙ position_map (bytes_eq x) (λ e. string_bytes e.0) m.entries ∙ sym (position_map (λ s. bytes_eq x (string_bytes s)) (λ e. e.0) m.entries)

pub suc_of : (o : Option ℕ) (i : ℕ) → option_map suc o ≡ Some i → (j : ℕ) × (o ≡ Some j) × (i ≡ suc j)
suc_of None i e = absurd cc
suc_of (Some j) i e = (j, refl, cc)

turn : (x y : Name) (ys : List Name) → ((j : ℕ) → place (bytes_eq x) ys ≡ Some j → slice_get ys j ≡ Some x)
    → (t : Bool) → bytes_eq x y ≡ t → (i : ℕ) → cond t (Some 0) (option_map suc (place (bytes_eq x) ys)) ≡ Some i → slice_get (y ∷ ys) i ≡ Some x
turn x y ys again true s zero e = ap Some (sym (same_name x y s))
turn x y ys again true s (suc i) e = absurd cc
turn x y ys again false s i e =
    let j = suc_of (place (bytes_eq x) ys) i e in
    subst (λ k. slice_get (y ∷ ys) k ≡ Some x) (sym j.2) (again j.0 j.1)

-- at the place of a name stands the name
pub stands : (x : Name) (names : List Name) (i : ℕ) → place (bytes_eq x) names ≡ Some i → slice_get names i ≡ Some x
unfolding place
stands x [] i e = absurd cc
stands x (y ∷ ys) i e = turn x y ys (stands x ys) (bytes_eq x y) refl i e

not_placed : (x : Name) (ns : List Name) → place (bytes_eq x) ns ≡ None → is_in x ns ≡ false
unfolding place
not_placed x [] f = refl
not_placed x (n ∷ ns) f = by (bytes_eq x n) (place (bytes_eq x) ns) f (not_placed x ns) where
  by : (t : Bool) (o : Option ℕ) → cond t (Some 0) (option_map suc o) ≡ None → (o ≡ None → is_in x ns ≡ false) → (t || is_in x ns) ≡ false
  by true o f g = absurd cc
  by false None f g = g refl
  by false (Some k) f g = absurd cc

pub number_some : (x : Name) (names : List Name) (i n : ℕ) → place (bytes_eq x) names ≡ Some i → (i ≤ most_numbers → n ≡ i) → IsNumber names x n
number_some x names i n e f =
    λ few listed.
    let l = place_below (bytes_eq x) names i e in
    let same : n ≡ i = f (omega (arith, l, few)) in
    ap (slice_get names) same ∙ stands x names i e

pub number_none : (x : Name) (names : List Name) (n : ℕ) → place (bytes_eq x) names ≡ None → IsNumber names x n
number_none x names n e = λ few listed. absurd (let none = not_placed x names e in let f : false ≡ true = sym none ∙ listed in cc)

-- ---- events of services

one_number : (x a : Name) → is_in x (a ∷ []) ≡ true → slice_get (a ∷ []) 0 ≡ Some x
one_number x a h = by (bytes_eq x a) refl h where
  by : (b : Bool) → bytes_eq x a ≡ b → (b || false) ≡ true → Some a ≡ Some x
  by true e h = ap Some (sym (same_name x a e))
  by false e h = absurd cc

two_number : (x a b : Name) → is_in x (a ∷ b ∷ []) ≡ true → slice_get (a ∷ b ∷ []) (cond (bytes_eq x a) 0 1) ≡ Some x
two_number x a b h = by (bytes_eq x a) refl h where
  by : (t : Bool) → bytes_eq x a ≡ t → (t || is_in x (b ∷ [])) ≡ true → slice_get (a ∷ b ∷ []) (cond t 0 1) ≡ Some x
  by true e h = ap Some (sym (same_name x a e))
  by false e h = one_number x b h

three_number : (x a b c : Name) → is_in x (a ∷ b ∷ c ∷ []) ≡ true → slice_get (a ∷ b ∷ c ∷ []) (cond (bytes_eq x a) 0 (cond (bytes_eq x b) 1 2)) ≡ Some x
three_number x a b c h = by (bytes_eq x a) (bytes_eq x b) refl refl h where
  by : (t u : Bool) → bytes_eq x a ≡ t → bytes_eq x b ≡ u → (t || (u || is_in x (c ∷ []))) ≡ true → slice_get (a ∷ b ∷ c ∷ []) (cond t 0 (cond u 1 2)) ≡ Some x
  by true u e f h = ap Some (sym (same_name x a e))
  by false true e f h = ap Some (sym (same_name x b f))
  by false false e f h = one_number x c h

pub service_number : (s : book.Service) (x : Name) (n : ℕ) → n ≡ service_event s x → IsNumber (service_events s) x n
service_number s x n e = λ few listed. ap (slice_get (service_events s)) e ∙ by s listed where
  by : (s : book.Service) → is_in x (service_events s) ≡ true → slice_get (service_events s) (service_event s x) ≡ Some x
  by (book.Input number types) h = one_number x arrive h
  by (book.Output number types) h = one_number x req h
  by (book.Publish channel types) h = two_number x init req h
  by (book.Subscribe channel types) h = three_number x init rsp arrive h
  by book.Delay h = three_number x start stop expire h
  by book.Cycle h = three_number x start stop expire h
  by book.Restart h = one_number x begin h

-- ---- names of tables

-- a state as a table has it, in the book
abbrev pub entry_state : NamedActions → book.State
entry_state s = record { name = string_bytes s.0; actions = map action_of s.1.items }

pub event_names_are : (es : List (String Global × Vec (String Global) Global)) → event_names (map (λ p. event_of (string_bytes p.0) p.1.items) es) ≡ map (λ p. string_bytes p.0) es
event_names_are [] = refl
event_names_are (e ∷ es) = ap (λ ns. string_bytes e.0 ∷ ns) (event_names_are es)

pub state_names_are : (ss : List NamedActions) → names (map entry_state ss) ≡ map (λ p. string_bytes p.0) ss
state_names_are [] = refl
state_names_are (s ∷ ss) = ap (λ ns. string_bytes s.0 ∷ ns) (state_names_are ss)
