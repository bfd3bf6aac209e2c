-- Variables by their names and by their places.
use Rattle.std.proofs.Common.{◌≡◌, ℕ, suc, ◌+◌, ◌≤◌, Bool, true, false, cond, List, [], ◌∷◌, map, take, length, pos, Option, None, Some, refl, sym, ap, subst, ◌∙◌, string_bytes, Global}
use Rattle.std.specs.Prelude.{slice_get}
use Rattle.std.specs.Option.{option_map}
use Rattle.std.specs.Map.{lookup}
use Rattle.std.specs.Str.{bytes_eq}
use Rattle.std.specs.declared.string.String.{String}
use Rattle.std.proofs.lemmas.List.{take_all}
use Rattle.std.proofs.lemmas.Option.{slice_get-map}
use Rattle.fb_model.specs.Names.{Name}
use Rattle.fb_model.specs.Values.{Value, One}
use Rattle.fb_model.specs.System as book
use Rattle.fb_model.specs.System.{start_of, start_in}
use Rattle.fb_model.specs.Services.{sent, qi, dt, ports, service_inputs}
use Rattle.fb_model.specs.Store.{variable_names}
use Rattle.fb_model.specs.BlockTyping.{variable_of}
use Rattle.fb_words.specs.declared.elem_type.ElemType.{ElemType}
use Rattle.fb_types_blocks.specs.declared.typed.Variable.{Variable}
use Rattle.fb_types_blocks.specs.Views.{declared_of}
use Rattle.fb_model.proofs.Lists.{same_name}
use Rattle.fb_model.proofs.Placed.{name_same}

abbrev Entries : Type 0
Entries = List (String Global × Variable)

abbrev variables : Entries → List book.Variable
variables es = map variable_of (map (λ p. declared_of (string_bytes p.0) p.1) es)

-- ---- places

named : (es : Entries) → map (λ p. string_bytes p.0) es ≡ variable_names (variables es)
named [] = refl
named (e ∷ es) = ap (λ ns. string_bytes e.0 ∷ ns) (named es)

-- the name of the variable at an index
pub variable_at : (es : Entries) (i : ℕ) → option_map (λ p. string_bytes p.0) (slice_get es i) ≡ slice_get (variable_names (variables es)) i
variable_at es i = sym (slice_get-map (λ p. string_bytes p.0) es i) ∙ ap (λ ns. slice_get ns i) (named es)

many : (es : Entries) → length (variable_names (variables es)) ≡ length es
many [] = refl
many (e ∷ es) = ap suc (many es)

-- the names of the first variables are all names, where they are as many
pub all_named : (es : Entries) (i : ℕ) → length es ≤ i → take i (variable_names (variables es)) ≡ variable_names (variables es)
all_named es i h = take_all i (variable_names (variables es)) (subst (λ n. n ≤ i) (sym (many es)) h)

-- ---- start values

turned : (m n : Name) → bytes_eq m n ≡ bytes_eq n m
turned m n = by (bytes_eq m n) (bytes_eq n m) refl refl where
  by : (b c : Bool) → bytes_eq m n ≡ b → bytes_eq n m ≡ c → b ≡ c
  by true true e f = refl
  by false false e f = refl
  by true false e f = let s : n ≡ m = sym (same_name m n e) in let t : bytes_eq n m ≡ true = subst (λ x. bytes_eq n x ≡ true) s (name_same n) in absurd cc
  by false true e f = let s : m ≡ n = sym (same_name n m f) in let t : bytes_eq m n ≡ true = subst (λ x. bytes_eq m x ≡ true) s (name_same m) in absurd cc

alone : (b : Bool) → cond b (One (pos 0)) (One (pos 0)) ≡ One (pos 0)
alone true = refl
alone false = refl

ports_start : (f : ℕ → Name) (n : ℕ) (types : List ElemType) (x : Name) → start_in (ports f n types) x ≡ One (pos 0)
ports_start f n [] x = refl
ports_start f n (type ∷ types) x = by (bytes_eq (f n) x) (ports_start f (n + 1) types x) where
  by : (b : Bool) → start_in (ports f (n + 1) types) x ≡ One (pos 0) → cond b (One (pos 0)) (start_in (ports f (n + 1) types) x) ≡ One (pos 0)
  by true h = refl
  by false h = h

-- a port of a service starts at 0
pub service_start : (s : book.Service) (x : Name) → start_in (service_inputs s) x ≡ One (pos 0)
service_start (book.Input number types) x = refl
service_start (book.Output number types) x = ports_start sent 1 types x
service_start (book.Publish channel types) x = by (bytes_eq qi x) (ports_start sent 1 types x) where
  by : (b : Bool) → start_in (ports sent 1 types) x ≡ One (pos 0) → cond b (One (pos 0)) (start_in (ports sent 1 types) x) ≡ One (pos 0)
  by true h = refl
  by false h = h
service_start (book.Subscribe channel types) x = alone (bytes_eq qi x)
service_start book.Delay x = alone (bytes_eq dt x)
service_start book.Cycle x = alone (bytes_eq dt x)
service_start book.Restart x = refl

-- the start value of a variable, if there is one
abbrev pub start_at : Option Variable → Value
start_at None = One (pos 0)
start_at (Some v) = start_of (variable_of (declared_of [] v))

pub start_found : (x : Name) (es : Entries) → start_in (variables es) x ≡ start_at (lookup (λ k. bytes_eq x (string_bytes k)) es)
start_found x [] = refl
start_found x (e ∷ es) = ap (λ b. cond b (start_of (variable_of (declared_of (string_bytes e.0) e.1))) (start_in (variables es) x)) (turned (string_bytes e.0) x) ∙ by (bytes_eq x (string_bytes e.0)) (start_found x es) where
  by : (b : Bool) → start_in (variables es) x ≡ start_at (lookup (λ k. bytes_eq x (string_bytes k)) es)
      → cond b (start_of (variable_of (declared_of (string_bytes e.0) e.1))) (start_in (variables es) x) ≡ start_at (cond b (Some e.1) (lookup (λ k. bytes_eq x (string_bytes k)) es))
  by true h = refl
  by false h = h
