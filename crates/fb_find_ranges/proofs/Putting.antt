-- The numbers of leaves that are put under their paths, one after another.
use denote.Ref.{Bor}
use Rattle.std.proofs.Common.{◌≡◌, ℕ, zero, suc, ◌+◌, ◌<◌, ◌≤◌, Bool, true, false, List, [], ◌∷◌, ◌++◌, map, take, length, get_or, Option, None, Some, is_some, refl, sym, ap, ap₂, subst, ◌∙◌, arith, string_bytes, Global, length-take}
use Rattle.std.specs.Prelude.{slice_get, if◌then◌else◌}
use Rattle.std.specs.Option.{option_map}
use Rattle.std.specs.Map.{lookup}
use Rattle.std.specs.Str.{bytes_eq}
use Rattle.std.specs.declared.string.String.{String}
use Rattle.std.proofs.lemmas.List.{take_more, map_push, length-map}
use Rattle.indexmap.specs.IndexMap.{insert_entry}
use Rattle.fb_model.specs.Names.{Name, Path, path_eq}
use Rattle.fb_model.specs.Wires as wires
use Rattle.fb_model.specs.Wires.{Output_of}
use Rattle.fb_model.specs.Spans.{Span, joined}
use Rattle.fb_model.specs.CertificateText.{names_in}
use Rattle.fb_model.proofs.Lists.{same_name}
use Rattle.fb_cert.proofs.Places.{path_same}
use Rattle.fb_flat.specs.declared.flat.Leaf.{Leaf}
use Rattle.fb_check_ranges.specs.Places.{or_else}
use Rattle.fb_find_ranges.specs.Lines.{Tabled, tabled_at, given, fed_in}
use Rattle.fb_find_ranges.specs.Views.{number_of, shown, Shared, leaf_in, tabled_in, fed_from}

abbrev pub Entries : Type 0
Entries = List (String Global × ℕ)

abbrev pub at : Entries → Name → Option ℕ
at es x = lookup (λ y. bytes_eq x (string_bytes y)) es

-- the number of the one of a text
abbrev pub only : ℕ → Name → Name → Option ℕ
only n path x = if bytes_eq x path then Some n else None

or_none : {A : Type 0} (o : Option A) → or_else o None ≡ o
or_none None = refl
or_none (Some a) = refl

-- a path that stands there keeps its number
pub stays : (es : Entries) (p : Name) (n : ℕ) → is_some (at es p) ≡ true → (x : Name) → at es x ≡ or_else (at es x) (only n p x)
stays es p n h x = by (bytes_eq x p) refl where
  some : (o other : Option ℕ) → is_some o ≡ true → o ≡ or_else o other
  some None other s = absurd cc
  some (Some k) other s = refl

  by : (b : Bool) → bytes_eq x p ≡ b → at es x ≡ or_else (at es x) (if b then Some n else None)
  by true f = some (at es x) (Some n) (subst (λ q. is_some (at es q) ≡ true) (sym (same_name x p f)) h)
  by false f = sym (or_none (at es x))

inserted : (es : Entries) (k : String Global) (n : ℕ) (x : Name) → is_some (at es (string_bytes k)) ≡ false
    → at (insert_entry (λ a b. bytes_eq (string_bytes a) (string_bytes b)) es k n) x ≡ or_else (at es x) (only n (string_bytes k) x)
inserted [] k n x h = by (bytes_eq x (string_bytes k)) where
  by : (b : Bool) → ◌≡◌ {A = Option ℕ} (if b then Some n else None) (if b then Some n else None)
  by true = refl
  by false = refl
inserted (e ∷ es) k n x h = by (bytes_eq (string_bytes k) (string_bytes e.0)) h (inserted es k n x) where
  further : (b : Bool) (o p q : Option ℕ) → o ≡ or_else p q → (if b then Some e.1 else o) ≡ or_else (if b then Some e.1 else p) q
  further true o p q g = refl
  further false o p q g = g

  by : (b : Bool) → is_some (if b then Some e.1 else at es (string_bytes k)) ≡ false
      → (is_some (at es (string_bytes k)) ≡ false → at (insert_entry (λ a b. bytes_eq (string_bytes a) (string_bytes b)) es k n) x ≡ or_else (at es x) (only n (string_bytes k) x))
      → at (if b then (e.0, n) ∷ es else e ∷ insert_entry (λ a b. bytes_eq (string_bytes a) (string_bytes b)) es k n) x ≡ or_else (at (e ∷ es) x) (only n (string_bytes k) x)
  by true g next = absurd cc
  by false g next = further (bytes_eq x (string_bytes e.0)) (at (insert_entry (λ a b. bytes_eq (string_bytes a) (string_bytes b)) es k n) x) (at es x) (only n (string_bytes k) x) (next g)

-- a new path is found with its number
pub goes_in : (es new : Entries) (k : String Global) (n : ℕ) (p : Name) → string_bytes k ≡ p → is_some (at es p) ≡ false → new ≡ insert_entry (λ a b. bytes_eq (string_bytes a) (string_bytes b)) es k n
    → (x : Name) → at new x ≡ or_else (at es x) (only n p x)
goes_in es new k n p e h put x = ap (λ (es : Entries). at es x) put ∙ inserted es k n x (subst (λ q. is_some (at es q) ≡ false) (sym e) h) ∙ ap (λ q. or_else (at es x) (only n q x)) e

-- ---- the numbers of leaves

number_pushed : (ls : List wires.Leaf) (l : wires.Leaf) (path : Path) → number_of (ls ++ l ∷ []) path ≡ or_else (number_of ls path) (if path_eq l.path path then Some (length ls) else None)
number_pushed [] l path = by (path_eq l.path path) where
  by : (b : Bool) → ◌≡◌ {A = Option ℕ} (if b then Some 0 else None) (if b then Some 0 else None)
  by true = refl
  by false = refl
number_pushed (m ∷ ls) l path = by (path_eq m.path path) (number_pushed ls l path) where
  later : (o : Option ℕ) (b : Bool) → option_map suc (or_else o (if b then Some (length ls) else None)) ≡ or_else (option_map suc o) (if b then Some (suc (length ls)) else None)
  later None true = refl
  later None false = refl
  later (Some k) b = refl

  by : (a : Bool) → number_of (ls ++ l ∷ []) path ≡ or_else (number_of ls path) (if path_eq l.path path then Some (length ls) else None)
      → (if a then Some 0 else option_map suc (number_of (ls ++ l ∷ []) path)) ≡ or_else (if a then Some 0 else option_map suc (number_of ls path)) (if path_eq l.path path then Some (suc (length ls)) else None)
  by true e = refl
  by false e = ap (option_map suc) e ∙ later (number_of ls path) (path_eq l.path path)

abbrev pub shown_all : List (Bor Leaf) → List wires.Leaf
shown_all ls = map (λ (l : Bor Leaf). shown l.now) ls

-- one more leaf
pub one_more : (ls : List (Bor Leaf)) (i : ℕ) (l : Bor Leaf) (path : Name) (before now : Option ℕ) (x : Name) → i < length ls → l ≡ get_or ls i l → path ≡ string_bytes l.now.path
    → before ≡ number_of (shown_all (take i ls)) (names_in x) → now ≡ or_else before (only i path x) → now ≡ number_of (shown_all (take (i + 1) ls)) (names_in x)
one_more ls i l path before now x h is named same put =
    let first : length (shown_all (take i ls)) ≡ i = length-map (take i ls) (λ (l : Bor Leaf). shown l.now) ∙ omega (arith, length-take i ls, h) in
    let here : only i path x ≡ (if path_eq (names_in (string_bytes l.now.path)) (names_in x) then Some (length (shown_all (take i ls))) else None) =
    ap₂ (λ (b : Bool) n. if b then Some n else None) (ap (bytes_eq x) named ∙ sym (path_same (string_bytes l.now.path) x)) (sym first) in
    put
    ∙ ap₂ or_else same here
    ∙ sym (number_pushed (shown_all (take i ls)) (shown l.now) (names_in x))
    ∙ sym (ap (λ (ks : List (Bor Leaf)). number_of (shown_all ks) (names_in x)) (take_more ls i l h ∙ ap (λ y. take i ls ++ y ∷ []) (sym is)) ∙ ap (λ ks. number_of ks (names_in x)) (map_push (λ (l : Bor Leaf). shown l.now) (take i ls) l))

abbrev at_number : List Shared → Option ℕ → Option Tabled
at_number ss None = None
at_number ss (Some k) = option_map tabled_in (slice_get ss k)

-- the leaf of the number of a path
stands_at : (ss : List Shared) (path : Path) → tabled_at (map tabled_in ss) path ≡ at_number ss (number_of (map leaf_in ss) path)
stands_at [] path = refl
stands_at (s ∷ ss) path = by (path_eq (leaf_in s).path path) (number_of (map leaf_in ss) path) (stands_at ss path) where
  by : (b : Bool) (o : Option ℕ) → tabled_at (map tabled_in ss) path ≡ at_number ss o → (if b then Some (tabled_in s) else tabled_at (map tabled_in ss) path) ≡ at_number (s ∷ ss) (if b then Some 0 else option_map suc o)
  by true o e = refl
  by false None e = e
  by false (Some k) e = e

fed_is : (ts : List Tabled) (path : Path) (y : Name) (r : Span) → fed_in ts (Output_of path y) r ≡ fed_from (tabled_at ts path) y r
fed_is ts path y r = by (tabled_at ts path) where
  by : (o : Option Tabled) → ◌≡◌ {A = Span} (elim o [ None ↦ r | Some t ↦ joined r (given t.leaf.kind t.spans y) ]) (fed_from o y r)
  by None = refl
  by (Some t) = refl

-- what the output of a leaf gives, whose path has a number
pub fed_at : (ss : List Shared) (path : Path) (y : Name) (r : Span) (o : Option ℕ) → number_of (map leaf_in ss) path ≡ o → fed_from (at_number ss o) y r ≡ fed_in (map tabled_in ss) (Output_of path y) r
fed_at ss path y r o e = sym (fed_is (map tabled_in ss) path y r ∙ ap (λ (t : Option Tabled). fed_from t y r) (stands_at ss path ∙ ap (at_number ss) e))

-- ---- one of a list

pub got : (ss : List Shared) (k : ℕ) (s : Shared) → k < length ss → s ≡ get_or ss k s → slice_get ss k ≡ Some s
got [] k s l is = absurd (omega (arith, l))
got (x ∷ ss) zero s l is = ap Some (sym is)
got (x ∷ ss) (suc k) s l is = got ss k s (omega (arith, l)) is

pub past : (ss : List Shared) (k : ℕ) → length ss ≤ k → slice_get ss k ≡ None
past [] k l = refl
past (x ∷ ss) zero l = absurd (omega (arith, l))
past (x ∷ ss) (suc k) l = past ss k (omega (arith, l))
