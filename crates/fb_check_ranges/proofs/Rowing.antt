-- The rows of the tables and those of the book.
use Rattle.std.proofs.Common.{◌≡◌, ℕ, ◌+◌, ◌≤◌, Bool, true, false, ◌||◌, List, [], ◌∷◌, ◌++◌, map, take, length, Option, None, Some, refl, sym, ap, ap₂, subst, ◌∙◌, string_bytes}
use Rattle.std.proofs.Math.Path.{fun_ext}
use Rattle.std.specs.Prelude.{slice_get, if◌then◌else◌}
use Rattle.std.specs.Option.{option_map}
use Rattle.std.specs.Str.{bytes_eq}
use Rattle.std.proofs.lemmas.List.{map_push, take_all}
use Rattle.fb_words.specs.declared.elem_type.ElemType.{ElemType}
use Rattle.fb_words.specs.declared.elem_type.ElemType.TheVariants as t
use Rattle.fb_model.specs.Names.{Name, Path, is_in}
use Rattle.fb_model.specs.Spelling.{IsWord, AreWords}
use Rattle.fb_model.specs.System.{Variable}
use Rattle.fb_model.specs.BlockTyping.{variable_of}
use Rattle.fb_model.specs.NetworkTyping.{variable_named}
use Rattle.fb_model.specs.Store.{variable_names}
use Rattle.fb_model.specs.Wires.{Kind, Charted, Serviced}
use Rattle.fb_model.specs.Spans.{Span, whole}
use Rattle.fb_model.specs.Clear.{Spans, changed, reset}
use Rattle.fb_model.specs.Ranges.{variables, rows, row_at, row_of}
use Rattle.fb_model.specs.CertificateText.{names_in, all_but_last, last_name}
use Rattle.fb_model.proofs.Lists.{same_name}
use Rattle.fb_model_laws.specs.Words.{declared_names}
use Rattle.fb_cert.specs.declared.certificate.Certificate.{Certificate}
use Rattle.fb_cert.specs.Views.{rows_of, certificate_of}
use Rattle.fb_cert.proofs.Places.{span_same}
use Rattle.fb_flat.specs.Sites.{dotted}
use Rattle.fb_types_blocks.specs.Views.{declared_of}
use Rattle.fb_flat.proofs.Dotted.{names_dotted}
use Rattle.fb_ranges.proofs.Joins.{reset_push}
use Rattle.fb_check_ranges.specs.Rows.{row_in, row_for, type_in, typed_row, numbers_in, rows_in}
use Rattle.fb_check_ranges.specs.Places.{or_else}
use Rattle.fb_check_ranges.specs.Beginning.{NamedVariable, entry_name}
use Rattle.fb_lists.proofs.Lists.{take_at}

-- ---- types by names

pub type_both : (xs ys : List Variable) (x : Name) → type_in (xs ++ ys) x ≡ or_else (type_in xs x) (type_in ys x)
type_both [] ys x = refl
type_both (v ∷ xs) ys x = by (bytes_eq x v.name) (type_both xs ys x) where
  by : (b : Bool) → type_in (xs ++ ys) x ≡ or_else (type_in xs x) (type_in ys x)
      → option_map (λ (w : Variable). w.type) (if b then Some v else variable_named (xs ++ ys) x) ≡ or_else (option_map (λ (w : Variable). w.type) (if b then Some v else variable_named xs x)) (type_in ys x)
  by true h = refl
  by false h = h

-- ---- one row

front : (ns : Path) (n : Name) → all_but_last (ns ++ n ∷ []) ≡ ns
front [] n = refl
front (m ∷ []) n = refl
front (m ∷ o ∷ ns) n = ap (λ x. m ∷ x) (front (o ∷ ns) n)

end : (ns : Path) (n : Name) → last_name (ns ++ n ∷ []) ≡ n
end [] n = refl
end (m ∷ []) n = refl
end (m ∷ o ∷ ns) n = end (o ∷ ns) n

pub row_is : (cert : Certificate) (path : Name) (v : Variable) → IsWord v.name → row_for cert path v ≡ row_at (certificate_of cert).ranges (names_in path) v
row_is cert path v w =
    let e = names_dotted path v.name w in
    let ranges = (certificate_of cert).ranges in
    let last : v.name ≡ last_name (names_in (dotted path v.name)) = sym (ap last_name e ∙ end (names_in path) v.name) in
    sym (span_same (rows_of cert).ranges (dotted path v.name) v last) ∙ ap (λ p. row_at ranges p v) (ap all_but_last e ∙ front (names_in path) v.name)

-- ---- all rows

-- the variable of a name has this name
named : (vs : List Variable) (x : Name) (v : Variable) → variable_named vs x ≡ Some v → x ≡ v.name
named [] x v h = absurd cc
named (w ∷ vs) x v h = by (bytes_eq x w.name) refl h (named vs x v) where
  by : (b : Bool) → bytes_eq x w.name ≡ b → (if b then Some w else variable_named vs x) ≡ Some v → (variable_named vs x ≡ Some v → x ≡ v.name) → x ≡ v.name
  by true e h next = let s : w ≡ v = cc in same_name x w.name e ∙ ap (λ (y : Variable). y.name) s
  by false e h next = next h

worded : (vs : List Variable) (x : Name) (v : Variable) → AreWords (variable_names vs) → variable_named vs x ≡ Some v → IsWord v.name
worded [] x v a h = absurd cc
worded (w ∷ vs) x v a h = by (bytes_eq x w.name) h (worded vs x v a.1) where
  by : (b : Bool) → (if b then Some w else variable_named vs x) ≡ Some v → (variable_named vs x ≡ Some v → IsWord v.name) → IsWord v.name
  by true h next = let s : w ≡ v = cc in subst (λ (y : Variable). IsWord y.name) s a.0
  by false h next = next h

pub rows_are : (cert : Certificate) (path : Name) (kind : Kind) → AreWords (declared_names kind) → rows_in cert path kind ≡ rows (certificate_of cert).ranges (names_in path) kind
rows_are cert path (Charted block) a = fun_ext (λ x. by x (variable_named (variables (Charted block)) x) refl) where
  by : (x : Name) (o : Option Variable) → variable_named (variables (Charted block)) x ≡ o
      → typed_row cert path x (option_map (λ (v : Variable). v.type) o) ≡ elim o [ None ↦ whole t.Lint | Some v ↦ row_of (certificate_of cert).ranges (names_in path) (Charted block) v ]
  by x None e = refl
  by x (Some v) e = ap (λ y. row_in cert path y v.type) (named (variables (Charted block)) x v e) ∙ row_is cert path v (worded (variables (Charted block)) x v a e)
rows_are cert path (Serviced service) a = fun_ext (λ x. by x (variable_named (variables (Serviced service)) x)) where
  by : (x : Name) (o : Option Variable) → numbers_in (option_map (λ (v : Variable). v.type) o) ≡ elim o [ None ↦ whole t.Lint | Some v ↦ row_of (certificate_of cert).ranges (names_in path) (Serviced service) v ]
  by x None = refl
  by x (Some v) = refl

-- ---- rows that are set one after another

absent : (vs : List Variable) (x : Name) → is_in x (variable_names vs) ≡ false → variable_named vs x ≡ None
absent [] x h = refl
absent (v ∷ vs) x h = by (bytes_eq x v.name) h (absent vs x) where
  by : (b : Bool) → (b || is_in x (variable_names vs)) ≡ false → (is_in x (variable_names vs) ≡ false → variable_named vs x ≡ None) → (if b then Some v else variable_named vs x) ≡ None
  by true h next = absurd cc
  by false h next = next h

-- where all variables have their rows, all has
pub all_set : (cert : Certificate) (path : Name) (xs ys zs : List Variable)
    → (let r : Spans = λ x. typed_row cert path x (type_in (xs ++ (ys ++ zs)) x) in reset (variable_names zs) r (reset (variable_names ys) r (reset (variable_names xs) r (λ x. whole t.Lint))) ≡ r)
all_set cert path xs ys zs = fun_ext (λ x. by x (is_in x (variable_names zs)) (is_in x (variable_names ys)) (is_in x (variable_names xs)) refl refl refl) where
  r : Spans
  r = λ x. typed_row cert path x (type_in (xs ++ (ys ++ zs)) x)

  none : (x : Name) → is_in x (variable_names zs) ≡ false → is_in x (variable_names ys) ≡ false → is_in x (variable_names xs) ≡ false → type_in (xs ++ (ys ++ zs)) x ≡ None
  none x c b a =
      let of = option_map (λ (v : Variable). v.type) in
      type_both xs (ys ++ zs) x ∙ ap₂ or_else (ap of (absent xs x a)) (type_both ys zs x ∙ ap₂ or_else (ap of (absent ys x b)) (ap of (absent zs x c)))

  by : (x : Name) (c b a : Bool) → is_in x (variable_names zs) ≡ c → is_in x (variable_names ys) ≡ b → is_in x (variable_names xs) ≡ a → (if c then r x else if b then r x else if a then r x else whole t.Lint) ≡ r x
  by x true b a e f g = refl
  by x false true a e f g = refl
  by x false false true e f g = refl
  by x false false false e f g = sym (ap (typed_row cert path x) (none x e f g))

-- the variable of the next entry gets its row
pub next_entry : (es : List NamedVariable) (i : ℕ) (e : NamedVariable) (r before now old : Spans) (x y : Name) (s : Span)
    → Some e ≡ slice_get es i → x ≡ string_bytes e.0 → y ≡ string_bytes e.0 → s ≡ r y → before ≡ reset (map entry_name (take i es)) r old → now ≡ changed x (λ b. s) before
    → now ≡ reset (map entry_name (take (i + 1) es)) r old
next_entry es i e r before now old x y s is name other row start put =
    put
    ∙ ap₂ (λ n z. changed n (λ b. z) before) name (row ∙ ap r other)
    ∙ ap (λ z. changed (string_bytes e.0) (λ b. r (string_bytes e.0)) z) start
    ∙ sym (reset_push (map entry_name (take i es)) (string_bytes e.0) r old)
    ∙ ap (λ ns. reset ns r old) (sym (ap (map entry_name) (take_at es i e (sym is)) ∙ map_push entry_name (take i es) e))

entries_named : (es : List NamedVariable) → map entry_name es ≡ variable_names (map variable_of (map (λ p. declared_of (string_bytes p.0) p.1) es))
entries_named [] = refl
entries_named (e ∷ es) = ap (λ ns. string_bytes e.0 ∷ ns) (entries_named es)

-- at the end all have their rows
pub all_entries : (es : List NamedVariable) (i : ℕ) → length es ≤ i → map entry_name (take i es) ≡ variable_names (map variable_of (map (λ p. declared_of (string_bytes p.0) p.1) es))
all_entries es i h = ap (map entry_name) (take_all i es h) ∙ entries_named es

-- ---- types of ports

pub type_first : (xs ys : List Variable) (x : Name) (o : Option ElemType) (a : ElemType) → o ≡ type_in xs x → o ≡ Some a → Some a ≡ type_in (xs ++ ys) x
type_first xs ys x o a e f = sym (type_both xs ys x ∙ ap (λ q. or_else q (type_in ys x)) (sym e ∙ f))

pub type_next : (xs ys : List Variable) (x : Name) (o p : Option ElemType) → o ≡ type_in xs x → o ≡ None → p ≡ type_in ys x → p ≡ type_in (xs ++ ys) x
type_next xs ys x o p e f g = g ∙ sym (type_both xs ys x ∙ ap (λ q. or_else q (type_in ys x)) (sym e ∙ f))

or_none : {A : Type 0} (o : Option A) → or_else o None ≡ o
or_none None = refl
or_none (Some a) = refl

pub type_last : (ys : List Variable) (x : Name) (p : Option ElemType) → p ≡ type_in ys x → p ≡ type_in (ys ++ []) x
type_last ys x p g = g ∙ sym (type_both ys [] x ∙ or_none (type_in ys x))
