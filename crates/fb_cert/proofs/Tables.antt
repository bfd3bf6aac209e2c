-- Tables of rows against maps.
use Rattle.std.proofs.Common.{◌≡◌, ◌<◌, ℕ, zero, suc, Bool, true, false, not, cond, ◌||◌, List, [], ◌∷◌, ◌++◌, length, map, Option, Some, is_some, Result, Ok, Err, IfOk, refl, sym, ap, subst, ◌∙◌, string_bytes, arith}
use Rattle.std.specs.Prelude.{◌==◌, nat_eq}
use Rattle.std.specs.Map.{lookup}
use Rattle.std.specs.Str.{bytes_eq}
use Rattle.std.specs.declared.string.String.{String}
use Rattle.std.specs.declared.alloc.Global.{Global}
use Rattle.indexmap.specs.IndexMap.{insert_entry, set_value_at}
use Rattle.fb_model.specs.Spans.{Span}
use Rattle.fb_model.specs.CertificateText.{range}
use Rattle.std.specs.Option.{option_map}
use Rattle.fb_ranges_intervals.specs.declared.interval.Interval.{Interval}
use Rattle.fb_ranges_intervals.specs.Views.{span_of}
use Rattle.fb_cert.specs.Views.{Table, Rows, first_at, has_path, has_number, Adds, AddsNew, AddsRow, spans_of}

abbrev pub entries_of : {V : Type 0} → List (String Global × V) → Table V
entries_of es = map (λ e. (string_bytes e.0, e.1)) es

pub first_from_lookup : {V : Type 0} (path : List ℕ) (es : List (String Global × V)) → lookup (λ k. bytes_eq path (string_bytes k)) es ≡ first_at path (entries_of es)
first_from_lookup path [] = refl
first_from_lookup path (e ∷ es) = ap (λ r. cond (bytes_eq path (string_bytes e.0)) (Some e.1) r) (first_from_lookup path es)

has_step : {V : Type 0} (b : Bool) (v : V) (rest : Option V) (later : Bool) → is_some rest ≡ later → is_some (cond b (Some v) rest) ≡ b || later
has_step true v rest later h = refl
has_step false v rest later h = h

pub has_from_lookup : {V : Type 0} (path : List ℕ) (es : List (String Global × V)) → is_some (lookup (λ k. bytes_eq path (string_bytes k)) es) ≡ has_path path (entries_of es)
has_from_lookup path [] = refl
has_from_lookup path (e ∷ es) = has_step (bytes_eq path (string_bytes e.0)) e.1 (lookup (λ k. bytes_eq path (string_bytes k)) es) (has_path path (entries_of es)) (has_from_lookup path es)

-- a path that is new goes last
pub entries_with : {V : Type 0} (es : List (String Global × V)) (k : String Global) (v : V) → has_path (string_bytes k) (entries_of es) ≡ false
    → entries_of (insert_entry (λ a b. bytes_eq (string_bytes a) (string_bytes b)) es k v) ≡ entries_of es ++ (string_bytes k, v) ∷ []
entries_with [] k v h = refl
entries_with {V} (e ∷ es) k v h = by (bytes_eq (string_bytes k) (string_bytes e.0)) h (entries_with es k v)
  where
    by : (b : Bool) → b || has_path (string_bytes k) (entries_of es) ≡ false
        → (has_path (string_bytes k) (entries_of es) ≡ false → entries_of (insert_entry (λ x y. bytes_eq (string_bytes x) (string_bytes y)) es k v) ≡ entries_of es ++ (string_bytes k, v) ∷ [])
        → entries_of (cond b ((e.0, v) ∷ es) (e ∷ insert_entry (λ x y. bytes_eq (string_bytes x) (string_bytes y)) es k v)) ≡ (string_bytes e.0, e.1) ∷ (entries_of es ++ (string_bytes k, v) ∷ [])
    by true g others = absurd (cc)
    by false g others = ap (λ r. (string_bytes e.0, e.1) ∷ r) (others g)

pub adds : {V : Type 0} (es new : List (String Global × V)) (k : String Global) (path : List ℕ) (v : V) → string_bytes k ≡ path → has_path path (entries_of es) ≡ false
    → new ≡ insert_entry (λ a b. bytes_eq (string_bytes a) (string_bytes b)) es k v → Adds (entries_of es) path v (entries_of new) true
adds es new k path v e h n =
    let g : has_path (string_bytes k) (entries_of es) ≡ false = subst (λ p. has_path p (entries_of es) ≡ false) (sym e) h in
    (sym (ap not h), ap entries_of n ∙ subst (λ p. entries_of (insert_entry (λ a b. bytes_eq (string_bytes a) (string_bytes b)) es k v) ≡ entries_of es ++ (p, v) ∷ []) e (entries_with es k v g))

-- ---- another value at an index

pub entries_set : {V : Type 0} (es : List (String Global × V)) (i : ℕ) (v : V) → entries_of (set_value_at es i v) ≡ set_value_at (entries_of es) i v
entries_set [] i v = refl
entries_set (e ∷ es) zero v = refl
entries_set (e ∷ es) (suc i) v = ap (λ r. (string_bytes e.0, e.1) ∷ r) (entries_set es i v)

-- past the last row nothing changes
pub entries_past : {V : Type 0} (es : List (String Global × V)) (i : ℕ) (v : V) → (i < length es → ⊥) → entries_of es ≡ set_value_at (entries_of es) i v
entries_past [] i v out = refl
entries_past (e ∷ es) zero v out = absurd (out (grind (arith)))
entries_past (e ∷ es) (suc i) v out = ap (λ r. (string_bytes e.0, e.1) ∷ r) (entries_past es i v (λ h. out (grind (arith))))

-- ---- rows by their numbers

pub has_from_number : {V : Type 0} (number : ℕ) (es : List (ℕ × V)) → is_some (lookup (λ c. number == c) es) ≡ has_number number es
has_from_number number [] = refl
has_from_number number (e ∷ es) = has_step (number == e.0) e.1 (lookup (λ c. number == c) es) (has_number number es) (has_from_number number es)

-- a number that is new goes last
pub numbers_with : {V : Type 0} (es : List (ℕ × V)) (number : ℕ) (v : V) → has_number number es ≡ false → insert_entry nat_eq es number v ≡ es ++ (number, v) ∷ []
numbers_with [] number v h = refl
numbers_with {V} (e ∷ es) number v h = by (number == e.0) h (numbers_with es number v)
  where
    by : (b : Bool) → b || has_number number es ≡ false → (has_number number es ≡ false → insert_entry nat_eq es number v ≡ es ++ (number, v) ∷ [])
        → cond b ((e.0, v) ∷ es) (e ∷ insert_entry nat_eq es number v) ≡ e ∷ (es ++ (number, v) ∷ [])
    by true g others = absurd (cc)
    by false g others = ap (λ r. e ∷ r) (others g)

pub adds_number : {V : Type 0} (es new : List (ℕ × V)) (number : ℕ) (v : V) → has_number number es ≡ false → new ≡ insert_entry nat_eq es number v → AddsNew (has_number number es) es (number, v) new true
adds_number es new number v h n = (sym (ap not h), n ∙ numbers_with es number v h)

-- ---- intervals by their spans

first_step : (b : Bool) (v : Interval) (o : Option Interval) (p : Option Span) → option_map span_of o ≡ p → option_map span_of (cond b (Some v) o) ≡ cond b (Some (span_of v)) p
first_step true v o p h = refl
first_step false v o p h = h

pub first_span : (path : List ℕ) (rows : Table Interval) → option_map span_of (first_at path rows) ≡ first_at path (spans_of rows)
first_span path [] = refl
first_span path (r ∷ rs) = first_step (bytes_eq path r.0) r.1 (first_at path rs) (first_at path (spans_of rs)) (first_span path rs)

has_span : (path : List ℕ) (rows : Table Interval) → has_path path (spans_of rows) ≡ has_path path rows
has_span path [] = refl
has_span path (r ∷ rs) = ap (λ b. bytes_eq path r.0 || b) (has_span path rs)

with_span : (rows : Table Interval) (path : List ℕ) (v : Interval) → spans_of (rows ++ (path, v) ∷ []) ≡ spans_of rows ++ (path, span_of v) ∷ []
with_span [] path v = refl
with_span (r ∷ rs) path v = ap (λ x. (r.0, span_of r.1) ∷ x) (with_span rs path v)

spans_step : (said : Bool) (rows : Table Interval) (path : List ℕ) (v : Interval) → spans_of (cond said (rows ++ (path, v) ∷ []) rows) ≡ cond said (spans_of rows ++ (path, span_of v) ∷ []) (spans_of rows)
spans_step true rows path v = with_span rows path v
spans_step false rows path v = refl

-- what is added to intervals is added to their spans
pub adds_span : (old new : Table Interval) (path : List ℕ) (v : Interval) (said : Bool) → Adds old path v new said → Adds (spans_of old) path (span_of v) (spans_of new) said
adds_span old new path v said h = (h.0 ∙ ap not (sym (has_span path old)), ap spans_of h.1 ∙ spans_step said old path v)

pub range_added : (old : Rows) (path : List ℕ) (v : Interval) (new : Table Span) (said : Bool) → Adds old.ranges path (span_of v) new said → AddsRow old (range path v.low v.high) (record old { ranges = new }) said
range_added old path v new true h = (h.0, ap (λ r. record old { ranges = r }) h.1)
range_added old path v new false h = (h.0, ap (λ r. record old { ranges = r }) h.1)

pub ok_so : {X E : Type 0} {P Q : X → Type 0} → ((x : X) → P x → Q x) → (r : Result X E) → IfOk r P → IfOk r Q
ok_so f (Ok x) h = f x h
ok_so f (Err e) h = tt
