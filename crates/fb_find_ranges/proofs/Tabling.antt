-- Lines by the names of their variables are the rows that the book has.
use Rattle.std.proofs.Common.{◌≡◌, Bool, true, false, List, [], ◌∷◌, map, Option, None, Some, refl, sym, ap, subst, ◌∙◌, if◌then◌else◌}
use Rattle.std.proofs.Math.Path.{fun_ext}
use Rattle.std.specs.Str.{bytes_eq}
use Rattle.std.specs.List.{AllByRecursion}
use Rattle.fb_words.specs.declared.elem_type.ElemType.TheVariants as t
use Rattle.fb_model.specs.Names.{Name, Path}
use Rattle.fb_model.specs.System.{Variable, Block}
use Rattle.fb_model.specs.NetworkTyping.{variable_named}
use Rattle.fb_model.specs.Wires.{Charted}
use Rattle.fb_model.specs.Spans.{Span, whole}
use Rattle.fb_model.specs.Clear.{Spans, changed}
use Rattle.fb_model.specs.Ranges.{Range, variables, row_at, row_of, rows}
use Rattle.fb_model.specs.Certificates.{is_boolean}
use Rattle.fb_model.proofs.Lists.{same_name, all_both}
use Rattle.fb_model.proofs.Names.{eq_turned}
use Rattle.fb_model_laws.proofs.Looking.{settled, AreSame, AreOwn}
use Rattle.fb_find_ranges.specs.Lines.{line_by, lines_by, put, spans_by}

-- a variable's range as lines have it
abbrev pub shown_range : (Variable → Span) → Variable → Span
shown_range f v = if is_boolean v.type then whole v.type else f v

-- what is put for a variable stays
put_keeps : (f : Variable → Span) (vs : List Variable) (v : Variable) (base : Spans) → AreSame v vs → base v.name ≡ shown_range f v → put (map (line_by f) vs) base v.name ≡ shown_range f v
put_keeps f [] v base same e = e
put_keeps f (w ∷ ws) v base same e = put_keeps f ws v (changed w.name (λ r. shown_range f w) base) same.1 (by (bytes_eq w.name v.name) refl) where
  by : (b : Bool) → bytes_eq w.name v.name ≡ b → (if b then shown_range f w else base v.name) ≡ shown_range f v
  by true d = ap (shown_range f) (same.0 (eq_turned v.name w.name ∙ d))
  by false d = e

pub put_own : (f : Variable → Span) (vs : List Variable) (v : Variable) (base : Spans) → AreSame v vs → variable_named vs v.name ≡ Some v → put (map (line_by f) vs) base v.name ≡ shown_range f v
put_own f [] v base same e = absurd cc
put_own f (w ∷ ws) v base same e = by (bytes_eq v.name w.name) refl e (put_own f ws v (changed w.name (λ r. shown_range f w) base) same.1) where
  here : (b : Bool) → b ≡ true → w ≡ v → (if b then shown_range f w else base v.name) ≡ shown_range f v
  here true d s = ap (shown_range f) s
  here false d s = absurd cc

  by : (b : Bool) → bytes_eq v.name w.name ≡ b → (if b then Some w else variable_named ws v.name) ≡ Some v
      → (variable_named ws v.name ≡ Some v → put (map (line_by f) ws) (changed w.name (λ r. shown_range f w) base) v.name ≡ shown_range f v)
      → put (map (line_by f) ws) (changed w.name (λ r. shown_range f w) base) v.name ≡ shown_range f v
  by true d s next = put_keeps f ws v (changed w.name (λ r. shown_range f w) base) same.1 (here (bytes_eq w.name v.name) (eq_turned w.name v.name ∙ d) (same.0 d))
  by false d s next = next s

put_absent : (f : Variable → Span) (vs : List Variable) (x : Name) (base : Spans) → variable_named vs x ≡ None → put (map (line_by f) vs) base x ≡ base x
put_absent f [] x base e = refl
put_absent f (w ∷ ws) x base e = by (bytes_eq x w.name) refl e (put_absent f ws x (changed w.name (λ r. shown_range f w) base)) where
  here : (b : Bool) → b ≡ false → (if b then shown_range f w else base x) ≡ base x
  here true d = absurd cc
  here false d = refl

  by : (b : Bool) → bytes_eq x w.name ≡ b → (if b then Some w else variable_named ws x) ≡ None
      → (variable_named ws x ≡ None → put (map (line_by f) ws) (changed w.name (λ r. shown_range f w) base) x ≡ changed w.name (λ r. shown_range f w) base x)
      → put (map (line_by f) ws) (changed w.name (λ r. shown_range f w) base) x ≡ base x
  by true d s next = absurd cc
  by false d s next = next s ∙ here (bytes_eq w.name x) (eq_turned w.name x ∙ d)

-- what is so of all variables is so of the one of a name
pub at_variable : (P : Variable → Type 0) (vs : List Variable) (x : Name) (v : Variable) → AllByRecursion P vs → variable_named vs x ≡ Some v → P v × (v.name ≡ x)
at_variable P [] x v a e = absurd cc
at_variable P (w ∷ ws) x v a e = by (bytes_eq x w.name) refl e (at_variable P ws x v a.1) where
  by : (b : Bool) → bytes_eq x w.name ≡ b → (if b then Some w else variable_named ws x) ≡ Some v → (variable_named ws x ≡ Some v → P v × (v.name ≡ x)) → P v × (v.name ≡ x)
  by true d s f = let q : w ≡ v = cc in (subst P q a.0, ap (λ (y : Variable). y.name) (sym q) ∙ sym (same_name x w.name d))
  by false d s f = f s

-- each variable is its own, and its row stands
abbrev Stands : Path → List Range → (Variable → Span) → List Variable → Variable → Type 0
Stands path ranges f vs v = ((variable_named vs v.name ≡ Some v) × AreSame v vs) × (row_at ranges path v ≡ shown_range f v)

spans_named : (f : Variable → Span) (path : Path) (ranges : List Range) (vs : List Variable) (x : Name) → AllByRecursion (Stands path ranges f vs) vs
    → put (map (line_by f) vs) (λ y. whole t.Lint) x ≡ elim (variable_named vs x) [ None ↦ whole t.Lint | Some v ↦ row_at ranges path v ]
spans_named f path ranges vs x all = by (variable_named vs x) refl where
  by : (o : Option Variable) → variable_named vs x ≡ o → put (map (line_by f) vs) (λ y. whole t.Lint) x ≡ elim o [ None ↦ whole t.Lint | Some v ↦ row_at ranges path v ]
  by None e = put_absent f vs x (λ y. whole t.Lint) e
  by (Some v) e =
      let h = at_variable (Stands path ranges f vs) vs x v all e in
      subst (λ (y : Name). put (map (line_by f) vs) (λ z. whole t.Lint) y ≡ row_at ranges path v) h.1 (put_own f vs v (λ y. whole t.Lint) h.0.0.1 h.0.0.0 ∙ sym h.0.1)

-- the table of a chart is its rows
pub table_is : (f : Variable → Span) (path : Path) (ranges : List Range) (block : Block) → AreOwn (Charted block) → AllByRecursion (λ (v : Variable). row_of ranges path (Charted block) v ≡ settled (Charted block) v (f v)) (variables (Charted block))
    → spans_by (lines_by f (Charted block)) ≡ rows ranges path (Charted block)
table_is f path ranges block own stand =
    let vs = variables (Charted block) in
    fun_ext (λ x. spans_named f path ranges vs x
    (all_both (λ (v : Variable). (variable_named vs v.name ≡ Some v) × AreSame v vs) (λ (v : Variable). row_at ranges path v ≡ shown_range f v) (Stands path ranges f vs) vs (λ v o s. (o, s)) own stand))
