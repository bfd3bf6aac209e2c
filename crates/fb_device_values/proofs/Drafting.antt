-- The layout and the store that are made of variables, of each name the first.
use Rattle.std.proofs.Common.{◌≡◌, ℕ, zero, suc, ◌+◌, ◌<◌, pos, Bool, true, false, cond, ◌||◌, List, [], ◌∷◌, ◌++◌, take, drop, length, get_or, None, refl, sym, ap, subst, ◌∙◌, string_bytes, arith}
use Rattle.std.specs.Prelude.{if◌then◌else◌, not}
use Rattle.std.specs.Str.{bytes_eq}
use Rattle.std.proofs.lemmas.List.{take_more, map_push}
use Rattle.std.proofs.Math.Seq.{drop-cons}
use Rattle.fb_model.specs.Names.{Name, is_in}
use Rattle.fb_model.specs.Language.{setting}
use Rattle.fb_model.proofs.Lists.{same_name}
use Rattle.fb_model.proofs.Names.{eq_turned}
use Rattle.fb_model.proofs.Placed.{name_same}
use Rattle.st_exec.specs.Cells.{Cell, Form, values_of, forms_of, names_in, shape_in, shape_of, filled}
use Rattle.st_exec.specs.Kept.{zeros_in}
use Rattle.st_exec.proofs.Slots.{shape_is}
use Rattle.st_exec.proofs.Zeros.{zeros_forms, zeros_values}
use Rattle.fb_device_values.specs.declared.draft.Draft.{Draft}
use Rattle.fb_device_values.specs.Drafts.{Holds, IsLaidOut, form_in, forms_in, cells_in, number_at, IsSetFrom}

-- ---- variables behind others

names_append : (us bs : List Form) (x : Name) → is_in x (names_in (us ++ bs)) ≡ (is_in x (names_in us) || is_in x (names_in bs))
names_append [] bs x = refl
names_append (f ∷ us) bs x = by (bytes_eq x f.0) (names_append us bs x) where
  by : (b : Bool) → is_in x (names_in (us ++ bs)) ≡ (is_in x (names_in us) || is_in x (names_in bs)) → (b || is_in x (names_in (us ++ bs))) ≡ ((b || is_in x (names_in us)) || is_in x (names_in bs))
  by true h = refl
  by false h = h

shapes_append : (us bs : List Form) (x : Name) → shape_in (us ++ bs) x ≡ cond (is_in x (names_in us)) (shape_in us x) (shape_in bs x)
shapes_append [] bs x = refl
shapes_append (f ∷ us) bs x = by (bytes_eq x f.0) (shapes_append us bs x) where
  by : (b : Bool) → shape_in (us ++ bs) x ≡ cond (is_in x (names_in us)) (shape_in us x) (shape_in bs x) → cond b f.1 (shape_in (us ++ bs) x) ≡ cond (b || is_in x (names_in us)) (cond b f.1 (shape_in us x)) (shape_in bs x)
  by true h = refl
  by false h = h

-- ---- layouts

laid_itself : (fs : List Form) → IsLaidOut fs fs
laid_itself fs = record { names = λ x. refl; shapes = λ x. refl }

laid_on : (a b s t : List Form) → IsLaidOut s a → IsLaidOut t (s ++ b) → IsLaidOut t (a ++ b)
laid_on a b s t h k =
    record {
      names = λ x. k.names x ∙ names_append s b x ∙ ap (λ e. e || is_in x (names_in b)) (h.names x) ∙ sym (names_append a b x);
      shapes = λ x.
          k.shapes x ∙ shapes_append s b x ∙ ap (λ e. cond e (shape_in s x) (shape_in b x)) (h.names x)
          ∙ ap (λ v. cond (is_in x (names_in a)) v (shape_in b x)) (h.shapes x) ∙ sym (shapes_append a b x);
    }

none_shaped : (fs : List Form) (x : Name) → is_in x (names_in fs) ≡ false → shape_in fs x ≡ None
none_shaped [] x h = refl
none_shaped (f ∷ fs) x h = by (bytes_eq x f.0) h (none_shaped fs x) where
  by : (b : Bool) → (b || is_in x (names_in fs)) ≡ false → (is_in x (names_in fs) ≡ false → shape_in fs x ≡ None) → cond b f.1 (shape_in fs x) ≡ None
  by true h again = absurd cc
  by false h again = again h

-- of two names one is declared, so the other is if it is the same
same_declared : (fs : List Form) (x n : Name) → is_in n (names_in fs) ≡ true → is_in x (names_in fs) ≡ false → bytes_eq x n ≡ false
same_declared fs x n h k = by (bytes_eq x n) refl where
  by : (b : Bool) → bytes_eq x n ≡ b → b ≡ false
  by true e = let f : is_in x (names_in fs) ≡ true = ap (λ m. is_in m (names_in fs)) (same_name x n e) ∙ h in let g : true ≡ false = sym f ∙ k in absurd cc
  by false e = refl

-- a variable behind another of its name is not seen
laid_again : (fs : List Form) (f : Form) → is_in f.0 (names_in fs) ≡ true → IsLaidOut fs (fs ++ f ∷ [])
laid_again fs f h =
    record {
      names = λ x. sym (names_append fs (f ∷ []) x ∙ names_by x (is_in x (names_in fs)) refl);
      shapes = λ x. sym (shapes_append fs (f ∷ []) x ∙ shapes_by x (is_in x (names_in fs)) refl);
    }
  where
    names_by : (x : Name) (b : Bool) → is_in x (names_in fs) ≡ b → (b || (bytes_eq x f.0 || false)) ≡ b
    names_by x true e = refl
    names_by x false e = ap (λ d. d || false) (same_declared fs x f.0 h e)

    shapes_by : (x : Name) (b : Bool) → is_in x (names_in fs) ≡ b → cond b (shape_in fs x) (shape_in (f ∷ []) x) ≡ shape_in fs x
    shapes_by x true e = refl
    shapes_by x false e = ap (λ d. cond d f.1 None) (same_declared fs x f.0 h e) ∙ sym (none_shaped fs x e)

-- a layout after a name was declared, if it was new
laid_declared : (old new : List Form) (f : Form) (is_new : Bool) → is_new ≡ not (is_in f.0 (names_in old)) → new ≡ (if is_new then old ++ f ∷ [] else old) → IsLaidOut new (old ++ f ∷ [])
laid_declared old new f is_new e g = by (is_in f.0 (names_in old)) is_new refl e g where
  by : (b n : Bool) → is_in f.0 (names_in old) ≡ b → n ≡ not b → new ≡ (if n then old ++ f ∷ [] else old) → IsLaidOut new (old ++ f ∷ [])
  by b true k e g = subst (λ fs. IsLaidOut fs (old ++ f ∷ [])) (sym g) (laid_itself (old ++ f ∷ []))
  by true false k e g = subst (λ fs. IsLaidOut fs (old ++ f ∷ [])) (sym g) (laid_again old f k)
  by false false k e g = absurd cc

-- one more of those that are declared one after another
pub laid_next : (ds : List Draft) (i : ℕ) (d : Draft) (old new : List Form) (name : Name) (is_new : Bool) → i < length ds → d ≡ get_or ds i d → name ≡ string_bytes d.name → IsLaidOut old (forms_in (take i ds))
    → is_new ≡ not (is_in name (names_in old)) → new ≡ (if is_new then old ++ (name, d.bounds) ∷ [] else old) → IsLaidOut new (forms_in (take (i + 1) ds))
laid_next ds i d old new name is_new l e n h k g =
    let more : take (i + 1) ds ≡ take i ds ++ d ∷ [] = take_more ds i d l ∙ ap (λ y. take i ds ++ y ∷ []) (sym e) in
    let last : IsLaidOut new (old ++ form_in d ∷ []) = subst (λ (y : Name). IsLaidOut new (old ++ (y, d.bounds) ∷ [])) n (laid_declared old new (name, d.bounds) is_new k g) in
    subst (λ zs. IsLaidOut new (forms_in zs)) (sym more) (subst (IsLaidOut new) (sym (map_push form_in (take i ds) d)) (laid_on (forms_in (take i ds)) (form_in d ∷ []) old new h last))

-- ---- numbers

-- a store of zeros
pub zeros_laid : (fs forms : List Form) (s : List Cell) → s ≡ zeros_in fs → IsLaidOut fs forms → IsLaidOut (forms_of s) forms
zeros_laid fs forms s e h = subst (λ gs. IsLaidOut gs forms) (sym (ap forms_of e ∙ zeros_forms fs)) h

pub zeros_set : (fs : List Form) (s : List Cell) → s ≡ zeros_in fs → IsSetFrom s []
zeros_set fs s e =
    subst (λ (t : List Cell). IsSetFrom t []) (sym e)
    (λ x. zeros_values fs x ∙ ap (λ b. filled b (pos 0)) (sym (ap (λ gs. shape_in gs x) (zeros_forms fs) ∙ shape_is fs x)))

-- the names of variables are in the layout
names_here : (ds : List Draft) (i : ℕ) (d : Draft) → i < length ds → d ≡ get_or ds i d → is_in (string_bytes d.name) (names_in (forms_in ds)) ≡ true
names_here [] i d l e = absurd (omega arith)
names_here (c ∷ ds) zero d l e = first (string_bytes d.name) (string_bytes c.name) (ap (λ z. string_bytes z.name) e) where
  first : (x y : Name) → x ≡ y → (bytes_eq x y || is_in x (names_in (forms_in ds))) ≡ true
  first x y g = ap (λ z. bytes_eq x z || is_in x (names_in (forms_in ds))) (sym g) ∙ ap (λ b. b || is_in x (names_in (forms_in ds))) (name_same x)
names_here (c ∷ ds) (suc i) d l e = ap (λ b. bytes_eq (string_bytes d.name) (string_bytes c.name) || b) (names_here ds i d (omega arith) e) ∙ or_true (bytes_eq (string_bytes d.name) (string_bytes c.name)) where
  or_true : (b : Bool) → (b || true) ≡ true
  or_true true = refl
  or_true false = refl

pub draft_declared : (ds : List Draft) (i : ℕ) (d : Draft) (forms : List Form) → i < length ds → d ≡ get_or ds i d → IsLaidOut forms (forms_in ds) → is_in (string_bytes d.name) (names_in forms) ≡ true
draft_declared ds i d forms l e h = h.names (string_bytes d.name) ∙ names_here ds i d l e

-- after the number of one more is set
set_one : (ds : List Draft) (d : Draft) (s t : List Cell) → forms_of t ≡ forms_of s → values_of t ≡ setting (values_of s) (string_bytes d.name) (filled (shape_of s (string_bytes d.name)) d.number) → IsSetFrom s ds → IsSetFrom t (d ∷ ds)
set_one ds d s t f v h x =
    ap (λ g. g x) v ∙ by (bytes_eq (string_bytes d.name) x) refl ∙ ap (λ b. filled (shape_of s x) (if b then d.number else number_at ds x)) (eq_turned (string_bytes d.name) x)
    ∙ ap (λ gs. filled (shape_in gs x) (number_at (d ∷ ds) x)) (sym f)
  where
    by : (b : Bool) → bytes_eq (string_bytes d.name) x ≡ b → (if b then filled (shape_of s (string_bytes d.name)) d.number else values_of s x) ≡ filled (shape_of s x) (if b then d.number else number_at ds x)
    by true e = ap (λ y. filled (shape_of s y) d.number) (same_name (string_bytes d.name) x e)
    by false e = h x

pub set_next : (ds : List Draft) (i : ℕ) (d : Draft) (s t : List Cell) → i < length ds → d ≡ get_or ds i d → forms_of t ≡ forms_of s
    → values_of t ≡ setting (values_of s) (string_bytes d.name) (filled (shape_of s (string_bytes d.name)) d.number) → IsSetFrom s (drop (i + 1) ds) → IsSetFrom t (drop i ds)
set_next ds i d s t l e f v h =
    let here : drop i ds ≡ d ∷ drop (suc i) ds = drop-cons ds i d l ∙ ap (λ y. y ∷ drop (suc i) ds) (sym e) in
    let next : i + 1 ≡ suc i = omega arith in
    subst (IsSetFrom t) (sym here) (set_one (drop (suc i) ds) d s t f v (subst (λ n. IsSetFrom s (drop n ds)) next h))

-- ---- all set

drafts_valued : (ds : List Draft) (x : Name) → values_of (cells_in ds) x ≡ filled (shape_in (forms_in ds) x) (number_at ds x)
drafts_valued [] x = refl
drafts_valued (d ∷ ds) x = by (bytes_eq x (string_bytes d.name)) (drafts_valued ds x) where
  by : (b : Bool) → values_of (cells_in ds) x ≡ filled (shape_in (forms_in ds) x) (number_at ds x)
      → (if b then filled d.bounds d.number else values_of (cells_in ds) x) ≡ filled (if b then d.bounds else shape_in (forms_in ds) x) (if b then d.number else number_at ds x)
  by true h = refl
  by false h = h

cells_formed : (ds : List Draft) → forms_of (cells_in ds) ≡ forms_in ds
cells_formed [] = refl
cells_formed (d ∷ ds) = ap (λ fs. form_in d ∷ fs) (cells_formed ds)

pub drafts_held : (ds : List Draft) (s : List Cell) → IsLaidOut (forms_of s) (forms_in ds) → IsSetFrom s ds → Holds s (cells_in ds)
drafts_held ds s l h =
    record {
      names = λ x. l.names x ∙ ap (λ fs. is_in x (names_in fs)) (sym (cells_formed ds));
      shapes = λ x. l.shapes x ∙ ap (λ fs. shape_in fs x) (sym (cells_formed ds));
      values = λ x. h x ∙ ap (λ b. filled b (number_at ds x)) (l.shapes x) ∙ sym (drafts_valued ds x);
    }
