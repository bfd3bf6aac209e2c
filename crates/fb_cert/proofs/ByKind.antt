-- Rows by their kinds against rows in text order.
use Rattle.std.proofs.Common.{◌≡◌, false, Some, List, [], ◌∷◌, ◌++◌, refl, sym, ap, subst, ◌∙◌, append_assoc}
use Rattle.std.specs.Prelude.{◌||◌}
use Rattle.std.specs.List.{list_any}
use Rattle.std.proofs.lemmas.List.{append-nil}
use Rattle.fb_model.specs.CertificateText.{TextRow, repeats, range, charge, weight, depth, far, far_state, channel, is_same, NoneTwice, with_text_row, certificate_in}
use Rattle.fb_model.specs.Spans.{span}
use Rattle.fb_cert.specs.Views.{Rows, amount, no_rows, has_row, with_row, book_of}
use Rattle.fb_cert.proofs.Deciding.{neither}

-- ---- rows that entries fill

-- a row before those of its kind
abbrev pub row_before : TextRow → Rows → Rows
row_before (repeats n) rows = record rows { repeats = Some n }
row_before (range p l h) rows = record rows { ranges = (p, span l h) ∷ rows.ranges }
row_before (charge p s k) rows = record rows { charges = (p, amount s k) ∷ rows.charges }
row_before (weight p s k) rows = record rows { weights = (p, amount s k) ∷ rows.weights }
row_before (depth p n) rows = record rows { depths = (p, n) ∷ rows.depths }
row_before (far p n) rows = record rows { fars = (p, n) ∷ rows.fars }
row_before (far_state p n) rows = record rows { far_states = (p, n) ∷ rows.far_states }
row_before (channel c n) rows = record rows { channels = (c, n) ∷ rows.channels }

abbrev pub rows_in : List TextRow → Rows
rows_in [] = no_rows
rows_in (e ∷ es) = row_before e (rows_in es)

-- ---- the book's certificate

book_before : (e : TextRow) (rows : Rows) → book_of (row_before e rows) ≡ with_text_row e (book_of rows)
book_before (repeats n) rows = refl
book_before e rows = refl

pub book_in : (es : List TextRow) → book_of (rows_in es) ≡ certificate_in es
book_in [] = refl
book_in (e ∷ es) = book_before e (rows_in es) ∙ ap (with_text_row e) (book_in es)

-- ---- one row more

has_none : (e : TextRow) → has_row e no_rows ≡ false
has_none (repeats n) = refl
has_none e = refl

has_before : (e x : TextRow) (rows : Rows) → has_row e (row_before x rows) ≡ (is_same e x || has_row e rows)
has_before (repeats n) (repeats m) rows = refl
has_before (range p l h) (range q a b) rows = refl
has_before (charge p s k) (charge q t l) rows = refl
has_before (weight p s k) (weight q t l) rows = refl
has_before (depth p n) (depth q m) rows = refl
has_before (far p n) (far q m) rows = refl
has_before (far_state p n) (far_state q m) rows = refl
has_before (channel c n) (channel d m) rows = refl
has_before e x rows = refl

-- its path or number stands there already just where an text_row is the same
pub has_in : (e : TextRow) (es : List TextRow) → has_row e (rows_in es) ≡ list_any (is_same e) es
has_in e [] = has_none e
has_in e (x ∷ es) = has_before e x (rows_in es) ∙ ap (λ b. is_same e x || b) (has_in e es)

with_none : (e : TextRow) → with_row e no_rows ≡ row_before e no_rows
with_none (repeats n) = refl
with_none e = refl

with_before : (e x : TextRow) (rows : Rows) → is_same e x ≡ false → with_row e (row_before x rows) ≡ row_before x (with_row e rows)
with_before (repeats n) (repeats m) rows g = absurd (cc)
with_before (range p l h) (range q a b) rows g = refl
with_before (charge p s k) (charge q t l) rows g = refl
with_before (weight p s k) (weight q t l) rows g = refl
with_before (depth p n) (depth q m) rows g = refl
with_before (far p n) (far q m) rows g = refl
with_before (far_state p n) (far_state q m) rows g = refl
with_before (channel c n) (channel d m) rows g = refl
with_before e x rows g = refl

-- a row that repeats none goes last
pub with_in : (e : TextRow) (es : List TextRow) → list_any (is_same e) es ≡ false → with_row e (rows_in es) ≡ rows_in (es ++ e ∷ [])
with_in e [] g = with_none e
with_in e (x ∷ es) g =
    let t = neither (is_same e x) (list_any (is_same e) es) g in
    with_before e x (rows_in es) t.0 ∙ ap (row_before x) (with_in e es t.1)

-- ---- no row twice

-- none of these repeats one before it, or one of those done
abbrev pub AreNew : List TextRow → List TextRow → Type 0
AreNew done [] = Unit {0}
AreNew done (e ∷ es) = (list_any (is_same e) done ≡ false) × AreNew (done ++ e ∷ []) es

abbrev NoneAgain : List TextRow → List TextRow → Type 0
NoneAgain done es = (before after : List TextRow) (e : TextRow) → es ≡ before ++ e ∷ after → list_any (is_same e) (done ++ before) ≡ false

new_once : (done es : List TextRow) → AreNew done es → NoneAgain done es
new_once done [] h [] after e k = absurd (cc)
new_once done [] h (b ∷ before) after e k = absurd (cc)
new_once done (x ∷ es) h [] after e k = let same : x ≡ e = cc in subst (λ v. list_any (is_same v) (done ++ []) ≡ false) same (subst (λ d. list_any (is_same x) d ≡ false) (sym (append-nil done)) h.0)
new_once done (x ∷ es) h (b ∷ before) after e k =
    let same : x ≡ b = cc in let rest : es ≡ before ++ e ∷ after = cc in
    subst (λ d. list_any (is_same e) d ≡ false) (append_assoc done (x ∷ []) before ∙ ap (λ v. done ++ v ∷ before) same) (new_once (done ++ x ∷ []) es h.1 before after e rest)

once_new : (done es : List TextRow) → NoneAgain done es → AreNew done es
once_new done [] h = tt
once_new done (x ∷ es) h = (subst (λ d. list_any (is_same x) d ≡ false) (append-nil done) (h [] es x refl), once_new (done ++ x ∷ []) es (λ before after e k. subst (λ d. list_any (is_same e) d ≡ false) (sym (append_assoc done (x ∷ []) before)) (h (x ∷ before) after e (ap (λ r. x ∷ r) k))))

pub none_twice : (es : List TextRow) → AreNew [] es → NoneTwice es
none_twice es h = new_once [] es h

pub all_new : (es : List TextRow) → NoneTwice es → AreNew [] es
all_new es h = once_new [] es h
