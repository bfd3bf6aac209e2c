-- What is read of a text is what it spells.
use Rattle.std.proofs.Common.{◌≡◌, ℕ, ◌+◌, ◌≤◌, ◌⊎◌, Bool, true, false, cond, List, [], ◌∷◌, ◌++◌, length, Option, Some, None, Result, Ok, Err, refl, sym, ap, subst, ◌∙◌, inl, inr, append_assoc}
use Rattle.std.specs.Prelude.{◌==◌, nat_lt}
use Rattle.std.specs.List.{list_any}
use Rattle.std.specs.Str.Lines.{lines}
use Rattle.std.proofs.lemmas.List.{append-nil}
use Rattle.std.proofs.lemmas.Bool.{ltb-false, ltb-true, le-ltb}
use Rattle.fb_model.specs.Certificates as book
use Rattle.fb_model.specs.Spelling.{upper}
use Rattle.fb_model.specs.CertificateText.{Written, written, words, rows_from, rows, begins_cert, TextRow, is_same, IsTextRow, AreTextRows, no_text_row, text_row, Spells, Reaches, no_row, no_head, no_row_word, head_again, path_again, most_characters}
use Rattle.fb_faults.specs.declared.certificate.CertFault.{CertFault}
use Rattle.fb_faults.specs.declared.certificate.CertFault.TheVariants.{TooLong, Row, DuplicateRow}
use Rattle.fb_cert.specs.Views.{Rows, no_rows, has_row, with_row, book_of}
use Rattle.fb_cert.specs.Reading.{Read, read, text_row_at, is_head, entered, row_at, behind, words_at, chain, lines_at, whole, text_at}
use Rattle.fb_model.specs.RefusedCertificates.{Refuses}
use Rattle.fb_cert.proofs.Deciding.{chosen, some_length}
use Rattle.fb_cert.proofs.Entries.{entry_found, entry_read, entry_no_cert, head_found, head_read}
use Rattle.fb_cert.proofs.ByKind.{rows_in, book_in, has_in, with_in, AreNew, none_twice, all_new}

-- ---- rows in place of lines

unfoldable pub next_rows : Result Rows CertFault → (Rows → Result Rows CertFault) → Result Rows CertFault
next_rows (Ok rows) f = f rows
next_rows (Err e) f = Err e

-- the rows behind the first
unfoldable pub rest_at : List Written → Rows → Result Rows CertFault
rest_at [] rs = Ok rs
rest_at (w ∷ ws) rs = next_rows (row_at w.line w.words rs) (λ n. rest_at ws n)

unfoldable pub all_at : List Written → Result Rows CertFault
all_at [] = Err (Row 1)
all_at (w ∷ ws) = cond (is_head w.words) (rest_at ws no_rows) (Err (Row w.line))

behind_chain : (r : Result Rows CertFault) (f : Read → Result Read CertFault) (g : Rows → Result Rows CertFault) → ((rs : Rows) → whole (f (read true rs)) ≡ g rs) → whole (chain (behind r) f) ≡ next_rows r g
unfolding next_rows
behind_chain (Ok rs) f g h = h rs
behind_chain (Err e) f g h = refl

rest_lines : (n : ℕ) (ls : List (List ℕ)) (rs : Rows) → whole (lines_at n ls (read true rs)) ≡ rest_at (rows_from n ls) rs
unfolding lines_at rest_at
rest_lines n [] rs = refl
rest_lines n (l ∷ ls) rs = by (words l) (rest_lines (n + 1) ls)
  where
    by : (ws : List (List ℕ)) → ((r : Rows) → whole (lines_at (n + 1) ls (read true r)) ≡ rest_at (rows_from (n + 1) ls) r)
        → whole (chain (words_at n ws (read true rs)) (λ k. lines_at (n + 1) ls k)) ≡ rest_at (cond (length ws == 0) (rows_from (n + 1) ls) (written n ws ∷ rows_from (n + 1) ls)) rs
    by [] others = others rs
    by (w ∷ ws) others =
        behind_chain (row_at n (w ∷ ws) rs) (λ k. lines_at (n + 1) ls k) (λ r. rest_at (rows_from (n + 1) ls) r) others
        ∙ ap (λ b. rest_at (cond b (rows_from (n + 1) ls) (written n (w ∷ ws) ∷ rows_from (n + 1) ls)) rs) (sym (some_length w ws))

head_chain : (b : Bool) (n : ℕ) (f : Read → Result Read CertFault) (r : Result Rows CertFault) → whole (f (read true no_rows)) ≡ r → whole (chain (cond b (Ok (read true no_rows)) (Err (Row n))) f) ≡ cond b r (Err (Row n))
head_chain true n f r h = h
head_chain false n f r h = refl

pub all_lines : (n : ℕ) (ls : List (List ℕ)) → whole (lines_at n ls (read false no_rows)) ≡ all_at (rows_from n ls)
unfolding lines_at all_at
all_lines n [] = refl
all_lines n (l ∷ ls) = by (words l) (all_lines (n + 1) ls)
  where
    by : (ws : List (List ℕ)) → whole (lines_at (n + 1) ls (read false no_rows)) ≡ all_at (rows_from (n + 1) ls)
        → whole (chain (words_at n ws (read false no_rows)) (λ k. lines_at (n + 1) ls k)) ≡ all_at (cond (length ws == 0) (rows_from (n + 1) ls) (written n ws ∷ rows_from (n + 1) ls))
    by [] others = others
    by (w ∷ ws) others =
        head_chain (is_head (w ∷ ws)) n (λ k. lines_at (n + 1) ls k) (rest_at (rows_from (n + 1) ls) no_rows) (rest_lines (n + 1) ls no_rows)
        ∙ ap (λ b. all_at (cond b (rows_from (n + 1) ls) (written n (w ∷ ws) ∷ rows_from (n + 1) ls))) (sym (some_length w ws))

-- ---- one row

record Says (ws : List (List ℕ)) (done : List TextRow) (rs : Rows) : Type 0 where
  e : TextRow
  is : IsTextRow ws e
  new : list_any (is_same e) done ≡ false
  rows_are : rs ≡ rows_in (done ++ e ∷ [])

entered_ok : (n : ℕ) (o : Option TextRow) (done : List TextRow) (rs : Rows) → entered n o (rows_in done) ≡ Ok rs → (e : TextRow) × (o ≡ Some e) × (has_row e (rows_in done) ≡ false) × (with_row e (rows_in done) ≡ rs)
entered_ok n None done rs h = absurd (cc)
entered_ok n (Some e) done rs h =
    elim (chosen (has_row e (rows_in done)) (Err (DuplicateRow n)) (Ok (with_row e (rows_in done))) (Ok rs) h) [
      | inl p ↦ absurd (cc)
      | inr p ↦ (let same : with_row e (rows_in done) ≡ rs = cc in (e, refl, p.0, same))
    ]

row_found : (n : ℕ) (ws : List (List ℕ)) (done : List TextRow) (rs : Rows) → row_at n ws (rows_in done) ≡ Ok rs → Says ws done rs
row_found n ws done rs h =
    elim (chosen (begins_cert ws) (Err (DuplicateRow n)) (entered n (text_row_at ws) (rows_in done)) (Ok rs) h) [
      | inl p ↦ absurd (cc)
      | inr p ↦ (let o = entered_ok n (text_row_at ws) done rs p.1 in
          let new : list_any (is_same o.0) done ≡ false = sym (has_in o.0 done) ∙ o.2 in
          record { e = o.0; is = entry_found ws o.0 o.1; new = new; rows_are = sym o.3 ∙ with_in o.0 done new })
    ]

pub row_read : (n : ℕ) (ws : List (List ℕ)) (done : List TextRow) (e : TextRow) → IsTextRow ws e → list_any (is_same e) done ≡ false → row_at n ws (rows_in done) ≡ Ok (rows_in (done ++ e ∷ []))
row_read n ws done e h new =
    ap (λ b. cond b (Err (DuplicateRow n)) (entered n (text_row_at ws) (rows_in done))) (entry_no_cert ws e h)
    ∙ ap (λ o. entered n o (rows_in done)) (entry_read ws e h)
    ∙ ap (λ b. cond b (Err (DuplicateRow n)) (Ok (with_row e (rows_in done)))) (has_in e done ∙ new)
    ∙ ap Ok (with_in e done new)

-- ---- the rows behind the first

record RestSays (ws : List Written) (done : List TextRow) (rs : Rows) : Type 0 where
  es : List TextRow
  are : AreTextRows ws es
  new : AreNew done es
  rows_are : rs ≡ rows_in (done ++ es)

pub next_ok : (r : Result Rows CertFault) (f : Rows → Result Rows CertFault) (y : Rows) → next_rows r f ≡ Ok y → (x : Rows) × (r ≡ Ok x) × (f x ≡ Ok y)
unfolding next_rows
next_ok (Ok x) f y h = (x, refl, h)
next_ok (Err e) f y h = absurd (cc)

after_first : (w : Written) (ws : List Written) (done : List TextRow) (rs x : Rows) (s : Says w.words done x) → RestSays ws (done ++ s.e ∷ []) rs → RestSays (w ∷ ws) done rs
after_first w ws done rs x s r =
    record { es = s.e ∷ r.es; are = text_row s.is r.are; new = (s.new, r.new); rows_are = r.rows_are ∙ ap rows_in (append_assoc done (s.e ∷ []) r.es) }

rest_found : (ws : List Written) (done : List TextRow) (rs : Rows) → rest_at ws (rows_in done) ≡ Ok rs → RestSays ws done rs
unfolding rest_at
rest_found [] done rs h = let same : rows_in done ≡ rs = cc in record { es = []; are = no_text_row; new = tt; rows_are = sym same ∙ ap rows_in (sym (append-nil done)) }
rest_found (w ∷ ws) done rs h =
    let n = next_ok (row_at w.line w.words (rows_in done)) (λ k. rest_at ws k) rs h in
    let s = row_found w.line w.words done n.0 n.1 in
    after_first w ws done rs n.0 s (rest_found ws (done ++ s.e ∷ []) rs (ap (rest_at ws) (sym s.rows_are) ∙ n.2))

rest_read : (ws : List Written) (es done : List TextRow) → AreTextRows ws es → AreNew done es → rest_at ws (rows_in done) ≡ Ok (rows_in (done ++ es))
unfolding rest_at next_rows
rest_read ws es done no_text_row new = ap (λ d. Ok (rows_in d)) (sym (append-nil done))
rest_read ws es done (text_row {w} {e} {ws = vs} {es = fs} h t) new =
    ap (λ r. next_rows r (λ k. rest_at vs k)) (row_read w.line w.words done e h new.0)
    ∙ rest_read vs fs (done ++ e ∷ []) t new.1
    ∙ ap (λ d. Ok (rows_in d)) (append_assoc done (e ∷ []) fs)

-- where reading stops
record Stops (ws : List Written) (done : List TextRow) (f : CertFault) : Type 0 where
  before : List Written
  after : List Written
  here : Written
  es : List TextRow
  is : ws ≡ before ++ here ∷ after
  are : AreTextRows before es
  new : AreNew done es
  cause : row_at here.line here.words (rows_in (done ++ es)) ≡ Err f

next_err : (r : Result Rows CertFault) (f : Rows → Result Rows CertFault) (e : CertFault) → next_rows r f ≡ Err e → (r ≡ Err e) ⊎ ((x : Rows) × (r ≡ Ok x) × (f x ≡ Err e))
unfolding next_rows
next_err (Ok x) f e h = inr (x, refl, h)
next_err (Err d) f e h = inl h

later_stops : (w : Written) (ws : List Written) (done : List TextRow) (f : CertFault) (x : Rows) (s : Says w.words done x) → Stops ws (done ++ s.e ∷ []) f → Stops (w ∷ ws) done f
later_stops w ws done f x s r =
    record {
      before = w ∷ r.before;
      after = r.after;
      here = r.here;
      es = s.e ∷ r.es;
      is = ap (λ v. w ∷ v) r.is;
      are = text_row s.is r.are;
      new = (s.new, r.new);
      cause = ap (λ d. row_at r.here.line r.here.words (rows_in d)) (sym (append_assoc done (s.e ∷ []) r.es)) ∙ r.cause;
    }

rest_stops : (ws : List Written) (done : List TextRow) (f : CertFault) → rest_at ws (rows_in done) ≡ Err f → Stops ws done f
unfolding rest_at
rest_stops [] done f h = absurd (cc)
rest_stops (w ∷ ws) done f h =
    elim (next_err (row_at w.line w.words (rows_in done)) (λ k. rest_at ws k) f h) [
      | inl p ↦ record { before = []; after = ws; here = w; es = []; is = refl; are = no_text_row; new = tt; cause = ap (λ d. row_at w.line w.words (rows_in d)) (append-nil done) ∙ p }
      | inr p ↦ (let s = row_found w.line w.words done p.0 p.1 in
          later_stops w ws done f p.0 s (rest_stops ws (done ++ s.e ∷ []) f (ap (rest_at ws) (sym s.rows_are) ∙ p.2)))
    ]

-- ---- whole texts

pub text_rows : (text : List ℕ) → length text ≤ most_characters → text_at text ≡ all_at (rows text)
text_rows text l = ap (λ b. cond b (Err TooLong) (whole (lines_at 1 (lines (upper text)) (read false no_rows)))) (le-ltb most_characters (length text) l) ∙ all_lines 1 (lines (upper text))

all_found : (text : List ℕ) (ws : List Written) (rs : Rows) → rows text ≡ ws → all_at ws ≡ Ok rs → Spells text (book_of rs)
unfolding all_at
all_found text [] rs e h = absurd (cc)
all_found text (w ∷ ws) rs e h =
    elim (chosen (is_head w.words) (rest_at ws no_rows) (Err (Row w.line)) (Ok rs) h) [
      | inl p ↦ (let r = rest_found ws [] rs p.1 in
          record { first = w; others = ws; entries = r.es; rows_are = e; first_is = head_found w.words p.0; others_are = r.are; none_twice = none_twice r.es r.new; certificate_is = ap book_of r.rows_are ∙ book_in r.es })
      | inr p ↦ absurd (cc)
    ]

pub text_found : (text : List ℕ) (rs : Rows) → text_at text ≡ Ok rs → (length text ≤ most_characters) × Spells text (book_of rs)
text_found text rs h =
    elim (chosen (nat_lt most_characters (length text)) (Err TooLong) (whole (lines_at 1 (lines (upper text)) (read false no_rows))) (Ok rs) h) [
      | inl p ↦ absurd (cc)
      | inr p ↦ (ltb-false most_characters (length text) p.0, all_found text (rows text) rs refl (sym (all_lines 1 (lines (upper text))) ∙ p.1))
    ]

all_read : (text : List ℕ) (certificate : book.Certificate) (s : Spells text certificate) → all_at (rows text) ≡ Ok (rows_in s.entries)
unfolding all_at
all_read text certificate s =
    ap all_at s.rows_are
    ∙ ap (λ b. cond b (rest_at s.others no_rows) (Err (Row s.first.line))) (head_read s.first.words s.first_is)
    ∙ rest_read s.others s.entries [] s.others_are (all_new s.entries s.none_twice)

pub text_read : (text : List ℕ) (certificate : book.Certificate) → length text ≤ most_characters → Spells text certificate → (rs : Rows) × (text_at text ≡ Ok rs) × (book_of rs ≡ certificate)
text_read text certificate l s = (rows_in s.entries, text_rows text l ∙ all_read text certificate s, book_in s.entries ∙ sym s.certificate_is)

-- no text spells two certificates
pub spelled_once : (text : List ℕ) (c d : book.Certificate) → Spells text c → Spells text d → c ≡ d
spelled_once text c d s t =
    let e : rows_in s.entries ≡ rows_in t.entries = let x = all_read text c s in let y = all_read text d t in cc in
    s.certificate_is ∙ sym (book_in s.entries) ∙ ap book_of e ∙ book_in t.entries ∙ sym t.certificate_is

none_is : (o : Option TextRow) → (e : TextRow) → o ≡ None → o ≡ Some e → ⊥
none_is o e h g = cc

refused_row : (text : List ℕ) (w : Written) (es : List TextRow) (f : CertFault) → length text ≤ most_characters → Reaches text es w → row_at w.line w.words (rows_in es) ≡ Err f → Refuses text f
refused_row text w es f l r h =
    elim (chosen (begins_cert w.words) (Err (DuplicateRow w.line)) (entered w.line (text_row_at w.words) (rows_in es)) (Err f) h) [
      | inl p ↦ (let same : DuplicateRow w.line ≡ f = cc in subst (Refuses text) same (l, head_again r p.0))
      | inr p ↦ by (text_row_at w.words) refl p.0 p.1
    ]
  where
    by : (o : Option TextRow) → text_row_at w.words ≡ o → begins_cert w.words ≡ false → entered w.line o (rows_in es) ≡ Err f → Refuses text f
    by None e b k = let same : Row w.line ≡ f = cc in subst (Refuses text) same (l, no_row_word r b (λ x i. none_is (text_row_at w.words) x e (entry_read w.words x i)))
    by (Some x) e b k =
        elim (chosen (has_row x (rows_in es)) (Err (DuplicateRow w.line)) (Ok (with_row x (rows_in es))) (Err f) k) [
          | inl q ↦ (let same : DuplicateRow w.line ≡ f = cc in subst (Refuses text) same (l, path_again r (entry_found w.words x e) (sym (has_in x es) ∙ q.0)))
          | inr q ↦ absurd (cc)
        ]

all_refused : (text : List ℕ) (ws : List Written) (f : CertFault) → length text ≤ most_characters → rows text ≡ ws → all_at ws ≡ Err f → Refuses text f
unfolding all_at
all_refused text [] f l e h = let same : Row 1 ≡ f = cc in subst (Refuses text) same (l, no_row e)
all_refused text (w ∷ ws) f l e h =
    elim (chosen (is_head w.words) (rest_at ws no_rows) (Err (Row w.line)) (Err f) h) [
      | inl p ↦ (let s = rest_stops ws [] f p.1 in
          refused_row text s.here s.es f l (record { first = w; others = s.before; after = s.after; rows_are = e ∙ ap (λ v. w ∷ v) s.is; first_is = head_found w.words p.0; others_are = s.are; none_twice = none_twice s.es s.new }) s.cause)
      | inr p ↦ (let same : Row w.line ≡ f = cc in subst (Refuses text) same (l, no_head e (λ i. let t = head_read w.words i in absurd (cc))))
    ]

pub text_refused : (text : List ℕ) (f : CertFault) → text_at text ≡ Err f → Refuses text f
text_refused text f h =
    elim (chosen (nat_lt most_characters (length text)) (Err TooLong) (whole (lines_at 1 (lines (upper text)) (read false no_rows))) (Err f) h) [
      | inl p ↦ (let same : TooLong ≡ f = cc in subst (Refuses text) same (ltb-true most_characters (length text) p.0))
      | inr p ↦ all_refused text (rows text) f (ltb-false most_characters (length text) p.0) refl (sym (all_lines 1 (lines (upper text))) ∙ p.1)
    ]
