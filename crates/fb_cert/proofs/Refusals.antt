-- A text that is at fault is refused with that fault.
use Rattle.std.proofs.Common.{◌≡◌, ℕ, false, cond, List, [], ◌∷◌, ◌++◌, length, Option, Some, None, Ok, Err, refl, sym, ap, ◌∙◌, append_assoc}
use Rattle.std.specs.Str.Lines.{lines}
use Rattle.std.proofs.lemmas.List.{append-nil}
use Rattle.std.proofs.lemmas.Bool.{lt-ltb, false_from_ne_true}
use Rattle.fb_model.specs.Spelling.{upper}
use Rattle.fb_model.specs.CertificateText.{Written, rows, TextRow, AreTextRows, no_text_row, text_row, Reaches, IsWrong, no_row, no_head, no_row_word, IsRepeated, head_again, path_again, most_characters}
use Rattle.fb_faults.specs.declared.certificate.CertFault.{CertFault}
use Rattle.fb_faults.specs.declared.certificate.CertFault.TheVariants.{OutOfMemory, TooLong, Row, DuplicateRow}
use Rattle.fb_cert.specs.Views.{no_rows, with_row}
use Rattle.fb_cert.specs.Reading.{read, text_row_at, is_head, entered, row_at, lines_at, whole, text_at}
use Rattle.fb_model.specs.RefusedCertificates.{Faulty}
use Rattle.fb_cert.proofs.Entries.{entry_found, entry_read, entry_no_cert, head_found, head_read}
use Rattle.fb_cert.proofs.ByKind.{rows_in, has_in, AreNew, all_new}
use Rattle.fb_cert.proofs.Texts.{next_rows, rest_at, all_at, row_read, text_rows}

-- right rows are passed over
rest_passes : (ws after : List Written) (es done : List TextRow) → AreTextRows ws es → AreNew done es → rest_at (ws ++ after) (rows_in done) ≡ rest_at after (rows_in (done ++ es))
unfolding rest_at next_rows
rest_passes ws after es done no_text_row new = ap (λ d. rest_at after (rows_in d)) (sym (append-nil done))
rest_passes ws after es done (text_row {w} {e} {ws = vs} {es = fs} h t) new =
    ap (λ r. next_rows r (λ k. rest_at (vs ++ after) k)) (row_read w.line w.words done e h new.0)
    ∙ rest_passes vs after fs (done ++ e ∷ []) t new.1
    ∙ ap (λ d. rest_at after (rows_in d)) (append_assoc done (e ∷ []) fs)

reached : (text : List ℕ) (w : Written) (es : List TextRow) (f : CertFault) → Reaches text es w → row_at w.line w.words (rows_in es) ≡ Err f → all_at (rows text) ≡ Err f
unfolding rest_at next_rows all_at
reached text w es f r h =
    ap all_at r.rows_are
    ∙ ap (λ b. cond b (rest_at (r.others ++ w ∷ r.after) no_rows) (Err (Row r.first.line))) (head_read r.first.words r.first_is)
    ∙ rest_passes r.others (w ∷ r.after) es [] r.others_are (all_new es r.none_twice)
    ∙ ap (λ x. next_rows x (λ k. rest_at r.after k)) h

none_from : (o : Option TextRow) → ((e : TextRow) → o ≡ Some e → ⊥) → o ≡ None
none_from None h = refl
none_from (Some e) h = absurd (h e refl)

wrong_told : (text : List ℕ) (n : ℕ) → IsWrong text n → all_at (rows text) ≡ Err (Row n)
unfolding all_at
wrong_told text n (no_row e) = ap all_at e
wrong_told text n (no_head {w} {others} e h) = ap all_at e ∙ ap (λ b. cond b (rest_at others no_rows) (Err (Row w.line))) (false_from_ne_true (is_head w.words) (λ t. h (head_found w.words t)))
wrong_told text n (no_row_word {w} {entries} r b h) =
    reached text w entries (Row w.line) r
    (ap (λ x. cond x (Err (DuplicateRow w.line)) (entered w.line (text_row_at w.words) (rows_in entries))) b
    ∙ ap (λ o. entered w.line o (rows_in entries)) (none_from (text_row_at w.words) (λ e k. h e (entry_found w.words e k))))

repeated_told : (text : List ℕ) (n : ℕ) → IsRepeated text n → all_at (rows text) ≡ Err (DuplicateRow n)
repeated_told text n (head_again {w} {entries} r h) =
    reached text w entries (DuplicateRow w.line) r (ap (λ x. cond x (Err (DuplicateRow w.line)) (entered w.line (text_row_at w.words) (rows_in entries))) h)
repeated_told text n (path_again {w} {entries} {e} r i h) =
    reached text w entries (DuplicateRow w.line) r
    (ap (λ x. cond x (Err (DuplicateRow w.line)) (entered w.line (text_row_at w.words) (rows_in entries))) (entry_no_cert w.words e i)
    ∙ ap (λ o. entered w.line o (rows_in entries)) (entry_read w.words e i)
    ∙ ap (λ x. cond x (Err (DuplicateRow w.line)) (Ok (with_row e (rows_in entries)))) (has_in e entries ∙ h))

pub text_told : (text : List ℕ) (f : CertFault) → Faulty text f → text_at text ≡ Err f
text_told text OutOfMemory h = absurd h
text_told text TooLong h = ap (λ b. cond b (Err TooLong) (whole (lines_at 1 (lines (upper text)) (read false no_rows)))) (lt-ltb most_characters (length text) h)
text_told text (Row n) h = text_rows text h.0 ∙ wrong_told text n h.1
text_told text (DuplicateRow n) h = text_rows text h.0 ∙ repeated_told text n h.1
