-- What the code answers is what the text spells.
use Rattle.std.proofs.Common.{◌≡◌, ◌≤◌, List, ℕ, length, Result, Ok, Err, ap, ◌∙◌}
use Rattle.std.specs.Result.{IfOk, IfErr}
use Rattle.fb_model.specs.Certificates as book
use Rattle.fb_model.specs.CertificateText.{Spells, most_characters}
use Rattle.fb_cert.specs.declared.lists.Lists.{Lists}
use Rattle.fb_faults.specs.declared.certificate.CertFault.{CertFault}
use Rattle.fb_faults.specs.declared.certificate.CertFault.TheVariants.{OutOfMemory, TooLong, Row, DuplicateRow}
use Rattle.fb_cert.specs.Views.{Rows, rows_in, book_of}
use Rattle.fb_cert.specs.Reading.{text_at}
use Rattle.fb_cert.specs.Answers.{Gives, Finds, Tells}
use Rattle.fb_model.specs.RefusedCertificates.{Faulty, Refuses}
use Rattle.fb_cert.specs.Sayable.{AreSayable}
use Rattle.fb_cert.proofs.Capitals.{text_sayable}
use Rattle.fb_cert.proofs.Refusals.{text_told}
use Rattle.fb_cert.proofs.Texts.{text_found, text_read, text_refused}

pub found : (text : List ℕ) (r : Result Lists CertFault) → Gives rows_in r (text_at text) → IfOk r (λ c. Spells text (book_of (rows_in c)))
found text (Ok c) h = (text_found text (rows_in c) h).1
found text (Err e) h = tt

pub sayable : (text : List ℕ) (r : Result Lists CertFault) → Gives rows_in r (text_at text) → IfOk r (λ c. AreSayable (rows_in c))
sayable text (Ok c) h = text_sayable text (rows_in c) h
sayable text (Err e) h = tt

pub within : (text : List ℕ) (r : Result Lists CertFault) → Gives rows_in r (text_at text) → IfOk r (λ c. length text ≤ most_characters)
within text (Ok c) h = (text_found text (rows_in c) h).0
within text (Err e) h = tt

pub only : (text : List ℕ) (r : Result Lists CertFault) → Gives rows_in r (text_at text) → (certificate : book.Certificate) → length text ≤ most_characters → Spells text certificate → Finds (λ c. book_of (rows_in c)) r certificate
only text (Ok c) h certificate l s = let t = text_read text certificate l s in let e : rows_in c ≡ t.0 = (let a = t.1 in cc) in ap book_of e ∙ t.2
only text (Err OutOfMemory) h certificate l s = tt
only text (Err TooLong) h certificate l s = let t = (text_read text certificate l s).1 in absurd (cc)
only text (Err (Row n)) h certificate l s = let t = (text_read text certificate l s).1 in absurd (cc)
only text (Err (DuplicateRow n)) h certificate l s = let t = (text_read text certificate l s).1 in absurd (cc)

pub refused : (text : List ℕ) (r : Result Lists CertFault) → Gives rows_in r (text_at text) → IfErr r (Refuses text)
refused text (Ok c) h = tt
refused text (Err OutOfMemory) h = tt
refused text (Err TooLong) h = text_refused text TooLong h
refused text (Err (Row n)) h = text_refused text (Row n) h
refused text (Err (DuplicateRow n)) h = text_refused text (DuplicateRow n) h

same_fault : {X : Type 0} (f : CertFault) (r : Result X CertFault) (read : Result Rows CertFault) (view : X → Rows) → Gives view r read → read ≡ Err f → Tells f r
same_fault f (Ok x) read view h g = absurd (cc)
same_fault f (Err OutOfMemory) read view h g = tt
same_fault f (Err TooLong) read view h g = cc
same_fault f (Err (Row n)) read view h g = cc
same_fault f (Err (DuplicateRow n)) read view h g = cc

pub told : (text : List ℕ) (r : Result Lists CertFault) → Gives rows_in r (text_at text) → (f : CertFault) → Faulty text f → Tells f r
told text r h f g = same_fault f r (text_at text) rows_in h (text_told text f g)
