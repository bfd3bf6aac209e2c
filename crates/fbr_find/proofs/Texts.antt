-- From a certificate to the text that is asked for.
use Rattle.std.proofs.Common.{◌≡◌, ◌≤◌, ◌<◌, ℕ, List, length, Option, None, Some, Result, Ok, Err, IfOk, true, false, nat_lt, ltb-true, ltb-false, refl, sym, subst, inl, inr}
use Rattle.std.specs.Prelude.{MatchResult, string_bytes}
use Rattle.std.specs.declared.string.String.{String}
use Rattle.std.specs.declared.alloc.Global.{Global}
use Rattle.fb_model.specs.System.{System}
use Rattle.fb_model.specs.Certificates.{Fits}
use Rattle.fb_model.specs.Spelling.{text_limit}
use Rattle.fb_model.specs.CertificateText.{Spells, most_characters}
use Rattle.fb_model_lengths.specs.Lengths.{least_length}
use Rattle.fb_types.specs.declared.typed.Configuration.{Configuration}
use Rattle.fb_types.specs.Views.{system_of}
use Rattle.fb_cert.specs.Views.{Rows, book_of}
use Rattle.fb_cert.specs.Printed.{printed}
use Rattle.fb_faults.specs.declared.certificate.CertFault.TheVariants.{TooLong}
use Rattle.fb_verdict.specs.Verdicts.{IsTypedOf}
use Rattle.fb_faults.specs.declared.refusal.Refusal.TheVariants as refusals
use Rattle.fbr_files.specs.declared.fault.Fault.{Fault}
use Rattle.fbr_files.specs.declared.fault.Fault.TheVariants.{Memory, Input, File, Line, Usage, Refused, Unbound, Device, LinkDown, Socket}
use Rattle.fbr_files.specs.Outcomes.{IsContents, IsReadFault}
use Rattle.fbr_files.specs.Reading.{held_by}
use Rattle.fbr_files.specs.Writing.{Holdings}
use Rattle.fbr_words.specs.Program.{Sought}
use Rattle.fbr_find.specs.Bounding.{IsFoundBy, IsRangesFault, IsTextOf, IsTextAsked, IsFitting, IsAccepted, IsSoughtText, IsGivenFault, IsSystemFault, of_rows, of_ranges, IsTextFaultAsked, of_system, of_length, IsSoughtFault, with_room}
use Rattle.fb_find_room.proofs.Roomy.{book_same}
use Rattle.fb_find_room.proofs.Fitting.{fits}
use Rattle.fbr_find.proofs.Found.{fits_found, ranges_memory}

-- the text of what was found, with the room that is asked for
pub text_found : (q : Sought) (files : Holdings) (s : System) (repeats room : Option ℕ) (rows : Rows) (r : Result (String Global) Fault) → q.repeats ≡ repeats → q.room ≡ room → IsFoundBy q.ranges repeats files s rows
    → MatchResult r (λ text. string_bytes text ≡ printed (with_room room s rows)) (λ f. f ≡ Memory) → IfOk r (λ text. Spells (string_bytes text) (book_of (with_room room s rows)))
    → MatchResult r (λ text. IsTextOf q files s (string_bytes text)) (IsRangesFault q.ranges q.repeats files s)
text_found q files s repeats room rows (Ok text) same is found made spelled =
    record {
      rows = rows;
      found = subst (λ n. IsFoundBy q.ranges n files s rows) (sym same) found;
      printed_is = subst (λ n. string_bytes text ≡ printed (with_room n s rows)) (sym is) made;
      spelled = subst (λ n. Spells (string_bytes text) (book_of (with_room n s rows))) (sym is) spelled;
    }
text_found q files s repeats room rows (Err f) same is found made spelled = subst (IsRangesFault q.ranges q.repeats files s) (sym made) (ranges_memory q.ranges q.repeats files s)

pub unfound : (q : Sought) (files : Holdings) (s : System) (repeats : Option ℕ) (f : Fault) → q.repeats ≡ repeats → IsRangesFault q.ranges repeats files s f → IsRangesFault q.ranges q.repeats files s f
unfound q files s repeats f same h = subst (λ n. IsRangesFault q.ranges n files s f) (sym same) h

-- what the rows are that are found, with room or without, they fit
roomed_fits : (room : Option ℕ) (s : System) (rows : Rows) → Fits s (book_of rows) → Fits s (book_of (with_room room s rows))
roomed_fits None s rows h = h
roomed_fits (Some times) s rows h = subst (Fits s) (sym (book_same times s.devices rows)) (fits times s.devices (book_of rows) s h)

-- what is found of the system of a text is asked for of the text, and fits it
pub asked_of : (q : Sought) (files : Holdings) (app : List ℕ) (typed : Configuration) (r : Result (String Global) Fault) → IsTypedOf app typed → length app ≤ text_limit
    → MatchResult r (λ text. IsTextOf q files (system_of typed) (string_bytes text)) (IsSystemFault q files (system_of typed))
    → MatchResult r (λ text. IsTextAsked q files app (string_bytes text) × IsFitting app (string_bytes text)) (IsTextFaultAsked q files app)
asked_of q files app typed (Ok text) is short h = (
  record { typed = typed; typed_is = is; short = short; text_is = h },
  record {
    source = is.system_is.source;
    system = system_of typed;
    rows = book_of (with_room q.room (system_of typed) h.rows);
    within = short;
    source_is = is.system_is.source_is;
    typed = is.system_is.typed;
    spelled = h.spelled;
    fits = roomed_fits q.room (system_of typed) h.rows (fits_found q.ranges q.repeats files (system_of typed) h.rows h.found);
  },
)
asked_of q files app typed (Err f) is short h = of_system typed is h

-- the rows that a system must have are too long
pub long_rows : (q : Sought) (files : Holdings) (s : System) (repeats : Option ℕ) → q.repeats ≡ repeats → nat_lt most_characters (least_length repeats s) ≡ true → IsSystemFault q files s (Refused (refusals.Certificate TooLong))
long_rows q files s repeats same is = of_rows (subst (λ n. most_characters < least_length n s) (sym same) (ltb-true most_characters (least_length repeats s) is)) refl

-- they are not, and this is what was found
pub short_rows : (q : Sought) (files : Holdings) (s : System) (repeats : Option ℕ) (r : Result (String Global) Fault) → q.repeats ≡ repeats → nat_lt most_characters (least_length repeats s) ≡ false
    → MatchResult r (λ text. IsTextOf q files s (string_bytes text)) (IsRangesFault q.ranges q.repeats files s) → MatchResult r (λ text. IsTextOf q files s (string_bytes text)) (IsSystemFault q files s)
short_rows q files s repeats (Ok text) same is h = h
short_rows q files s repeats (Err f) same is h = of_ranges (subst (λ n. least_length n s ≤ most_characters) (sym same) (ltb-false most_characters (least_length repeats s) is)) h

-- a text above the limit
pub too_long : (q : Sought) (files : Holdings) (app text : List ℕ) → IsTextAsked q files app text → most_characters < length text → IsTextFaultAsked q files app (Refused (refusals.Certificate TooLong))
too_long q files app text h long = of_length text h (refl, long)

-- what is said of what the application's file holds is said of the file
pub sought_over : (q : Sought) (files : Holdings) (app : List ℕ) (r : Result (String Global) Fault) → IsContents (held_by q.meant (files q.app)) app
    → MatchResult r (λ text. IsTextAsked q files app (string_bytes text) × IsAccepted app (string_bytes text)) (IsTextFaultAsked q files app)
    → MatchResult r (λ text. IsSoughtText q files (string_bytes text)) (IsSoughtFault q files)
sought_over q files app (Ok text) is h = (app, is, h.0, h.1)
sought_over q files app (Err f) is h = inr (app, is, h)

pub unread_over : (q : Sought) (files : Holdings) (name : List ℕ) (f : Fault) → name ≡ q.app → IsReadFault name f → IsSoughtFault q files f
unread_over q files name f is h = inl (subst (λ n. IsReadFault n f) is h)

-- a file that was not read is at fault where its rows are kept
pub unread_given : (name : List ℕ) (held : Option (List ℕ)) (f : Fault) → IsReadFault name f → IsGivenFault name held f
unread_given name held Memory h = tt
unread_given name held (File one) h = h
unread_given name held Input h = absurd h
unread_given name held (Line n) h = absurd h
unread_given name held Usage h = absurd h
unread_given name held (Refused r) h = absurd h
unread_given name held (Unbound r) h = absurd h
unread_given name held (Device n) h = absurd h
unread_given name held LinkDown h = absurd h
unread_given name held (Socket port) h = absurd h
