-- Lists of statements among lone `;`, entry by entry.
use Rattle.std.proofs.Common.{◌≡◌, List, [], ◌∷◌, ◌++◌, length, Option, Some, None, Result, Ok, refl, sym, ap, ◌∙◌}
use Rattle.fb_model.specs.Tokens.{Token}
use Rattle.fb_model.specs.StructuredText.{Statement, Statements, statements}
use Rattle.fb_read.specs.declared.stop.Stop.{Stop}
use Rattle.fb_read.specs.declared.stop.Stop.TheVariants.{Memory, Syntax, TooDeep}
use Rattle.fb_read.specs.Answers.{Fails}
use Rattle.fb_read.specs.Reading.{Wrong, Answer, Read, ◌>>=◌, while_at}
use Rattle.st_parse.specs.Reading.{begins_entry, entry_at, statements_in, entries_at}

pub statements_some : (es : List (Option Statement)) (x : Statement) → statements_in (es ++ Some x ∷ []) ≡ statements_in es ++ x ∷ []
statements_some [] x = refl
statements_some (None ∷ es) x = statements_some es x
statements_some (Some y ∷ es) x = ap (λ xs. y ∷ xs) (statements_some es x)

pub statements_none : (es : List (Option Statement)) → statements_in (es ++ None ∷ []) ≡ statements_in es
statements_none [] = refl
statements_none (None ∷ es) = statements_none es
statements_none (Some y ∷ es) = ap (λ xs. y ∷ xs) (statements_none es)

fails_then : {A B : Type 0} (e : Stop) (r : Result A Wrong) (f : A → Result B Wrong) → Fails e r → Fails e (r >>= f)
fails_then Memory r f h = tt
fails_then (Syntax left) r f h = ap (λ q. q >>= f) h
fails_then (TooDeep left) r f h = ap (λ q. q >>= f) h

-- a list whose entries have been read
pub list_ends : (one : Read Statement) (ts : List Token) (es : List (Option Statement)) (xs : List Statement) (rest : List Token) → while_at begins_entry (entry_at one) (length ts) ts ≡ Ok (es, rest) → xs ≡ statements_in es → entries_at one ts ≡ Ok (statements xs, rest)
unfolding entries_at
list_ends one ts es xs rest e f =
    let whole : Answer (List (Option Statement)) → Answer Statements = λ r. r >>= λ ys. Ok (statements (statements_in ys.0), ys.1) in
    ap whole e ∙ ap (λ ys. let r : Answer Statements = Ok (statements ys, rest) in r) (sym f)

pub list_fails : (e : Stop) (one : Read Statement) (ts : List Token) → Fails e (while_at begins_entry (entry_at one) (length ts) ts) → Fails e (entries_at one ts)
unfolding entries_at
list_fails e one ts h = fails_then e (while_at begins_entry (entry_at one) (length ts) ts) (λ ys. Ok (statements (statements_in ys.0), ys.1)) h
