-- From what parts of a command do to what becomes of it.
use Rattle.std.proofs.Common.{◌≡◌, ◌⊎◌, inl, inr, ℕ, Bool, false, true, List, [], ◌∷◌, Option, None, Some, Result, Ok, Err, IfOk, refl, sym, ◌∙◌, ap, subst}
use Rattle.std.specs.Result.{result_unwrap_or}
use Rattle.clap.specs.Words.{Text}
use Rattle.fbr_files.specs.declared.fault.Fault.{Fault}
use Rattle.fbr_files.specs.declared.fault.Fault.TheVariants.{Usage}
use Rattle.fbr_files.specs.Outcomes.{Outcome, Tells, refusal}
use Rattle.fbr_files.specs.Writing.{Sameness, Holdings}
use Rattle.fbr_words.specs.Program.{Asked, Order, a_bound, a_check, a_sim, a_play, an_explain, a_draw, a_serve, a_replay, a_pack, a_time, a_key, app_of, over, often_of, written_by, request_of, IsMisuse}
use Rattle.fbr_words.specs.Requests.{IsMisread}
use Rattle.fbr_words.specs.declared.reading.Misread.{Misread}
use Rattle.fbr_words.specs.declared.reading.Misread.TheVariants.{Memory, Help, Words, Number}
use Rattle.fbr_files.specs.Placed.{outcome_at}
use Rattle.fbr_texts.specs.Parts.{Start}
use Rattle.fbr_find.specs.Bounding.{IsTypedFault}
use Rattle.fbr.specs.Together.{IsJoined, IsJoinFault}
use Rattle.fbr.specs.Answers.{Answers, NamesWritten, TellsFirst, TellsOutcome, json_of, explains, AnswersTogether, writes_one, joins_none, types_none, answers_one}

-- ---- words

some_none : {X : Type 0} (x : X) (o : Option X) → o ≡ None → o ≡ Some x → ⊥
some_none x o is h = let e : None ≡ Some x = sym is ∙ h in cc

-- words that ask for something are misread for want of memory alone
pub misread_asked : (words : List Text) (q : Order) (m : Misread) → IsMisread words m → request_of words ≡ Some q → m ≡ Memory
misread_asked words q Memory h is = refl
misread_asked words q (Help error) h is = absurd (some_none q (request_of words) h.0 is)
misread_asked words q (Words error) h is = absurd (some_none q (request_of words) h is)
misread_asked words q (Number why) h is = absurd (some_none q (request_of words) h is)

-- words that are none ask for nothing
pub misuse_asked : (words : List Text) (q : Order) → IsMisuse words → request_of words ≡ Some q → ⊥
misuse_asked words q is h = some_none q (request_of words) is.none h

abbrev or_asked : Order → Option Order → Order
or_asked q None = q
or_asked q (Some p) = p

pub same_asked : (o : Option Order) (q p : Order) → o ≡ Some q → o ≡ Some p → q ≡ p
same_asked o q p a b = ap (or_asked q) (sym a ∙ b)

-- a status, or 3 where there is none
pub or_three : {E : Type 0} (r : Result ℕ E) (n : ℕ) (P : ℕ → Type 0) → n ≡ result_unwrap_or r 3 → IfOk r P → P n ⊎ (n ≡ 3)
or_three (Ok status) n P e h = inl (subst P (sym e) h)
or_three (Err x) n P e h = inr e

-- ---- several texts

-- what is written is the same over a text that is meant
pub written_over : (text : Text) (q : Asked) → written_by (over text q) ≡ written_by q
written_over text (a_bound q) = refl
written_over text (a_check q) = refl
written_over text (a_sim q) = refl
written_over text (a_play q) = refl
written_over text (an_explain q) = refl
written_over text (a_draw q) = refl
written_over text (a_serve q) = refl
written_over text (a_replay q) = refl
written_over text (a_pack q) = refl
written_over text (a_time q) = refl
written_over text (a_key state) = refl

pub often_over : (text : Text) (q : Asked) → often_of (over text q) ≡ often_of q
often_over text (a_bound q) = refl
often_over text (a_check q) = refl
often_over text (a_sim q) = refl
often_over text (a_play q) = refl
often_over text (an_explain q) = refl
often_over text (a_draw q) = refl
often_over text (a_serve q) = refl
often_over text (a_replay q) = refl
often_over text (a_pack q) = refl
often_over text (a_time q) = refl
often_over text (a_key state) = refl

-- an outcome in JSON, or in words
pub outcome_json : {E : Type 0} (q : Asked) (o : Outcome) (old new : Option (List ℕ)) (r : Result ℕ E) → json_of q ≡ true → IfOk r (λ status. TellsOutcome q o old new status)
outcome_json q o old new (Ok status) is = inl is
outcome_json q o old new (Err e) is = tt

pub outcome_first : {E : Type 0} (q : Asked) (b : Bool) (o : Outcome) (old new : Option (List ℕ)) (r : Result ℕ E) → b ≡ explains q
    → IfOk r (λ status. TellsFirst b o old new status) → IfOk r (λ status. TellsOutcome q o old new status)
outcome_first q b o old new (Ok status) is h = inr (subst (λ x. TellsFirst x o old new status) is h)
outcome_first q b o old new (Err e) is h = tt

-- words that would write a file which is read are no explanation
no_explanation : (q : Asked) → NamesWritten q → explains q ≡ false
no_explanation (a_bound q) h = refl
no_explanation (a_check q) h = refl
no_explanation (a_sim q) h = refl
no_explanation (a_play q) h = refl
no_explanation (an_explain q) h = absurd h
no_explanation (a_draw q) h = refl
no_explanation (a_serve q) h = refl
no_explanation (a_replay q) h = refl
no_explanation (a_pack q) h = refl
no_explanation (a_time q) h = refl
no_explanation (a_key state) h = absurd h

pub outcome_usage : {E : Type 0} (q : Asked) (old new : Option (List ℕ)) (r : Result ℕ E) → NamesWritten q → IfOk r (λ status. Tells (refusal Usage) old new status)
    → IfOk r (λ status. TellsOutcome q (refusal Usage) old new status)
outcome_usage q old new (Ok status) h k = inr (subst (λ x. TellsFirst x (refusal Usage) old new status) (sym (no_explanation q h)) k)
outcome_usage q old new (Err e) h k = tt

-- which of these is told
pub together_written : {E : Type 0} (names : List Text) (q : Asked) (same : Sameness) (files : Holdings) (input old new : Option (List ℕ)) (r : Result ℕ E) → NamesWritten q
    → IfOk r (λ status. TellsOutcome q (refusal Usage) old new status) → IfOk r (λ status. AnswersTogether names q same files files input old new status)
together_written names q same files input old new (Ok status) is h = writes_one is h refl
together_written names q same files input old new (Err e) is h = tt

pub together_unjoined : {E : Type 0} (names : List Text) (q : Asked) (same : Sameness) (files : Holdings) (input old new : Option (List ℕ)) (r : Result ℕ E) (f : Fault) (own : List ℕ)
    → IsJoinFault files names (app_of q) f own → IfOk r (λ status. TellsOutcome q (outcome_at (app_of q) ((own, 0) ∷ []) f) old new status)
    → IfOk r (λ status. AnswersTogether names q same files files input old new status)
together_unjoined names q same files input old new (Ok status) f own is h = joins_none f own is h refl
together_unjoined names q same files input old new (Err e) f own is h = tt

pub together_untyped : {E : Type 0} (names : List Text) (q : Asked) (same : Sameness) (files : Holdings) (input old new : Option (List ℕ)) (r : Result ℕ E) (text : List ℕ) (parts : List Start) (f : Fault)
    → IsJoined files names (app_of q) text parts → IsTypedFault text f → IfOk r (λ status. TellsOutcome q (outcome_at (app_of q) parts f) old new status)
    → IfOk r (λ status. AnswersTogether names q same files files input old new status)
together_untyped names q same files input old new (Ok status) text parts f joined is h = types_none text parts joined f is h refl
together_untyped names q same files input old new (Err e) text parts f joined is h = tt

pub together_answered : {E : Type 0} (names : List Text) (q asked : Asked) (same : Sameness) (before after : Holdings) (input old new : Option (List ℕ)) (r : Result ℕ E) (text : List ℕ) (parts : List Start)
    → IsJoined before names (app_of q) text parts → asked ≡ over text q → IfOk r (λ status. Answers asked same before after input old new status)
    → IfOk r (λ status. AnswersTogether names q same before after input old new status)
together_answered names q asked same before after input old new (Ok status) text parts joined is h =
    answers_one text parts joined (subst (λ a. Answers a same before after input old new status) is h)
together_answered names q asked same before after input old new (Err e) text parts joined is h = tt
