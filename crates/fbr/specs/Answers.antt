-- What becomes of a command: this project's profile.
use Rattle.std.specs.Prelude.{◌≡◌, ◌⊎◌, ℕ, Bool, false, true, List, [], ◌∷◌, Option, IsSome}
use Rattle.fbr_files.specs.declared.fault.Fault.{Fault}
use Rattle.fbr_files.specs.declared.fault.Fault.TheVariants.{Usage}
use Rattle.fbr_files.specs.Outcomes.{Outcome, Tells, refusal}
use Rattle.fbr_files.specs.Placed.{outcome_at}
use Rattle.fbr_files.specs.Reading.{held_by}
use Rattle.fbr_files.specs.Writing.{Sameness, Holdings}
use Rattle.fbr_words.specs.Program.{Asked, a_bound, a_check, a_sim, a_play, an_explain, a_draw, a_serve, a_replay, a_pack, a_time, a_key, Order, app_of, over}
use Rattle.fbr_check.specs.Verdicts.{TellsFiles}
use Rattle.clap.specs.Words.{Text}
use Rattle.fbr_find.specs.Bounding.{IsTypedFault}
use Rattle.fbr_texts.specs.Parts.{Start}
use Rattle.fbr_seals.specs.Making.{TellsKey}
use Rattle.fbr.specs.Together.{IsJoined, IsJoinFault}
use Rattle.fbr_static.specs.Tellings.{Begins, OrJson, OrNoted, TellsBound, TellsDraw, TellsExplain, TellsPack}
use Rattle.fbr_time.specs.Timings.{TellsTime}
use Rattle.fbr_runs.specs.Running.{NamesKept, NamesOne, TellsPlays, TellsReplay, TellsServed, TellsSim}

-- ---- all

-- what becomes of what is asked for, by what files and standard input hold
abbrev pub Answers : Asked → Sameness → Holdings → Holdings → Option (List ℕ) → Option (List ℕ) → Option (List ℕ) → ℕ → Type 0
Answers (a_bound q) same before after input old new status = OrJson q.json (OrNoted q.strict (TellsBound q same before after old new) status)
Answers (a_check q) same before after input old new status = OrJson q.json (OrNoted q.strict (TellsFiles q.app q.cert (held_by q.meant (before q.app)) (before q.cert) old new) status)
Answers (a_sim q) same before after input old new status = OrJson q.json (TellsSim q same before input old new status)
Answers (a_play q) same before after input old new status = OrJson q.json (TellsPlays q same before old new status)
Answers (an_explain q) same before after input old new status = OrJson q.json (TellsExplain q before old new status)
Answers (a_draw q) same before after input old new status = TellsDraw q same before after old new status
Answers (a_serve q) same before after input old new status = TellsServed q same before after old new status
Answers (a_replay q) same before after input old new status = TellsReplay q same old new status
Answers (a_pack q) same before after input old new status = TellsPack q same before after old new status
Answers (a_time q) same before after input old new status = OrJson q.json (TellsTime q before old new status)
Answers (a_key state) same before after input old new status = TellsKey old new status

-- JSON is asked for
abbrev pub json_of : Asked → Bool
json_of (a_bound q) = q.json
json_of (a_check q) = q.json
json_of (a_sim q) = q.json
json_of (a_play q) = q.json
json_of (an_explain q) = q.json
json_of (a_draw q) = false
json_of (a_serve q) = false
json_of (a_replay q) = q.json
json_of (a_pack q) = false
json_of (a_time q) = q.json
json_of (a_key state) = false

-- an explanation is asked for
abbrev pub explains : Asked → Bool
explains (a_bound q) = false
explains (a_check q) = false
explains (a_sim q) = false
explains (a_play q) = false
explains (an_explain q) = true
explains (a_draw q) = false
explains (a_serve q) = false
explains (a_replay q) = false
explains (a_pack q) = false
explains (a_time q) = false
explains (a_key state) = false

-- an outcome is told and nothing else; or where it is explained something stands behind it, unless memory ran out
abbrev pub TellsFirst : Bool → Outcome → Option (List ℕ) → Option (List ℕ) → ℕ → Type 0
TellsFirst true o old new status = Begins o old new ⊎ (status ≡ 4)
TellsFirst false o old new status = Tells o old new status

-- the same with JSON, of which nothing is said
abbrev pub TellsOutcome : Asked → Outcome → Option (List ℕ) → Option (List ℕ) → ℕ → Type 0
TellsOutcome q o old new status = OrJson (json_of q) (TellsFirst (explains q) o old new status)

-- a file is named that is to be written
abbrev pub NamesWritten : Asked → Type 0
NamesWritten (a_bound q) = IsSome q.into
NamesWritten (a_check q) = ⊥
NamesWritten (a_sim q) = NamesKept q.watched
NamesWritten (a_play q) = NamesOne q
NamesWritten (an_explain q) = ⊥
NamesWritten (a_draw q) = IsSome q.into
NamesWritten (a_serve q) = ⊥
NamesWritten (a_replay q) = NamesKept q.watched
NamesWritten (a_pack q) = IsSome q.into
NamesWritten (a_time q) = ⊥
NamesWritten (a_key state) = ⊥

-- what becomes of what is asked for of several texts: the words may be at fault where a file is to be written; else it is told why the files are no text together, or
-- why that text is no application, by the place in its own file, and nothing is written; or it is answered over that text
pub data AnswersTogether (names : List Text) (q : Asked) (same : Sameness) (before after : Holdings) (input old new : Option (List ℕ)) (status : ℕ) : Type 0 where
  writes_one : NamesWritten q → TellsOutcome q (refusal Usage) old new status → after ≡ before → AnswersTogether names q same before after input old new status
  joins_none : (f : Fault) (own : List ℕ) → IsJoinFault before names (app_of q) f own → TellsOutcome q (outcome_at (app_of q) ((own, 0) ∷ []) f) old new status → after ≡ before
      → AnswersTogether names q same before after input old new status
  types_none : (text : List ℕ) (parts : List Start) → IsJoined before names (app_of q) text parts → (f : Fault) → IsTypedFault text f
      → TellsOutcome q (outcome_at (app_of q) parts f) old new status → after ≡ before → AnswersTogether names q same before after input old new status
  answers_one : (text : List ℕ) (parts : List Start) → IsJoined before names (app_of q) text parts → Answers (over text q) same before after input old new status
      → AnswersTogether names q same before after input old new status

-- what becomes of it, with block types of files before the application, where there are some
abbrev pub AnswersOver : List Text → Asked → Sameness → Holdings → Holdings → Option (List ℕ) → Option (List ℕ) → Option (List ℕ) → ℕ → Type 0
AnswersOver [] q same before after input old new status = Answers q same before after input old new status
AnswersOver (name ∷ names) q same before after input old new status = AnswersTogether (name ∷ names) q same before after input old new status

abbrev pub AnswersOrder : Order → Sameness → Holdings → Holdings → Option (List ℕ) → Option (List ℕ) → Option (List ℕ) → ℕ → Type 0
AnswersOrder o same before after input old new status = AnswersOver o.texts o.asked same before after input old new status
