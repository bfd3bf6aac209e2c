-- From what parts of a command do to what is told.
use Rattle.std.proofs.KnownBytes.{Appends-trans}
use Rattle.std.proofs.Common.{◌≡◌, ◌⊎◌, inl, inr, ℕ, Bool, true, List, [], ◌∷◌, ◌++◌, Option, None, Some, Result, Ok, Err, IfOk, refl, sym, ap, subst}
use Rattle.std.specs.Io.KnownBytes.{Appends}
use Rattle.fbr_files.specs.declared.fault.Fault.{Fault}
use Rattle.fbr_files.specs.declared.fault.Fault.TheVariants.{Usage}
use Rattle.fbr_files.specs.Outcomes.{IsContents, IsReadFault, Outcome, Tells, refusal, outcome_said}
use Rattle.fbr_files.specs.Reading.{held_by}
use Rattle.fbr_files.specs.Writing.{Sameness, Holdings, AreApart, Meet, Writes, LeavesAllBut, LeavesAll}
use Rattle.fbr_words.specs.Program.{Sought, least_sought, Question, Packing, if_named}
use Rattle.fbr_check.specs.Verdicts.{IsInputOutcome, IsFilesOutcome, TellsInput, TellsFiles}
use Rattle.fbr_find.specs.Bounding.{IsSoughtText, IsSoughtFault}
use Rattle.fbr_static.specs.Tellings.{OrJson, IsCounted, OrNoted, IsClash, IsPutOut, written, TellsBound, a_clash, a_text, no_text, Begins, IsAloneOutcome, TellsAlone, TellsVerdict, TellsBeside, TellsExplain, TellsPack, packs_itself, packs, packs_none}

-- ---- JSON

-- with JSON nothing more is said
pub json_told : {E : Type 0} (json : Bool) (P : ℕ → Type 0) (r : Result ℕ E) → json ≡ true → IfOk r (λ status. OrJson json (P status))
json_told json P (Ok status) is = inl is
json_told json P (Err e) is = tt

-- without it what was said
pub text_told : {E : Type 0} (json : Bool) (P : ℕ → Type 0) (r : Result ℕ E) → IfOk r P → IfOk r (λ status. OrJson json (P status))
text_told json P (Ok status) h = inr h
text_told json P (Err e) h = tt

-- ---- notes

-- where notes may count, what was told is so of the status, or of 0 where the status is 1
pub noted_told : (strict : Bool) (P : ℕ → Type 0) (status own : ℕ) → P status → IsCounted strict status own → OrNoted strict P own
noted_told strict P status own h (inl is) = inl (subst P (sym is) h)
noted_told strict P status own h (inr (counts, (none, one))) = inr (counts, (subst P none h, one))

-- ---- a verdict

pub tells_input : {E : Type 0} (held : Option (List ℕ)) (said : Result (Unit {0}) Fault) (old new : Option (List ℕ)) (r : Result ℕ E) → IsInputOutcome held said → IfOk r (λ status. Tells (outcome_said said) old new status) → IfOk r (λ status. TellsInput held old new status)
tells_input held said old new (Ok status) is h = (said, is, h)
tells_input held said old new (Err e) is h = tt

pub tells_files : {E : Type 0} (one two own_one own_two : List ℕ) (held_one held_two : Option (List ℕ)) (said : Result (Unit {0}) Fault) (old new : Option (List ℕ)) (r : Result ℕ E) → own_one ≡ one → own_two ≡ two
    → IsFilesOutcome own_one own_two held_one held_two said → IfOk r (λ status. Tells (outcome_said said) old new status) → IfOk r (λ status. TellsFiles one two held_one held_two old new status)
tells_files one two own_one own_two held_one held_two said old new (Ok status) a b is h =
    (said, subst (λ n. IsFilesOutcome n two held_one held_two said) a (subst (λ n. IsFilesOutcome own_one n held_one held_two said) b is), h)
tells_files one two own_one own_two held_one held_two said old new (Err e) a b is h = tt

-- ---- a certificate

pub clash_told : {E : Type 0} (same : Sameness) (into one other : Option (List ℕ)) (files : Holdings) (old new : Option (List ℕ)) (r : Result ℕ E) → Meet same into one ⊎ Meet same into other
    → IfOk r (λ status. Tells (refusal Usage) old new status) → IfOk r (λ status. IsClash same into one other files files old new status)
clash_told same into one other files old new (Ok status) met h = record { met = met; told = h; kept = refl }
clash_told same into one other files old new (Err e) met h = tt

pub bound_clash : {E : Type 0} (q : Sought) (same : Sameness) (files : Holdings) (old new : Option (List ℕ)) (r : Result ℕ E) → Meet same q.into (Some q.app) ⊎ Meet same q.into None
    → IfOk r (λ status. Tells (refusal Usage) old new status) → IfOk r (λ status. TellsBound q same files files old new status)
bound_clash q same files old new (Ok status) met h = a_clash (record { met = met; told = h; kept = refl })
bound_clash q same files old new (Err e) met h = tt

pub text_put : {E : Type 0} (q : Sought) (same : Sameness) (text : List ℕ) (before after : Holdings) (old new : Option (List ℕ)) (r : Result ℕ E) → AreApart same q.into (Some q.app) → IsSoughtText q before text
    → IfOk r (λ status. IsPutOut q.into text before after old new status) → IfOk r (λ status. TellsBound q same before after old new status)
text_put q same text before after old new (Ok status) apart is h = a_text text apart is h
text_put q same text before after old new (Err e) apart is h = tt

pub fault_told : {E : Type 0} (q : Sought) (same : Sameness) (f : Fault) (files : Holdings) (old new : Option (List ℕ)) (r : Result ℕ E) → AreApart same q.into (Some q.app) → IsSoughtFault q files f
    → IfOk r (λ status. Tells (refusal f) old new status) → IfOk r (λ status. TellsBound q same files files old new status)
fault_told q same f files old new (Ok status) apart is h = no_text f apart is h refl
fault_told q same f files old new (Err e) apart is h = tt

-- a text that is written into the file that is named is put out
pub into_put : {E : Type 0} (into : Option (List ℕ)) (name text bytes : List ℕ) (before after : Holdings) (old new : Option (List ℕ)) (r : Result ℕ E) → into ≡ Some name → bytes ≡ text
    → IfOk r (λ status. Writes name bytes (before name) (after name) old new status) → IfOk r (λ status. IsPutOut into text before after old new status)
into_put into name text bytes before after old new (Ok status) is same h = written name is (subst (λ (t : List ℕ). Writes name t (before name) (after name) old new status) same h)
into_put into name text bytes before after old new (Err e) is same h = tt

-- ---- a text

pub pack_clash : {E : Type 0} (q : Packing) (same : Sameness) (files : Holdings) (old new : Option (List ℕ)) (r : Result ℕ E) → Meet same q.into (Some q.app) ⊎ Meet same q.into None
    → IfOk r (λ status. Tells (refusal Usage) old new status) → IfOk r (λ status. TellsPack q same files files old new status)
pack_clash q same files old new (Ok status) met h = packs_itself (record { met = met; told = h; kept = refl })
pack_clash q same files old new (Err e) met h = tt

pub pack_put : {E : Type 0} (q : Packing) (same : Sameness) (text : List ℕ) (before after : Holdings) (old new : Option (List ℕ)) (r : Result ℕ E) → AreApart same q.into (Some q.app)
    → IsContents (held_by q.meant (before q.app)) text → IfOk r (λ status. IsPutOut q.into text before after old new status) → IfOk r (λ status. TellsPack q same before after old new status)
pack_put q same text before after old new (Ok status) apart is h = packs text apart is h
pack_put q same text before after old new (Err e) apart is h = tt

pub pack_told : {E : Type 0} (q : Packing) (same : Sameness) (f : Fault) (files : Holdings) (old new : Option (List ℕ)) (r : Result ℕ E) → AreApart same q.into (Some q.app) → IsReadFault q.app f
    → IfOk r (λ status. Tells (refusal f) old new status) → IfOk r (λ status. TellsPack q same files files old new status)
pack_told q same f files old new (Ok status) apart is h = packs_none f apart is h refl
pack_told q same f files old new (Err e) apart is h = tt

-- ---- a page

-- a page stands behind the line of an outcome
pub page_begins : (o : Outcome) (old mid new : Option (List ℕ)) (bytes : List ℕ) → Appends old mid (o.line ++ 10 ∷ []) → Appends mid new bytes → Begins o old new
page_begins o old mid new bytes h k = (bytes, Appends-trans old mid new (o.line ++ 10 ∷ []) bytes h k)

-- the verdict over two files is told so
pub verdict_begins : {E : Type 0} (one two : List ℕ) (held_one held_two : Option (List ℕ)) (said : Result (Unit {0}) Fault) (old new : Option (List ℕ)) (r : Result ℕ E) → IsFilesOutcome one two held_one held_two said
    → IfOk r (λ status. Begins (outcome_said said) old new ⊎ (status ≡ 4)) → IfOk r (λ status. TellsVerdict one two held_one held_two old new status)
verdict_begins one two held_one held_two said old new (Ok status) is (inl h) = inl (said, is, h)
verdict_begins one two held_one held_two said old new (Ok status) is (inr h) = inr h
verdict_begins one two held_one held_two said old new (Err e) is h = tt

pub verdict_spent : {E : Type 0} (one two : List ℕ) (held_one held_two old new : Option (List ℕ)) (r : Result ℕ E) → IfOk r (λ status. status ≡ 4) → IfOk r (λ status. TellsVerdict one two held_one held_two old new status)
verdict_spent one two held_one held_two old new (Ok status) h = inr h
verdict_spent one two held_one held_two old new (Err e) h = tt

pub verdict_of : {E : Type 0} (one two own_one own_two : List ℕ) (held_one held_two old new : Option (List ℕ)) (r : Result ℕ E) → own_one ≡ one → own_two ≡ two
    → IfOk r (λ status. TellsVerdict own_one own_two held_one held_two old new status) → IfOk r (λ status. TellsVerdict one two held_one held_two old new status)
verdict_of one two own_one own_two held_one held_two old new r a b h =
    subst (λ n. IfOk r (λ status. TellsVerdict n two held_one held_two old new status)) a (subst (λ n. IfOk r (λ status. TellsVerdict own_one n held_one held_two old new status)) b h)

-- that of an application alone
pub alone_begins : {E : Type 0} (q : Question) (asked : Sought) (before : Holdings) (said : Result (Unit {0}) Fault) (old new : Option (List ℕ)) (r : Result ℕ E) → asked ≡ least_sought q.what q.meant q.repeats → IsAloneOutcome asked before said
    → IfOk r (λ status. Begins (outcome_said said) old new ⊎ (status ≡ 4)) → IfOk r (λ status. TellsAlone q before old new status)
alone_begins q asked before said old new (Ok status) same is (inl h) = inl (said, subst (λ s. IsAloneOutcome s before said) same is, h)
alone_begins q asked before said old new (Ok status) same is (inr h) = inr h
alone_begins q asked before said old new (Err e) same is h = tt

pub alone_told : {E : Type 0} (q : Question) (before : Holdings) (old new : Option (List ℕ)) (r : Result ℕ E) → q.cert ≡ None
    → IfOk r (λ status. TellsAlone q before old new status) → IfOk r (λ status. TellsExplain q before old new status)
alone_told q before old new (Ok status) is h = subst (λ o. TellsBeside q o before old new status) (sym is) (λ none. h)
alone_told q before old new (Err e) is h = tt

-- so is what is explained beside a certificate
pub beside_told : {E : Type 0} (q : Question) (name : List ℕ) (before : Holdings) (old new : Option (List ℕ)) (r : Result ℕ E) → q.cert ≡ Some name
    → IfOk r (λ status. TellsVerdict q.what name (held_by q.meant (before q.what)) (before name) old new status) → IfOk r (λ status. TellsExplain q before old new status)
beside_told q name before old new (Ok status) is h = subst (λ o. TellsBeside q o before old new status) (sym is) (λ none. h)
beside_told q name before old new (Err e) is h = tt

-- ---- files that are left

-- files that are as they were hold what they held
pub kept_all : (same : Sameness) (into : Option (List ℕ)) (before after : Holdings) → after ≡ before → LeavesAllBut same into before after
kept_all same None before after is = is
kept_all same (Some name) before after is = λ other apart. ap (λ (f : Holdings). f other) is

pub all_kept : (same : Sameness) (names : List (List ℕ)) (before after : Holdings) → after ≡ before → LeavesAll same names before after
all_kept same [] before after is = is
all_kept same (name ∷ names) before after is = (before, λ other apart. refl, all_kept same names before after is)

-- one file that is written, where one is, and others behind it
pub all_more : (same : Sameness) (into : Option (List ℕ)) (names : List (List ℕ)) (before mid after : Holdings) → LeavesAllBut same into before mid → LeavesAll same names mid after → LeavesAll same (if_named into ++ names) before after
all_more same None names before mid after h k = subst (λ s. LeavesAll same names s after) h k
all_more same (Some name) names before mid after h k = (mid, h, k)

pub all_one : (same : Sameness) (into : Option (List ℕ)) (before after : Holdings) → LeavesAllBut same into before after → LeavesAll same (if_named into) before after
all_one same None before after h = h
all_one same (Some name) before after h = (after, h, refl)
