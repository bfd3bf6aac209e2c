-- From what parts of a command do to what becomes of a run.
use Rattle.std.proofs.KnownBytes.{Appends-nil}
use Rattle.std.proofs.Common.{◌≡◌, inl, inr, ℕ, true, List, [], ◌∷◌, ◌++◌, Option, None, Some, Result, Ok, Err, IfOk, refl, sym, ◌∙◌, ap, subst, append_assoc}
use Rattle.std.specs.Io.KnownBytes.{Appends, append_known}
use Rattle.fb_verified.specs.declared.verified.Verified.{Verified}
use Rattle.fbr_files.specs.declared.fault.Fault.{Fault}
use Rattle.fbr_files.specs.Outcomes.{Tells, refusal}
use Rattle.fbr_files.specs.Reading.{held_by}
use Rattle.fbr_files.specs.Writing.{Sameness, Holdings, LeavesAllBut, LeavesAll}
use Rattle.fbr_words.specs.Program.{Watching, Simulating, Plays, Service, if_named, state_file}
use Rattle.fbr_check.specs.Verdicts.{IsVerified}
use Rattle.fbr_sim.specs.Simulation.{TellsScript}
use Rattle.fbr_score.specs.Scores.{TellsEnd as TellsLast, TellsStories}
use Rattle.fbr_score.specs.declared.score.Score.{Score}
use Rattle.fbr_serve.specs.Serving.{TellsServe}
use Rattle.fbr_runs.specs.Running.{is_plain, AreKeptApart, TellsSimulated, TellsSim, cert_in, TellsPlayed, TellsFound, TellsWith, ArePlayedApart, TellsPlays, TellsServed}
use Rattle.fbr_static.proofs.Tellings.{all_more, all_one}

-- ---- a simulation

pub verified_of : (one two own_one own_two : List ℕ) (held_one held_two : Option (List ℕ)) (said : Result Verified Fault) → own_one ≡ one → own_two ≡ two → IsVerified own_one own_two held_one held_two said → IsVerified one two held_one held_two said
verified_of one two own_one own_two held_one held_two said a b is =
    subst (λ n. IsVerified n two held_one held_two said) a (subst (λ n. IsVerified own_one n held_one held_two said) b is)

pub script_run : {E : Type 0} (w : Watching) (one two : List ℕ) (held_one held_two held : Option (List ℕ)) (v : Verified) (old new : Option (List ℕ)) (r : Result ℕ E)
    → IsVerified one two held_one held_two (Ok v) → (is_plain w ≡ true → IfOk r (λ status. TellsScript v held old new status)) → IfOk r (λ status. TellsSimulated w one two held_one held_two held old new status)
script_run w one two held_one held_two held v old new (Ok status) is h = inr (v, is, h)
script_run w one two held_one held_two held v old new (Err e) is h = tt

pub files_refused : {E : Type 0} (w : Watching) (one two : List ℕ) (held_one held_two held : Option (List ℕ)) (f : Fault) (old new : Option (List ℕ)) (r : Result ℕ E)
    → IsVerified one two held_one held_two (Err f) → IfOk r (λ status. Tells (refusal f) old new status) → IfOk r (λ status. TellsSimulated w one two held_one held_two held old new status)
files_refused w one two held_one held_two held f old new (Ok status) is h = inl (f, is, h)
files_refused w one two held_one held_two held f old new (Err e) is h = tt

pub sim_told : {E : Type 0} (q : Simulating) (same : Sameness) (before : Holdings) (held old new : Option (List ℕ)) (r : Result ℕ E) → AreKeptApart same q.watched (q.app ∷ q.cert ∷ [])
    → IfOk r (λ status. TellsSimulated q.watched q.app q.cert (held_by q.meant (before q.app)) (before q.cert) held old new status) → IfOk r (λ status. TellsSim q same before held old new status)
sim_told q same before held old new (Ok status) apart h = inr (apart, h)
sim_told q same before held old new (Err e) apart h = tt

-- ---- stories

pub stories_played : {E : Type 0} (one two : List ℕ) (held_one held_two : Option (List ℕ)) (v : Verified) (old new : Option (List ℕ)) (r : Result ℕ E)
    → IsVerified one two held_one held_two (Ok v) → IfOk r (λ status. TellsStories old new status) → IfOk r (λ status. TellsPlayed one two held_one held_two old new status)
stories_played one two held_one held_two v old new (Ok status) is h = inr (v, is, h)
stories_played one two held_one held_two v old new (Err e) is h = tt

pub stories_refused : {E : Type 0} (one two : List ℕ) (held_one held_two : Option (List ℕ)) (f : Fault) (old new : Option (List ℕ)) (r : Result ℕ E)
    → IsVerified one two held_one held_two (Err f) → IfOk r (λ status. Tells (refusal f) old new status) → IfOk r (λ status. TellsPlayed one two held_one held_two old new status)
stories_refused one two held_one held_two f old new (Ok status) is h = inl (f, is, h)
stories_refused one two held_one held_two f old new (Err e) is h = tt

-- a page, and then a line
page_grows : (old : Option (List ℕ)) (page : List ℕ) → Appends old (append_known old page) page
page_grows None page = tt
page_grows (Some xs) page = refl

line_behind : (old new : Option (List ℕ)) (page all line : List ℕ) → all ≡ page ++ line → Appends old new all → Appends (append_known old page) new line
line_behind None new page all line e h = tt
line_behind (Some xs) None page all line e h = absurd h
line_behind (Some xs) (Some ys) page all line e h = h ∙ (ap (λ t. xs ++ t) e ∙ sym (append_assoc xs page line))

last_behind : (o : Result Score Fault) (old new : Option (List ℕ)) (page all : List ℕ) (status : ℕ) → TellsLast o (Some page) (Some all) status → Appends old new all → TellsLast o (append_known old page) new status
last_behind (Ok s) old new page all status h k = (h.0, line_behind old new page all _ h.1 k)
last_behind (Err f) old new page all status h k = (h.0, line_behind old new page all _ h.1 k)

-- a last line stands behind a page
pub told_page : (o : Result Score Fault) (page all : List ℕ) (old new : Option (List ℕ)) (status : ℕ) → TellsLast o (Some page) (Some all) status → Appends old new all → TellsStories old new status
told_page o page all old new status h k = (page, append_known old page, o, page_grows old page, last_behind o old new page all status h k)

-- a refusal stands behind nothing
pub told_fault : {E : Type 0} (f : Fault) (old new : Option (List ℕ)) (r : Result ℕ E) → IfOk r (λ status. Tells (refusal f) old new status) → IfOk r (λ status. TellsStories old new status)
told_fault f old new (Ok status) h = ([], old, Err f, Appends-nil old, h)
told_fault f old new (Err e) h = tt

pub found_played : {E : Type 0} (old new : Option (List ℕ)) (r : Result ℕ E) → IfOk r (λ status. TellsStories old new status) → IfOk r (λ status. TellsFound old new status)
found_played old new (Ok status) h = inl h
found_played old new (Err e) h = tt

pub found_refused : {E : Type 0} (f : Fault) (old new : Option (List ℕ)) (r : Result ℕ E) → IfOk r (λ status. Tells (refusal f) old new status) → IfOk r (λ status. TellsFound old new status)
found_refused f old new (Ok status) h = inr (f, h)
found_refused f old new (Err e) h = tt

pub plays_told : {E : Type 0} (q : Plays) (same : Sameness) (before : Holdings) (old new : Option (List ℕ)) (r : Result ℕ E) → ArePlayedApart same q
    → IfOk r (λ status. TellsWith q (cert_in q.files) before old new status) → IfOk r (λ status. TellsPlays q same before old new status)
plays_told q same before old new (Ok status) apart h = inr (apart, h)
plays_told q same before old new (Err e) apart h = tt

-- ---- a device

pub served_by : {E : Type 0} (q : Service) (same : Sameness) (before booted between after : Holdings) (old new : Option (List ℕ)) (r : Result ℕ E)
    → IfOk r (λ status. TellsServe q before booted between old new status) → LeavesAllBut same (state_file q.guard) booted between → LeavesAllBut same q.life.recorded between after
    → IfOk r (λ status. TellsServed q same before after old new status)
served_by q same before booted between after old new (Ok status) h k l = record { booted = booted; between = between; told = h; counted = k; recorded = l }
served_by q same before booted between after old new (Err e) h k l = tt

-- the same where files are told apart by the same names
pub told_same : {E : Type 0} (q : Service) (one same : Sameness) (before after : Holdings) (old new : Option (List ℕ)) (r : Result ℕ E) → one ≡ same
    → IfOk r (λ status. TellsServed q one before after old new status) → IfOk r (λ status. TellsServed q same before after old new status)
told_same q one same before after old new r is h = subst (λ (s : Sameness). IfOk r (λ status. TellsServed q s before after old new status)) is h

-- ---- files in which something is kept

pub three_left : (same : Sameness) (one two three : Option (List ℕ)) (a b c d : Holdings) → LeavesAllBut same one a b → LeavesAllBut same two b c → LeavesAllBut same three c d → LeavesAll same (if_named one ++ (if_named two ++ if_named three)) a d
three_left same one two three a b c d h k l = all_more same one (if_named two ++ if_named three) a b d h (all_more same two (if_named three) b c d k (all_one same three c d l))
