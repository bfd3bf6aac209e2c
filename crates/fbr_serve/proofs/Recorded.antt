-- What a turn writes into its record.
use Rattle.std.proofs.KnownBytes.{Appends-nil, Appends-trans}
use Rattle.std.proofs.Common.{◌≡◌, ℕ, Bool, false, List, [], ◌∷◌, ◌++◌, map, refl, sym, ap, ap₂, subst, ◌∙◌, append_assoc, append-nil, Option}
use Rattle.std.specs.List.{flat_map}
use Rattle.std.specs.Io.KnownBytes.{Appends}
use Rattle.std.proofs.lemmas.Grind.{flat_map-append}
use Rattle.fb_record.specs.Records.{end_text, start_text, words_text}
use Rattle.fb_model.specs.Turning.{Turn, Receipt, Service as Dispatch, Chain, Sight, coming, serving, sights_of, is_cut}
use Rattle.fbr_notices.specs.Sums.{TurnAt}
use Rattle.fbr_serve.specs.Recording.{Held, RecordsTurn, Records, record_line, sight_word}

-- ---- two things that each step does

pub firsts : {S C : Type 0} (A B : S → C → S → Type 0) (cs : List C) (s t : S) → Chain (λ a c b. A a c b × B a c b) s cs t → Chain A s cs t
firsts A B [] s t h = h
firsts A B (c ∷ cs) s t h = (h.0, h.1.0, firsts A B cs h.0 t h.2)

pub seconds : {S C : Type 0} (A B : S → C → S → Type 0) (cs : List C) (s t : S) → Chain (λ a c b. A a c b × B a c b) s cs t → Chain B s cs t
seconds A B [] s t h = h
seconds A B (c ∷ cs) s t h = (h.0, h.1.1, seconds A B cs h.0 t h.2)

-- ---- a line while it grows

-- what a recorder comes to: it keeps its stream, and its line grows by a text, unless it is lost
abbrev pub Grows : {P N S : Type 0} → (P → N) → (P → S) → (P → Bool) → (P → List ℕ) → P → List ℕ → P → Type 0
Grows name stream lost line p text q = (name q ≡ name p) × (stream q ≡ stream p) × (lost q ≡ false → (lost p ≡ false) × (line q ≡ line p ++ text))

pub grows_all : {P N S : Type 0} (name : P → N) (stream : P → S) (lost : P → Bool) (line : P → List ℕ) (all : List Sight) (p q : P)
    → Chain (λ a x b. Grows name stream lost line a (sight_word x) b) p all q → Grows name stream lost line p (flat_map sight_word all) q
grows_all name stream lost line [] p q h = subst (Grows name stream lost line p []) h (refl, refl, λ e. (e, sym (append-nil (line p))))
grows_all name stream lost line (x ∷ xs) p q h =
    let rest = grows_all name stream lost line xs h.0 q h.2 in (
      rest.0 ∙ h.1.0,
      rest.1 ∙ h.1.1,
      λ e.
          let more = rest.2 e in
          let first = h.1.2 more.0 in
          (first.0, more.1 ∙ ap (λ l. l ++ flat_map sight_word xs) first.1 ∙ append_assoc (line p) (sight_word x) (flat_map sight_word xs)),
    )

-- what came in a turn, as words
came_words : (rs : List Receipt) → flat_map sight_word (map coming rs) ≡ words_text (map (λ r. r.bytes) rs)
came_words [] = refl
came_words (r ∷ rs) = ap (λ t. sight_word (coming r) ++ t) (came_words rs)

no_words : (ss : List Dispatch) → flat_map sight_word (map serving ss) ≡ []
no_words [] = refl
no_words (s ∷ ss) = no_words ss

pub turn_words : (turn : Turn) → flat_map sight_word (sights_of turn) ≡ words_text (map (λ r. r.bytes) turn.receipts)
turn_words turn =
    flat_map-append sight_word (map coming turn.receipts) (map serving turn.services)
    ∙ ap₂ (λ a b. a ++ b) (came_words turn.receipts) (no_words turn.services)
    ∙ append-nil (words_text (map (λ r. r.bytes) turn.receipts))

-- ---- the line of a turn

-- a line begins, grows by what came, and is written
pub turn_recorded : {S : Type 0} (held : S → Option (List ℕ)) (s0 s1 s2 s3 : S) (l0 l1 l2 l3 : Bool) (begun grown : List ℕ) (x : TurnAt) (down : Bool) → s1 ≡ s0
    → (l1 ≡ false → (l0 ≡ false) × (begun ≡ start_text x.now)) → s2 ≡ s1 → (l2 ≡ false → (l1 ≡ false) × (grown ≡ begun ++ flat_map sight_word (sights_of x.turn)))
    → (l3 ≡ false → (l2 ≡ false) × Appends (held s2) (held s3) (grown ++ (end_text down ++ 10 ∷ []))) → down ≡ is_cut x.turn.close
    → RecordsTurn (record { bytes = held s0; lost = l0 }) (record { bytes = held s3; lost = l3 }) x
turn_recorded held s0 s1 s2 s3 l0 l1 l2 l3 begun grown x down same1 begins same2 grows ends cut = λ e.
    let written = ends e in
    let more = grows written.0 in
    let first = begins more.0 in
    let came = words_text (map (λ r. r.bytes) x.turn.receipts) in
    let line : grown ≡ start_text x.now ++ came = more.1 ∙ ap₂ (λ a b. a ++ b) first.1 (turn_words x.turn) in
    let text : grown ++ (end_text down ++ 10 ∷ []) ≡ record_line x =
    ap₂ (λ a b. a ++ (end_text b ++ 10 ∷ [])) line cut
    ∙ append_assoc (start_text x.now) came (end_text (is_cut x.turn.close) ++ 10 ∷ [])
    ∙ ap (λ t. start_text x.now ++ t) (sym (append_assoc came (end_text (is_cut x.turn.close)) (10 ∷ [])))
    ∙ sym (append_assoc (start_text x.now) (came ++ end_text (is_cut x.turn.close)) (10 ∷ [])) in
    (first.0, subst (λ t. Appends (held s0) (held s3) t) text (subst (λ s. Appends (held s) (held s3) (grown ++ (end_text down ++ 10 ∷ []))) (same2 ∙ same1) written.1))

-- ---- the lines of turns

pub none_recorded : (old : Held) → Records old old []
none_recorded old = λ e. (e, Appends-nil old.bytes)

pub more_recorded : (old mid new : Held) (xs : List TurnAt) (x : TurnAt) → Records old mid xs → RecordsTurn mid new x → Records old new (xs ++ x ∷ [])
more_recorded old mid new xs x h k = λ e.
    let last = k e in
    let before = h last.0 in
    let lines : flat_map record_line (xs ++ x ∷ []) ≡ flat_map record_line xs ++ record_line x = flat_map-append record_line xs (x ∷ []) ∙ ap (λ t. flat_map record_line xs ++ t) (append-nil (record_line x)) in
    (before.0, subst (λ t. Appends old.bytes new.bytes t) (sym lines) (Appends-trans old.bytes mid.bytes new.bytes (flat_map record_line xs) (record_line x) before.1 last.1))

-- what is said of a recorder is said of the same one by other names
pub at_last : {S : Type 0} (held : S → Option (List ℕ)) (old : Held) (s t : S) (l m : Bool) (x : TurnAt) → t ≡ s → m ≡ l → RecordsTurn old (record { bytes = held s; lost = l }) x → RecordsTurn old (record { bytes = held t; lost = m }) x
at_last held old s t l m x same lost h = λ e. let k = h (sym lost ∙ e) in (k.0, subst (λ u. Appends old.bytes (held u) (record_line x)) (sym same) k.1)
