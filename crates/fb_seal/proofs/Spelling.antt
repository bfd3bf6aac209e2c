-- Sealed forms, written and read.
use Rattle.std.proofs.Common.{arith, ◌≡◌, ℕ, zero, suc, ◌+◌, ◌-◌, ◌<◌, ◌≤◌, ◌^◌, Bool, true, false, cond, ◌&&◌, List, [], ◌∷◌, ◌++◌, length, take, drop, get_or, refl, sym, ◌∙◌, ap, subst, length-append}
use Rattle.std.specs.Prelude.{bytes_eq, nat_le}
use Rattle.std.specs.Int.{w16, w64, to_be_bytes, from_be_bytes}
use Rattle.std.proofs.lemmas.Bool.{and_parts, leb-true, le-leb, cond-true}
use Rattle.std.proofs.lemmas.List.{take_at, drop_at, drop-drop, take-append-drop, length-take-le, length-drop}
use Rattle.std.proofs.lemmas.Nat.{be_bytes_2, be_bytes_8, from_be_bytes-to_be_bytes_2, from_be_bytes-to_be_bytes_8}
use Rattle.std.proofs.lemmas.Slice.Eq.{bytes_eq-Decides}
use Rattle.fb_seal.specs.Seal.{mark, head, body, sealed, tag, Sealed}
use Rattle.fb_seal.specs.Reading.{AreBytes, Envelope, Says, Untrue, Unsealed, body_of, tag_of, has_head, has_form, envelope_in, is_tagged, reading}
use Rattle.fb_seal.proofs.Padding.{tag_length}

-- the fields one behind another, as they are written
pub written : (key : List ℕ) (sender counter : ℕ) (datagram none a s b n c d v t e : List ℕ) → none ≡ [] → a ≡ none ++ mark → s ≡ to_be_bytes w16 sender
    → b ≡ a ++ s → n ≡ to_be_bytes w64 counter → c ≡ b ++ n → d ≡ c ++ datagram → v ≡ d → t ≡ tag key v → e ≡ d ++ t → e ≡ sealed key sender counter datagram
written key sender counter datagram none a s b n c d v t e h0 ha hs hb hn hc hd hv ht he =
    let a_is : a ≡ mark = ha ∙ ap (λ (x : List ℕ). x ++ mark) h0 in
    let b_is : b ≡ mark ++ to_be_bytes w16 sender = hb ∙ ap (λ (x : List ℕ). x ++ s) a_is ∙ ap (λ (x : List ℕ). mark ++ x) hs in
    let c_is : c ≡ head sender counter = hc ∙ ap (λ (x : List ℕ). x ++ n) b_is ∙ ap (λ (x : List ℕ). (mark ++ to_be_bytes w16 sender) ++ x) hn in
    let d_is : d ≡ body sender counter datagram = hd ∙ ap (λ (x : List ℕ). x ++ datagram) c_is in
    he ∙ ap (λ (x : List ℕ). x ++ t) d_is ∙ ap (λ (x : List ℕ). body sender counter datagram ++ x) (ht ∙ ap (tag key) (hv ∙ d_is))

-- ---- what was sealed is opened

-- the body and the tag of a sealed form
body_back : (key b : List ℕ) → body_of (b ++ tag key b) ≡ b
body_back key b =
    let long : length b ≡ length (b ++ tag key b) - 16 = omega (arith, length-append b (tag key b), tag_length key b) in
    take_at b (tag key b) (length (b ++ tag key b) - 16) long

tag_back : (key b : List ℕ) → tag_of (b ++ tag key b) ≡ tag key b
tag_back key b =
    let long : length b ≡ length (b ++ tag key b) - 16 = omega (arith, length-append b (tag key b), tag_length key b) in
    drop_at b (tag key b) (length (b ++ tag key b) - 16) long

head_there : (sender counter : ℕ) (datagram : List ℕ) → has_head (body sender counter datagram) ≡ true
head_there sender counter datagram =
    let room : nat_le 12 (length (body sender counter datagram)) ≡ true = le-leb 12 (length (body sender counter datagram)) (omega arith) in
    ap (λ b. b && bytes_eq (take 2 (body sender counter datagram)) mark) room

envelope_back : (sender counter : ℕ) (datagram : List ℕ) → sender < 2 ^ 16 → counter < 2 ^ 64
    → envelope_in (body sender counter datagram) ≡ record { sender = sender; counter = counter; datagram = datagram }
envelope_back sender counter datagram s c =
    ap (λ (n : ℕ). record { sender = n; counter = from_be_bytes w64 (to_be_bytes w64 counter); datagram = datagram }) (from_be_bytes-to_be_bytes_2 sender s)
    ∙ ap (λ (n : ℕ). record { sender = sender; counter = n; datagram = datagram }) (from_be_bytes-to_be_bytes_8 counter c)

pub sealed_opens : (key bytes datagram : List ℕ) (sender counter : ℕ) → Sealed key sender counter bytes datagram
    → reading key bytes ≡ Says (record { sender = sender; counter = counter; datagram = datagram })
sealed_opens key bytes datagram sender counter h =
    let b = body sender counter datagram in
    let s = sealed key sender counter datagram in
    let long : length s ≡ length b + 16 = length-append b (tag key b) ∙ ap (λ (n : ℕ). length b + n) (tag_length key b) in
    let roomy : nat_le 16 (length s) ≡ true = le-leb 16 (length s) (omega (arith, long)) in
    let headed : has_head (body_of s) ≡ true = ap has_head (body_back key b) ∙ head_there sender counter datagram in
    let formed : has_form s ≡ true = ap (λ x. x && has_head (body_of s)) roomy ∙ headed in
    let tagged : is_tagged key s ≡ true = (bytes_eq-Decides (tag key (body_of s)) (tag_of s)).1 (ap (tag key) (body_back key b) ∙ sym (tag_back key b)) in
    ap (reading key) h.form ∙ cond-true (has_form s) (cond (is_tagged key s) (Says (envelope_in (body_of s))) Untrue) Unsealed formed
    ∙ cond-true (is_tagged key s) (Says (envelope_in (body_of s))) Untrue tagged
    ∙ ap (λ (x : List ℕ). Says (envelope_in x)) (body_back key b)
    ∙ ap Says (envelope_back sender counter datagram h.sender_fits h.counter_fits)

-- equal sealed forms say the same
pub one_meaning : (key bytes one_datagram other_datagram : List ℕ) (one one_counter other other_counter : ℕ) → Sealed key one one_counter bytes one_datagram
    → Sealed key other other_counter bytes other_datagram → (one ≡ other) × (one_counter ≡ other_counter) × (one_datagram ≡ other_datagram)
one_meaning key bytes one_datagram other_datagram one one_counter other other_counter h k =
    let a : Envelope = record { sender = one; counter = one_counter; datagram = one_datagram } in
    let b : Envelope = record { sender = other; counter = other_counter; datagram = other_datagram } in
    let says : Says a ≡ Says b = sym (sealed_opens key bytes one_datagram one one_counter h) ∙ sealed_opens key bytes other_datagram other other_counter k in
    let same : a ≡ b = same_said a b says in
    (ap (λ (e : Envelope). e.sender) same, ap (λ (e : Envelope). e.counter) same, ap (λ (e : Envelope). e.datagram) same)
  where
    same_said : (a b : Envelope) → Says a ≡ Says b → a ≡ b
    same_said a b h = cc

-- ---- what is opened was sealed

pub chosen : (a b : Bool) (x e : Envelope) → cond a (cond b (Says x) Untrue) Unsealed ≡ Says e → (a ≡ true) × ((b ≡ true) × (x ≡ e))
chosen true true x e h = (refl, (refl, cc))
chosen true false x e h = absurd cc
chosen false b x e h = absurd cc

pub byte_at : (bytes : List ℕ) → AreBytes bytes → (i : ℕ) → get_or bytes i 0 < 256
byte_at [] h i = omega arith
byte_at (b ∷ bytes) h zero = h.0
byte_at (b ∷ bytes) h (suc i) = byte_at bytes h.1 i

bytes_taken : (n : ℕ) (bytes : List ℕ) → AreBytes bytes → AreBytes (take n bytes)
bytes_taken zero bytes h = tt
bytes_taken (suc n) [] h = tt
bytes_taken (suc n) (b ∷ bytes) h = (h.0, bytes_taken n bytes h.1)

bytes_left : (n : ℕ) (bytes : List ℕ) → AreBytes bytes → AreBytes (drop n bytes)
bytes_left zero bytes h = h
bytes_left (suc n) [] h = tt
bytes_left (suc n) (b ∷ bytes) h = bytes_left n bytes h.1

two_below : (bs : List ℕ) → ((i : ℕ) → get_or bs i 0 < 256) → from_be_bytes w16 bs < 2 ^ 16
two_below bs h = omega (arith, h 0, h 1)

eight_below : (bs : List ℕ) → ((i : ℕ) → get_or bs i 0 < 256) → from_be_bytes w64 bs < 2 ^ 64
eight_below bs h = omega (arith, h 0, h 1, h 2, h 3, h 4, h 5, h 6, h 7)

body_again : (b : List ℕ) → AreBytes b → has_head b ≡ true → b ≡ body (from_be_bytes w16 (take 2 (drop 2 b))) (from_be_bytes w64 (take 8 (drop 4 b))) (drop 12 b)
body_again b are h =
    let parts = and_parts (nat_le 12 (length b)) (bytes_eq (take 2 b) mark) h in
    let long : 12 ≤ length b = leb-true 12 (length b) parts.0 in
    let marked : take 2 b ≡ mark = (bytes_eq-Decides (take 2 b) mark).0 parts.1 in
    let s = take 2 (drop 2 b) in
    let c = take 8 (drop 4 b) in
    let d = drop 12 b in
    let s_long : length s ≡ 2 = length-take-le 2 (drop 2 b) (omega (arith, length-drop 2 b, long)) in
    let c_long : length c ≡ 8 = length-take-le 8 (drop 4 b) (omega (arith, length-drop 4 b, long)) in
    let s_again : to_be_bytes w16 (from_be_bytes w16 s) ≡ s = be_bytes_2 s (from_be_bytes w16 s) s_long (byte_at s (bytes_taken 2 (drop 2 b) (bytes_left 2 b are))) refl in
    let c_again : to_be_bytes w64 (from_be_bytes w64 c) ≡ c = be_bytes_8 c (from_be_bytes w64 c) c_long (byte_at c (bytes_taken 8 (drop 4 b) (bytes_left 4 b are))) refl in
    let first : b ≡ take 2 b ++ drop 2 b = sym (take-append-drop 2 b) in
    let second : drop 2 b ≡ s ++ drop 4 b = sym (take-append-drop 2 (drop 2 b)) ∙ ap (λ (x : List ℕ). s ++ x) (drop-drop 2 2 b) in
    let third : drop 4 b ≡ c ++ d = sym (take-append-drop 8 (drop 4 b)) ∙ ap (λ (x : List ℕ). c ++ x) (drop-drop 8 4 b) in
    first ∙ ap (λ (x : List ℕ). x ++ drop 2 b) marked ∙ ap (λ (x : List ℕ). mark ++ x) (second ∙ ap (λ (x : List ℕ). s ++ x) third)
    ∙ ap (λ (x : List ℕ). mark ++ (x ++ (c ++ d))) (sym s_again)
    ∙ ap (λ (x : List ℕ). mark ++ (to_be_bytes w16 (from_be_bytes w16 s) ++ (x ++ d))) (sym c_again)

pub opened_was_sealed : (key bytes : List ℕ) (e : Envelope) → AreBytes bytes → reading key bytes ≡ Says e → Sealed key e.sender e.counter bytes e.datagram
opened_was_sealed key bytes e are h =
    let b = body_of bytes in
    let t = tag_of bytes in
    let parts = chosen (has_form bytes) (is_tagged key bytes) (envelope_in b) e h in
    let formed = and_parts (nat_le 16 (length bytes)) (has_head b) parts.0 in
    let tagged : tag key b ≡ t = (bytes_eq-Decides (tag key b) t).0 parts.1.0 in
    let are_b : AreBytes b = bytes_taken (length bytes - 16) bytes are in
    let again : b ≡ body (envelope_in b).sender (envelope_in b).counter (envelope_in b).datagram = body_again b are_b formed.1 in
    let whole : bytes ≡ b ++ t = sym (take-append-drop (length bytes - 16) bytes) in
    let is : Sealed key (envelope_in b).sender (envelope_in b).counter bytes (envelope_in b).datagram = record {
      sender_fits = two_below (take 2 (drop 2 b)) (byte_at (take 2 (drop 2 b)) (bytes_taken 2 (drop 2 b) (bytes_left 2 b are_b)));
      counter_fits = eight_below (take 8 (drop 4 b)) (byte_at (take 8 (drop 4 b)) (bytes_taken 8 (drop 4 b) (bytes_left 4 b are_b)));
      form = whole ∙ ap (λ (x : List ℕ). b ++ x) (sym tagged) ∙ ap (λ (x : List ℕ). x ++ tag key x) again;
    } in
    subst (λ (x : Envelope). Sealed key x.sender x.counter bytes x.datagram) parts.1.1 is

pub are_bytes : (bytes : List ℕ) → ((i : ℕ) → get_or bytes i 0 < 256) → AreBytes bytes
are_bytes [] h = tt
are_bytes (b ∷ bytes) h = (h 0, are_bytes bytes (λ i. h (suc i)))

-- fewer than 16 bytes have no tag
pub too_short : (key bytes : List ℕ) → length bytes < 16 → false ≡ is_tagged key bytes
too_short key bytes lt = choose (is_tagged key bytes) (bytes_eq-Decides (tag key (body_of bytes)) (tag_of bytes)).0
  where
    choose : (b : Bool) → (b ≡ true → tag key (body_of bytes) ≡ tag_of bytes) → false ≡ b
    choose false h = refl
    choose true h = absurd (omega (arith, ap length (h refl), tag_length key (body_of bytes), length-drop (length bytes - 16) bytes, lt))
