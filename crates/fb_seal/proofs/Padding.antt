-- Padded keys, and tags compared byte by byte.
use Rattle.std.proofs.Common.{arith, ◌≡◌, ℕ, zero, suc, ◌+◌, ◌-◌, ◌*◌, ◌<◌, ◌≤◌, true, ◌↔◌, List, ◌∷◌, ◌++◌, length, map, take, drop, set, replicate, get_or, refl, sym, ◌∙◌, ap, bytes_eq, bit_or, bit_xor, length-append}
use Rattle.std.specs.Int.Bits.{xor_self, xor_assoc, xor_zero_l, xor_zero_r}
use Rattle.std.proofs.lemmas.Bool.{eqb-true, eq-eqb}
use Rattle.std.proofs.lemmas.List.{get_or_default, length-map, map-append, take-append-drop, length-take-le, take_all, take_more, take_more_same, same_from_push}
use Rattle.std.proofs.lemmas.List.Edits.{map_over_more}
use Rattle.std.proofs.lemmas.Nat.{le_or_l, le_or_r}
use Rattle.std.specs.Prelude.{◌==◌}
use Rattle.std.proofs.lemmas.Slice.Eq.{bytes_eq-Decides}
use Rattle.std.specs.Bool.{one_answer}
use Rattle.sha2.specs.Sha256.{sha256, digest_bytes, final_hash, initial_hash_256}
use Rattle.fb_seal.specs.Seal.{padded, tag}

-- zeros under a pad are the pad
zeros_padded : (pad n : ℕ) → map (λ b. bit_xor b pad) (replicate n 0) ≡ replicate n pad
zeros_padded pad zero = refl
zeros_padded pad (suc n) = ap (λ (b : ℕ). b ∷ map (λ b. bit_xor b pad) (replicate n 0)) (xor_zero_l pad) ∙ ap (λ (bs : List ℕ). pad ∷ bs) (zeros_padded pad n)

-- a padded key of 32 bytes
pub padded_is : (key : List ℕ) (pad : ℕ) → length key ≡ 32 → padded key pad ≡ map (λ b. bit_xor b pad) key ++ replicate 32 pad
padded_is key pad long =
    ap (λ (n : ℕ). map (λ b. bit_xor b pad) (key ++ replicate (64 - n) 0)) long
    ∙ map-append (λ b. bit_xor b pad) key (replicate 32 0)
    ∙ ap (λ (bs : List ℕ). map (λ b. bit_xor b pad) key ++ bs) (zeros_padded pad 32)

digest_length : (h : List ℕ) (n : ℕ) → length (digest_bytes h n) ≡ 4 * n
unfolding digest_bytes
digest_length h zero = refl
digest_length h (suc n) = length-append (digest_bytes h n) _ ∙ omega (arith, digest_length h n)

-- what the outer hash of a tag is of
abbrev hmac_of : List ℕ → List ℕ → List ℕ
hmac_of key bytes = padded key 0x5c ++ sha256 (padded key 0x36 ++ bytes)

-- a tag has 16 bytes
pub tag_length : (key bytes : List ℕ) → length (tag key bytes) ≡ 16
unfolding tag sha256
tag_length key bytes = length-take-le 16 (digest_bytes (final_hash initial_hash_256 (hmac_of key bytes)) 8) (omega (arith, digest_length (final_hash initial_hash_256 (hmac_of key bytes)) 8))

-- ---- bytes compared

xor_zero : (a b : ℕ) → bit_xor a b ≡ 0 → a ≡ b
xor_zero a b h = sym (xor_zero_r a) ∙ ap (bit_xor a) (sym (xor_self b)) ∙ sym (xor_assoc a b b) ∙ ap (λ (n : ℕ). bit_xor n b) h ∙ xor_zero_l b

-- one more byte
pub same_more : (d e i : ℕ) (one other : List ℕ) → i < length one → i < length other → e ≡ bit_or d (bit_xor (get_or one i 0) (get_or other i 0))
    → (d ≡ 0) ↔ (take i one ≡ take i other) → (e ≡ 0) ↔ (take (i + 1) one ≡ take (i + 1) other)
same_more d e i one other lt less is h =
    let x = get_or one i 0 in
    let y = get_or other i 0 in (
      λ (z : e ≡ 0).
          let left : d ≡ 0 = omega (arith, le_or_l d (bit_xor x y), is, z) in
          let right : bit_xor x y ≡ 0 = omega (arith, le_or_r d (bit_xor x y), is, z) in
          take_more_same one other i 0 lt less (h.0 left) (xor_zero x y right),
      λ (z : take (i + 1) one ≡ take (i + 1) other).
          let both = same_from_push (take i one) (take i other) x y (sym (take_more one i 0 lt) ∙ z ∙ take_more other i 0 less) in
          is ∙ ap (λ (k : ℕ). bit_or k (bit_xor x y)) (h.1 both.0) ∙ ap (λ (k : ℕ). bit_or 0 (bit_xor k y)) both.1 ∙ ap (bit_or 0) (xor_self y),
    )

-- all of them
pub same_all : (d i : ℕ) (one other : List ℕ) → length one ≤ i → length other ≤ i → (d ≡ 0) ↔ (take i one ≡ take i other) → (d == 0) ≡ bytes_eq one other
same_all d i one other short shorter h =
    let a = take_all i one short in
    let b = take_all i other shorter in
    let same = bytes_eq-Decides one other in
    one_answer (d == 0) (bytes_eq one other)
    ((λ (z : (d == 0) ≡ true). sym a ∙ h.0 (eqb-true d 0 z) ∙ b), (λ (z : one ≡ other). eq-eqb d 0 (h.1 (a ∙ z ∙ sym b))))
    same

-- one more byte of a key is padded
pub pad_more : (pad i : ℕ) (key bytes : List ℕ) → i < length key → bytes ≡ map (λ b. bit_xor b pad) (take i key) ++ drop i key
    → set bytes i (bit_xor (get_or bytes i 0) pad) ≡ map (λ b. bit_xor b pad) (take (i + 1) key) ++ drop (i + 1) key
pad_more pad i key bytes lt h =
    let front : length (map (λ b. bit_xor b pad) (take i key)) ≡ length (take i key) = length-map (take i key) (λ b. bit_xor b pad) in
    let whole = ap length (take-append-drop i key) in
    let long : length bytes ≡ length key = ap length h ∙ length-append (map (λ b. bit_xor b pad) (take i key)) (drop i key)
    ∙ ap (λ (n : ℕ). n + length (drop i key)) front ∙ sym (length-append (take i key) (drop i key)) ∙ whole in
    map_over_more (λ b. bit_xor b pad) key bytes i (get_or bytes i 0) lt h (get_or_default bytes i 0 (get_or bytes i 0) (omega (arith, long, lt)))
