-- What is spelled is read back: a line as its words, and these as what they were written of.
use Rattle.std.proofs.Common.{◌≡◌, ℕ, zero, suc, ◌+◌, ◌*◌, ◌/◌, ◌%◌, ◌^◌, ◌<◌, ◌≤◌, ◌==◌, ◌&&◌, not, Bool, true, false, cond, List, [], ◌∷◌, ◌++◌, map, length, Option, Some, None, Result, Ok, Err, refl, sym, ap, ap₂, subst, ◌∙◌, arith, append_assoc, append-nil, inl, inr}
use Rattle.std.specs.Prelude.{codes, nat_le, nat_lt, slice_index, flat_map}
use Rattle.std.specs.Fmt.{decimal}
use Rattle.std.specs.Int.{w32, to_be_bytes}
use Rattle.std.specs.List.{AllByRecursion, All, filter, slice_split}
use Rattle.std.specs.Option.{option_map, option_and_then}
use Rattle.std.specs.Str.{bytes_eq}
use Rattle.std.proofs.lemmas.List.Elements.{All-from_recursion}
use Rattle.std.proofs.lemmas.List.Splits.{slice_split_at, slice_split_none}
use Rattle.std.proofs.lemmas.Fmt.{decimal_is_IsNumeral}
use Rattle.std.proofs.lemmas.Slice.Eq.{bytes_eq-Decides}
use Rattle.hex.specs.Hex.{IsBytes, decode_of, encode_lower, encode_with, hex_digit_value, lower_digits}
use Rattle.hex.specs.declared.error.FromHexError.{FromHexError}
use Rattle.hex.proofs.HexLemmas.{decode_of-encode_lower, IsDigits-lower_digits, length-encode_with}
use Rattle.hex.proofs.OnLiterals.{hex_on_literals}
use Rattle.sha2.specs.Sha256.{sha256, digest_bytes, final_hash, initial_hash_256}
use Rattle.sha2.proofs.Facts256.{length-sha256}
use Rattle.fb_model.proofs.Lists.{all_append}
use Rattle.fb_model.specs.CertificateText.{words}
use Rattle.fb_numbers.specs.Numbers.{long_number_in, wide_number_in}
use Rattle.fb_numbers.proofs.Numbers.{long_number_of, wide_number_of, decimal_solid}
use Rattle.fb_record.specs.Records.{Entry, Came, Head, IsEntry, IsWord, after, came_in, datagram_in, encoded, end_text, entry_in, entry_with, few_in, head_in, head_text, head_with, is_within, line_of, nothing_came, short_in, start_text, turn_in, with_first, word_of, words_line, words_text}
use Rattle.fb_record.proofs.Coming.{came_more}

-- ---- words of a line

-- no space is in it
abbrev Solid : List ℕ → Type 0
Solid cs = AllByRecursion (λ c. (c == 32) ≡ false) cs

kept : (w : List ℕ) (ws : List (List ℕ)) → 0 < length w → filter (λ v. not (length v == 0)) (w ∷ ws) ≡ w ∷ filter (λ v. not (length v == 0)) ws
kept w ws l =
    let some : (length w == 0) ≡ false = grind (arith, l) in
    ap (λ b. cond (not b) (w ∷ filter (λ v. not (length v == 0)) ws) (filter (λ v. not (length v == 0)) ws)) some

-- a word stands before a space
pub word_first : (w rest : List ℕ) → IsWord w → words (w ++ 32 ∷ rest) ≡ w ∷ words rest
word_first w rest h =
    ap (filter (λ v. not (length v == 0))) (slice_split_at (λ c. c == 32) w 32 rest (All-from_recursion (λ c. (c == 32) ≡ false) w h.solid) refl)
    ∙ kept w (slice_split (λ c. c == 32) rest) h.some

-- or is the last
pub word_last : (w : List ℕ) → IsWord w → words w ≡ w ∷ []
word_last w h =
    ap (filter (λ v. not (length v == 0))) (slice_split_none (λ c. c == 32) w (All-from_recursion (λ c. (c == 32) ≡ false) w h.solid)) ∙ kept w [] h.some

-- ---- what is a word

pub is_decimal : (n : ℕ) → n < 2 ^ 64 → IsWord (decimal n)
is_decimal n h = record { some = (decimal_is_IsNumeral n h).0.0; solid = decimal_solid n h }

-- a digit is no space
digit_solid : (d : ℕ) → d < 16 → (slice_index lower_digits d == 32) ≡ false
digit_solid d l = by (slice_index lower_digits d == 32) refl
  where
    by : (b : Bool) → (slice_index lower_digits d == 32) ≡ b → b ≡ false
    by false e = refl
    by true e =
        let at : slice_index lower_digits d ≡ 32 = grind (arith, e) in
        let no : hex_digit_value 32 ≡ Some d = subst (λ c. hex_digit_value c ≡ Some d) at (IsDigits-lower_digits d l) in
        absurd cc

tail_bytes : (b : ℕ) (bs : List ℕ) → IsBytes (b ∷ bs) → IsBytes bs
tail_bytes b bs h = λ i. h (suc i)

hex_solid : (bs : List ℕ) → IsBytes bs → Solid (encode_lower bs)
unfolding encode_with
hex_solid [] h = tt
hex_solid (b ∷ bs) h =
    let k : b < 256 = h 0 in
    (digit_solid (b / 16) (omega (arith, k)), (digit_solid (b % 16) (omega arith), hex_solid bs (tail_bytes b bs h)))

pub is_encoded : (b : ℕ) (bs : List ℕ) → IsBytes (b ∷ bs) → IsWord (encode_lower (b ∷ bs))
is_encoded b bs h = record { some = omega (arith, length-encode_with lower_digits (b ∷ bs)); solid = hex_solid (b ∷ bs) h }

pub is_word_of : (d : List ℕ) → IsBytes d → IsWord (word_of d)
is_word_of [] h = record { some = omega arith; solid = (refl, tt) }
is_word_of (b ∷ bs) h = is_encoded b bs h

-- ---- a datagram

-- a word of two digits for each byte is not `-`
not_dash : (w : List ℕ) → 1 < length w → bytes_eq w (codes "-") ≡ false
not_dash w l = by (bytes_eq w (codes "-")) refl
  where
    by : (b : Bool) → bytes_eq w (codes "-") ≡ b → b ≡ false
    by false e = refl
    by true e = let same = ap length ((bytes_eq-Decides w (codes "-")).0 e) in absurd (omega (arith, same, l))

short : (d : List ℕ) → length d ≤ 160 → short_in (Ok d) ≡ Some d
short d l = by (nat_le (length d) 160) refl
  where
    by : (b : Bool) → nat_le (length d) 160 ≡ b → cond b (Some d) None ≡ Some d
    by true e = refl
    by false e = absurd (grind (arith, e, l))

pub datagram_back : (d : List ℕ) → IsBytes d → length d ≤ 160 → datagram_in (word_of d) ≡ Some d
datagram_back [] h l = refl
datagram_back (b ∷ bs) h l =
    let long : 1 < length (encode_lower (b ∷ bs)) = omega (arith, length-encode_with lower_digits (b ∷ bs)) in
    ap (λ is. cond is (Some []) (short_in (decode_of (encode_lower (b ∷ bs))))) (not_dash (encode_lower (b ∷ bs)) long)
    ∙ ap short_in (decode_of-encode_lower (b ∷ bs) h) ∙ short (b ∷ bs) l

-- `down` is no datagram
down_none : datagram_in (codes "down") ≡ None
unfolding hex_on_literals
down_none = refl

not_down : (d : List ℕ) → IsBytes d → length d ≤ 160 → bytes_eq (word_of d) (codes "down") ≡ false
not_down d h l = by (bytes_eq (word_of d) (codes "down")) refl
  where
    by : (b : Bool) → bytes_eq (word_of d) (codes "down") ≡ b → b ≡ false
    by false e = refl
    by true e =
        let same = (bytes_eq-Decides (word_of d) (codes "down")).0 e in
        let both : Some d ≡ None = sym (datagram_back d h l) ∙ ap datagram_in same ∙ down_none in
        absurd cc

-- ---- a turn

abbrev ends : Bool → List (List ℕ)
ends down = cond down (codes "down" ∷ []) []

-- the words behind one
behind : (w : List ℕ) (ds : List (List ℕ)) (down : Bool) → IsWord w → AllByRecursion IsBytes ds → words (w ++ (words_text ds ++ end_text down)) ≡ w ∷ (map word_of ds ++ ends down)
behind w [] true h k = word_first w (codes "down") h ∙ ap (λ ws. w ∷ ws) (word_last (codes "down") (record { some = omega arith; solid = (refl, (refl, (refl, (refl, tt)))) }))
behind w [] false h k = ap words (append-nil w) ∙ word_last w h
behind w (d ∷ ds) down h k =
    ap (λ t. words (w ++ 32 ∷ t)) (append_assoc (word_of d) (words_text ds) (end_text down))
    ∙ word_first w (word_of d ++ (words_text ds ++ end_text down)) h
    ∙ ap (λ ws. w ∷ ws) (behind (word_of d) ds down (is_word_of d k.0) k.1)

came_back : (ds : List (List ℕ)) (down : Bool) → AllByRecursion IsBytes ds → AllByRecursion (λ d. length d ≤ 160) ds → came_in (map word_of ds ++ ends down) ≡ Some (record { datagrams = ds; down = down })
came_back [] true h l = refl
came_back [] false h l = refl
came_back (d ∷ ds) down h l =
    let other : (bytes_eq (word_of d) (codes "down") && (length (map word_of ds ++ ends down) == 0)) ≡ false = ap (λ b. b && (length (map word_of ds ++ ends down) == 0)) (not_down d h.0 l.0) in
    came_more (word_of d) (map word_of ds ++ ends down) other
    ∙ ap₂ with_first (datagram_back d h.0 l.0) (came_back ds down h.1 l.1)

few : (ds : List (List ℕ)) (down : Bool) → is_within (length ds) down ≡ true → few_in (record { datagrams = ds; down = down }) ≡ Some (record { datagrams = ds; down = down })
few ds down h = ap (λ b. cond b (Some (record { datagrams = ds; down = down })) None) h

turn_back : (e : Entry) → IsEntry e → turn_in (decimal e.now) (map word_of e.datagrams ++ ends e.down) ≡ Some e
turn_back e h =
    ap₂ entry_with (wide_number_of e.now h.clock) (ap (option_and_then few_in) (came_back e.datagrams e.down h.bytes h.short) ∙ few e.datagrams e.down h.few)

pub line_back : (e : Entry) → IsEntry e → entry_in (words (line_of e)) ≡ Some e
line_back e h =
    ap entry_in (ap words (append_assoc (codes "turn ") (decimal e.now) (words_text e.datagrams ++ end_text e.down))
    ∙ word_first (codes "turn") (decimal e.now ++ (words_text e.datagrams ++ end_text e.down)) (record { some = omega arith; solid = (refl, (refl, (refl, (refl, tt)))) })
    ∙ ap (λ ws. codes "turn" ∷ ws) (behind (decimal e.now) e.datagrams e.down (is_decimal e.now h.clock) h.bytes))
    ∙ turn_back e h

-- ---- whose turns they are

is_magic : IsWord (codes "fbr-record")
is_magic = record { some = omega arith; solid = (refl, (refl, (refl, (refl, (refl, (refl, (refl, (refl, (refl, (refl, tt)))))))))) }

-- a SHA-256 as digits
low_bytes : (xs : List ℕ) → AllByRecursion (λ b. b < 256) xs → IsBytes xs
low_bytes [] h = λ i. omega arith
low_bytes (x ∷ xs) h = at (low_bytes xs h.1)
  where
    at : IsBytes xs → (i : ℕ) → slice_index (x ∷ xs) i < 256
    at rest zero = h.0
    at rest (suc i) = rest i

digest_low : (h : List ℕ) (n : ℕ) → AllByRecursion (λ b. b < 256) (digest_bytes h n)
unfolding digest_bytes
digest_low h zero = tt
digest_low h (suc n) =
    all_append (λ b. b < 256) (digest_bytes h n) (to_be_bytes w32 (slice_index h n)) (digest_low h n) (omega arith, (omega arith, (omega arith, (omega arith, tt))))

sha_bytes : (text : List ℕ) → IsBytes (sha256 text)
unfolding sha256
sha_bytes text = low_bytes (sha256 text) (digest_low (final_hash initial_hash_256 text) 8)

encoded_word : (bytes : List ℕ) → 0 < length bytes → IsBytes bytes → IsWord (encode_lower bytes)
encoded_word [] l h = absurd (omega arith)
encoded_word (b ∷ bs) l h = is_encoded b bs h

is_digest : (text : List ℕ) → IsWord (encoded text)
is_digest text = encoded_word (sha256 text) (omega (arith, length-sha256 text)) (sha_bytes text)

-- the words of a first line
head_words : (device app cert : List ℕ) (boot : ℕ) → IsWord device → boot < 2 ^ 64 → IsWord app → IsWord cert → words (words_line device boot app cert) ≡ codes "fbr-record" ∷ codes "1" ∷ device ∷ decimal boot ∷ app ∷ cert ∷ []
head_words device app cert boot d b a c =
    ap words joined
    ∙ word_first (codes "fbr-record") (codes "1" ++ 32 ∷ (device ++ 32 ∷ (decimal boot ++ 32 ∷ (app ++ 32 ∷ cert)))) is_magic
    ∙ ap (λ ws. codes "fbr-record" ∷ ws)
    (word_first (codes "1") (device ++ 32 ∷ (decimal boot ++ 32 ∷ (app ++ 32 ∷ cert))) (record { some = omega arith; solid = (refl, tt) })
    ∙ ap (λ ws. codes "1" ∷ ws)
    (word_first device (decimal boot ++ 32 ∷ (app ++ 32 ∷ cert)) d
    ∙ ap (λ ws. device ∷ ws)
    (word_first (decimal boot) (app ++ 32 ∷ cert) (is_decimal boot b)
    ∙ ap (λ ws. decimal boot ∷ ws) (word_first app cert a ∙ ap (λ ws. app ∷ ws) (word_last cert c)))))
  where
    start : List ℕ
    start = codes "fbr-record 1 " ++ (device ++ 32 ∷ (decimal boot ++ 32 ∷ []))

    front : codes "fbr-record 1 " ++ device ++ codes " " ++ decimal boot ++ codes " " ≡ start
    front =
        ap (λ t. (t ++ decimal boot) ++ 32 ∷ []) (append_assoc (codes "fbr-record 1 ") device (32 ∷ []))
        ∙ ap (λ t. t ++ 32 ∷ []) (append_assoc (codes "fbr-record 1 ") (device ++ 32 ∷ []) (decimal boot))
        ∙ append_assoc (codes "fbr-record 1 ") ((device ++ 32 ∷ []) ++ decimal boot) (32 ∷ [])
        ∙ ap (λ t. codes "fbr-record 1 " ++ t) (ap (λ t. t ++ 32 ∷ []) (append_assoc device (32 ∷ []) (decimal boot)) ∙ append_assoc device (32 ∷ decimal boot) (32 ∷ []))

    -- with each word in brackets of its own
    joined : words_line device boot app cert ≡ codes "fbr-record" ++ 32 ∷ (codes "1" ++ 32 ∷ (device ++ 32 ∷ (decimal boot ++ 32 ∷ (app ++ 32 ∷ cert))))
    joined =
        ap (λ t. ((t ++ app) ++ 32 ∷ []) ++ cert) front
        ∙ append_assoc (start ++ app) (32 ∷ []) cert
        ∙ append_assoc start app (32 ∷ cert)
        ∙ append_assoc (codes "fbr-record 1 ") (device ++ 32 ∷ (decimal boot ++ 32 ∷ [])) (app ++ 32 ∷ cert)
        ∙ ap (λ t. codes "fbr-record 1 " ++ t) (append_assoc device (32 ∷ (decimal boot ++ 32 ∷ [])) (app ++ 32 ∷ cert) ∙ ap (λ t. device ++ 32 ∷ t) (append_assoc (decimal boot) (32 ∷ []) (app ++ 32 ∷ cert)))

pub head_back : (device app cert : List ℕ) (boot : ℕ) → IsWord device → boot < 4294967296 → head_in (words (head_text device boot app cert)) ≡ Some (record { device = device; boot = boot; app = encoded app; cert = encoded cert })
head_back device app cert boot d b =
    ap head_in (head_words device (encoded app) (encoded cert) boot d (omega (arith, b)) (is_digest app) (is_digest cert))
    ∙ ap (λ n. head_with device n (encoded app) (encoded cert)) (long_number_of boot b)
