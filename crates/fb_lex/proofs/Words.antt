-- Words, and the marks that are written so.
use Rattle.std.proofs.lemmas.Str.Ascii.{IsAscii-from_all}
use Rattle.std.proofs.lemmas.List.Elements.{All-nil, All-cons}
use Rattle.std.proofs.Math.Seq.{take-append_seam}
use Rattle.std.proofs.Common.{◌≡◌, ◌≢◌, ℕ, ◌+◌, ◌-◌, ◌<◌, ◌≤◌, ◌⊎◌, Bool, true, false, cond, List, [], ◌∷◌, ◌++◌, length, take, get_or, map, nat_eq, Option, Some, None, refl, sym, ap, subst, ◌∙◌, inl, inr, arith, length-append}
use Rattle.std.specs.Prelude.{◌&&◌, ◌||◌, ◌↔◌, IsTrue, All}
use Rattle.std.specs.Str.{bytes_eq, IsAscii}
use Rattle.std.proofs.lemmas.Bool.{false_from_ne_true}
use Rattle.std.proofs.lemmas.Bool.Decides.{nat_tests}
use Rattle.std.proofs.lemmas.Slice.Eq.{bytes_eq-Decides}
use denote.Enum.Bare.{sameb, same_true}
use Rattle.fb_words.specs.contracts.mark.Mark.{the_type}
use Rattle.fb_words.specs.declared.mark.TheConstants.{WORDS, SIGNS}
use Rattle.fb_words.specs.declared.mark.Mark.{Mark}
use Rattle.fb_words.specs.declared.mark.Mark.TheVariants as m
use Rattle.fb_words.specs.Writing.{sign_text, word_text}
use Rattle.fb_model.specs.Spelling.{is_digit, is_start, is_part, IsParts, no_part, part, upper}
use Rattle.std.specs.Char.{to_ascii_uppercase, to_ascii_lowercase}
use Rattle.std.proofs.lemmas.Str.Ascii.{lowercase-uppercase}
use Rattle.fb_lex.specs.Scanning.{find, parts_at}

pub chosen : {A : Type 0} (b : Bool) (x y z : A) → cond b x y ≡ z → ((b ≡ true) × (x ≡ z)) ⊎ ((b ≡ false) × (y ≡ z))
chosen true x y z e = inl (refl, e)
chosen false x y z e = inr (refl, e)

pub pick : {A : Type 0} (P : A → Type 0) (b : Bool) (x y : A) → (b ≡ true → P x) → (b ≡ false → P y) → P (cond b x y)
pick P true x y f g = f refl
pick P false x y f g = g refl

pub both_true : (a b : Bool) → (a && b) ≡ true → (a ≡ true) × (b ≡ true)
both_true true b h = (refl, h)
both_true false b h = absurd cc

-- ---- letters, digits and `_`

pub start_part : (c : ℕ) → is_start c ≡ true → is_part c ≡ true
start_part c h = ap (λ b. b || is_digit c) h

pub parts_at_part : (c : ℕ) (cs : List ℕ) → is_part c ≡ true → parts_at (c ∷ cs) ≡ (c ∷ (parts_at cs).0, (parts_at cs).1)
parts_at_part c cs h = ap (λ b. cond b (c ∷ (parts_at cs).0, (parts_at cs).1) ([], c ∷ cs)) h

pub parts_more : {cs : List ℕ} → IsParts cs → (rest : List ℕ) → parts_at (cs ++ rest) ≡ (cs ++ (parts_at rest).0, (parts_at rest).1)
parts_more no_part rest = refl
parts_more (part {c = c} {cs = cs} h t) rest = parts_at_part c (cs ++ rest) h ∙ ap (λ (r : List ℕ × List ℕ). (c ∷ r.0, r.1)) (parts_more t rest)

pub parts_sound : (bytes : List ℕ) → IsParts (parts_at bytes).0 × (bytes ≡ (parts_at bytes).0 ++ (parts_at bytes).1)
parts_sound [] = (no_part, refl)
parts_sound (c ∷ cs) =
    let again = parts_sound cs in
    by_test (is_part c) refl again where
      by_test : (b : Bool) → is_part c ≡ b → IsParts (parts_at cs).0 × (cs ≡ (parts_at cs).0 ++ (parts_at cs).1)
          → (let r : List ℕ × List ℕ = cond b (c ∷ (parts_at cs).0, (parts_at cs).1) ([], c ∷ cs) in IsParts r.0 × (c ∷ cs ≡ r.0 ++ r.1))
      by_test true h again = (part h again.0, ap (λ xs. c ∷ xs) again.1)
      by_test false h again = (no_part, refl)

pub parts_left : (bytes : List ℕ) → length bytes ≡ length (parts_at bytes).0 + length (parts_at bytes).1
parts_left bytes = ap length (parts_sound bytes).1 ∙ length-append (parts_at bytes).0 (parts_at bytes).1

-- ---- marks

pub text_is : (xs ys : List ℕ) → bytes_eq xs ys ≡ true → xs ≡ ys
text_is xs ys h = (bytes_eq-Decides xs ys).0 h

same_mark : Mark → Option Mark → Bool
same_mark k None = false
same_mark k (Some j) = sameb the_type j k

is_listed : (Mark → List ℕ) → List Mark → List ℕ → Mark → Bool
is_listed text ks [] k = true
is_listed text ks (c ∷ cs) k = same_mark k (find text ks (c ∷ cs))

same_marked : (k : Mark) (q : Option Mark) → same_mark k q ≡ true → q ≡ Some k
unfolding same_mark
same_marked k None h = absurd cc
same_marked k (Some j) h = ap Some (same_true the_type tt j k h)

listed : (text : Mark → List ℕ) (ks : List Mark) (k : Mark) (c : ℕ) (cs t : List ℕ) → t ≡ c ∷ cs → is_listed text ks t k ≡ true → find text ks (c ∷ cs) ≡ Some k
unfolding is_listed
listed text ks k c cs t e h = same_marked k (find text ks (c ∷ cs)) (subst (λ u. is_listed text ks u k ≡ true) e h)

all_words : (k : Mark) → is_listed word_text WORDS (word_text k) k ≡ true
unfolding is_listed same_mark
all_words m.If = refl
all_words k = refl

all_signs : (k : Mark) → is_listed sign_text SIGNS (sign_text k) k ≡ true
unfolding is_listed same_mark
all_signs m.Assign = refl
all_signs k = refl

pub word_listed : (k : Mark) (c : ℕ) (cs : List ℕ) → word_text k ≡ c ∷ cs → find word_text WORDS (c ∷ cs) ≡ Some k
word_listed k c cs e = listed word_text WORDS k c cs (word_text k) e (all_words k)

pub sign_listed : (k : Mark) (c : ℕ) (cs : List ℕ) → sign_text k ≡ c ∷ cs → find sign_text SIGNS (c ∷ cs) ≡ Some k
sign_listed k c cs e = listed sign_text SIGNS k c cs (sign_text k) e (all_signs k)

pub find_none : (text : Mark → List ℕ) (ks : List Mark) (t : List ℕ) → ((k : Mark) → text k ≢ t) → find text ks t ≡ None
find_none text [] t h = refl
find_none text (k ∷ ks) t h = ap (λ b. cond b (Some k) (find text ks t)) (false_from_ne_true _ (λ e. h k (text_is _ _ e))) ∙ find_none text ks t h

pub find_sound : (text : Mark → List ℕ) (ks : List Mark) (t : List ℕ) (k : Mark) → find text ks t ≡ Some k → text k ≡ t
find_sound text [] t k e = absurd cc
find_sound text (j ∷ ks) t k e =
    elim (chosen (bytes_eq (text j) t) (Some j) (find text ks t) (Some k) e) [
      | inl p ↦ let q : j ≡ k = cc in sym (ap text q) ∙ text_is _ _ p.0
      | inr p ↦ find_sound text ks t k p.1
    ]

-- ---- letters of either case

no_one : (k : Mark) → nat_eq (length (word_text k)) 1 ≡ false
no_one m.If = refl
no_one k = refl

pub no_short : (t : List ℕ) → length t < 2 → find word_text WORDS t ≡ None
no_short [] h = refl
no_short (c ∷ []) h = find_none word_text WORDS (c ∷ []) (λ k e. let p = subst (λ u. nat_eq (length u) 1 ≡ false) e (no_one k) in absurd cc)
no_short (c ∷ d ∷ cs) h = absurd (omega arith)

all_upper : (k : Mark) → upper (word_text k) ≡ word_text k
all_upper m.If = refl
all_upper k = refl

uppercase-lowercase : (c : ℕ) → to_ascii_uppercase (to_ascii_lowercase c) ≡ to_ascii_uppercase c
uppercase-lowercase c = grind (arith, nat_tests)

upper_lower : (t : List ℕ) → upper (map to_ascii_lowercase t) ≡ upper t
upper_lower [] = refl
upper_lower (c ∷ cs) = ap (λ x. x ∷ upper (map to_ascii_lowercase cs)) (uppercase-lowercase c) ∙ ap (λ xs. to_ascii_uppercase c ∷ xs) (upper_lower cs)

lower_upper : (t : List ℕ) → map to_ascii_lowercase (upper t) ≡ map to_ascii_lowercase t
lower_upper [] = refl
lower_upper (c ∷ cs) = ap (λ x. x ∷ map to_ascii_lowercase (upper cs)) (lowercase-uppercase c) ∙ ap (λ xs. to_ascii_lowercase c ∷ xs) (lower_upper cs)

-- a text in upper case, and another in either case
pub same_letters : (u t : List ℕ) (b : Bool) → upper u ≡ u → IsTrue b ↔ (map to_ascii_lowercase u ≡ map to_ascii_lowercase t) → bytes_eq u (upper t) ≡ b
same_letters u t true e h = (bytes_eq-Decides u (upper t)).1 (sym e ∙ sym (upper_lower u) ∙ ap upper (h.0 refl) ∙ upper_lower t)
same_letters u t false e h = false_from_ne_true _ (λ f. let q = h.1 (ap (λ x. map to_ascii_lowercase x) (text_is u (upper t) f) ∙ lower_upper t) in absurd cc)

pub letters_same : (t u : List ℕ) (b : Bool) → upper u ≡ u → IsTrue b ↔ (map to_ascii_lowercase t ≡ map to_ascii_lowercase u) → bytes_eq (upper t) u ≡ b
letters_same t u true e h = (bytes_eq-Decides (upper t) u).1 (sym (upper_lower t) ∙ ap upper (h.0 refl) ∙ upper_lower u ∙ e)
letters_same t u false e h = false_from_ne_true _ (λ f. let q = h.1 (sym (lower_upper t) ∙ ap (λ x. map to_ascii_lowercase x) (text_is (upper t) u f)) in absurd cc)

pub word_letters : (k : Mark) (t : List ℕ) (b : Bool) (u : List ℕ) → u ≡ word_text k → IsTrue b ↔ (map to_ascii_lowercase u ≡ map to_ascii_lowercase t) → bytes_eq (word_text k) (upper t) ≡ b
word_letters k t b u e h = same_letters (word_text k) t b (all_upper k) (subst (λ x. IsTrue b ↔ (map to_ascii_lowercase x ≡ map to_ascii_lowercase t)) e h)

-- a search among the words that begin so
pub found_with : (t : List ℕ) (ks : List Mark) (c d : ℕ) → 2 ≤ length t → c ≡ to_ascii_uppercase (get_or t 0 0) → d ≡ to_ascii_uppercase (get_or t 1 0)
    → ((cs : List ℕ) → find word_text ks (c ∷ d ∷ cs) ≡ find word_text WORDS (c ∷ d ∷ cs)) → find word_text ks (upper t) ≡ find word_text WORDS (upper t)
found_with [] ks c d l e f h = absurd (omega arith)
found_with (x ∷ []) ks c d l e f h = absurd (omega arith)
found_with (x ∷ y ∷ t) ks c d l e f h = subst (λ u. find word_text ks u ≡ find word_text WORDS u) (ap (λ z. z ∷ d ∷ upper t) e ∙ ap (λ z. to_ascii_uppercase x ∷ z ∷ upper t) f) (h (upper t))

-- ---- where a word ends

pub front_is : (bytes rest : List ℕ) → rest ≡ (parts_at bytes).1 → take (length bytes - length rest) bytes ≡ (parts_at bytes).0
front_is bytes rest e =
    let l = parts_left bytes in
    let r = ap length e in
    let n : length bytes - length rest ≡ length (parts_at bytes).0 = omega arith in
    ap (λ k. take k bytes) n ∙ ap (take (length (parts_at bytes).0)) (parts_sound bytes).1 ∙ take-append_seam (parts_at bytes).0 (parts_at bytes).1

part_ascii : (c : ℕ) → is_part c ≡ true → c < 128
part_ascii c h = grind (arith, nat_tests)

all_ascii : {cs : List ℕ} → IsParts cs → All (λ b. b < 128) cs
all_ascii no_part = All-nil (λ b. b < 128)
all_ascii (part {c = c} {cs = cs} h t) = All-cons (λ b. b < 128) c cs (part_ascii c h) (all_ascii t)

pub word_ascii : (bytes : List ℕ) → IsAscii (parts_at bytes).0
word_ascii bytes = IsAscii-from_all (parts_at bytes).0 (all_ascii (parts_sound bytes).0)
