-- What is read as a path is names joined by dots, and each such is read.
use Rattle.std.proofs.Common.{◌≡◌, ℕ, Bool, true, false, cond, ◌<◌, List, [], ◌∷◌, length, arith, refl, sym, ap, subst, ◌∙◌, inl, inr}
use Rattle.std.specs.Prelude.{◌==◌, ◌&&◌, ◌||◌, not}
use Rattle.std.specs.List.{AllByRecursion, slice_split, onto_first}
use Rattle.fb_model.specs.Spelling.{is_digit, is_start, is_part, IsParts, no_part, part, IsWord, word}
use Rattle.fb_model.specs.CertificateText.{IsDotted, names_in}
use Rattle.fb_cert.specs.Reading.{path_from, is_path}
use Rattle.fb_cert.proofs.Deciding.{chosen, test_of}
use Rattle.std.proofs.lemmas.List.Splits.{slice_split-cons_yes, slice_split-cons_no, length-slice_split}

-- the first name goes on, or begins
abbrev Goes : Bool → List (List ℕ) → Type 0
Goes begins [] = ⊥
Goes true (n ∷ ns) = IsWord n × AllByRecursion IsWord ns
Goes false (n ∷ ns) = IsParts n × AllByRecursion IsWord ns

or_true : (b : Bool) → (b || true) ≡ true
or_true true = refl
or_true false = refl

or_false : (b : Bool) → (b || false) ≡ true → b ≡ true
or_false true h = refl
or_false false h = absurd (cc)

-- a test that fails leaves the character in the first part
split_no : (p : ℕ → Bool) (c : ℕ) (cs : List ℕ) → p c ≡ false → slice_split p (c ∷ cs) ≡ onto_first c (slice_split p cs)
split_no p c cs h = slice_split-cons_no p c cs h

split_yes : (p : ℕ → Bool) (c : ℕ) (cs : List ℕ) → p c ≡ true → slice_split p (c ∷ cs) ≡ [] ∷ slice_split p cs
split_yes p c cs h = slice_split-cons_yes p c cs h

-- ---- what is read

starts_goes : (c : ℕ) (ns : List (List ℕ)) → is_start c ≡ true → Goes false ns → Goes true (onto_first c ns)
starts_goes c [] h g = absurd g
starts_goes c (n ∷ ns) h g = (word h g.0, g.1)

parts_goes : (c : ℕ) (ns : List (List ℕ)) → is_part c ≡ true → Goes false ns → Goes false (onto_first c ns)
parts_goes c [] h g = absurd g
parts_goes c (n ∷ ns) h g = (part h g.0, g.1)

all_goes : (ns : List (List ℕ)) → Goes true ns → AllByRecursion IsWord ns
all_goes [] g = tt
all_goes (n ∷ ns) g = (g.0, g.1)

start_is_part : (c : ℕ) → is_start c ≡ true → is_part c ≡ true
start_is_part c h = ap (λ b. b || is_digit c) h

digit_is_part : (c : ℕ) → is_digit c ≡ true → is_part c ≡ true
digit_is_part c h = ap (λ b. is_start c || b) h ∙ or_true (is_start c)

-- a character of a name that goes on
goes_on : (begins : Bool) (c : ℕ) (cs : List ℕ) → (c == 46) ≡ false → (is_start c || (not begins && is_digit c)) ≡ true → Goes false (names_in cs) → Goes begins (names_in (c ∷ cs))
goes_on true c cs d h g = subst (Goes true) (sym (split_no (λ b. b == 46) c cs d)) (starts_goes c (names_in cs) (or_false (is_start c) h) g)
goes_on false c cs d h g = subst (Goes false) (sym (split_no (λ b. b == 46) c cs d)) (parts_goes c (names_in cs) h g)

dot_goes : (c : ℕ) (cs : List ℕ) → (c == 46) ≡ true → Goes true (names_in cs) → Goes false (names_in (c ∷ cs))
dot_goes c cs d g = subst (Goes false) (sym (split_yes (λ b. b == 46) c cs d)) (no_part, all_goes (names_in cs) g)

not_false : (b : Bool) → not b ≡ true → b ≡ false
not_false true h = absurd (cc)
not_false false h = refl

path_found : (begins : Bool) (cs : List ℕ) → path_from begins cs ≡ true → Goes begins (names_in cs)
path_found true [] h = absurd (cc)
path_found false [] h = (no_part, tt)
path_found begins (c ∷ cs) h =
    elim (chosen (c == 46) (cond begins false (path_from true cs)) (cond (is_start c || (not begins && is_digit c)) (path_from false cs) false) true h) [
      | inl p ↦ elim (chosen begins false (path_from true cs) true p.1) [
        | inl q ↦ absurd (cc)
        | inr q ↦ subst (λ b. Goes b (names_in (c ∷ cs))) (sym q.0) (dot_goes c cs p.0 (path_found true cs q.1))
      ]
      | inr p ↦ elim (chosen (is_start c || (not begins && is_digit c)) (path_from false cs) false true p.1) [
        | inl q ↦ goes_on begins c cs p.0 q.0 (path_found false cs q.1)
        | inr q ↦ absurd (cc)
      ]
    ]

pub dotted_found : (cs : List ℕ) → is_path cs ≡ true → IsDotted cs
dotted_found cs h = all_goes (names_in cs) (path_found true cs h)

-- ---- what is so is read

word_first : {c : ℕ} {n : List ℕ} → IsWord (c ∷ n) → (is_start c ≡ true) × IsParts n
word_first (word h t) = (h, t)

parts_first : {c : ℕ} {n : List ℕ} → IsParts (c ∷ n) → (is_part c ≡ true) × IsParts n
parts_first (part h t) = (h, t)

no_empty_word : IsWord [] → ⊥
no_empty_word h = elim h [ ]

goes_first : (b : Bool) (c : ℕ) (ns : List (List ℕ)) → 0 < length ns → Goes b (onto_first c ns) → (is_start c || (not b && is_digit c) ≡ true) × Goes false ns
goes_first b c [] l g = absurd (omega arith)
goes_first true c (n ∷ ns) l g = let w = word_first g.0 in (ap (λ b. b || false) w.0, (w.1, g.1))
goes_first false c (n ∷ ns) l g = let w = parts_first g.0 in (w.0, (w.1, g.1))

names_some : (cs : List ℕ) → 0 < length (names_in cs)
names_some cs = omega (arith, length-slice_split (λ c. c == 46) cs)

all_begin : (ns : List (List ℕ)) → 0 < length ns → AllByRecursion IsWord ns → Goes true ns
all_begin [] l g = absurd (omega arith)
all_begin (n ∷ ns) l g = (g.0, g.1)

dot_then : (begins : Bool) (ns : List (List ℕ)) → 0 < length ns → Goes begins ([] ∷ ns) → (begins ≡ false) × Goes true ns
dot_then true ns l g = absurd (no_empty_word g.0)
dot_then false ns l g = (refl, all_begin ns l g.1)

path_read : (begins : Bool) (cs : List ℕ) → Goes begins (names_in cs) → path_from begins cs ≡ true
path_read true [] g = absurd (no_empty_word g.0)
path_read false [] g = refl
path_read begins (c ∷ cs) g =
    elim (test_of (c == 46)) [
      | inl d ↦ (let h = dot_then begins (names_in cs) (names_some cs) (subst (Goes begins) (split_yes (λ b. b == 46) c cs d) g) in
          ap (λ b. cond b (cond begins false (path_from true cs)) (cond (is_start c || (not begins && is_digit c)) (path_from false cs) false)) d
          ∙ ap (λ b. cond b false (path_from true cs)) h.0 ∙ path_read true cs h.1)
      | inr d ↦ (let h = goes_first begins c (names_in cs) (names_some cs) (subst (Goes begins) (split_no (λ b. b == 46) c cs d) g) in
          ap (λ b. cond b (cond begins false (path_from true cs)) (cond (is_start c || (not begins && is_digit c)) (path_from false cs) false)) d
          ∙ ap (λ b. cond b (path_from false cs) false) h.0 ∙ path_read false cs h.1)
    ]

pub dotted_read : (cs : List ℕ) → IsDotted cs → is_path cs ≡ true
dotted_read cs h = path_read true cs (all_begin (names_in cs) (names_some cs) h)
