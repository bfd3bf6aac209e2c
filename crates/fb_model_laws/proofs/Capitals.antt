-- The names in tokens that a text spells are words in capitals, and productions leave such tokens.
use Rattle.std.proofs.Common.{◌≡◌, ℕ, true, List, [], ◌∷◌, refl, ap, ◌∙◌, rules}
use Rattle.std.specs.List.{AllByRecursion}
use Rattle.std.specs.Char.{to_ascii_uppercase}
use Rattle.std.proofs.lemmas.Str.Ascii.{uppercase-uppercase}
use Rattle.fb_words.specs.declared.mark.Mark.{Mark}
use Rattle.fb_model.specs.Tokens.{Token, token, name, number, typed, duration, mark, Kind}
use Rattle.fb_model.specs.Spelling.{is_start, is_part, upper, IsParts, no_part, part, IsWord, word, IsLexeme, a_word, a_name, a_number, a_typed, a_duration, a_sign, Spells, end, gap, next}
use Rattle.fb_model.specs.Productions as p
use Rattle.fb_model.specs.Productions.{Gram, IsMany, none, more, IsSeparated, last, before, IsSection, absent, present}
use Rattle.fb_model_laws.specs.Words.{IsCapital}

-- ---- words

upper_start : (c : ℕ) → is_start c ≡ true → is_start (to_ascii_uppercase c) ≡ true
upper_start c h = search rules

upper_part : (c : ℕ) → is_part c ≡ true → is_part (to_ascii_uppercase c) ≡ true
upper_part c h = search rules

upper_parts : {cs : List ℕ} → IsParts cs → IsParts (upper cs)
upper_parts no_part = no_part
upper_parts (part {c = c} h p) = part (upper_part c h) (upper_parts p)

upper_word : {cs : List ℕ} → IsWord cs → IsWord (upper cs)
upper_word (word {c = c} h p) = word (upper_start c h) (upper_parts p)

upper_upper : (cs : List ℕ) → upper (upper cs) ≡ upper cs
upper_upper [] = refl
upper_upper (c ∷ cs) = ap (λ d. d ∷ upper (upper cs)) (uppercase-uppercase c) ∙ ap (λ ds. to_ascii_uppercase c ∷ ds) (upper_upper cs)

-- ---- tokens

-- what a name says is a word in capitals
abbrev pub IsCapitalKind : Kind → Type 0
IsCapitalKind (name x) = IsCapital x
IsCapitalKind (number n) = Unit {0}
IsCapitalKind (typed t b n) = Unit {0}
IsCapitalKind (duration b n) = Unit {0}
IsCapitalKind (mark k) = Unit {0}

abbrev pub IsCapitalToken : Token → Type 0
IsCapitalToken (token k s e) = IsCapitalKind k

abbrev pub AreCapitalTokens : List Token → Type 0
AreCapitalTokens ts = AllByRecursion IsCapitalToken ts

lexeme_capital : {cs : List ℕ} {k : Kind} → IsLexeme cs k → IsCapitalKind k
lexeme_capital (a_word w e) = tt
lexeme_capital (a_name {cs = cs} w n) = (upper_word w, upper_upper cs)
lexeme_capital (a_number h) = tt
lexeme_capital (a_typed k cs sign ds e f g h i) = tt
lexeme_capital (a_duration cs sign ds e h i) = tt
lexeme_capital (a_sign e) = tt

pub tokens_capital : {at : ℕ} {bytes : List ℕ} {ts : List Token} → Spells at bytes ts → AreCapitalTokens ts
tokens_capital end = tt
tokens_capital (gap g s) = tokens_capital s
tokens_capital (next st f s) = (lexeme_capital st.lexeme_is, tokens_capital s)

-- ---- productions

-- of such tokens it takes trees with P, and such tokens are left
abbrev pub Takes : {A : Type 0} → (A → Type 0) → Gram A → Type 0
Takes P G = (ts : List Token) (x : _) (rest : List Token) → G ts x rest → AreCapitalTokens ts → P x × AreCapitalTokens rest

abbrev pub Any : {A : Type 0} → A → Type 0
Any x = Unit {0}

pub takes_many : {A : Type 0} (P : A → Type 0) {G : Gram A} → Takes P G → {ts rest : List Token} {xs : List A} → IsMany G ts xs rest → AreCapitalTokens ts → AllByRecursion P xs × AreCapitalTokens rest
takes_many P t none h = (tt, h)
takes_many P t (more {ts = ts} {mid = mid} {x = x} g gs) h = let a = t ts x mid g h in let b = takes_many P t gs a.1 in ((a.0, b.0), b.1)

pub takes_separated : {A : Type 0} (P : A → Type 0) {G : Gram A} → Takes P G → {k : Mark} {ts rest : List Token} {xs : List A} → IsSeparated k G ts xs rest → AreCapitalTokens ts → AllByRecursion P xs × AreCapitalTokens rest
takes_separated P t (last {ts = ts} {rest = rest} {x = x} g) h = let a = t ts x rest g h in ((a.0, tt), a.1)
takes_separated P t (before {ts = ts} {x = x} g gs) h = let a = t ts x _ g h in let b = takes_separated P t gs a.1.1 in ((a.0, b.0), b.1)

pub takes_section : {A : Type 0} (P : A → Type 0) {G : Gram A} → Takes P G → {k l : Mark} {ts rest : List Token} {xs : List A} → IsSection k l G ts xs rest → AreCapitalTokens ts → AllByRecursion P xs × AreCapitalTokens rest
takes_section P t absent h = (tt, h)
takes_section P t (present gs) h = let a = takes_many P t gs h.1 in (a.0, a.1.1)

pub name_takes : Takes (λ (x : p.Word). IsCapital x.text) p.IsName
name_takes ts x rest p.a_name h = (h.0, h.1)
