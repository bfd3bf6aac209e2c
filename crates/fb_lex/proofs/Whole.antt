-- From the front of a text to what is left, and what that says of the whole text.
use Rattle.std.proofs.Common.{◌≡◌, ◌≢◌, ℕ, ◌+◌, ◌-◌, ◌<◌, ◌≤◌, ◌^◌, ◌⊎◌, true, cond, List, [], ◌∷◌, ◌++◌, length, Option, Some, Err, refl, sym, ap, subst, ◌∙◌, arith, inl, inr, append_assoc, length-append}
use Rattle.std.specs.Prelude.{◌==◌, ◌&&◌}
use Rattle.std.proofs.lemmas.Bool.{false_from_ne_true, eqb-true, ltb-true, lt-ltb}
use Rattle.std.proofs.lemmas.List.{append-nil}
use Rattle.fb_model.specs.Tokens.{Kind, name, number, typed, duration, mark, Token, token}
use Rattle.fb_model.specs.Spelling.{is_layout, IsLexeme, IsLongest, Fits, IsGap, OpensNone, Stands, Spells, end, gap, next, Leads, here, over_gap, over_token, IsBad, IsBig}
use Rattle.fb_lex.specs.Scanning.{scan, closes_at, Between, past, unclosed, nothing, closed_or, gap_at, is_fit}
use Rattle.fb_faults.specs.declared.text.TextFault.{TextFault}
use Rattle.fb_faults.specs.declared.text.TextFault.TheVariants.{OutOfMemory, BadCharacter, Syntax, TooDeep, TooLong, BigNumber}
use Rattle.fb_lex.specs.Lexing.{Passes, Sticks, Exceeds, Steps, Finds, Refuses, Gaps, no_gap, one_more}
use Rattle.fb_lex.proofs.Words.{both_true}
use Rattle.fb_lex.proofs.Sound.{ReadsKind, scan_sound}
use Rattle.fb_lex.proofs.Steps.{gap_sound, gap_found, gap_none, gap_shorter, lexeme_long, scan_shorter}
use Rattle.fb_lex.proofs.CoversNumbers.{Covers, empty, not_true}
use Rattle.fb_lex.proofs.CoversTokens.{covers, is_visible, visible}

-- ---- one token

-- two ways to cut a list
cut : (a x b y : List ℕ) → a ++ x ≡ b ++ y → length y ≤ length x → (more : List ℕ) × (b ≡ a ++ more) × (x ≡ more ++ y)
cut [] x b y e le = (b, refl, e)
cut (c ∷ a) x [] y e le = absurd (let q = ap length e in let r = length-append a x in omega arith)
cut (c ∷ a) x (d ∷ b) y e le =
    let hd : c ≡ d = cc in
    let tl : a ++ x ≡ b ++ y = cc in
    let r = cut a x b y tl le in
    (r.0, ap (λ z. z ∷ b) (sym hd) ∙ ap (λ l. c ∷ l) r.1, r.2)

left_is : (q : Option (Kind × List ℕ)) (k j : Kind) (x y : List ℕ) → q ≡ Some (k, x) → q ≡ Some (j, y) → (k ≡ j) × (x ≡ y)
left_is q k j x y f g = let s : (k, x) ≡ (j, y) = cc in (ap (λ (p : Kind × List ℕ). p.0) s, ap (λ (p : Kind × List ℕ). p.1) s)

-- what is scanned is the longest token
longest : (lexeme rest : List ℕ) (k : Kind) → scan (lexeme ++ rest) ≡ Some (k, rest) → IsLongest lexeme rest
longest lexeme rest k e c more after j r h =
    let v = covers h after in
    let same : (lexeme ++ c ∷ more) ++ after ≡ lexeme ++ rest = append_assoc lexeme (c ∷ more) after ∙ ap (λ l. lexeme ++ l) (sym r) in
    let left : rest ≡ v.left = (left_is _ k v.found rest v.left e (sym (ap scan same) ∙ v.is)).1 in
    let a = ap length left in
    let b = ap length r in
    let d = length-append more after in
    let le = v.no_less in
    omega arith

-- the longest token is scanned
scan_found : (lexeme rest : List ℕ) (k : Kind) → IsLexeme lexeme k → IsLongest lexeme rest → scan (lexeme ++ rest) ≡ Some (k, rest)
scan_found lexeme rest k h long =
    let v = covers h rest in
    let r : ReadsKind (lexeme ++ rest) (Some (v.found, v.left)) = subst (λ q. ReadsKind (lexeme ++ rest) q) v.is (scan_sound (lexeme ++ rest)) in
    let p = cut lexeme rest r.0 v.left r.2 v.no_less in
    by_more p.0 v p.1 p.2 r.1 where
      by_more : (more : List ℕ) (v : Covers (scan (lexeme ++ rest)) k rest) {front : List ℕ} → front ≡ lexeme ++ more → rest ≡ more ++ v.left → IsLexeme front v.found → scan (lexeme ++ rest) ≡ Some (k, rest)
      by_more [] v e f g = v.is ∙ ap (λ l. Some (v.found, l)) (sym f) ∙ ap (λ j. Some (j, rest)) (v.same (ap length (sym f)))
      by_more (c ∷ more) v e f g = absurd (long c more v.left v.found f (subst (λ l. IsLexeme l v.found) e g))

fit_is : (k : Kind) → is_fit k ≡ true → Fits k
fit_is (name x) h = tt
fit_is (number n) h = ltb-true n (2 ^ 64) h
fit_is (typed t negative n) h = ltb-true n (2 ^ 64) h
fit_is (duration negative n) h = ltb-true n (2 ^ 63) h
fit_is (mark k) h = tt

is_fit_at : (k : Kind) → Fits k → is_fit k ≡ true
is_fit_at (name x) h = refl
is_fit_at (number n) h = lt-ltb n (2 ^ 64) h
is_fit_at (typed t negative n) h = lt-ltb n (2 ^ 64) h
is_fit_at (duration negative n) h = lt-ltb n (2 ^ 63) h
is_fit_at (mark k) h = refl

token_no_gap : (bytes : List ℕ) → is_visible bytes ≡ true → OpensNone bytes → gap_at bytes ≡ nothing
unfolding gap_at is_visible
token_no_gap [] v f = refl
token_no_gap (c ∷ []) v f = ap (λ b. cond b (past []) nothing) (not_true (is_layout c) v)
token_no_gap (c ∷ d ∷ cs) v f =
    ap (λ b. cond b (past (d ∷ cs)) (cond ((c == 40) && (d == 42)) (closed_or (closes_at cs)) nothing)) (not_true (is_layout c) v)
    ∙ ap (λ b. cond b (closed_or (closes_at cs)) nothing) (false_from_ne_true ((c == 40) && (d == 42)) (λ t. let p = both_true (c == 40) (d == 42) t in f cs (ap (λ x. x ∷ d ∷ cs) (eqb-true c 40 p.0) ∙ ap (λ x. 40 ∷ x ∷ cs) (eqb-true d 42 p.1))))

stands_no_gap : {bytes lexeme rest : List ℕ} {k : Kind} → Stands bytes lexeme rest k → gap_at bytes ≡ nothing
stands_no_gap {bytes = bytes} {rest = rest} s = token_no_gap bytes (ap is_visible s.is ∙ visible s.lexeme_is rest) s.opens_none

stands_scan : {bytes lexeme rest : List ℕ} {k : Kind} → Stands bytes lexeme rest k → scan bytes ≡ Some (k, rest)
stands_scan {lexeme = lexeme} {rest = rest} {k = k} s = ap scan s.is ∙ scan_found lexeme rest k s.lexeme_is s.longest

scan_stands : (bytes rest : List ℕ) (k : Kind) → gap_at bytes ≡ nothing → scan bytes ≡ Some (k, rest) → (lexeme : List ℕ) × Stands bytes lexeme rest k
scan_stands bytes rest k g e =
    let r : ReadsKind bytes (Some (k, rest)) = subst (λ q. ReadsKind bytes q) e (scan_sound bytes) in
    (r.0, record { is = r.2; lexeme_is = r.1; longest = longest r.0 rest k (sym (ap scan r.2) ∙ e); opens_none = gap_none bytes g })

stands_length : {bytes lexeme rest : List ℕ} {k : Kind} → Stands bytes lexeme rest k → (length bytes ≡ length lexeme + length rest) × (0 < length lexeme)
stands_length {lexeme = lexeme} {rest = rest} s = (ap length s.is ∙ length-append lexeme rest, lexeme_long s.lexeme_is)

-- ---- how a text goes on

gap_left : (bytes x y : List ℕ) → gap_at bytes ≡ past x → gap_at bytes ≡ past y → x ≡ y
gap_left bytes x y f g = cc

after_gap : {at : ℕ} {bytes : List ℕ} {ts : List Token} → Spells at bytes ts → (left : List ℕ) → gap_at bytes ≡ past left → Spells (at + (length bytes - length left)) left ts
unfolding gap_at
after_gap end left e = absurd cc
after_gap {at = at} {bytes = bytes} {ts = ts} (gap {rest = rest} h t) left e = subst (λ l. Spells (at + (length bytes - length l)) l ts) (gap_left bytes rest left (gap_found h) e) t
after_gap (next s fits t) left e = let n = stands_no_gap s in absurd cc

no_scan : (k : Kind) (rest : List ℕ) → scan [] ≡ Some (k, rest) → ⊥
no_scan k rest e = let a = scan_shorter [] rest k e in omega arith

after_token : {at : ℕ} {bytes : List ℕ} {ts : List Token} → Spells at bytes ts → (rest : List ℕ) (k : Kind) → gap_at bytes ≡ nothing → scan bytes ≡ Some (k, rest)
    → (us : List Token) × Spells (at + (length bytes - length rest)) rest us × (ts ≡ token k at (at + (length bytes - length rest)) ∷ us)
after_token end rest k g e = absurd (no_scan k rest e)
after_token (gap h t) rest k g e = let f = gap_found h in absurd cc
after_token {at = at} {bytes = bytes} (next {lexeme = lexeme} {rest = more} {k = j} {ts = us} s fits t) rest k g e =
    let same = left_is (scan bytes) j k more rest (stands_scan s) e in
    let l = stands_length s in
    let m = ap length same.1 in
    let place : at + length lexeme ≡ at + (length bytes - length rest) = omega (arith, l.0) in
    (us, subst (λ n. Spells n rest us) place (subst (λ r. Spells (at + length lexeme) r us) same.1 t), ap (λ n. token j at n ∷ us) place ∙ ap (λ i. token i at (at + (length bytes - length rest)) ∷ us) same.0)

after_all : {at : ℕ} {bytes : List ℕ} {ts : List Token} → Spells at bytes ts → length bytes ≡ 0 → ts ≡ []
after_all end e = refl
after_all (gap h t) e = let a = gap_shorter h in absurd (omega arith)
after_all (next s fits t) e = let l = stands_length s in absurd (omega (arith, l.0, l.1))

leads_gap : {from at : ℕ} {bytes rest : List ℕ} → Leads from bytes at rest → (left : List ℕ) → IsGap rest left → Leads from bytes (at + (length rest - length left)) left
leads_gap here left g = over_gap g here
leads_gap (over_gap h l) left g = over_gap h (leads_gap l left g)
leads_gap (over_token s fits l) left g = over_token s fits (leads_gap l left g)

leads_token : {from at : ℕ} {bytes rest : List ℕ} → Leads from bytes at rest → {lexeme left : List ℕ} {k : Kind} → Stands rest lexeme left k → Fits k → Leads from bytes (at + length lexeme) left
leads_token here s f = over_token s f here
leads_token (over_gap h l) s f = over_gap h (leads_token l s f)
leads_token (over_token t fits l) s f = over_token t fits (leads_token l s f)

-- ---- where the lexer is

-- The tokens before a place are these, and every way to spell the text begins with them.
pub record Reached (bytes : List ℕ) (at : ℕ) (rest : List ℕ) (ts : List Token) : Type 0 where
  pub leads : Leads 0 bytes at rest
  pub whole : (us : List Token) → Spells at rest us → Spells 0 bytes (ts ++ us)
  pub only : (us : List Token) → Spells 0 bytes us → (vs : List Token) × Spells at rest vs × (us ≡ ts ++ vs)

pub at_start : (bytes : List ℕ) → Reached bytes 0 bytes []
at_start bytes = record { leads = here; whole = λ us s. s; only = λ us s. (us, s, refl) }

over_a_gap : (bytes rest left : List ℕ) (at : ℕ) (ts : List Token) → Reached bytes at rest ts → gap_at rest ≡ past left → Reached bytes (at + (length rest - length left)) left ts
over_a_gap bytes rest left at ts r g =
    record {
      leads = leads_gap r.leads left (gap_sound rest left g);
      whole = λ us s. r.whole us (gap (gap_sound rest left g) s);
      only = λ us s. let o = r.only us s in (o.0, after_gap o.1 left g, o.2);
    }

over_a_token : (bytes rest left : List ℕ) (at : ℕ) (ts : List Token) (k : Kind) → Reached bytes at rest ts → gap_at rest ≡ nothing → scan rest ≡ Some (k, left) → is_fit k ≡ true
    → Reached bytes (at + (length rest - length left)) left (ts ++ token k at (at + (length rest - length left)) ∷ [])
over_a_token bytes rest left at ts k r g e f =
    let s = scan_stands rest left k g e in
    let l = stands_length s.1 in
    let place : at + length s.0 ≡ at + (length rest - length left) = omega (arith, l.0) in
    let fits = fit_is k f in
    let to = at + (length rest - length left) in
    record {
      leads = subst (λ n. Leads 0 bytes n left) place (leads_token r.leads s.1 fits);
      whole = λ us t. subst (λ xs. Spells 0 bytes xs) (ap (λ n. ts ++ token k at n ∷ us) place ∙ sym (append_assoc ts (token k at to ∷ []) us)) (r.whole (token k at (at + length s.0) ∷ us) (next s.1 fits (subst (λ n. Spells n left us) (sym place) t)));
      only = λ us t.
          let o = r.only us t in
          let a = after_token o.1 left k g e in
          (a.0, a.1, o.2 ∙ ap (λ xs. ts ++ xs) a.2 ∙ sym (append_assoc ts (token k at to ∷ []) a.0));
    }

pub steps_on : (total : ℕ) (bytes rest left : List ℕ) (before after : List Token) → length rest ≤ total → Reached bytes (total - length rest) rest before → Passes total rest left before after (gap_at rest)
    → Reached bytes (total - length left) left after
steps_on total bytes rest left before after le r p = by_gap (gap_at rest) refl p where
  by_gap : (q : Between) → gap_at rest ≡ q → Passes total rest left before after q → Reached bytes (total - length left) left after
  by_gap (past behind) g (same, kept) =
      let a = gap_shorter (gap_sound rest behind g) in
      let b = ap length same in
      let place : total - length rest + (length rest - length behind) ≡ total - length left = omega arith in
      subst (λ ts. Reached bytes (total - length left) left ts) (sym kept) (subst (λ l. Reached bytes (total - length left) l before) same (subst (λ n. Reached bytes n behind before) place (over_a_gap bytes rest behind (total - length rest) before r g)))
  by_gap unclosed g p = absurd p
  by_gap nothing g (k, e, f, more) =
      let a = scan_shorter rest left k e in
      let place : total - length rest + (length rest - length left) ≡ total - length left = omega arith in
      subst (λ ts. Reached bytes (total - length left) left ts) (sym more) (subst (λ n. Reached bytes n left (before ++ token k (total - length rest) n ∷ [])) place (over_a_token bytes rest left (total - length rest) before k r g e f))

pub gaps_on : {from left : List ℕ} → Gaps from left → (total : ℕ) (bytes : List ℕ) (ts : List Token) → length from ≤ total → Reached bytes (total - length from) from ts
    → (length left ≤ length from) × Reached bytes (total - length left) left ts
gaps_on no_gap total bytes ts le r = (omega arith, r)
gaps_on (one_more {rest = rest} {left = left} before g) total bytes ts le r =
    let a = gaps_on before total bytes ts le r in
    let b = gap_shorter g in
    let e = a.0 in
    let place : total - length rest + (length rest - length left) ≡ total - length left = omega arith in
    (omega arith, subst (λ n. Reached bytes n left ts) place (over_a_gap bytes rest left (total - length rest) ts a.1 (gap_found g)))

pub gaps_shorter : {from left : List ℕ} → Gaps from left → length left ≤ length from
gaps_shorter no_gap = omega arith
gaps_shorter (one_more before g) = let a = gaps_shorter before in let b = gap_shorter g in omega arith

-- ---- what a text is

pub spelled_whole : (bytes rest : List ℕ) (at : ℕ) (ts : List Token) → Reached bytes at rest ts → length rest ≡ 0 → Spells 0 bytes ts
spelled_whole bytes rest at ts r e = subst (λ xs. Spells 0 bytes xs) (append-nil ts) (r.whole [] (subst (λ l. Spells at l []) (sym (empty rest e)) end))

pub spelled_only : (bytes rest : List ℕ) (at : ℕ) (ts us : List Token) → Reached bytes at rest ts → length rest ≡ 0 → Spells 0 bytes us → ts ≡ us
spelled_only bytes rest at ts us r e s = let o = r.only us s in sym (o.2 ∙ ap (λ xs. ts ++ xs) (after_all o.1 e) ∙ append-nil ts)

not_empty : (bytes : List ℕ) → 0 < length bytes → bytes ≢ []
not_empty bytes lt e = let a = ap length e in omega arith

pub sticks_bad : (bytes : List ℕ) → 0 < length bytes → Sticks bytes (gap_at bytes) → IsBad bytes
sticks_bad bytes lt h = by_gap (gap_at bytes) refl h where
  by_gap : (q : Between) → gap_at bytes ≡ q → Sticks bytes q → IsBad bytes
  by_gap (past left) g s = absurd s
  by_gap unclosed g s = record { some = not_empty bytes lt; no_gap = λ rest i. let f = gap_found i in absurd cc; no_token = λ lexeme rest k st. let n = stands_no_gap st in absurd cc }
  by_gap nothing g s = record { some = not_empty bytes lt; no_gap = λ rest i. let f = gap_found i in absurd cc; no_token = λ lexeme rest k st. let f = stands_scan st in absurd cc }

pub exceeds_big : (bytes : List ℕ) → Exceeds bytes (gap_at bytes) → IsBig bytes
exceeds_big bytes h = by_gap (gap_at bytes) refl h where
  by_gap : (q : Between) → gap_at bytes ≡ q → Exceeds bytes q → IsBig bytes
  by_gap (past left) g s = absurd s
  by_gap unclosed g s = absurd s
  by_gap nothing g (k, rest, e, f) =
      let s = scan_stands bytes rest k g e in
      record { lexeme = s.0; rest = rest; kind = k; stands = s.1; beyond = λ b. let t = is_fit_at k b in absurd cc }

-- nothing is spelled where something is wrong
no_spelling_bad : {at : ℕ} {bytes : List ℕ} {ts : List Token} → IsBad bytes → Spells at bytes ts → ⊥
no_spelling_bad b end = b.some refl
no_spelling_bad b (gap {rest = rest} h t) = b.no_gap rest h
no_spelling_bad b (next {lexeme = lexeme} {rest = rest} {k = k} s f t) = b.no_token lexeme rest k s

no_spelling_big : {at : ℕ} {bytes : List ℕ} {ts : List Token} → IsBig bytes → Spells at bytes ts → ⊥
no_spelling_big {bytes = bytes} b end = let l = stands_length b.stands in omega (arith, l.0, l.1)
no_spelling_big b (gap h t) = let f = gap_found h in let n = stands_no_gap b.stands in absurd cc
no_spelling_big {bytes = bytes} b (next {rest = rest} {k = k} s f t) =
    b.beyond (subst (λ j. Fits j) (left_is (scan bytes) k b.kind rest b.rest (stands_scan s) (stands_scan b.stands)).0 f)

-- The characters spell one list of tokens.
pub spelled_once : {at : ℕ} {bytes : List ℕ} {ts us : List Token} → Spells at bytes ts → Spells at bytes us → ts ≡ us
spelled_once end t = sym (after_all t refl)
spelled_once (gap {rest = rest} h s) t = spelled_once s (after_gap t rest (gap_found h))
spelled_once {at = at} {bytes = bytes} (next {lexeme = lexeme} {rest = rest} {k = k} {ts = vs} st f s) t =
    let a = after_token t rest k (stands_no_gap st) (stands_scan st) in
    let l = stands_length st in
    let place : at + length lexeme ≡ at + (length bytes - length rest) = omega (arith, l.0) in
    let same = spelled_once s (subst (λ n. Spells n rest a.0) (sym place) a.1) in
    ap (λ n. token k at n ∷ vs) place ∙ ap (λ xs. token k at (at + (length bytes - length rest)) ∷ xs) same ∙ sym a.2

-- ---- one fault

abbrev pub IsWrong : List ℕ → Type 0
IsWrong bytes = IsBad bytes ⊎ IsBig bytes

wrong_no_gap : {bytes rest : List ℕ} → IsWrong bytes → IsGap bytes rest → ⊥
wrong_no_gap {rest = rest} (inl b) h = b.no_gap rest h
wrong_no_gap (inr b) h = let f = gap_found h in let n = stands_no_gap b.stands in absurd cc

wrong_no_token : {bytes lexeme rest : List ℕ} {k : Kind} → IsWrong bytes → Stands bytes lexeme rest k → Fits k → ⊥
wrong_no_token {lexeme = lexeme} {rest = rest} {k = k} (inl b) s f = b.no_token lexeme rest k s
wrong_no_token {bytes = bytes} {rest = rest} {k = k} (inr b) s f = b.beyond (subst (λ j. Fits j) (left_is (scan bytes) k b.kind rest b.rest (stands_scan s) (stands_scan b.stands)).0 f)

gap_no_token : {bytes lexeme rest left : List ℕ} {k : Kind} → IsGap bytes left → Stands bytes lexeme rest k → ⊥
gap_no_token h s = let f = gap_found h in let n = stands_no_gap s in absurd cc

after_lead_gap : {at to : ℕ} {bytes left : List ℕ} → Leads at bytes to left → IsWrong left → (rest : List ℕ) → IsGap bytes rest → Leads (at + (length bytes - length rest)) rest to left
after_lead_gap here w rest h = absurd (wrong_no_gap w h)
after_lead_gap {at = at} {to = to} {bytes = bytes} {left = left} (over_gap {rest = more} g l) w rest h = subst (λ r. Leads (at + (length bytes - length r)) r to left) (gap_left bytes more rest (gap_found g) (gap_found h)) l
after_lead_gap (over_token s f l) w rest h = absurd (gap_no_token h s)

after_lead_token : {at to : ℕ} {bytes left lexeme rest : List ℕ} {k : Kind} → Leads at bytes to left → IsWrong left → Stands bytes lexeme rest k → Fits k → Leads (at + length lexeme) rest to left
after_lead_token here w s f = absurd (wrong_no_token w s f)
after_lead_token (over_gap g l) w s f = absurd (gap_no_token g s)
after_lead_token {at = at} {to = to} {bytes = bytes} {left = left} {lexeme = lexeme} {rest = rest} {k = k} (over_token {lexeme = other} {rest = more} {k = j} t g l) w s f =
    let same = left_is (scan bytes) j k more rest (stands_scan t) (stands_scan s) in
    let m = ap length same.1 in
    let a = stands_length t in
    let b = stands_length s in
    let place : at + length other ≡ at + length lexeme = omega (arith, a.0, b.0) in
    subst (λ n. Leads n rest to left) place (subst (λ r. Leads (at + length other) r to left) same.1 l)

pub one_place : {at x y : ℕ} {bytes l m : List ℕ} → Leads at bytes x l → IsWrong l → Leads at bytes y m → IsWrong m → (x ≡ y) × (l ≡ m)
one_place here w here v = (refl, refl)
one_place here w (over_gap g k) v = absurd (wrong_no_gap w g)
one_place here w (over_token s f k) v = absurd (wrong_no_token w s f)
one_place (over_gap {rest = rest} g l) w k v = one_place l w (after_lead_gap k v rest g) v
one_place (over_token s f l) w k v = one_place l w (after_lead_token k v s f) v

pub not_both : {bytes : List ℕ} → IsBad bytes → IsBig bytes → ⊥
not_both b g = b.no_token g.lexeme g.rest g.kind g.stands

pub fault_unspelled : {at to : ℕ} {bytes left : List ℕ} {ts : List Token} → Leads at bytes to left → IsWrong left → Spells at bytes ts → ⊥
fault_unspelled here (inl b) s = no_spelling_bad b s
fault_unspelled here (inr b) s = no_spelling_big b s
fault_unspelled (over_gap {rest = rest} g l) w s = fault_unspelled l w (after_gap s rest (gap_found g))
fault_unspelled {at = at} {bytes = bytes} (over_token {lexeme = lexeme} {rest = rest} {k = k} st f l) w s =
    let a = after_token s rest k (stands_no_gap st) (stands_scan st) in
    let n = stands_length st in
    let place : at + (length bytes - length rest) ≡ at + length lexeme = omega (arith, n.0) in
    fault_unspelled l w (subst (λ p. Spells p rest a.0) place a.1)

-- ---- a step that fails

pub refuse : (text rest : List ℕ) (before after : List Token) (f : TextFault) → 0 < length rest → Reached text (length text - length rest) rest before → Steps (length text) rest before after (Err f) → Refuses f text
refuse text rest before after OutOfMemory lt r s = tt
refuse text rest before after (BadCharacter a) lt r s = (rest, subst (λ n. Leads 0 text n rest) (sym s.0) r.leads, sticks_bad rest lt s.1)
refuse text rest before after (BigNumber a) lt r s = (rest, subst (λ n. Leads 0 text n rest) (sym s.0) r.leads, exceeds_big rest s.1)
refuse text rest before after (Syntax a) lt r s = absurd s
refuse text rest before after (TooDeep a) lt r s = absurd s
refuse text rest before after TooLong lt r s = absurd s

pub unfound : (text rest : List ℕ) (before after ts : List Token) (f : TextFault) → 0 < length rest → Reached text (length text - length rest) rest before → Steps (length text) rest before after (Err f) → Spells 0 text ts → Finds (Err f) ts
unfound text rest before after ts OutOfMemory lt r s t = tt
unfound text rest before after ts (BadCharacter a) lt r s t = fault_unspelled r.leads (inl (sticks_bad rest lt s.1)) t
unfound text rest before after ts (BigNumber a) lt r s t = fault_unspelled r.leads (inr (exceeds_big rest s.1)) t
unfound text rest before after ts (Syntax a) lt r s t = absurd s
unfound text rest before after ts (TooDeep a) lt r s t = absurd s
unfound text rest before after ts TooLong lt r s t = absurd s
