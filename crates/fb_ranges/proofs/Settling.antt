-- Variables that get their rows back, and what these are asked.
use Rattle.std.proofs.Common.{◌≡◌, ℕ, ◌+◌, ◌-◌, ◌<◌, ◌≤◌, Bool, true, false, not, ◌||◌, List, [], ◌∷◌, ◌++◌, length, take, drop, get_or, refl, sym, ap, ap₂, subst, ◌∙◌, arith}
use Rattle.std.proofs.Math.Path.{fun_ext}
use Rattle.std.proofs.Math.Seq.{take-append_seam}
use Rattle.std.proofs.lemmas.List.{append_assoc, append-nil, length-append, length-map, take-map}
use Rattle.std.specs.Prelude.{if◌then◌else◌, string_bytes, ◌&&◌}
use Rattle.std.specs.Borrow.{Bor}
use Rattle.st_types.specs.declared.term.VariableName.{VariableName}
use Rattle.st_types.proofs.Gathering.{drop_step}
use Rattle.fb_ranges.specs.Views.{names_of}
use Rattle.std.specs.Str.{bytes_eq}
use Rattle.fb_words.proofs.Types.{le_true}
use Rattle.std.proofs.lemmas.Int.{ints}
use Rattle.fb_model.specs.Names.{Name, is_in}
use Rattle.fb_model.specs.Spans.{Span, joined, within}
use Rattle.fb_model.specs.Clear.{Spans, are_kept, changed, reset}
use Rattle.fb_model.proofs.Lists.{same_name}
use Rattle.fb_model.proofs.Names.{at_itself}
use Rattle.fb_model.proofs.Placed.{name_same}
use Rattle.fb_model.specs.Asking.{asking, asking_all}
use Rattle.fb_ranges.specs.Settling.{HaveRows, LastHaveRows, held}
use Rattle.fb_ranges.proofs.Covers.{joined_again, joined_turned, joined_twice}
use Rattle.fb_ranges.proofs.Sides.{changed_same}

-- ---- what is asked that is held already

-- ranges that hold those of others
abbrev pub Hold : Spans → Spans → Type 0
Hold rows q = (x : Name) → joined (q x) (rows x) ≡ q x

pub held_hold : (rows asked : Spans) → Hold rows (held rows asked)
held_hold rows asked x = ap (λ r. joined r (rows x)) (joined_turned (rows x) (asked x)) ∙ joined_twice (asked x) (rows x) ∙ joined_turned (asked x) (rows x)

-- a range that holds another, with a third
joined_on : (q r u : Span) → joined q u ≡ q → joined (joined q r) u ≡ joined q r
joined_on q r u h = sym (joined_again q r u) ∙ ap (joined q) (joined_turned r u) ∙ joined_again q u r ∙ ap (λ p. joined p r) h

-- what holds a range holds it behind a question
holds_on : (y x : Name) (r u : Span) (q : Spans) → joined (q x) u ≡ q x → joined (asking y r q x) u ≡ asking y r q x
holds_on y x r u q h = by (bytes_eq y x) where
  by : (b : Bool) → joined (if b then joined (q x) r else q x) u ≡ (if b then joined (q x) r else q x)
  by true = joined_on (q x) r u h
  by false = h

asking_hold : (rows q : Spans) (y : Name) (r : Span) → Hold rows q → Hold rows (asking y r q)
asking_hold rows q y r h x = holds_on y x r (rows x) q (h x)

pub all_hold : (xs : List Name) (rows s q : Spans) → Hold rows q → Hold rows (asking_all xs s q)
all_hold [] rows s q h = h
all_hold (x ∷ xs) rows s q h = all_hold xs rows s (asking x (s x) q) (asking_hold rows q x (s x) h)

-- asking for what is held
asking_none : (x : Name) (r : Span) (q : Spans) → joined (q x) r ≡ q x → asking x r q ≡ q
asking_none x r q h = sym (changed_same x (λ b. joined b r) q h)

-- rows, and what they are asked to hold
pub held_asking : (rows q : Spans) (x : Name) (r : Span) → held rows (asking x r q) ≡ asking x r (held rows q)
held_asking rows q x r = fun_ext (λ y. by y (bytes_eq x y)) where
  by : (y : Name) (b : Bool) → joined (rows y) (if b then joined (q y) r else q y) ≡ (if b then joined (joined (rows y) (q y)) r else joined (rows y) (q y))
  by y true = joined_again (rows y) (q y) r
  by y false = refl

pub held_in : (rows q : Spans) (x : Name) (r : Span) → joined (rows x) r ≡ rows x → held rows q ≡ asking x r (held rows q)
held_in rows q x r h = sym (asking_none x r (held rows q) (ap (λ p. joined p r) (joined_turned (rows x) (q x)) ∙ sym (joined_again (q x) (rows x) r) ∙ ap (joined (q x)) h ∙ joined_turned (q x) (rows x)))

-- ---- variables that have their rows

have_first : (x : Name) (xs : List Name) (rows s : Spans) → HaveRows (x ∷ xs) rows s → s x ≡ rows x
have_first x xs rows s h = h x (ap (λ b. b || is_in x xs) (name_same x))

or_later : (a b : Bool) → b ≡ true → (a || b) ≡ true
or_later true b h = refl
or_later false b h = h

pub have_later : (x : Name) (xs : List Name) (rows s : Spans) → HaveRows (x ∷ xs) rows s → HaveRows xs rows s
have_later x xs rows s h = λ y i. h y (or_later (bytes_eq y x) (is_in y xs) i)

front_in : (y : Name) (xs ys : List Name) → is_in y xs ≡ true → is_in y (xs ++ ys) ≡ true
front_in y [] ys h = absurd cc
front_in y (x ∷ xs) ys h = by (bytes_eq y x) h (front_in y xs ys) where
  by : (b : Bool) → (b || is_in y xs) ≡ true → (is_in y xs ≡ true → is_in y (xs ++ ys) ≡ true) → (b || is_in y (xs ++ ys)) ≡ true
  by true e next = refl
  by false e next = next e

pub have_front : (xs ys : List Name) (rows s : Spans) → HaveRows (xs ++ ys) rows s → HaveRows xs rows s
have_front xs ys rows s h = λ y i. h y (front_in y xs ys i)

-- they ask nothing
rows_ask : (xs : List Name) (rows s q : Spans) → HaveRows xs rows s → Hold rows q → asking_all xs s q ≡ q
rows_ask [] rows s q h holds = refl
rows_ask (x ∷ xs) rows s q h holds =
    ap (asking_all xs s) (asking_none x (s x) q (ap (joined (q x)) (have_first x xs rows s h) ∙ holds x))
    ∙ rows_ask xs rows s q (have_later x xs rows s h) holds

int_itself : (r : Span) → within r r ≡ true
int_itself r = ap₂ ◌&&◌ (le_true r.low r.low (omega (arith, ints))) (le_true r.high r.high (omega (arith, ints)))

pub within_same : (r s : Span) → r ≡ s → within r s ≡ true
within_same r s e = ap (within r) (sym e) ∙ int_itself r

-- and lie in their rows
rows_kept : (xs : List Name) (rows s : Spans) → HaveRows xs rows s → are_kept xs rows s ≡ true
rows_kept [] rows s h = refl
rows_kept (x ∷ xs) rows s h = ap₂ ◌&&◌ (within_same (s x) (rows x) (have_first x xs rows s h)) (rows_kept xs rows s (have_later x xs rows s h))

-- ---- the others before them

asking_both : (xs ys : List Name) (s q : Spans) → asking_all (xs ++ ys) s q ≡ asking_all ys s (asking_all xs s q)
asking_both [] ys s q = refl
asking_both (x ∷ xs) ys s q = asking_both xs ys s (asking x (s x) q)

and_again : (a b c : Bool) → (a && (b && c)) ≡ ((a && b) && c)
and_again true b c = refl
and_again false b c = refl

and_true : (a : Bool) → (a && true) ≡ a
and_true true = refl
and_true false = refl

kept_both : (xs ys : List Name) (rows s : Spans) → are_kept (xs ++ ys) rows s ≡ (are_kept xs rows s && are_kept ys rows s)
kept_both [] ys rows s = refl
kept_both (x ∷ xs) ys rows s = ap (λ b. within (s x) (rows x) && b) (kept_both xs ys rows s) ∙ and_again (within (s x) (rows x)) (are_kept xs rows s) (are_kept ys rows s)

in_both : (y : Name) (xs ys : List Name) → is_in y (xs ++ ys) ≡ (is_in y xs || is_in y ys)
in_both y [] ys = refl
in_both y (x ∷ xs) ys = ap (λ b. bytes_eq y x || b) (in_both y xs ys) ∙ or_again (bytes_eq y x) (is_in y xs) (is_in y ys) where
  or_again : (a b c : Bool) → (a || (b || c)) ≡ ((a || b) || c)
  or_again true b c = refl
  or_again false b c = refl

front_ask : (xs ys : List Name) (rows s q : Spans) → HaveRows ys rows s → Hold rows q → asking_all xs s q ≡ asking_all (xs ++ ys) s q
front_ask xs ys rows s q h holds = sym (rows_ask ys rows s (asking_all xs s q) h (all_hold xs rows s q holds)) ∙ sym (asking_both xs ys s q)

front_kept : (xs ys : List Name) (rows s : Spans) → HaveRows ys rows s → are_kept xs rows s ≡ are_kept (xs ++ ys) rows s
front_kept xs ys rows s h = sym (and_true (are_kept xs rows s)) ∙ ap (λ b. are_kept xs rows s && b) (sym (rows_kept ys rows s h)) ∙ sym (kept_both xs ys rows s)

front_reset : (xs ys : List Name) (rows s : Spans) → HaveRows ys rows s → reset xs rows s ≡ reset (xs ++ ys) rows s
front_reset xs ys rows s h = fun_ext (λ y. by y (is_in y xs) (is_in y ys) refl ∙ ap (λ b. if b then rows y else s y) (sym (in_both y xs ys))) where
  by : (y : Name) (a b : Bool) → is_in y ys ≡ b → (if a then rows y else s y) ≡ (if a || b then rows y else s y)
  by y true b e = refl
  by y false true e = h y e
  by y false false e = refl

-- ---- the last that have their rows

-- how many the others are
pub last_many : (n : ℕ) (xs : List Name) (rows s : Spans) → LastHaveRows n xs rows s → n ≤ length xs
last_many n xs rows s h = let e : length xs ≡ length h.front + length h.back = ap length h.all ∙ length-append h.front h.back in let f : length h.back ≡ n = h.many in omega (arith, e, f)

pub others_are : (n k : ℕ) (xs : List Name) (rows s : Spans) (h : LastHaveRows n xs rows s) → k ≡ length xs - n → take k xs ≡ h.front
others_are n k xs rows s h is =
    let e : length xs ≡ length h.front + length h.back = ap length h.all ∙ length-append h.front h.back in
    let f : length h.back ≡ n = h.many in
    let g : k ≡ length h.front = omega (arith, e, f, is) in
    ap₂ take g h.all ∙ take-append_seam h.front h.back

module _ (n k : ℕ) (xs : List Name) (rows s : Spans) (h : LastHaveRows n xs rows s) (is : k ≡ length xs - n) where
  pub last_ask : (q : Spans) → Hold rows q → asking_all (take k xs) s q ≡ asking_all xs s q
  last_ask q holds = ap (λ ys. asking_all ys s q) (others_are n k xs rows s h is) ∙ front_ask h.front h.back rows s q h.have holds ∙ ap (λ ys. asking_all ys s q) (sym h.all)

  pub last_kept : are_kept (take k xs) rows s ≡ are_kept xs rows s
  last_kept = ap (λ ys. are_kept ys rows s) (others_are n k xs rows s h is) ∙ front_kept h.front h.back rows s h.have ∙ ap (λ ys. are_kept ys rows s) (sym h.all)

  pub last_reset : reset (take k xs) rows s ≡ reset xs rows s
  last_reset = ap (λ ys. reset ys rows s) (others_are n k xs rows s h is) ∙ front_reset h.front h.back rows s h.have ∙ ap (λ ys. reset ys rows s) (sym h.all)

-- the same of listed variables
module _ (names : List (Bor VariableName)) (n : ℕ) (rows s : Spans) (h : LastHaveRows n (names_of names) rows s) where
  abbrev others : ℕ
  others = length names - n

  long : others ≡ length (names_of names) - n
  long = ap (λ m. m - n) (sym (length-map names (λ v. string_bytes v.now.name)))

  taken : names_of (take others names) ≡ take others (names_of names)
  taken = sym (take-map (λ (v : Bor VariableName). string_bytes v.now.name) others names)

  pub named_ask : (q : Spans) → Hold rows q → asking_all (names_of (take (length names - n) names)) s q ≡ asking_all (names_of names) s q
  named_ask q holds = ap (λ ys. asking_all ys s q) taken ∙ last_ask n others (names_of names) rows s h long q holds

  pub named_kept : are_kept (names_of (take (length names - n) names)) rows s ≡ are_kept (names_of names) rows s
  named_kept = ap (λ ys. are_kept ys rows s) taken ∙ last_kept n others (names_of names) rows s h long

  pub named_reset : reset (names_of (take (length names - n) names)) rows s ≡ reset (names_of names) rows s
  named_reset = ap (λ ys. reset ys rows s) taken ∙ last_reset n others (names_of names) rows s h long

-- none of them
pub none_last : (xs : List Name) (rows s : Spans) → LastHaveRows 0 xs rows s
none_last xs rows s = record { front = xs; back = []; all = sym (append-nil xs); many = refl; have = λ x i. absurd cc }

pub none_known : (n : ℕ) (xs : List Name) (rows s : Spans) → n ≡ 0 → LastHaveRows n xs rows s
none_known n xs rows s e = subst (λ k. LastHaveRows k xs rows s) (sym e) (none_last xs rows s)

-- all of them
pub all_last : (xs : List Name) (rows s : Spans) → HaveRows xs rows s → LastHaveRows (length xs) xs rows s
all_last xs rows s h = record { front = []; back = xs; all = refl; many = refl; have = h }

pub if_last : (b : Bool) (n : ℕ) (xs : List Name) (rows s : Spans) → n ≡ (if b then length xs else 0) → (b ≡ true → HaveRows xs rows s) → LastHaveRows n xs rows s
if_last b n xs rows s e h = subst (λ k. LastHaveRows k xs rows s) (sym e) (by b h) where
  by : (b : Bool) → (b ≡ true → HaveRows xs rows s) → LastHaveRows (if b then length xs else 0) xs rows s
  by true h = all_last xs rows s (h refl)
  by false h = none_last xs rows s

-- of listed variables, all or none
pub if_named : (b : Bool) (n : ℕ) (names : List (Bor VariableName)) (xs : List Name) (rows s : Spans) → names_of names ≡ xs → n ≡ (if b then length names else 0) → (b ≡ true → HaveRows xs rows s) → LastHaveRows n xs rows s
if_named b n names xs rows s named e h = if_last b n xs rows s (e ∙ ap (λ m. if b then m else 0) (sym (length-map names (λ v. string_bytes v.now.name)) ∙ ap length named)) h

-- the last of a longer list
pub longer_last : (n : ℕ) (ys xs : List Name) (rows s : Spans) → LastHaveRows n xs rows s → LastHaveRows n (ys ++ xs) rows s
longer_last n ys xs rows s h = record { front = ys ++ h.front; back = h.back; all = ap (λ l. ys ++ l) h.all ∙ sym (append_assoc ys h.front h.back); many = h.many; have = h.have }

-- ---- a FOR's own variable

-- the variables that a FOR's body assigns are among its own, and the last of them
pub own_later : (b : Bool) (x : Name) (xs : List Name) (rows s : Spans) → HaveRows (if b then xs else x ∷ xs) rows s → HaveRows xs rows s
own_later true x xs rows s h = h
own_later false x xs rows s h = have_later x xs rows s h

pub own_last : (b : Bool) (n : ℕ) (x : Name) (xs : List Name) (rows s : Spans) → LastHaveRows n xs rows s → LastHaveRows n (if b then xs else x ∷ xs) rows s
own_last true n x xs rows s h = h
own_last false n x xs rows s h = longer_last n (x ∷ []) xs rows s h

not_true : (b : Bool) → not b ≡ true → b ≡ false
not_true true h = cc
not_true false h = refl

-- others keep their rows where one that is none of them changes
pub apart_have : (x : Name) (xs : List Name) (rows s t : Spans) (r : Span) (among : Bool) → among ≡ is_in x xs → not among ≡ true → t ≡ changed x (λ b. r) (reset xs rows s) → HaveRows xs rows t
apart_have x xs rows s t r among tells isnt e = let apart : is_in x xs ≡ false = sym tells ∙ not_true among isnt in λ y i. ap (λ (u : Spans). u y) e ∙ by y (bytes_eq x y) refl i where
  by : (y : Name) (b : Bool) → bytes_eq x y ≡ b → is_in y xs ≡ true → (if b then r else (if is_in y xs then rows y else s y)) ≡ rows y
  by y true f i = let g : is_in x xs ≡ true = ap (λ z. is_in z xs) (same_name x y f) ∙ i in absurd cc
  by y false f i = ap (λ c. if c then rows y else s y) i

-- ---- one variable after another

-- one that has its row back asks nothing more
pub same_asked : (xs : List Name) (x : Name) (rows s q : Spans) → Hold rows q → joined (q x) (s x) ≡ q x → asking_all xs (changed x (λ b. rows x) s) q ≡ asking_all xs s q
same_asked [] x rows s q holds h = refl
same_asked (y ∷ ys) x rows s q holds h = by (bytes_eq x y) refl (same_asked ys x rows s q holds h) (same_asked ys x rows s (asking y (s y) q) (asking_hold rows q y (s y) holds) (holds_on y x (s y) (s x) q h)) where
  asks : Spans → Spans
  asks p = asking_all ys (changed x (λ b. rows x) s) p

  by : (b : Bool) → bytes_eq x y ≡ b → asks q ≡ asking_all ys s q → asks (asking y (s y) q) ≡ asking_all ys s (asking y (s y) q) → asks (asking y (if b then rows x else s y) q) ≡ asking_all ys s (asking y (s y) q)
  by true e same other =
      let is : x ≡ y = same_name x y e in
      let old : asking y (s y) q ≡ q = subst (λ z. asking z (s z) q ≡ q) is (asking_none x (s x) q h) in
      let new : asking y (rows x) q ≡ q = subst (λ z. asking z (rows x) q ≡ q) is (asking_none x (rows x) q (holds x)) in
      ap asks new ∙ same ∙ ap (asking_all ys s) (sym old)
  by false e same other = other

-- and lies in its row where it did before
same_kept : (xs : List Name) (x : Name) (rows s : Spans) → within (s x) (rows x) ≡ true → are_kept xs rows (changed x (λ b. rows x) s) ≡ are_kept xs rows s
same_kept [] x rows s h = refl
same_kept (y ∷ ys) x rows s h = ap₂ ◌&&◌ (by (bytes_eq x y) refl) (same_kept ys x rows s h) where
  by : (b : Bool) → bytes_eq x y ≡ b → within (if b then rows x else s y) (rows y) ≡ within (s y) (rows y)
  by true e =
      let is : x ≡ y = same_name x y e in
      within_same (rows x) (rows y) (ap rows is) ∙ sym (subst (λ z. within (s z) (rows z) ≡ true) is h)
  by false e = refl

and_none : (a : Bool) → (a && false) ≡ false
and_none true = refl
and_none false = refl

-- whether it and those behind it lie in their rows
pub settled_kept : (before w : Bool) (xs : List Name) (x : Name) (rows s : Spans) → w ≡ within (s x) (rows x)
    → ((before && w) && are_kept xs rows (changed x (λ b. rows x) s)) ≡ (before && (within (s x) (rows x) && are_kept xs rows s))
settled_kept before w xs x rows s e = ap (λ b. (before && b) && are_kept xs rows (changed x (λ b. rows x) s)) e ∙ by (within (s x) (rows x)) refl where
  by : (b : Bool) → within (s x) (rows x) ≡ b → ((before && b) && are_kept xs rows (changed x (λ b. rows x) s)) ≡ (before && (b && are_kept xs rows s))
  by true h = ap₂ ◌&&◌ (and_true before) (same_kept xs x rows s h)
  by false h = ap (λ b. b && are_kept xs rows (changed x (λ b. rows x) s)) (and_none before) ∙ sym (and_none before)

-- the next of listed variables has its row back: what all are asked
pub next_settled : (names : List (Bor VariableName)) (i : ℕ) (n : Bor VariableName) (rows spans before now more all : Spans)
    → i < length names → n ≡ get_or names i n
    → asking_all (names_of (drop i names)) spans (held rows before) ≡ all
    → held rows now ≡ asking (string_bytes n.now.name) (spans (string_bytes n.now.name)) (held rows before)
    → more ≡ changed (string_bytes n.now.name) (λ b. rows (string_bytes n.now.name)) spans
    → asking_all (names_of (drop (i + 1) names)) more (held rows now) ≡ all
next_settled names i n rows spans before now more all lt is h put back =
    let x = string_bytes n.now.name in
    let rest = names_of (drop (i + 1) names) in
    let q = held rows before in
    let itself : asking x (spans x) q x ≡ joined (q x) (spans x) = at_itself x (joined (q x) (spans x)) (q x) in
    let holds : joined (held rows now x) (spans x) ≡ held rows now x =
    ap (λ (u : Spans). joined (u x) (spans x)) put ∙ ap (λ r. joined r (spans x)) itself ∙ joined_twice (q x) (spans x) ∙ sym itself ∙ ap (λ (u : Spans). u x) (sym put) in
    ap (λ u. asking_all rest u (held rows now)) back
    ∙ same_asked rest x rows spans (held rows now) (held_hold rows now) holds
    ∙ ap (asking_all rest spans) put
    ∙ ap (λ (l : List (Bor VariableName)). asking_all (names_of l) spans q) (sym (drop_step names i n lt is))
    ∙ h

-- and whether all lie in their rows
pub next_kept : (names : List (Bor VariableName)) (i : ℕ) (n : Bor VariableName) (rows spans more : Spans) (kept before w all : Bool)
    → i < length names → n ≡ get_or names i n
    → w ≡ within (spans (string_bytes n.now.name)) (rows (string_bytes n.now.name))
    → more ≡ changed (string_bytes n.now.name) (λ b. rows (string_bytes n.now.name)) spans
    → (before && are_kept (names_of (drop i names)) rows spans) ≡ all → kept ≡ (before && w)
    → (kept && are_kept (names_of (drop (i + 1) names)) rows more) ≡ all
next_kept names i n rows spans more kept before w all lt is lies back h k =
    let x = string_bytes n.now.name in
    let rest = names_of (drop (i + 1) names) in
    ap₂ (λ b u. b && are_kept rest rows u) k back
    ∙ settled_kept before w rest x rows spans lies
    ∙ ap (λ (l : List (Bor VariableName)). before && are_kept (names_of l) rows spans) (sym (drop_step names i n lt is))
    ∙ h

-- one that is not among the first of these
pub next_apart : (names : List (Bor VariableName)) (i : ℕ) (n : Bor VariableName) (x : Name) (all : Bool) → i < length names → n ≡ get_or names i n → is_in x (names_of (drop i names)) ≡ all → bytes_eq x (string_bytes n.now.name) ≡ false
    → is_in x (names_of (drop (i + 1) names)) ≡ all
next_apart names i n x all lt is h other =
    sym (ap (λ b. b || is_in x (names_of (drop (i + 1) names))) other) ∙ sym (ap (λ (l : List (Bor VariableName)). is_in x (names_of l)) (drop_step names i n lt is)) ∙ h

pub found_among : (names : List (Bor VariableName)) (i : ℕ) (n : Bor VariableName) (x : Name) (all : Bool) → i < length names → n ≡ get_or names i n → is_in x (names_of (drop i names)) ≡ all → bytes_eq x (string_bytes n.now.name) ≡ true → true ≡ all
found_among names i n x all lt is h same =
    sym (ap (λ b. b || is_in x (names_of (drop (i + 1) names))) same) ∙ sym (ap (λ (l : List (Bor VariableName)). is_in x (names_of l)) (drop_step names i n lt is)) ∙ h

-- ---- statements

-- the last of those that are assigned up to here, before the rest of all
abbrev pub Behind : List Name → List Name → ℕ → Spans → Spans → Type 0
Behind all rest n rows s = (done : List Name) × (all ≡ done ++ rest) × LastHaveRows n done rows s

pub behind_none : (all : List Name) (rows s : Spans) → Behind all all 0 rows s
behind_none all rows s = ([], refl, none_last [] rows s)

-- behind one more
pub behind_next : (all rest more xs : List Name) (n m : ℕ) (rows s t : Spans) → rest ≡ xs ++ more → Behind all rest n rows s → LastHaveRows m xs rows t → Behind all more m rows t
behind_next all rest more xs n m rows s t e h one = (h.0 ++ xs, h.1 ∙ ap (λ l. h.0 ++ l) e ∙ sym (append_assoc h.0 xs more), longer_last m h.0 xs rows t one)

-- behind all
pub behind_all : (all rest : List Name) (n : ℕ) (rows s : Spans) → rest ≡ [] → Behind all rest n rows s → LastHaveRows n all rows s
behind_all all rest n rows s e h = subst (λ xs. LastHaveRows n xs rows s) (sym (h.1 ∙ ap (λ l. h.0 ++ l) e ∙ append-nil h.0)) h.2
