-- The laws of lists of items, once for all productions.
use Rattle.std.proofs.Common.{◌≡◌, ℕ, zero, suc, ◌<◌, ◌≤◌, Bool, true, false, cond, List, [], ◌∷◌, length, Option, Some, None, Ok, refl, sym, ap, subst, arith, inl}
use Rattle.fb_words.specs.declared.mark.Mark.{Mark}
use Rattle.fb_model.specs.Tokens.{Token, token, mark}
use Rattle.fb_model.specs.Productions.{Gram, IsMany, none, more, IsSeparated, last, before, IsSection, absent, present}
use Rattle.fb_read.specs.Reading.{Read, ◌>>=◌, is, next_is, after, expect, many_step, many_at, while_step, while_at, separated_step, separated_at, closed_at, section_at}
use Rattle.fb_read.proofs.Readers.{Meets, Sound, Gets, Complete, never, Shorter, Avoids, NotDeep, Shallow, meets_then, meets_as, gets_then, shallow_then, seen, some_left, expect_then, may_open, shallow_expect, shallow_if}

-- items up to a mark, which is left
abbrev pub UpTo : {A : Type 0} → Mark → Gram A → Gram (List A)
UpTo close G ts xs rest = IsMany G ts xs rest × (next_is close rest ≡ true)

-- items and the mark behind them
pub data IsClosed {A : Type 0} (close : Mark) (G : Gram A) : List Token → List A → List Token → Type 0 where
  a_closed : {ts rest : List Token} {s e : ℕ} {xs : List A} → IsMany G ts xs (token (mark close) s e ∷ rest) → IsClosed close G ts xs rest

-- [mark item]
pub data IsOptional {A : Type 0} (k : Mark) (G : Gram A) : List Token → Option A → List Token → Type 0 where
  missing : {ts : List Token} → next_is k ts ≡ false → IsOptional k G ts None ts
  given : {ts rest : List Token} {s e : ℕ} {x : A} → G ts x rest → IsOptional k G (token (mark k) s e ∷ ts) (Some x) rest

-- ---- sound

module _ {A : Type 0} (G : Gram A) (item : Read A) (sound : Sound G item) where
  many_turn : (close : Mark) (others : Read (List A)) → Sound (UpTo close G) others → (ts : List Token) (b : Bool) → next_is close ts ≡ b → Meets (UpTo close G ts) (many_step item others b ts)
  many_turn close others h ts true e = (none, e)
  many_turn close others h ts false e = meets_then _ _ (item ts) (sound ts) (λ x mid p. meets_then _ _ (others mid) (h mid) (λ xs rest q. (more p q.0, q.1)))

  pub many_sound : (close : Mark) (n : ℕ) → Sound (UpTo close G) (many_at close item n)
  unfolding many_at
  many_sound close zero ts = tt
  many_sound close (suc n) ts = many_turn close (many_at close item n) (many_sound close n) ts (next_is close ts) refl

  while_turn : (others : Read (List A)) → Sound (IsMany G) others → (ts : List Token) (b : Bool) → Meets (IsMany G ts) (while_step item others b ts)
  while_turn others h ts false = none
  while_turn others h ts true = meets_then _ _ (item ts) (sound ts) (λ x mid p. meets_then _ _ (others mid) (h mid) (λ xs rest q. more p q))

  pub while_sound : (begins : List Token → Bool) (n : ℕ) → Sound (IsMany G) (while_at begins item n)
  unfolding while_at
  while_sound begins zero ts = none
  while_sound begins (suc n) ts = while_turn (while_at begins item n) (while_sound begins n) ts (begins ts)

  separated_turn : (k : Mark) (others : Read (List A)) → Sound (IsSeparated k G) others → (ts : List Token) (x : A) (mid : List Token) → G ts x mid → (b : Bool) → next_is k mid ≡ b → Meets (IsSeparated k G ts) (separated_step others x b mid)
  separated_turn k others h ts x mid p true e =
      let q = seen (λ l. G ts x l) k mid e p in
      meets_then _ _ (others (after mid)) (h (after mid)) (λ xs rest r. before q.2 r)
  separated_turn k others h ts x mid p false e = last p

  pub separated_sound : (k : Mark) (n : ℕ) → Sound (IsSeparated k G) (separated_at k item n)
  unfolding separated_at
  separated_sound k zero ts = tt
  separated_sound k (suc n) ts = meets_then _ _ (item ts) (sound ts) (λ x mid p. separated_turn k (separated_at k item n) (separated_sound k n) ts x mid p (next_is k mid) refl)

  pub closed_sound : (close : Mark) → Sound (IsClosed close G) (closed_at close item)
  unfolding closed_at
  closed_sound close ts = meets_then _ _ (many_at close item (length ts) ts) (many_sound close (length ts) ts) (λ xs mid p. expect_then (λ l. IsMany G ts xs l) _ _ close mid p.0 (λ s e rest q. a_closed q))

  section_of : (opening closing : Mark) (ts : List Token) (s e : ℕ) (xs : List A) (rest : List Token) → IsClosed closing G ts xs rest → IsSection opening closing G (token (mark opening) s e ∷ ts) xs rest
  section_of opening closing ts s e xs rest (a_closed p) = present p

  pub section_sound : (opening closing : Mark) → Sound (IsSection opening closing G) (section_at opening closing item)
  unfolding section_at
  section_sound opening closing ts = may_open (IsSection opening closing G) opening ts _ _ (λ s e. meets_as _ (closed_at closing item (after ts)) (closed_sound closing (after ts)) (section_of opening closing (after ts) s e)) (λ e. absent)

  pub optional_sound : (k : Mark) (ts : List Token) → Meets (IsOptional k G ts) (cond (next_is k ts) (item (after ts) >>= λ x. Ok (Some x.0, x.1)) (Ok (None, ts)))
  optional_sound k ts = may_open (IsOptional k G) k ts _ _ (λ s e. meets_then _ _ (item (after ts)) (sound (after ts)) (λ x rest p. given p)) missing

-- ---- how long the rest is

module _ {A : Type 0} (G : Gram A) (short : Shorter G) where
  pub many_shrinks : {ts rest : List Token} {xs : List A} → IsMany G ts xs rest → length rest ≤ length ts
  many_shrinks none = omega arith
  many_shrinks (more {ts = ts} {mid = mid} {x = x} h t) = let a = short ts x mid h in let b = many_shrinks t in omega arith

  pub separated_shorter : {k : Mark} {ts rest : List Token} {xs : List A} → IsSeparated k G ts xs rest → length rest < length ts
  separated_shorter (last {ts = ts} {rest = rest} {x = x} h) = short ts x rest h
  separated_shorter {k = k} (before {ts = ts} {mid = mid} {s = s} {e = e} {x = x} h t) =
      let a = short ts x (token (mark k) s e ∷ mid) h in
      let b = separated_shorter t in
      omega arith

  pub section_shrinks : {opening closing : Mark} {ts rest : List Token} {xs : List A} → IsSection opening closing G ts xs rest → length rest ≤ length ts
  section_shrinks absent = omega arith
  section_shrinks (present p) = let a = many_shrinks p in omega arith

-- ---- what they begin with

pub section_avoids : {A : Type 0} {G : Gram A} {opening closing : Mark} (k : Mark) {ts rest : List Token} {xs : List A} → is opening k ≡ false → next_is k rest ≡ false → IsSection opening closing G ts xs rest → next_is k ts ≡ false
section_avoids k f g absent = g
section_avoids k f g (present p) = f

-- ---- complete

module _ {A : Type 0} (Deep : Type 0) (G : Gram A) (item : Read A) (short : Shorter G) (close : Mark) (avoids : Avoids close G) (whole : Complete Deep never G item) where
  pub many_complete : (n : ℕ) (ts rest : List Token) (xs : List A) → length ts ≤ n → IsMany G ts xs rest → next_is close rest ≡ true → Gets Deep (many_at close item n ts) (xs, rest)
  unfolding many_at
  many_complete zero ts rest xs le none e = let a = some_left close rest e in absurd (omega arith)
  many_complete zero ts rest xs le (more {mid = mid} {x = x} h t) e = let a = short ts x mid h in absurd (omega arith)
  many_complete (suc n) ts rest xs le none e = inl (ap (λ b. many_step item (many_at close item n) b ts) e)
  many_complete (suc n) ts rest xs le (more {mid = mid} {x = x} {xs = ys} h t) e =
      let a = short ts x mid h in
      let turn : Gets Deep (many_step item (many_at close item n) false ts) (x ∷ ys, rest) =
      gets_then _ _ (item ts) (x, mid) (whole ts x mid h refl) (gets_then _ _ (many_at close item n mid) (ys, rest) (many_complete n mid rest ys (omega arith) t e) (inl refl)) in
      subst (λ b. Gets Deep (many_step item (many_at close item n) b ts) (x ∷ ys, rest)) (sym (avoids ts x mid h)) turn

  pub closed_complete : is close close ≡ true → Complete Deep never (IsClosed close G) (closed_at close item)
  unfolding closed_at
  closed_complete same ts xs rest (a_closed {s = s} {e = e} p) st =
      gets_then _ _ (many_at close item (length ts) ts) (xs, token (mark close) s e ∷ rest) (many_complete (length ts) ts (token (mark close) s e ∷ rest) xs (omega arith) p same) (inl (rw same refl))

  pub section_complete : (opening : Mark) → is opening opening ≡ true → is close close ≡ true → Complete Deep (next_is opening) (IsSection opening close G) (section_at opening close item)
  unfolding section_at
  section_complete opening same_opening same ts xs rest absent st = inl (ap (λ b. cond b (closed_at close item (after ts)) (Ok ([], ts))) st)
  section_complete opening same_opening same ts xs rest (present {ts = mid} p) st =
      subst (λ b. Gets Deep (cond b (closed_at close item mid) (Ok ([], ts))) (xs, rest)) (sym same_opening) (closed_complete same mid xs rest (a_closed p) refl)

-- What stands before items does not go on where an item begins, nor where none begins and the rest does not go on.
pub stops_at : {A : Type 0} {G : Gram A} (begins goes_on : List Token → Bool) → ((ts : List Token) (x : A) (rest : List Token) → G ts x rest → begins ts ≡ true) → ((ts : List Token) → begins ts ≡ true → goes_on ts ≡ false)
    → {ts rest : List Token} {xs : List A} → IsMany G ts xs rest → goes_on rest ≡ false → goes_on ts ≡ false
stops_at begins goes_on first apart none st = st
stops_at begins goes_on first apart (more {ts = ts} {mid = mid} {x = x} h t) st = apart ts (first ts x mid h)

module _ {A : Type 0} (Deep : Type 0) (G : Gram A) (item : Read A) (short : Shorter G) (begins goes_on : List Token → Bool) (whole : Complete Deep goes_on G item)
    (first : (ts : List Token) (x : A) (rest : List Token) → G ts x rest → begins ts ≡ true) (apart : (ts : List Token) → begins ts ≡ true → goes_on ts ≡ false) where
  pub while_complete : (n : ℕ) (ts rest : List Token) (xs : List A) → length ts ≤ n → IsMany G ts xs rest → begins rest ≡ false → goes_on rest ≡ false → Gets Deep (while_at begins item n ts) (xs, rest)
  unfolding while_at
  while_complete zero ts rest xs le none e st = inl refl
  while_complete zero ts rest xs le (more {mid = mid} {x = x} h t) e st = let a = short ts x mid h in absurd (omega arith)
  while_complete (suc n) ts rest xs le none e st = inl (ap (λ b. while_step item (while_at begins item n) b ts) e)
  while_complete (suc n) ts rest xs le (more {mid = mid} {x = x} {xs = ys} h t) e st =
      let a = short ts x mid h in
      let turn : Gets Deep (while_step item (while_at begins item n) true ts) (x ∷ ys, rest) =
      gets_then _ _ (item ts) (x, mid) (whole ts x mid h (stops_at begins goes_on first apart t st)) (gets_then _ _ (while_at begins item n mid) (ys, rest) (while_complete n mid rest ys (omega arith) t e st) (inl refl)) in
      subst (λ b. Gets Deep (while_step item (while_at begins item n) b ts) (x ∷ ys, rest)) (sym (first ts x mid h)) turn

module _ {A : Type 0} (Deep : Type 0) (k : Mark) (G : Gram A) (item : Read A) (short : Shorter G) (goes_on : List Token → Bool) (whole : Complete Deep goes_on G item)
    (same : is k k ≡ true) (between : (s e : ℕ) (ts : List Token) → goes_on (token (mark k) s e ∷ ts) ≡ false) where
  pub separated_complete : (n : ℕ) (ts rest : List Token) (xs : List A) → length ts ≤ n → IsSeparated k G ts xs rest → goes_on rest ≡ false → next_is k rest ≡ false → Gets Deep (separated_at k item n ts) (xs, rest)
  unfolding separated_at
  separated_complete zero ts rest xs le h st fin = let a = separated_shorter G short h in absurd (omega arith)
  separated_complete (suc n) ts rest xs le (last {x = x} h) st fin =
      gets_then _ _ (item ts) (x, rest) (whole ts x rest h st) (inl (ap (λ b. separated_step (separated_at k item n) x b rest) fin))
  separated_complete (suc n) ts rest xs le (before {mid = mid} {s = s} {e = e} {x = x} {xs = ys} h t) st fin =
      let a = short ts x (token (mark k) s e ∷ mid) h in
      let turn : Gets Deep (separated_step (separated_at k item n) x true (token (mark k) s e ∷ mid)) (x ∷ ys, rest) =
      gets_then _ _ (separated_at k item n mid) (ys, rest) (separated_complete n mid rest ys (omega arith) t st fin) (inl refl) in
      gets_then _ _ (item ts) (x, token (mark k) s e ∷ mid) (whole ts x (token (mark k) s e ∷ mid) h (between s e mid))
      (subst (λ b. Gets Deep (separated_step (separated_at k item n) x b (token (mark k) s e ∷ mid)) (x ∷ ys, rest)) (sym same) turn)

-- ---- not too deep

module _ {A : Type 0} (item : Read A) (shallow : Shallow item) where
  many_turn_shallow : (others : Read (List A)) → Shallow others → (ts : List Token) (b : Bool) → NotDeep (many_step item others b ts)
  many_turn_shallow others h ts true = tt
  many_turn_shallow others h ts false = shallow_then _ (item ts) (shallow ts) (λ x. shallow_then _ (others x.1) (h x.1) (λ xs. tt))

  pub many_shallow : (close : Mark) (n : ℕ) → Shallow (many_at close item n)
  unfolding many_at
  many_shallow close zero ts = tt
  many_shallow close (suc n) ts = many_turn_shallow (many_at close item n) (many_shallow close n) ts (next_is close ts)

  separated_turn_shallow : (others : Read (List A)) → Shallow others → (x : A) (mid : List Token) (b : Bool) → NotDeep (separated_step others x b mid)
  separated_turn_shallow others h x mid true = shallow_then _ (others (after mid)) (h (after mid)) (λ xs. tt)
  separated_turn_shallow others h x mid false = tt

  pub separated_shallow : (k : Mark) (n : ℕ) → Shallow (separated_at k item n)
  unfolding separated_at
  separated_shallow k zero ts = tt
  separated_shallow k (suc n) ts = shallow_then _ (item ts) (shallow ts) (λ x. separated_turn_shallow (separated_at k item n) (separated_shallow k n) x.0 x.1 (next_is k x.1))

  pub closed_shallow : (close : Mark) → Shallow (closed_at close item)
  unfolding closed_at
  closed_shallow close ts = shallow_then _ (many_at close item (length ts) ts) (many_shallow close (length ts) ts) (λ xs. shallow_then _ (expect close xs.1) (shallow_expect close xs.1) (λ rest. tt))

  pub section_shallow : (opening closing : Mark) → Shallow (section_at opening closing item)
  unfolding section_at
  section_shallow opening closing ts = shallow_if (next_is opening ts) (closed_at closing item (after ts)) (Ok ([], ts)) (closed_shallow closing (after ts)) tt
