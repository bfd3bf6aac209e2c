-- Wherever reading of a list of items stops, the tokens before that place can be gone on with.
use Rattle.std.proofs.Common.{◌≡◌, ℕ, zero, suc, Bool, true, false, List, [], ◌∷◌, length, Ok, refl, sym, subst}
use Rattle.fb_words.specs.declared.mark.Mark.{Mark}
use Rattle.fb_model.specs.Tokens.{Token, token, mark}
use Rattle.fb_model.specs.Productions.{Gram, IsMany, none, more, IsSeparated, last, before, IsSection, absent, present}
use Rattle.fb_read.specs.Reading.{Read, ◌>>=◌, next_is, after, expect, many_step, many_at, while_step, while_at, separated_step, separated_at, items_at, all_at, list_at, closed_at, section_at}
use Rattle.fb_text_laws.proofs.Steps.{Span, Any, Marked, Behind, Fills, GoesOn, Fine, fills_none, fills_mark, fills_as, fills_then, stopped, fine_done, fine_stuck, goes_then, fine_then, fine_by, goes_marked, fine_expect, fine_may}

module _ {A : Type 0} (G : Gram A) where
  abbrev Many : Span
  Many = Any (IsMany G)

  -- an item and others
  rest_fine : (others : Read (List A)) → Fine Many others → (x : A) → Fine {A = List A} (Behind (Any G) Many) (λ mid. others mid >>= λ xs. Ok (x ∷ xs.0, xs.1))
  rest_fine others h x = fine_then (Behind (Any G) Many) Many others _ h (λ l xs. fine_done _ _ (λ us all t before p. (p.0 ∷ t.0, more p.1 t.1)))

  module _ (item : Read A) (fine : Fine (Any G) item) where
    many_turn : (others : Read (List A)) → Fine Many others → (b : Bool) → Fine Many (many_step item others b)
    many_turn others h true = fine_done {A = List A} Many (λ ts. []) (λ us. ([], none))
    many_turn others h false = fine_then Many (Any G) item _ fine (λ l x. rest_fine others h x)

    many_fine : (close : Mark) (n : ℕ) → Fine Many (many_at close item n)
    unfolding many_at
    many_fine close zero = fine_stuck Many [] (fills_none Many (λ us. ([], none)))
    many_fine close (suc n) = fine_by Many (λ b. many_step item (many_at close item n) b) (next_is close) (many_turn (many_at close item n) (many_fine close n))

    -- an item at least
    abbrev Some : Span
    Some us rest = (x : A) × (xs : List A) × (mid : List Token) × G us x mid × IsMany G mid xs rest

    some_fine : (others : Read (List A)) → Fine Many others → Fine {A = List A} Some (λ ts. item ts >>= λ x. others x.1 >>= λ xs. Ok (x.0 ∷ xs.0, xs.1))
    some_fine others h = fine_then Some (Any G) item _ fine (λ l x. fine_then (Behind (Any G) Some) Many others _ h (λ l xs. fine_done _ _ (λ us mid t all p. (p.0, t.0, mid, p.1, t.1))))

    pub fills_some : (close : Mark) (P : Span) → ((us rest mid : List Token) (x : A) (xs : List A) (s e : ℕ) → G us x mid → IsMany G mid xs (token (mark close) s e ∷ rest) → P us rest) → Fills P
    fills_some close P h = fills_then P (Any G) fine.fills (fills_mark (Behind (Any G) P) close (fills_none (Marked close (Behind (Any G) P)) (λ rest s e all p. h all rest (token (mark close) s e ∷ rest) p.0 [] s e p.1 none)))

    pub items_fine : (close : Mark) → Fine Many (items_at close item)
    items_fine close = fine_by Many (many_at close item) length (many_fine close)

    -- the others behind a separator
    behind_fine : (k : Mark) (others : Read (List A)) → Fine (Any (IsSeparated k G)) others → (x : A) → Fine {A = List A} (Marked k (Behind (Any G) (Any (IsSeparated k G)))) (λ mid. others mid >>= λ xs. Ok (x ∷ xs.0, xs.1))
    behind_fine k others h x = fine_then (Marked k (Behind (Any G) (Any (IsSeparated k G)))) (Any (IsSeparated k G)) others _ h (λ l xs. fine_done _ _ (λ us all t s e first p. (p.0 ∷ t.0, before p.1 t.1)))

    separated_by : (k : Mark) (others : Read (List A)) → Fine (Any (IsSeparated k G)) others → (x : A) (mid : List Token) (b : Bool) → next_is k mid ≡ b → GoesOn (Behind (Any G) (Any (IsSeparated k G))) mid (separated_step others x b mid)
    separated_by k others h x mid true e = goes_marked (Behind (Any G) (Any (IsSeparated k G))) k mid e _ ((behind_fine k others h x).goes_on (after mid))
    separated_by k others h x mid false e = (fine_done (Behind (Any G) (Any (IsSeparated k G))) (λ ts. x ∷ []) (λ us all p. (p.0 ∷ [], last p.1))).goes_on mid

    separated_turn : (k : Mark) (others : Read (List A)) → Fine (Any (IsSeparated k G)) others → (x : A) → Fine (Behind (Any G) (Any (IsSeparated k G))) (λ mid. separated_step others x (next_is k mid) mid)
    separated_turn k others h x = record { sample = x ∷ []; fills = fills_none (Behind (Any G) (Any (IsSeparated k G))) (λ rest all p. (p.0 ∷ [], last p.1)); goes_on = λ mid. separated_by k others h x mid (next_is k mid) refl }

    separated_fine : (k : Mark) (n : ℕ) → Fine (Any (IsSeparated k G)) (separated_at k item n)
    unfolding separated_at
    separated_fine k zero = fine_stuck (Any (IsSeparated k G)) [] (fills_as (Any (IsSeparated k G)) (λ us rest p. (p.0 ∷ [], last p.1)) fine.fills)
    separated_fine k (suc n) = fine_then (Any (IsSeparated k G)) (Any G) item _ fine (λ l x. separated_turn k (separated_at k item n) (separated_fine k n) x)

    pub list_fine : (k : Mark) → Fine (Any (IsSeparated k G)) (list_at k item)
    list_fine k = fine_by (Any (IsSeparated k G)) (separated_at k item) length (separated_fine k)

    pub closed_fine : (close : Mark) (P : Span) → ((us rest : List Token) (xs : List A) (s e : ℕ) → IsMany G us xs (token (mark close) s e ∷ rest) → P us rest) → Fine P (closed_at close item)
    unfolding closed_at
    closed_fine close P h = fine_then P Many (items_at close item) _ (items_fine close) (λ l xs. fine_expect (Behind Many P) close _ (λ l'. fine_done _ _ (λ us s e all p. h all us p.0 s e p.1)))

    -- an item at least, and the mark behind them
    pub some_goes : (close : Mark) (P : Span) → ((us rest mid : List Token) (x : A) (xs : List A) (s e : ℕ) → G us x mid → IsMany G mid xs (token (mark close) s e ∷ rest) → P us rest) → (ts : List Token) → next_is close ts ≡ false → GoesOn P ts (closed_at close item ts)
    unfolding closed_at many_at
    some_goes close P h [] e = stopped P (fills_some close P h) []
    some_goes close P h (t ∷ ts) e =
        let others = many_at close item (length ts) in
        subst (λ b. GoesOn P (t ∷ ts) (many_step item others b (t ∷ ts) >>= λ xs. expect close xs.1 >>= λ rest. Ok (xs.0, rest))) (sym e)
        ((fine_then P Some (λ ts. item ts >>= λ x. others x.1 >>= λ xs. Ok (x.0 ∷ xs.0, xs.1)) (λ l xs. expect close xs.1 >>= λ rest. Ok (xs.0, rest)) (some_fine others (many_fine close (length ts))) (λ l xs.
        fine_expect (Behind Some P) close _ (λ l. fine_done _ _ (λ us s e all p. h all us p.2 p.0 p.1 s e p.3 p.4)))).goes_on (t ∷ ts))

    pub section_fine : (opening close : Mark) → Fine (Any (IsSection opening close G)) (section_at opening close item)
    unfolding section_at
    section_fine opening close =
        fine_may (Any (IsSection opening close G)) opening (λ l. closed_at close item) _
        (λ l. closed_fine close (Marked opening (Any (IsSection opening close G))) (λ us rest xs s e p s' e'. (xs, present p)))
        (fine_done _ _ (λ us. ([], absent)))

  -- items as long as one begins, where it is enough that they go on where one begins
  module _ (begins : List Token → Bool) (item : Read A) (goes : (ts : List Token) → begins ts ≡ true → GoesOn (Any G) ts (item ts)) where
    while_turn : (others : Read (List A)) → Fine Many others → (ts : List Token) (b : Bool) → begins ts ≡ b → GoesOn Many ts (while_step item others b ts)
    while_turn others h ts false e = (fine_done {A = List A} Many (λ ts. []) (λ us. ([], none))).goes_on ts
    while_turn others h ts true e = goes_then Many (Any G) _ ts (item ts) (fills_none (Behind (Any G) Many) (λ rest all p. (p.0 ∷ [], more p.1 none))) (goes ts e) (λ x mid. (rest_fine others h x).goes_on mid)

    while_fine : (n : ℕ) → Fine Many (while_at begins item n)
    unfolding while_at
    while_fine zero = fine_done {A = List A} Many (λ ts. []) (λ us. ([], none))
    while_fine (suc n) = record { sample = []; fills = fills_none Many (λ rest. ([], none)); goes_on = λ ts. while_turn (while_at begins item n) (while_fine n) ts (begins ts) refl }

    pub all_fine : Fine Many (all_at begins item)
    all_fine = fine_by Many (while_at begins item) length while_fine
