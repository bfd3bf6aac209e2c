-- Lists that are made an item at a time, each of an item of the source.
use Rattle.std.proofs.Common.{◌≡◌, ℕ, zero, suc, ◌+◌, ◌<◌, ◌≤◌, List, [], ◌∷◌, ◌++◌, length, map, drop, get_or, Result, Ok, refl, sym, ap, subst, ◌∙◌, arith}
use Rattle.std.proofs.Math.Seq.{drop-cons}
use Rattle.fb_model.specs.TextFaults.{Fault}
use Rattle.fb_faults.specs.declared.statement.TypingFault.{TypingFault}
use Rattle.st_types.specs.Answers.{Fails}
use Rattle.st_types.specs.Elaborating.{◌>>=◌}
use Rattle.st_types.proofs.Steps.{bind_ok, bind_again, bind_same, fails_then}

-- the items from i on are the one at i and those behind it
pub drop_step : {X : Type 0} (xs : List X) (i : ℕ) (x : X) → i < length xs → x ≡ get_or xs i x → drop i xs ≡ x ∷ drop (i + 1) xs
drop_step xs i x lt e = drop-cons xs i x lt ∙ ap (λ y. y ∷ drop (suc i) xs) (sym e) ∙ ap (λ k. x ∷ drop k xs) (let f : suc i ≡ i + 1 = omega arith in f)

pub drop_all : {X : Type 0} (xs : List X) (i : ℕ) → length xs ≤ i → drop i xs ≡ []
drop_all [] zero h = refl
drop_all [] (suc i) h = refl
drop_all (y ∷ ys) zero h = absurd (omega (arith, h))
drop_all (y ∷ ys) (suc i) h = drop_all ys i (omega (arith, h))

module _ {X C T : Type 0} (one : X → Result C Fault) (nil : T) (put : C → T → T) where
  -- what items are, one after another
  abbrev pub gathered : List X → Result T Fault
  gathered [] = Ok nil
  gathered (x ∷ xs) = one x >>= λ c. gathered xs >>= λ r. Ok (put c r)

  module _ (laid : List C → T → T) (laid_none : (r : T) → laid [] r ≡ r) (laid_some : (c : C) (cs : List C) (r : T) → laid (c ∷ cs) r ≡ put c (laid cs r)) where
    -- what is gathered so far, and what is still to come
    abbrev pub Left : List X → List C → List X → Type 0
    Left all cs xs = gathered all ≡ (gathered xs >>= λ r. Ok (laid cs r))

    pub begins : (all : List X) → Left all [] all
    begins all = bind_ok (gathered all) ∙ bind_same (gathered all) (λ r. Ok r) (λ r. Ok (laid [] r)) (λ r. ap Ok (sym (laid_none r)))

    laid_push : (cs : List C) (c : C) (r : T) → laid (cs ++ c ∷ []) r ≡ laid cs (put c r)
    laid_push [] c r = laid_some c [] r ∙ ap (put c) (laid_none r) ∙ sym (laid_none (put c r))
    laid_push (d ∷ cs) c r = laid_some d (cs ++ c ∷ []) r ∙ ap (put d) (laid_push cs c r) ∙ sym (laid_some d cs (put c r))

    step : (cs : List C) (x : X) (xs : List X) → (gathered (x ∷ xs) >>= λ r. Ok (laid cs r)) ≡ (one x >>= λ c. gathered xs >>= λ r. Ok (laid (cs ++ c ∷ []) r))
    step cs x xs =
        bind_again (one x) (λ c. gathered xs >>= λ r. Ok (put c r)) (λ r. Ok (laid cs r))
        ∙ bind_same (one x) (λ c. (gathered xs >>= λ r. Ok (put c r)) >>= λ r. Ok (laid cs r)) (λ c. gathered xs >>= λ r. Ok (laid (cs ++ c ∷ []) r))
        (λ c. bind_again (gathered xs) (λ r. Ok (put c r)) (λ r. Ok (laid cs r)) ∙ bind_same (gathered xs) (λ r. Ok (laid cs (put c r))) (λ r. Ok (laid (cs ++ c ∷ []) r)) (λ r. ap Ok (sym (laid_push cs c r))))

    pub goes_on : (all : List X) (cs : List C) (x : X) (xs : List X) (c : C) → Left all cs (x ∷ xs) → one x ≡ Ok c → Left all (cs ++ c ∷ []) xs
    goes_on all cs x xs c h e = h ∙ step cs x xs ∙ ap (λ r. r >>= λ c. gathered xs >>= λ r. Ok (laid (cs ++ c ∷ []) r)) e

    pub fails : (all : List X) (cs : List C) (x : X) (xs : List X) (w : TypingFault) → Left all cs (x ∷ xs) → Fails w (one x) → Fails w (gathered all)
    fails all cs x xs w h e = subst (λ r. Fails w r) (sym (h ∙ step cs x xs)) (fails_then w (one x) (λ c. gathered xs >>= λ r. Ok (laid (cs ++ c ∷ []) r)) e)

    pub ends : (all : List X) (cs : List C) → Left all cs [] → gathered all ≡ Ok (laid cs nil)
    ends all cs h = h

    -- the same of items that are seen by view, up to the one at i
    module _ {Y : Type 0} (view : Y → X) where
      pub fails_at : (list : List Y) (i : ℕ) (y : Y) (cs : List C) (w : TypingFault) → i < length list → y ≡ get_or list i y → Left (map view list) cs (map view (drop i list)) → Fails w (one (view y)) → Fails w (gathered (map view list))
      fails_at list i y cs w lt e h f = fails (map view list) cs (view y) (map view (drop (i + 1) list)) w (subst (λ l. Left (map view list) cs (map view l)) (drop_step list i y lt e) h) f

      pub goes_on_at : (list : List Y) (i : ℕ) (y : Y) (cs : List C) (c : C) → i < length list → y ≡ get_or list i y → Left (map view list) cs (map view (drop i list)) → one (view y) ≡ Ok c → Left (map view list) (cs ++ c ∷ []) (map view (drop (i + 1) list))
      goes_on_at list i y cs c lt e h f = goes_on (map view list) cs (view y) (map view (drop (i + 1) list)) c (subst (λ l. Left (map view list) cs (map view l)) (drop_step list i y lt e) h) f

      pub ends_at : (list : List Y) (i : ℕ) (cs : List C) → drop i list ≡ [] → Left (map view list) cs (map view (drop i list)) → gathered (map view list) ≡ Ok (laid cs nil)
      ends_at list i cs e h = ends (map view list) cs (subst (λ l. Left (map view list) cs (map view l)) e h)
