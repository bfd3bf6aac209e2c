-- Inequalities are put to their places one after another.
use Rattle.std.proofs.Common.{ℕ, zero, suc, ◌≡◌, ◌≢◌, ◌<◌, ◌≤◌, ◌⊎◌, inl, inr, ◌==◌, Bool, true, false, List, [], ◌∷◌, ◌++◌, append_assoc, length, map, slice_index_or, set, Vec, refl, sym, ◌∙◌, ap, subst, arith, if◌then◌else◌}
use Rattle.std.specs.declared.alloc.Global.{Global}
use Rattle.std.proofs.lemmas.Bool.{eqb-true}
use Rattle.std.proofs.lemmas.List.{append-nil, map-append}
use Rattle.fb_find_graph.specs.declared.system.Alternative.{Alternative}
use Rattle.fb_find_graph.specs.Views.{inequality_of, system_of}
use Rattle.fb_find_graph.proofs.Solving.{place_read}
use Rattle.fb_find_graph.specs.Systems.{Inequality, System, inequalities}
use Rattle.fb_find_laws.specs.Nodes.{Numbered, asked_of, asked_at, AreGrouped}

same_number : (n : ℕ) → (n == n) ≡ true
same_number n = grind arith

-- no place has an inequality
abbrev pub HasNone : System → Type 0
HasNone system = (p : ℕ) → inequalities system p ≡ []

pub none_yet : HasNone []
none_yet p = refl

pub none_more : (system : System) → HasNone system → HasNone (system ++ [] ∷ [])
none_more [] h zero = refl
none_more [] h (suc p) = refl
none_more (x ∷ xs) h zero = h 0
none_more (x ∷ xs) h (suc p) = none_more xs (λ q. h (suc q)) p

pub none_grouped : (count : ℕ) (system : System) → HasNone system → AreGrouped count [] system
none_grouped count system h = record { own = λ p l. h p; none = λ p l. h p }

-- ---- one more

split : (m n : ℕ) → (m ≡ n) ⊎ (m ≢ n)
split m n = by (m == n) refl where
  by : (b : Bool) → (m == n) ≡ b → (m ≡ n) ⊎ (m ≢ n)
  by true e = inl (eqb-true m n e)
  by false e = inr (λ s. let t : (m == n) ≡ true = subst (λ k. (m == k) ≡ true) s (same_number m) in absurd cc)

flat_more : (p : ℕ) (rs : List Numbered) (r : Numbered) → asked_at p (rs ++ r ∷ []) ≡ asked_at p rs ++ asked_of p r
flat_more p [] r = append-nil (asked_of p r)
flat_more p (x ∷ rs) r = ap (λ as'. asked_of p x ++ as') (flat_more p rs r) ∙ sym (append_assoc (asked_of p x) (asked_at p rs) (asked_of p r))

own_asked : (r : Numbered) → asked_of r.node r ≡ record { constant = r.constant; terms = r.terms } ∷ []
own_asked r = ap (λ b. if b then record { constant = r.constant; terms = r.terms } ∷ [] else []) (same_number r.node)

not_asked : (p : ℕ) (r : Numbered) → r.node ≢ p → asked_of p r ≡ []
not_asked p r d = by (r.node == p) refl where
  by : (b : Bool) → (r.node == p) ≡ b → ◌≡◌ {A = List Inequality} (if b then record { constant = r.constant; terms = r.terms } ∷ [] else []) []
  by true e = absurd (d (eqb-true r.node p e))
  by false e = refl

-- an inequality is put behind those of its place
pub put_grouped : (count : ℕ) (rs : List Numbered) (old new : System) (r : Numbered) → AreGrouped count rs old → r.node < count
    → inequalities new r.node ≡ inequalities old r.node ++ record { constant = r.constant; terms = r.terms } ∷ [] → ((p : ℕ) → p ≢ r.node → inequalities new p ≡ inequalities old p) → AreGrouped count (rs ++ r ∷ []) new
put_grouped count rs old new r g l here others = record {
  own = λ p k. own p k (split p r.node);
  none = λ p k. others p (λ e. absurd (omega (arith, e, k, l))) ∙ g.none p k;
} where
  own : (p : ℕ) → p < count → (p ≡ r.node) ⊎ (p ≢ r.node) → inequalities new p ≡ asked_at p (rs ++ r ∷ [])
  own p k (inl e) =
      let a : inequalities new r.node ≡ asked_at r.node (rs ++ r ∷ []) = here ∙ (ap (λ as'. as' ++ record { constant = r.constant; terms = r.terms } ∷ []) (g.own r.node l) ∙ (ap (λ as'. asked_at r.node rs ++ as') (sym (own_asked r)) ∙ sym (flat_more r.node rs r))) in
      subst (λ q. inequalities new q ≡ asked_at q (rs ++ r ∷ [])) (sym e) a
  own p k (inr d) = others p d ∙ (g.own p k ∙ (sym (append-nil (asked_at p rs)) ∙ (ap (λ as'. asked_at p rs ++ as') (sym (not_asked p r (λ e. d (sym e)))) ∙ sym (flat_more p rs r))))

-- one of no place is left out
pub past_grouped : (count : ℕ) (rs : List Numbered) (system : System) (r : Numbered) → AreGrouped count rs system → count ≤ r.node → AreGrouped count (rs ++ r ∷ []) system
past_grouped count rs system r g l = record {
  own = λ p k. g.own p k ∙ (sym (append-nil (asked_at p rs)) ∙ (ap (λ as'. asked_at p rs ++ as') (sym (not_asked p r (λ e. absurd (omega (arith, e, k, l))))) ∙ sym (flat_more p rs r)));
  none = g.none;
}

-- ---- places in memory

pub set_here : (places : List (Vec Alternative Global)) (node : ℕ) (v : Vec Alternative Global) → node < length places → inequalities (system_of (set places node v)) node ≡ map inequality_of v.items
set_here [] node v l = absurd (omega (arith, l))
set_here (x ∷ xs) zero v l = refl
set_here (x ∷ xs) (suc node) v l = set_here xs node v (omega (arith, l))

pub set_other : (places : List (Vec Alternative Global)) (node p : ℕ) (v : Vec Alternative Global) → p ≢ node → inequalities (system_of (set places node v)) p ≡ inequalities (system_of places) p
set_other [] node p v d = refl
set_other (x ∷ xs) zero zero v d = absurd (d refl)
set_other (x ∷ xs) zero (suc p) v d = refl
set_other (x ∷ xs) (suc node) zero v d = refl
set_other (x ∷ xs) (suc node) (suc p) v d = set_other xs node p v (λ e. d (ap suc e))

pub put_set : (places : List (Vec Alternative Global)) (v : Vec Alternative Global) (a : Alternative) (old : Vec Alternative Global) (r : Numbered) (rs : List Numbered) → r.node < length places → old ≡ slice_index_or places r.node old → v.items ≡ old.items ++ a ∷ []
    → inequality_of a ≡ record { constant = r.constant; terms = r.terms } → AreGrouped (length places) rs (system_of places) → AreGrouped (length places) (rs ++ r ∷ []) (system_of (set places r.node v))
put_set places v a old r rs l is items same g =
    put_grouped (length places) rs (system_of places) (system_of (set places r.node v)) r g l
    (set_here places r.node v l ∙ (ap (map inequality_of) items ∙ (map-append inequality_of old.items (a ∷ []) ∙ (ap (λ as'. as' ++ inequality_of a ∷ []) (sym (place_read places r.node old l is)) ∙ ap (λ i. inequalities (system_of places) r.node ++ i ∷ []) same))))
    (λ p d. set_other places r.node p v d)
