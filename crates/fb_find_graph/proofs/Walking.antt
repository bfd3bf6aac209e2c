-- Steps of a walk.
use Rattle.std.proofs.Common.{ℕ, ◌≡◌, ◌+◌, ◌-◌, ◌<◌, ◌≤◌, ◌⊎◌, ◌↔◌, max, Bool, true, false, Option, None, Some, List, [], ◌∷◌, ◌++◌, length, take, slice_index, refl, sym, ◌∙◌, ap, subst, inl, inr, arith, Contains, below_more, IsTrue}
use Rattle.std.proofs.lemmas.Bool.{cases_lt, false≢true}
use Rattle.std.proofs.lemmas.List.{get_or_past, get_or-take, length-take-le}
use Rattle.std.proofs.lemmas.List.Elements.{Contains-append_left, Contains-push, Contains-push_cases}
use Rattle.fb_find_graph.specs.Systems.{Inequality, System, Demands, IsClosedWalk}
use Rattle.fb_find_graph.specs.Walks.{Asks, IsGreatestDemand, greater_of, AreApart, IsPaidChain, IsPaidSoFar}

asks_cases : (as' : List Inequality) (a : Inequality) (q k : ℕ) → Asks (as' ++ a ∷ []) q k → Asks as' q k ⊎ (Contains a.terms q × (k ≡ a.constant))
asks_cases as' a q k h = elim (Contains-push_cases as' a h.0 h.1) [
  | inl w ↦ inl (h.0, w, h.2, h.3)
  | inr w ↦ inr (subst (λ (b : Inequality). Contains b.terms q) (sym w) h.2, h.3 ∙ ap (λ b. b.constant) (sym w))
]

asks_left : (as' : List Inequality) (a : Inequality) (q k : ℕ) → Asks as' q k → Asks (as' ++ a ∷ []) q k
asks_left as' a q k h = (h.0, Contains-append_left as' (a ∷ []) h.0 h.1, h.2, h.3)

pub demand_more_no : (as' : List Inequality) (a : Inequality) (q : ℕ) (o : Option ℕ) → IsGreatestDemand as' q o → (Contains a.terms q → ⊥) → IsGreatestDemand (as' ++ a ∷ []) q o
demand_more_no as' a q None g n = λ k h. elim (asks_cases as' a q k h) [ inl w ↦ g k w | inr w ↦ n w.0 ]
demand_more_no as' a q (Some c) g n = (asks_left as' a q c g.0, λ k h. elim (asks_cases as' a q k h) [ inl w ↦ g.1 k w | inr w ↦ absurd (n w.0) ])

pub demand_more_yes : (as' : List Inequality) (a : Inequality) (q : ℕ) (o : Option ℕ) → IsGreatestDemand as' q o → Contains a.terms q → IsGreatestDemand (as' ++ a ∷ []) q (Some (greater_of o a.constant))
demand_more_yes as' a q None g y = ((a, Contains-push as' a, y, refl), λ k h. elim (asks_cases as' a q k h) [ inl w ↦ absurd (g k w) | inr w ↦ omega (arith, w.1) ])
demand_more_yes as' a q (Some c) g y = (
  elim (cases_lt c a.constant) [
    | inl l ↦ (a, Contains-push as' a, y, omega (arith, l))
    | inr l ↦ let e : max c a.constant ≡ c = omega (arith, l) in subst (λ (k : ℕ). Asks (as' ++ a ∷ []) q k) (sym e) (asks_left as' a q c g.0)
  ],
  λ k h. elim (asks_cases as' a q k h) [ inl w ↦ omega (arith, g.1 k w) | inr w ↦ omega (arith, w.1) ],
)

pub nothing_paid : (system : System) (walk : List ℕ) → IsPaidSoFar system walk 0 false
nothing_paid system walk = record {
  chain = λ k h. absurd (omega (arith, h));
  yes = λ e. absurd (false≢true e);
  no = λ e k c h. absurd (omega (arith, h));
}

-- a step that costs nothing
pub free_more : (system : System) (walk : List ℕ) (n : ℕ) (paid : Bool) (c : ℕ) → IsPaidSoFar system walk n paid → Demands system (slice_index walk n) (slice_index walk (n + 1)) c → ((k : ℕ) → Demands system (slice_index walk n) (slice_index walk (n + 1)) k → k ≤ c) → c ≤ 0 → IsPaidSoFar system walk (n + 1) paid
free_more system walk n paid c s d m z = record {
  chain = below_more _ _ s.chain (c, d);
  yes = λ e. let y = s.yes e in (y.0, y.1, omega (arith, y.2), y.3, y.4);
  no = λ e k b h w. elim (cases_lt k n) [
    | inl l ↦ s.no e k b l w
    | inr l ↦ let f : k ≡ n = omega (arith, l, h) in let i = m b (subst (λ (j : ℕ). Demands system (slice_index walk j) (slice_index walk (j + 1)) b) f w) in omega (arith, i, z)
  ];
}

-- a step that costs something
pub paid_more : (system : System) (walk : List ℕ) (n : ℕ) (paid : Bool) (c : ℕ) → IsPaidSoFar system walk n paid → Demands system (slice_index walk n) (slice_index walk (n + 1)) c → 0 < c → IsPaidSoFar system walk (n + 1) true
paid_more system walk n paid c s d p = record {
  chain = below_more _ _ s.chain (c, d);
  yes = λ e. (n, c, omega arith, d, p);
  no = λ e. absurd (false≢true (sym e));
}

pub paid_at_end : (system : System) (walk : List ℕ) (n : ℕ) (paid : Bool) → length walk - 1 ≤ n → n ≤ length walk - 1 → IsPaidSoFar system walk n paid → IsTrue paid ↔ IsPaidChain system walk
paid_at_end system walk n true a b s = (
  λ t. record {
    chain = λ k h. s.chain k (omega (arith, h, a));
    paid = let y = s.yes refl in (y.0, y.1, omega (arith, y.2, b), y.3, y.4);
  },
  λ w. refl,
)
paid_at_end system walk n false a b s = (λ t. absurd (false≢true t), λ w. absurd (let z = s.no refl w.paid.0 w.paid.1 (omega (arith, w.paid.2, a)) w.paid.3 in omega (arith, z, w.paid.4)))

-- what demands something is a place
asks_known : (system : System) (p q k : ℕ) → Demands system p q k → p < length system
asks_known system p q k d = elim (cases_lt p (length system)) [
  | inl l ↦ l
  | inr l ↦ absurd (let e = get_or_past system p [] l in let m = rw e at d.1 in omega (arith, m.1))
]

-- a walk that closes and pays is a closed walk where its places differ
pub apart_tells : (system : System) (walk : List ℕ) (b : Bool) → 1 < length walk → slice_index walk 0 ≡ slice_index walk (length walk - 1) → IsPaidChain system walk
    → (IsTrue b ↔ AreApart (length system) (take (length walk - 1) walk)) → IsTrue b ↔ IsClosedWalk system walk
apart_tells system walk b long closes paid e =
    let n = length walk - 1 in
    let few : length (take n walk) ≡ n = length-take-le n walk (omega arith) in
    let at : (k : ℕ) → k < n → slice_index (take n walk) k ≡ slice_index walk k = λ k h. get_or-take n walk k 0 h in (
      λ t. let a = e.0 t in record {
        long = long;
        chain = paid.chain;
        closes = closes;
        once = λ j k l h g. a.once j k l (omega (arith, h, few)) (at j (omega (arith, l, h)) ∙ (g ∙ sym (at k (omega (arith, h)))));
        paid = paid.paid;
      },
      λ w. e.1 (record {
        known = λ k h. rw (at k (omega (arith, h, few))) (let d = paid.chain k (omega (arith, h, few)) in asks_known system (slice_index walk k) (slice_index walk (k + 1)) d.0 d.1);
        once = λ j k l h g. w.once j k l (omega (arith, h, few)) (sym (at j (omega (arith, l, h, few))) ∙ (g ∙ at k (omega (arith, h, few))));
      }),
    )
