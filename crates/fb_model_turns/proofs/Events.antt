-- Dispatches among events, and the entries that one appends.
use Rattle.std.proofs.Common.{◌≡◌, ℕ, ◌+◌, cond, List, [], ◌∷◌, length, refl, ap, arith}
use Rattle.std.specs.List.{AllByRecursion}
use Rattle.std.proofs.lemmas.Bool.{eq-eqb, ne_eqb}
use Rattle.fb_model.specs.Names.{Place}
use Rattle.fb_model.specs.Devices.{Entry, Event, Offer, Deliver, Tick, Dispatch, follow_ups}
use Rattle.fb_model.specs.Headline.{dispatches}

pub dispatches-cons : (q : ℕ) (e : Event) (es : List Event) → dispatches q (e ∷ es) ≡ dispatches q (e ∷ []) + dispatches q es
dispatches-cons q (Offer input values) es = omega arith
dispatches-cons q (Deliver bytes) es = omega arith
dispatches-cons q (Tick now) es = omega arith
dispatches-cons q (Dispatch r) es = omega arith

pub dispatch_one : (r q : ℕ) → r ≡ q → dispatches q (Dispatch r ∷ []) ≡ 1
dispatch_one r q g = ap (λ t. cond t 1 0 + 0) (eq-eqb r q g)

pub dispatch_other : (r q : ℕ) → (r ≡ q → ⊥) → dispatches q (Dispatch r ∷ []) ≡ 0
dispatch_other r q g = ap (λ t. cond t 1 0 + 0) (ne_eqb r q g)

-- each entry that a dispatch appends has the cause and the opening of the first one
pub all_follow : (P : Entry → Type 0) (first : Entry) (ps : List Place) → AllByRecursion (λ p. P (record { cause = first.cause; opening = first.opening; place = p; values = [] })) ps → AllByRecursion P (follow_ups first ps)
all_follow P first [] h = tt
all_follow P first (p ∷ ps) h = (h.0, all_follow P first ps h.1)

pub follow_length : (first : Entry) (ps : List Place) → length (follow_ups first ps) ≡ length ps
follow_length first [] = refl
follow_length first (p ∷ ps) = omega (arith, follow_length first ps)
