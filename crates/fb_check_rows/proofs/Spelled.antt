-- A text that spells a certificate says no row twice.
use Rattle.std.proofs.Common.{◌≡◌, ℕ, ℤ, Bool, true, false, ◌||◌, List, [], ◌∷◌, ◌++◌, refl, sym, ap, subst, ◌∙◌}
use Rattle.std.specs.List.{list_any}
use Rattle.std.specs.Str.{bytes_eq}
use Rattle.fb_model.specs.Names.{Name, place_eq}
use Rattle.fb_model.specs.Certificates.{Certificate, PlaceRows, Range_rows, Charge_rows, Weight_rows, Far_rows, Far_state_rows, given, row_places, range_places, far_places, AreDifferent}
use Rattle.fb_model.specs.CertificateText.{TextRow, range, charge, weight, far, far_state, is_same, NoneTwice, certificate_in, place_of, Spells}
use Rattle.fb_check_rows.proofs.Names.{bytes_turned}
use Rattle.fb_check_rows.specs.Faults.{HasNoRowTwice}
use Rattle.fb_check_rows.proofs.Places.{same_place}

first_false : (a b : Bool) → (a || b) ≡ false → a ≡ false
first_false true b h = absurd cc
first_false false b h = refl

second_false : (a b : Bool) → (a || b) ≡ false → b ≡ false
second_false true b h = absurd cc
second_false false b h = h

both_false : (a b : Bool) → a ≡ false → b ≡ false → (a || b) ≡ false
both_false true b g h = absurd cc
both_false false b g h = h

-- none of these repeats an entry
abbrev IsApart : TextRow → List TextRow → Type 0
IsApart x es = (before after : List TextRow) (e : TextRow) → es ≡ before ++ e ∷ after → is_same e x ≡ false

apart : (x : TextRow) (es : List TextRow) → NoneTwice (x ∷ es) → IsApart x es
apart x es h before after e k = first_false (is_same e x) (list_any (is_same e) before) (h (x ∷ before) after e (ap (λ r. x ∷ r) k))

apart_rest : (x y : TextRow) (es : List TextRow) → IsApart x (y ∷ es) → IsApart x es
apart_rest x y es h before after e k = h (y ∷ before) after e (ap (λ r. y ∷ r) k)

twice_rest : (x : TextRow) (es : List TextRow) → NoneTwice (x ∷ es) → NoneTwice es
twice_rest x es h before after e k = second_false (is_same e x) (list_any (is_same e) before) (h (x ∷ before) after e (ap (λ r. x ∷ r) k))

other_place : (p q : Name) → bytes_eq q p ≡ false → place_eq (place_of p) (place_of q) ≡ false
other_place p q h = same_place p q ∙ bytes_turned q p false h

range_apart : (p : Name) (a b : ℤ) (es : List TextRow) → IsApart (range p a b) es → list_any (place_eq (place_of p)) (range_places (certificate_in es).ranges) ≡ false
range_apart p a b [] h = refl
range_apart p a b (range q c d ∷ es) h = both_false (place_eq (place_of p) (place_of q)) _ (other_place p q (h [] es (range q c d) refl)) (range_apart p a b es (apart_rest (range p a b) (range q c d) es h))
range_apart p a b (e ∷ es) h = range_apart p a b es (apart_rest (range p a b) e es h)

charge_apart : (p : Name) (s k : ℕ) (es : List TextRow) → IsApart (charge p s k) es → list_any (place_eq (place_of p)) (row_places (certificate_in es).charges) ≡ false
charge_apart p s k [] h = refl
charge_apart p s k (charge q t l ∷ es) h = both_false (place_eq (place_of p) (place_of q)) _ (other_place p q (h [] es (charge q t l) refl)) (charge_apart p s k es (apart_rest (charge p s k) (charge q t l) es h))
charge_apart p s k (e ∷ es) h = charge_apart p s k es (apart_rest (charge p s k) e es h)

weight_apart : (p : Name) (s k : ℕ) (es : List TextRow) → IsApart (weight p s k) es → list_any (place_eq (place_of p)) (row_places (certificate_in es).weights) ≡ false
weight_apart p s k [] h = refl
weight_apart p s k (weight q t l ∷ es) h = both_false (place_eq (place_of p) (place_of q)) _ (other_place p q (h [] es (weight q t l) refl)) (weight_apart p s k es (apart_rest (weight p s k) (weight q t l) es h))
weight_apart p s k (e ∷ es) h = weight_apart p s k es (apart_rest (weight p s k) e es h)

far_apart : (p : Name) (s : ℕ) (es : List TextRow) → IsApart (far p s) es → list_any (place_eq (place_of p)) (far_places (certificate_in es).fars) ≡ false
far_apart p s [] h = refl
far_apart p s (far q t ∷ es) h = both_false (place_eq (place_of p) (place_of q)) _ (other_place p q (h [] es (far q t) refl)) (far_apart p s es (apart_rest (far p s) (far q t) es h))
far_apart p s (e ∷ es) h = far_apart p s es (apart_rest (far p s) e es h)

far_state_apart : (p : Name) (s : ℕ) (es : List TextRow) → IsApart (far_state p s) es → list_any (place_eq (place_of p)) (far_places (certificate_in es).far_states) ≡ false
far_state_apart p s [] h = refl
far_state_apart p s (far_state q t ∷ es) h = both_false (place_eq (place_of p) (place_of q)) _ (other_place p q (h [] es (far_state q t) refl)) (far_state_apart p s es (apart_rest (far_state p s) (far_state q t) es h))
far_state_apart p s (e ∷ es) h = far_state_apart p s es (apart_rest (far_state p s) e es h)

ranges_differ : (es : List TextRow) → NoneTwice es → AreDifferent (range_places (certificate_in es).ranges)
ranges_differ [] h = tt
ranges_differ (range p a b ∷ es) h = (range_apart p a b es (apart (range p a b) es h), ranges_differ es (twice_rest (range p a b) es h))
ranges_differ (e ∷ es) h = ranges_differ es (twice_rest e es h)

charges_differ : (es : List TextRow) → NoneTwice es → AreDifferent (row_places (certificate_in es).charges)
charges_differ [] h = tt
charges_differ (charge p s k ∷ es) h = (charge_apart p s k es (apart (charge p s k) es h), charges_differ es (twice_rest (charge p s k) es h))
charges_differ (e ∷ es) h = charges_differ es (twice_rest e es h)

weights_differ : (es : List TextRow) → NoneTwice es → AreDifferent (row_places (certificate_in es).weights)
weights_differ [] h = tt
weights_differ (weight p s k ∷ es) h = (weight_apart p s k es (apart (weight p s k) es h), weights_differ es (twice_rest (weight p s k) es h))
weights_differ (e ∷ es) h = weights_differ es (twice_rest e es h)

fars_differ : (es : List TextRow) → NoneTwice es → AreDifferent (far_places (certificate_in es).fars)
fars_differ [] h = tt
fars_differ (far p s ∷ es) h = (far_apart p s es (apart (far p s) es h), fars_differ es (twice_rest (far p s) es h))
fars_differ (e ∷ es) h = fars_differ es (twice_rest e es h)

far_states_differ : (es : List TextRow) → NoneTwice es → AreDifferent (far_places (certificate_in es).far_states)
far_states_differ [] h = tt
far_states_differ (far_state p s ∷ es) h = (far_state_apart p s es (apart (far_state p s) es h), far_states_differ es (twice_rest (far_state p s) es h))
far_states_differ (e ∷ es) h = far_states_differ es (twice_rest e es h)

each_differs : (es : List TextRow) → NoneTwice es → (kind : PlaceRows) → AreDifferent (given kind (certificate_in es))
each_differs es h Range_rows = ranges_differ es h
each_differs es h Charge_rows = charges_differ es h
each_differs es h Weight_rows = weights_differ es h
each_differs es h Far_rows = fars_differ es h
each_differs es h Far_state_rows = far_states_differ es h

pub spelled : (text : List ℕ) (certificate : Certificate) → Spells text certificate → HasNoRowTwice certificate
spelled text certificate s = subst HasNoRowTwice (sym s.certificate_is) (record { once = each_differs s.entries s.none_twice })
