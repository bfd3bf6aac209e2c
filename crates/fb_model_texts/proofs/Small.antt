-- A certificate that a text spells says no more than a row can.
use Rattle.std.proofs.Common.{◌≤◌, ℕ, Bool, true, false, cond, arith, List, [], ◌∷◌, sym, subst}
use Rattle.std.specs.List.{AllByRecursion}
use Rattle.fb_model.specs.Names.{Place, place_eq}
use Rattle.fb_model.specs.Certificates.{Row, Certificate, amount, steps_of}
use Rattle.fb_model.specs.CertificateText.{TextRow, charge, weight, far, far_state, channel, IsTextRow, a_charge, a_weight, a_far, a_far_state, a_channel, Written, most_steps, AreTextRows, no_text_row, text_row, row_of, far_row, channel_row, certificate_in, Spells}
use Rattle.fb_model.proofs.Lists.{all_weaker}
use Rattle.fb_model_texts.specs.Small.{IsSmall, IsSmallFar, IsSmallChannel, AreSmall}

charge_small : (ws : List (List ℕ)) (p : List ℕ) (s k : ℕ) → IsTextRow ws (charge p s k) → IsSmall (row_of p s k)
charge_small ws p s k (a_charge d m n) = (m.at_most, n.at_most)

weight_small : (ws : List (List ℕ)) (p : List ℕ) (s k : ℕ) → IsTextRow ws (weight p s k) → IsSmall (row_of p s k)
weight_small ws p s k (a_weight d m n) = (m.at_most, n.at_most)

-- the numbers of rows that a text says on all devices and for channels lie within their bounds
far_small : (ws : List (List ℕ)) (p : List ℕ) (n : ℕ) → IsTextRow ws (far p n) → IsSmallFar (far_row p n)
far_small ws p n (a_far d m) = m.at_most

-- the same of a row of a state
far_state_small : (ws : List (List ℕ)) (p : List ℕ) (n : ℕ) → IsTextRow ws (far_state p n) → IsSmallFar (far_row p n)
far_state_small ws p n (a_far_state d m) = m.at_most

-- the same of a row of a channel
channel_small : (ws : List (List ℕ)) (c n : ℕ) → IsTextRow ws (channel c n) → IsSmallChannel (channel_row c n)
channel_small ws c n (a_channel d m) = m.at_most

charges_small : (ws : List Written) (es : List TextRow) → AreTextRows ws es → AllByRecursion IsSmall (certificate_in es).charges
charges_small [] [] no_text_row = tt
charges_small [] (e ∷ es) h = elim h [ ]
charges_small (w ∷ ws) [] h = elim h [ ]
charges_small (w ∷ ws) (charge p s k ∷ es) (text_row h rest) = (charge_small w.words p s k h, charges_small ws es rest)
charges_small (w ∷ ws) (e ∷ es) (text_row h rest) = charges_small ws es rest

weights_small : (ws : List Written) (es : List TextRow) → AreTextRows ws es → AllByRecursion IsSmall (certificate_in es).weights
weights_small [] [] no_text_row = tt
weights_small [] (e ∷ es) h = elim h [ ]
weights_small (w ∷ ws) [] h = elim h [ ]
weights_small (w ∷ ws) (weight p s k ∷ es) (text_row h rest) = (weight_small w.words p s k h, weights_small ws es rest)
weights_small (w ∷ ws) (e ∷ es) (text_row h rest) = weights_small ws es rest

-- so those of all rows of events do
fars_small : (ws : List Written) (es : List TextRow) → AreTextRows ws es → AllByRecursion IsSmallFar (certificate_in es).fars
fars_small [] [] no_text_row = tt
fars_small [] (e ∷ es) h = elim h [ ]
fars_small (w ∷ ws) [] h = elim h [ ]
fars_small (w ∷ ws) (far p n ∷ es) (text_row h rest) = (far_small w.words p n h, fars_small ws es rest)
fars_small (w ∷ ws) (e ∷ es) (text_row h rest) = fars_small ws es rest

-- the same of all rows of states
far_states_small : (ws : List Written) (es : List TextRow) → AreTextRows ws es → AllByRecursion IsSmallFar (certificate_in es).far_states
far_states_small [] [] no_text_row = tt
far_states_small [] (e ∷ es) h = elim h [ ]
far_states_small (w ∷ ws) [] h = elim h [ ]
far_states_small (w ∷ ws) (far_state p n ∷ es) (text_row h rest) = (far_state_small w.words p n h, far_states_small ws es rest)
far_states_small (w ∷ ws) (e ∷ es) (text_row h rest) = far_states_small ws es rest

-- the same of all rows of channels
channels_small : (ws : List Written) (es : List TextRow) → AreTextRows ws es → AllByRecursion IsSmallChannel (certificate_in es).channels
channels_small [] [] no_text_row = tt
channels_small [] (e ∷ es) h = elim h [ ]
channels_small (w ∷ ws) [] h = elim h [ ]
channels_small (w ∷ ws) (channel c n ∷ es) (text_row h rest) = (channel_small w.words c n h, channels_small ws es rest)
channels_small (w ∷ ws) (e ∷ es) (text_row h rest) = channels_small ws es rest

pub small : (text : List ℕ) (cert : Certificate) → Spells text cert → AreSmall cert
small text cert h =
    subst AreSmall (sym h.certificate_is)
    (record {
      charges = charges_small h.others h.entries h.others_are;
      weights = weights_small h.others h.entries h.others_are;
      fars = fars_small h.others h.entries h.others_are;
      far_states = far_states_small h.others h.entries h.others_are;
      channels = channels_small h.others h.entries h.others_are;
    })

-- what is said of the first row of a place is no more than what is said of all
pub amount_small : (f : Row → ℕ) (most : ℕ) (rows : List Row) (p : Place) → AllByRecursion (λ (r : Row). f r ≤ most) rows → amount f rows p ≤ most
amount_small f most [] p h = omega arith
amount_small f most (r ∷ rs) p h = by (place_eq r.place p) (amount_small f most rs p h.1) where
  by : (b : Bool) → amount f rs p ≤ most → cond b (f r) (amount f rs p) ≤ most
  by true others = h.0
  by false others = others

-- no event weighs more steps than a row can say
pub weights_at_most : (text : List ℕ) (cert : Certificate) → Spells text cert → (p : Place) → (steps_of cert).weight p ≤ most_steps
weights_at_most text cert h p = amount_small (λ (r : Row). r.steps) most_steps cert.weights p (all_weaker IsSmall (λ (r : Row). r.steps ≤ most_steps) cert.weights (λ r k. k.0) (small text cert h).weights)
