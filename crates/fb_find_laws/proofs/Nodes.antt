-- Nodes have the numbers of their places in the list.
use Rattle.std.proofs.Common.{ℕ, ◌≡◌, ◌+◌, ◌-◌, ◌<◌, ◌≤◌, ◌⊎◌, inl, inr, List, [], ◌∷◌, ◌++◌, length, map, slice_index_or, Option, None, Some, refl, sym, ◌∙◌, ap, subst, arith, ◌==◌}
use Rattle.std.specs.List.{join_with_byte, IsDistinct}
use Rattle.std.specs.Str.{bytes_eq}
use Rattle.std.proofs.lemmas.List.{length-map, length-append, get_or-map, get_or_append_left, get_or-append-add}
use Rattle.std.proofs.lemmas.List.Splits.{join_with_byte-slice_split, length-slice_split}
use Rattle.fb_model.specs.Names.{Name, Path, at_place}
use Rattle.fb_model.specs.Wires.{Leaf}
use Rattle.fb_model.specs.Certificates.{channels_of, with_repeats}
use Rattle.fb_model.proofs.Networks.{AreRising, channels_rise}
use Rattle.fb_model.specs.CertificateText.{names_in, place_of, all_but_last, last_name}
use Rattle.fb_model.specs.Demands.{Node, state, event, channel, node_in}
use Rattle.fb_find_laws.specs.Numbered.{AreNumbers}
use Rattle.fb_find_laws.specs.Nodes.{written, index_in, number, nodes_of, AreRowsOf}
use Rattle.fb_lists.proofs.Lists.{default_free}
use Rattle.fb_find_laws.proofs.Lists.{first_at, first_rank}

-- the names before the last, and the last
ends : (n : Name) (ns : Path) → all_but_last (n ∷ ns) ++ last_name (n ∷ ns) ∷ [] ≡ n ∷ ns
ends n [] = refl
ends n (m ∷ ns) = ap (λ ms. n ∷ ms) (ends m ns)

parts : (ns : Path) → 0 < length ns → all_but_last ns ++ last_name ns ∷ [] ≡ ns
parts [] h = absurd (omega (arith, h))
parts (n ∷ ns) h = ends n ns

-- the names of a place, its own the last
pub place_names : (t : Name) → (place_of t).path ++ (place_of t).event ∷ [] ≡ names_in t
place_names t = parts (names_in t) (omega (arith, length-slice_split (λ c. c == 46) t))

-- a text is the place that it writes
pub written_place : (t : Name) → written (place_of t) ≡ t
written_place t = ap (join_with_byte 46) (place_names t) ∙ join_with_byte-slice_split 46 t

split : (m n : ℕ) → (m < n) ⊎ (n ≤ m)
split m n = grind arith

module _ (states events : List Name) (channels : List ℕ) (apart : IsDistinct bytes_eq states) (others : IsDistinct bytes_eq events) (rising : AreRising channels) where
  abbrev front : List Node
  front = map (λ t. state (place_of t)) states

  abbrev middle : List Node
  middle = map (λ t. event (place_of t)) events

  abbrev behind : List Node
  behind = middle ++ map channel channels

  abbrev nodes : List Node
  nodes = nodes_of states events channels

  sized : length nodes ≡ length states + (length events + length channels)
  sized = omega (
    arith,
    length-append front behind,
    length-append middle (map channel channels),
    length-map states (λ t. state (place_of t)),
    length-map events (λ t. event (place_of t)),
    length-map channels channel,
  )

  state_back : (p : ℕ) → p < length states → number states events channels (node_in nodes p) ≡ p
  state_back p h =
      let e : node_in nodes p ≡ state (place_of (slice_index_or states p [])) =
      get_or_append_left front behind (state (at_place [] [])) p (omega (arith, h, length-map states (λ t. state (place_of t)))) ∙ get_or-map (λ t. state (place_of t)) states p [] (state (at_place [] [])) h in
      ap (number states events channels) e ∙ (ap (index_in states) (written_place (slice_index_or states p [])) ∙ first_at states p apart h)

  -- what stands behind the states
  at_behind : (k : ℕ) → node_in nodes (length states + k) ≡ slice_index_or behind k (state (at_place [] []))
  at_behind k = ap (λ n. node_in nodes (n + k)) (sym (length-map states (λ t. state (place_of t)))) ∙ get_or-append-add front behind k (state (at_place [] []))

  event_back : (k : ℕ) → k < length events → number states events channels (node_in nodes (length states + k)) ≡ length states + k
  event_back k h =
      let e : slice_index_or behind k (state (at_place [] [])) ≡ event (place_of (slice_index_or events k [])) =
      get_or_append_left middle (map channel channels) (state (at_place [] [])) k (omega (arith, h, length-map events (λ t. event (place_of t)))) ∙ get_or-map (λ t. event (place_of t)) events k [] (state (at_place [] [])) h in
      ap (number states events channels) (at_behind k ∙ e) ∙ ap (λ n. length states + n) (ap (index_in events) (written_place (slice_index_or events k [])) ∙ first_at events k others h)

  channel_back : (k : ℕ) → k < length channels → number states events channels (node_in nodes (length states + (length events + k))) ≡ length states + (length events + k)
  channel_back k h =
      let at : slice_index_or behind (length events + k) (state (at_place [] [])) ≡ slice_index_or (map channel channels) k (state (at_place [] [])) =
      ap (λ n. slice_index_or behind (n + k) (state (at_place [] []))) (sym (length-map events (λ t. event (place_of t)))) ∙ get_or-append-add middle (map channel channels) k (state (at_place [] [])) in
      let e : slice_index_or (map channel channels) k (state (at_place [] [])) ≡ channel (slice_index_or channels k 0) = get_or-map channel channels k 0 (state (at_place [] [])) h in
      ap (number states events channels) (at_behind (length events + k) ∙ (at ∙ e)) ∙ ap (λ n. length states + (length events + n)) (first_rank channels k rising h)

  back : (p : ℕ) → p < length nodes → number states events channels (node_in nodes p) ≡ p
  back p h = by (split p (length states)) (split p (length states + length events)) where
    by : (p < length states) ⊎ (length states ≤ p) → (p < length states + length events) ⊎ (length states + length events ≤ p) → number states events channels (node_in nodes p) ≡ p
    by (inl l) m = state_back p l
    by (inr l) (inl m) =
        let e : length states + (p - length states) ≡ p = omega (arith, l) in
        subst (λ n. number states events channels (node_in nodes n) ≡ n) e (event_back (p - length states) (omega (arith, l, m)))
    by (inr l) (inr m) =
        let e : length states + (length events + (p - (length states + length events))) ≡ p = omega (arith, m) in
        subst (λ n. number states events channels (node_in nodes n) ≡ n) e (channel_back (p - (length states + length events)) (omega (arith, m, h, sized)))

  pub are_numbers : AreNumbers nodes (number states events channels)
  are_numbers = record {
    at = λ x c.
        let own : node_in nodes c.0 ≡ x = default_free nodes c.0 (state (at_place [] [])) x c.1 ∙ c.2 in
        let e : number states events channels x ≡ c.0 = sym (ap (number states events channels) own) ∙ back c.0 c.1 in
        (omega (arith, e, c.1), ap (node_in nodes) e ∙ own);
    back = back;
  }

-- the channels of rows go upwards
rows_rise : (repeats : Option ℕ) (all : List Leaf) → AreRising (with_repeats repeats (channels_of all))
rows_rise None all = tt
rows_rise (Some r) all = channels_rise all

pub rows_numbered : (repeats : Option ℕ) (all : List Leaf) (states events : List Name) (channels : List ℕ) → AreRowsOf repeats all states events channels → AreNumbers (nodes_of states events channels) (number states events channels)
rows_numbered repeats all states events channels h = are_numbers states events channels h.states_apart h.events_apart (subst AreRising (sym h.channels_are) (rows_rise repeats all))
