-- The resource of a node, by the text that goes with its number.
use Rattle.std.proofs.Common.{ℕ, zero, suc, ◌≡◌, ◌+◌, ◌-◌, ◌<◌, ◌≤◌, ◌==◌, ◌⊎◌, inl, inr, Bool, true, false, ◌||◌, List, [], ◌∷◌, ◌++◌, length, map, take, slice_index_or, Option, None, Some, refl, sym, ap, subst, ◌∙◌, arith, string_bytes, Contains, if◌then◌else◌}
use Rattle.std.specs.List.{list_any}
use Rattle.std.proofs.lemmas.Bool.{eqb-true}
use Rattle.std.proofs.lemmas.List.{length-map, length-append, get_or-map, get_or_append_left, get_or-append-add}
use Rattle.fb_model.specs.Names.{Name, Path, at_place}
use Rattle.fb_model.specs.System.{System}
use Rattle.fb_model.specs.Wires.{Leaf}
use Rattle.fb_model.specs.Certificates.{all_leaves, channel_in, channels_of, with_number, with_repeats}
use Rattle.fb_model.specs.CertificateText.{names_in, place_of}
use Rattle.fb_model.proofs.Networks.{among_with, number_turned}
use Rattle.fb_model.specs.Demands.{Demand, Node, state, event, channel, node_in}
use Rattle.fb_find_laws.specs.Numbered.{AreNumbers}
use Rattle.fb_find_laws.specs.Nodes.{number, nodes_of}
use Rattle.fb_find_laws.proofs.Nodes.{place_names}
use Rattle.fb_types_blocks.specs.Views.{names_of}
use Rattle.fb_flat.specs.declared.flat.FlatDevice.{FlatDevice}
use Rattle.fb_check_rows.specs.Channels.{is_one}
use Rattle.fb_check_rows.proofs.Channels.{number_at}
use Rattle.fb_find_rows.specs.Places.{text_at}
use Rattle.fb_find_rows.specs.Faults.{IsResourceIn}
use Rattle.fb_find_demands.specs.Ends.{end_of, names_channel}
use Rattle.fb_find_demands.specs.declared.numbered.Numbering.{Numbering}
use Rattle.fb_find_demands.specs.Rights.{numbers_of}
use Rattle.fb_find.specs.Given.{nodes_in}
use Rattle.fb_find.specs.Columns.{IsPast, text_of}
use Rattle.fb_model.specs.Finding.{IsGreat, IsResourceOf}
use Rattle.fb_find.specs.Parts.{events_in, states_in, IsReady}
use Rattle.fb_find.proofs.Columns.{nodes_have}

-- ---- ends of channels

-- a channel ends at a leaf that names it
pub record HasEnd (c : ℕ) (all : List Leaf) (path : Path) : Type 0 where
  pub leaf : Leaf
  pub among : Contains all leaf
  pub names : channel_in leaf.kind ≡ Some c
  pub path_is : path ≡ leaf.path

later : (c : ℕ) (leaf : Leaf) (rest : List Leaf) (path : Path) → HasEnd c rest path → HasEnd c (leaf ∷ rest) path
later c leaf rest path h = record { leaf = h.leaf; among = (suc h.among.0, let l = h.among.1 in omega (arith, l), h.among.2); names = h.names; path_is = h.path_is }

end_is : (c : ℕ) (all : List Leaf) → is_one c (channels_of all) ≡ true → HasEnd c all (end_of all c)
end_is c [] h = absurd cc
end_is c (leaf ∷ rest) h = by (channel_in leaf.kind) refl h (end_is c rest) where
  here : (m : ℕ) (b : Bool) → channel_in leaf.kind ≡ Some m → (m == c) ≡ b → ((c == m) || is_one c (channels_of rest)) ≡ true → (is_one c (channels_of rest) ≡ true → HasEnd c rest (end_of rest c))
      → HasEnd c (leaf ∷ rest) (if b then leaf.path else end_of rest c)
  here m true e f k again = record { leaf = leaf; among = (0, omega arith, refl); names = e ∙ ap Some (eqb-true m c f); path_is = refl }
  here m false e f k again = later c leaf rest (end_of rest c) (again (ap (λ b. b || is_one c (channels_of rest)) (sym (number_turned c m ∙ f)) ∙ k))

  by : (o : Option ℕ) → channel_in leaf.kind ≡ o → is_one c (elim o [ None ↦ channels_of rest | Some n ↦ with_number n (channels_of rest) ]) ≡ true → (is_one c (channels_of rest) ≡ true → HasEnd c rest (end_of rest c))
      → HasEnd c (leaf ∷ rest) (if names_channel c o then leaf.path else end_of rest c)
  by None e k again = later c leaf rest (end_of rest c) (again k)
  by (Some m) e k again = here m (m == c) e refl (sym (among_with c m (channels_of rest)) ∙ k) again

followed : (repeats : Option ℕ) (all : List Leaf) (c : ℕ) → is_one c (with_repeats repeats (channels_of all)) ≡ true → is_one c (channels_of all) ≡ true
followed None all c h = absurd cc
followed (Some r) all c h = h

-- ---- the text of a number

split : (m n : ℕ) → (m < n) ⊎ (n ≤ m)
split m n = grind arith

module _ (states events ends : List Name) (channels : List ℕ) where
  abbrev front : List Node
  front = map (λ t. state (place_of t)) states

  abbrev middle : List Node
  middle = map (λ t. event (place_of t)) events

  state_node : (k : ℕ) → k < length states → node_in (nodes_of states events channels) k ≡ state (place_of (slice_index_or states k []))
  state_node k h =
      get_or_append_left front (middle ++ map channel channels) (state (at_place [] [])) k (omega (arith, h, length-map states (λ t. state (place_of t))))
      ∙ get_or-map (λ t. state (place_of t)) states k [] (state (at_place [] [])) h

  behind : (k : ℕ) → node_in (nodes_of states events channels) (length states + k) ≡ slice_index_or (middle ++ map channel channels) k (state (at_place [] []))
  behind k = ap (λ n. node_in (nodes_of states events channels) (n + k)) (sym (length-map states (λ t. state (place_of t)))) ∙ get_or-append-add front (middle ++ map channel channels) k (state (at_place [] []))

  event_node : (k : ℕ) → k < length events → node_in (nodes_of states events channels) (length states + k) ≡ event (place_of (slice_index_or events k []))
  event_node k h =
      behind k
      ∙ (get_or_append_left middle (map channel channels) (state (at_place [] [])) k (omega (arith, h, length-map events (λ t. event (place_of t))))
      ∙ get_or-map (λ t. event (place_of t)) events k [] (state (at_place [] [])) h)

  channel_node : (k : ℕ) → k < length channels → node_in (nodes_of states events channels) (length states + (length events + k)) ≡ channel (slice_index_or channels k 0)
  channel_node k h =
      behind (length events + k)
      ∙ (ap (λ n. slice_index_or (middle ++ map channel channels) (n + k) (state (at_place [] []))) (sym (length-map events (λ t. event (place_of t))))
      ∙ (get_or-append-add middle (map channel channels) k (state (at_place [] [])) ∙ get_or-map channel channels k 0 (state (at_place [] [])) h))

  state_text : (k : ℕ) → k < length states → text_at states events ends k ≡ slice_index_or states k []
  state_text k h = get_or_append_left states (events ++ ends) [] k h

  event_text : (k : ℕ) → k < length events → text_at states events ends (length states + k) ≡ slice_index_or events k []
  event_text k h = get_or-append-add states (events ++ ends) k [] ∙ get_or_append_left events ends [] k h

  end_text : (k : ℕ) → text_at states events ends (length states + (length events + k)) ≡ slice_index_or ends k []
  end_text k = get_or-append-add states (events ++ ends) (length events + k) [] ∙ get_or-append-add events ends k []

  sized : length (nodes_of states events channels) ≡ length states + (length events + length channels)
  sized = omega (
    arith,
    length-append front (middle ++ map channel channels),
    length-append middle (map channel channels),
    length-map states (λ t. state (place_of t)),
    length-map events (λ t. event (place_of t)),
    length-map channels channel,
  )

  module _ (repeats : Option ℕ) (all : List Leaf) (resource : Name) (rows : channels ≡ with_repeats repeats (channels_of all)) (ends_are : map names_in ends ≡ map (end_of all) channels) where
    place_is : (t : Name) → IsResourceIn t resource → names_in resource ≡ take 2 ((place_of t).path ++ (place_of t).event ∷ [])
    place_is t h = h ∙ ap (take 2) (sym (place_names t))

    -- the path of the end of a channel
    end_path : (k : ℕ) → k < length channels → names_in (slice_index_or ends k []) ≡ end_of all (slice_index_or channels k 0)
    end_path k h =
        let l : k < length ends = omega (arith, h, ap length ends_are, length-map ends names_in, length-map channels (end_of all)) in
        sym (get_or-map names_in ends k [] (names_in []) l) ∙ (ap (λ (ps : List Path). slice_index_or ps k (names_in [])) ends_are ∙ get_or-map (end_of all) channels k 0 (names_in []) h)

    channel_is : (k : ℕ) → k < length channels → IsResourceIn (slice_index_or ends k []) resource → IsResourceOf all (channel (slice_index_or channels k 0)) resource
    channel_is k h is =
        let c = slice_index_or channels k 0 in
        let one : is_one c (channels_of all) ≡ true = followed repeats all c (ap (is_one c) (sym rows) ∙ number_at channels k h) in
        let e = end_is c all one in
        (e.leaf, e.among, e.names, is ∙ ap (take 2) (end_path k h ∙ e.path_is))

    -- a node of a number is of the resource of the text of the number
    at : (p : ℕ) → p < length (nodes_of states events channels) → IsResourceIn (text_at states events ends p) resource → IsResourceOf all (node_in (nodes_of states events channels) p) resource
    at p h is = by (split p (length states)) (split p (length states + length events)) where
      by : (p < length states) ⊎ (length states ≤ p) → (p < length states + length events) ⊎ (length states + length events ≤ p) → IsResourceOf all (node_in (nodes_of states events channels) p) resource
      by (inl l) m = subst (λ (x : Node). IsResourceOf all x resource) (sym (state_node p l)) (place_is (slice_index_or states p []) (subst (λ (t : Name). IsResourceIn t resource) (state_text p l) is))
      by (inr l) (inl m) =
          let k = p - length states in
          let e : length states + k ≡ p = omega (arith, l) in
          let h : k < length events = omega (arith, l, m) in
          let here : IsResourceIn (text_at states events ends (length states + k)) resource = subst (λ n. IsResourceIn (text_at states events ends n) resource) (sym e) is in
          subst (λ n. IsResourceOf all (node_in (nodes_of states events channels) n) resource) e
          (subst (λ (x : Node). IsResourceOf all x resource) (sym (event_node k h)) (place_is (slice_index_or events k []) (subst (λ (t : Name). IsResourceIn t resource) (event_text k h) here)))
      by (inr l) (inr m) =
          let k = p - (length states + length events) in
          let e : length states + (length events + k) ≡ p = omega (arith, m) in
          let small : k < length channels = omega (arith, m, h, sized) in
          let here : IsResourceIn (text_at states events ends (length states + (length events + k))) resource = subst (λ n. IsResourceIn (text_at states events ends n) resource) (sym e) is in
          subst (λ n. IsResourceOf all (node_in (nodes_of states events channels) n) resource) e
          (subst (λ (x : Node). IsResourceOf all x resource) (sym (channel_node k small)) (channel_is k small (subst (λ (t : Name). IsResourceIn t resource) (end_text k) here)))

-- states and events are numbered alike whether there are channels or not
pub same_number : (ts us : List Name) (cs : List ℕ) (x : Node) → AreNumbers (nodes_of ts us []) (number ts us []) → Contains (nodes_of ts us []) x → number ts us cs x ≡ number ts us [] x
same_number ts us cs x have c = by (split p (length ts)) where
  p : ℕ
  p = number ts us [] x

  at_state : (k : ℕ) → k < length ts → x ≡ node_in (nodes_of ts us []) k → number ts us cs x ≡ number ts us [] x
  at_state k l e = let f : x ≡ state (place_of (slice_index_or ts k [])) = e ∙ state_node ts us [] [] k l in ap (number ts us cs) f ∙ sym (ap (number ts us []) f)

  at_event : (k : ℕ) → k < length us → x ≡ node_in (nodes_of ts us []) (length ts + k) → number ts us cs x ≡ number ts us [] x
  at_event k l e = let f : x ≡ event (place_of (slice_index_or us k [])) = e ∙ event_node ts us [] [] k l in ap (number ts us cs) f ∙ sym (ap (number ts us []) f)

  by : (p < length ts) ⊎ (length ts ≤ p) → number ts us cs x ≡ number ts us [] x
  by (inl l) = at_state p l (sym (have.at x c).1)
  by (inr l) =
      let small = (have.at x c).0 in
      let e : length ts + (p - length ts) ≡ p = omega (arith, l) in
      at_event (p - length ts) (omega (arith, small, sized ts us [] [], l)) (sym (have.at x c).1 ∙ ap (node_in (nodes_of ts us [])) (sym e))

-- what is past its limit by texts is so in the book
pub great : (repeats : Option ℕ) (devices : List FlatDevice) (n : Numbering) (order : List ℕ) (s : System) (ready : IsReady repeats devices n order s) (ds : List Demand) (limit : ℕ) (resource : Name) → IsPast n ds limit resource → IsGreat ds limit s resource
great repeats devices n order s ready ds limit resource h =
    let have = (nodes_have repeats devices n order s ready).at h.node h.known in
    record {
      node = h.node;
      resource_is =
          subst (λ (x : Node). IsResourceOf (all_leaves s.devices) x resource) have.1
          (at (states_in n) (events_in n) (map string_bytes n.ends.items) n.channels.items repeats (all_leaves s.devices) resource ready.numbering.numbered.rows.channels_are ready.numbering.ends (numbers_of n h.node) have.0 h.resource_is);
      great = h.above;
    }
