-- Where a walk begins in an order of nodes.
use Rattle.std.proofs.Common.{ℕ, zero, suc, ◌≡◌, ◌<◌, List, [], ◌∷◌, ◌++◌, length, map, slice_index, Option, None, Some, refl, sym, ◌∙◌, ap, ap₂, subst, arith, Contains, append_assoc, append-nil}
use Rattle.std.proofs.lemmas.List.{length-map, get_or-map}
use Rattle.fb_model.specs.Names.{Name, Place, at_place}
use Rattle.fb_model.specs.CertificateText.{place_of}
use Rattle.fb_model.specs.Wires.{Leaf}
use Rattle.fb_model.specs.Certificates.{state_places, event_places, channels_of, with_repeats}
use Rattle.fb_model.specs.Demands.{Node, state, event, channel, node_in}
use Rattle.fb_find_graph.specs.Searches.{IsFromLeast}
use Rattle.fb_find_laws.specs.Numbered.{AreNumbers}
use Rattle.fb_find_laws.specs.Nodes.{nodes_of, AreInOrder, AreRowsOf}
use Rattle.fb_model.specs.Finding.{nodes_in_order, BeginsFirst}

-- ---- before and after a place

abbrev before_at : List Node → ℕ → List Node
before_at [] w = []
before_at (x ∷ xs) zero = []
before_at (x ∷ xs) (suc w) = x ∷ before_at xs w

abbrev after_at : List Node → ℕ → List Node
after_at [] w = []
after_at (x ∷ xs) zero = xs
after_at (x ∷ xs) (suc w) = after_at xs w

parted : (xs : List Node) (w : ℕ) → w < length xs → xs ≡ before_at xs w ++ node_in xs w ∷ after_at xs w
parted [] w h = absurd (omega (arith, h))
parted (x ∷ xs) zero h = refl
parted (x ∷ xs) (suc w) h = ap (λ ys. x ∷ ys) (parted xs w (omega (arith, h)))

-- what stands before a place has a smaller number
stands_before : (xs : List Node) (w : ℕ) (x : Node) → Contains (before_at xs w) x → (j : ℕ) × (j < w) × (j < length xs) × (node_in xs j ≡ x)
stands_before [] w x h = absurd (omega (arith, h.1))
stands_before (y ∷ ys) zero x h = absurd (omega (arith, h.1))
stands_before (y ∷ ys) (suc w) x (zero, l, e) = (0, omega arith, omega arith, e)
stands_before (y ∷ ys) (suc w) x (suc k, l, e) = let r = stands_before ys w x (k, omega (arith, l), e) in (suc r.0, omega (arith, r.1), omega (arith, r.2), r.3)

-- ---- walks

-- a walk through numbers from its least one on is one through nodes from the first one on
pub begins_first : (nodes : List Node) (number : Node → ℕ) (walk : List ℕ) → AreNumbers nodes number → 0 < length walk → ((k : ℕ) → k < length walk → slice_index walk k < length nodes) → IsFromLeast walk → BeginsFirst nodes (map (node_in nodes) walk)
begins_first nodes number walk n long known least =
    let w = slice_index walk 0 in
    let at : (k : ℕ) → k < length walk → node_in (map (node_in nodes) walk) k ≡ node_in nodes (slice_index walk k) = λ k h. get_or-map (node_in nodes) walk k 0 (state (at_place [] [])) h in
    record {
      before = before_at nodes w;
      after = after_at nodes w;
      order_is = parted nodes w (known 0 long) ∙ ap (λ x. before_at nodes w ++ x ∷ after_at nodes w) (sym (at 0 long));
      none_before = λ k h c.
          let hk : k < length walk = omega (arith, length-map walk (node_in nodes), h) in
          let r = stands_before nodes w (node_in (map (node_in nodes) walk) k) c in
          let same : node_in nodes r.0 ≡ node_in nodes (slice_index walk k) = r.3 ∙ at k hk in
          let e : r.0 ≡ slice_index walk k = sym (n.back r.0 r.2) ∙ (ap number same ∙ n.back (slice_index walk k) (known k hk)) in
          let l = least k hk in
          absurd (omega (arith, e, l, r.1));
    }

-- ---- the nodes of rows

both_maps : (f : Place → Node) (ts : List Name) → map (λ t. f (place_of t)) ts ≡ map f (map place_of ts)
both_maps f [] = refl
both_maps f (t ∷ ts) = ap (λ xs. f (place_of t) ∷ xs) (both_maps f ts)

-- a walk that begins first begins first where more stand behind
begins_more : (xs ys walk : List Node) → BeginsFirst xs walk → BeginsFirst (xs ++ ys) walk
begins_more xs ys walk b = record {
  before = b.before;
  after = b.after ++ ys;
  order_is = ap (λ zs. zs ++ ys) b.order_is ∙ append_assoc b.before (node_in walk 0 ∷ b.after) ys;
  none_before = b.none_before;
}

-- the nodes of rows stand in the order of all, and behind them at most what has no rows
pub nodes_are : (repeats : Option ℕ) (all : List Leaf) (states events : List Name) (channels : List ℕ) → AreRowsOf repeats all states events channels → AreInOrder all states events → (rest : List Node) × (nodes_in_order all ≡ nodes_of states events channels ++ rest)
nodes_are repeats all states events channels rows are =
    let front : map state (state_places all) ≡ map (λ t. state (place_of t)) states = sym (both_maps state states ∙ ap (map state) are.states_are) in
    let middle : map event (event_places all) ≡ map (λ t. event (place_of t)) events = sym (both_maps event events ∙ ap (map event) are.events_are) in
    let r = rest repeats channels rows.channels_are in (
      r.0,
      ap₂ (λ xs ys. xs ++ (ys ++ map channel (channels_of all))) front middle
          ∙ (ap (λ zs. map (λ t. state (place_of t)) states ++ (map (λ t. event (place_of t)) events ++ zs)) r.1
          ∙ (ap (λ zs. map (λ t. state (place_of t)) states ++ zs) (sym (append_assoc (map (λ t. event (place_of t)) events) (map channel channels) r.0)) ∙ sym (append_assoc (map (λ t. state (place_of t)) states) (map (λ t. event (place_of t)) events ++ map channel channels) r.0))),
    )
  where
    rest : (o : Option ℕ) (cs : List ℕ) → cs ≡ with_repeats o (channels_of all) → (ns : List Node) × (map channel (channels_of all) ≡ map channel cs ++ ns)
    rest None cs e = (map channel (channels_of all), ap (λ ks. map channel ks ++ map channel (channels_of all)) (sym e))
    rest (Some r) cs e = ([], ap (map channel) (sym e) ∙ sym (append-nil (map channel cs)))

-- a walk that begins first among the nodes of rows begins first among all
pub begins_in_order : (repeats : Option ℕ) (all : List Leaf) (states events : List Name) (channels : List ℕ) (walk : List Node) → AreRowsOf repeats all states events channels → AreInOrder all states events → BeginsFirst (nodes_of states events channels) walk → BeginsFirst (nodes_in_order all) walk
begins_in_order repeats all states events channels walk rows are b =
    let r = nodes_are repeats all states events channels rows are in
    subst (λ (order : List Node). BeginsFirst order walk) (sym r.1) (begins_more (nodes_of states events channels) r.0 walk b)
