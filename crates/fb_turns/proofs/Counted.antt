-- The demands of dispatches: they are met by what meets all demands, and what meets them counts.
use Rattle.std.proofs.Common.{◌≡◌, ℕ, zero, suc, ◌+◌, ◌≤◌, Bool, true, false, cond, List, [], ◌∷◌, ◌++◌, map, length, slice_index, max, min, refl, sym, ◌∙◌, ap, ap₂, subst, arith, Contains}
use Rattle.std.specs.Prelude.{nat_lt}
use Rattle.std.specs.List.{AllByRecursion, flat_map, sum_by}
use Rattle.std.proofs.Math.Nat.{max-le}
use Rattle.std.proofs.lemmas.List.Sums.{sum_by-cons}
use Rattle.std.proofs.lemmas.List.{map-append}
use Rattle.fb_model.specs.Names.{Name, Place}
use Rattle.fb_model.specs.System.{System}
use Rattle.fb_model.specs.Certificates.{all_leaves}
use Rattle.fb_model.specs.CertificateText.{place_of}
use Rattle.fb_model.specs.Demands.{Node, state, event, channel, Demand, IsMet, bare_demands}
use Rattle.fb_model.specs.Columns.{MeetAll}
use Rattle.fb_model.proofs.Placed.{all_left, all_right}
use Rattle.fb_model_turns.specs.Turns.{Counts, joined, added, largest}
use Rattle.fb_model_turns.proofs.Joins.{added_joins, largest_joins}
use Rattle.fb_find_laws.specs.Numbered.{AreNumbers, AreOf}
use Rattle.fb_find_laws.specs.Nodes.{Numbered, by_number, capped, nodes_of, AskForAll}
use Rattle.fb_types_blocks.specs.Views.{names_of}
use Rattle.fb_find_demands.specs.declared.numbered.Numbering.{Numbering}
use Rattle.fb_find_demands.specs.Rights.{numbers_of, numbered}
use Rattle.fb_find.specs.Given.{nodes_in}
use Rattle.fb_turns.specs.Counting.{own_of, term_right, chain_rights, counts_in, AllFit}
use Rattle.fb_turns.specs.Counting.{all_right as rest_right}
use Rattle.fb_model.proofs.Lists.{all_append}
use Rattle.fb_turns.proofs.Demanding.{own_node, IsCounted, leaves_count, devices_fit, devices_met}
use Rattle.fb_turns.proofs.Owning.{IsOwned, bare_owned, own_known, own_least, own_most}

-- counts as numbers of nodes
abbrev pub number_by : Counts → Node → ℕ
number_by c (state p) = c.charge p
number_by c (event p) = c.weight p
number_by c (channel n) = 0

-- ---- lists

first_in : {X : Type 0} (x : X) (xs : List X) → Contains (x ∷ xs) x
first_in x xs = (zero, omega arith, refl)

later_in : {X : Type 0} (x y : X) (xs : List X) → Contains xs y → Contains (x ∷ xs) y
later_in x y xs (k, l, e) = (suc k, omega (arith, l), e)

in_mapped : {X Y : Type 0} (f : X → Y) (xs : List X) (y : Y) → Contains (map f xs) y → (x : X) × Contains xs x × (f x ≡ y)
in_mapped f [] y (k, l, e) = absurd (omega (arith, l))
in_mapped f (x ∷ xs) y (zero, l, e) = (x, first_in x xs, e)
in_mapped f (x ∷ xs) y (suc k, l, e) = let r = in_mapped f xs y (k, omega (arith, l), e) in (r.0, later_in x r.0 xs r.1, r.2)

in_left : {X : Type 0} (xs ys : List X) (y : X) (P : X → Type 0) → ((x : X) → Contains xs x → P x) → ((x : X) → Contains ys x → P x) → Contains (xs ++ ys) y → P y
in_left [] ys y P h k c = k y c
in_left (x ∷ xs) ys y P h k (zero, l, e) = subst P e (h x (first_in x xs))
in_left (x ∷ xs) ys y P h k (suc i, l, e) = in_left xs ys y P (λ z c. h z (later_in x z xs c)) k (i, omega (arith, l), e)

in_flat : {X Y : Type 0} (f : X → List Y) (xs : List X) (y : Y) → Contains (flat_map f xs) y → (x : X) × Contains xs x × Contains (f x) y
in_flat f [] y (k, l, e) = absurd (omega (arith, l))
in_flat f (x ∷ xs) y c =
    in_left (f x) (flat_map f xs) y (λ z. (w : _) × Contains (x ∷ xs) w × Contains (f w) z) (λ z d. (x, first_in x xs, d)) (λ z d. let r = in_flat f xs z d in (r.0, later_in x r.0 xs r.1, r.2)) c

mapped_twice : {X Y Z : Type 0} (f : X → Y) (g : Y → Z) (h : X → Z) (xs : List X) → ((x : X) → g (f x) ≡ h x) → map g (map f xs) ≡ map h xs
mapped_twice f g h [] e = refl
mapped_twice f g h (x ∷ xs) e = ap₂ (λ a as'. a ∷ as') (e x) (mapped_twice f g h xs e)

flat_mapped : {X Y Z : Type 0} (f : X → List Y) (g : Y → Z) (h : X → List Z) (xs : List X) → ((x : X) → map g (f x) ≡ h x) → map g (flat_map f xs) ≡ flat_map h xs
flat_mapped f g h [] e = refl
flat_mapped f g h (x ∷ xs) e = map-append g (f x) (flat_map f xs) ∙ ap₂ (λ a b. a ++ b) (e x) (flat_mapped f g h xs e)

flat_of_mapped : {X Y Z : Type 0} (f : X → Y) (g : Y → List Z) (xs : List X) → flat_map g (map f xs) ≡ flat_map (λ x. g (f x)) xs
flat_of_mapped f g [] = refl
flat_of_mapped f g (x ∷ xs) = ap (λ b. g (f x) ++ b) (flat_of_mapped f g xs)

sum_joins : (x : Node → ℕ) (ts : List Node) → sum_by x ts ≡ joined added x ts
sum_joins x [] = refl
sum_joins x (t ∷ ts) = sum_by-cons x t ts ∙ ap (λ k. x t + k) (sum_joins x ts)

-- a number that is 0 or 1 is not capped
capped_own : (s k : ℕ) → capped (own_of s k) ≡ own_of s k
capped_own s k = by (nat_lt k s) where
  by : (b : Bool) → min (cond b 0 1) 1000000000001 ≡ cond b 0 1
  by true = refl
  by false = refl

module _ (n : Numbering) where
  abbrev states : ℕ
  states = length (names_of n.states)

  -- a demand of dispatches, and those of the longest chain
  abbrev pub counted : Demand → Demand
  counted d = record { node = d.node; constant = own_of states (numbers_of n d.node); terms = d.terms }

  abbrev with_term : Demand → Node → Demand
  with_term d t = record { node = d.node; constant = own_of states (numbers_of n d.node); terms = t ∷ [] }

  abbrev pub chained : Demand → List Demand
  chained d = record { node = d.node; constant = own_of states (numbers_of n d.node); terms = [] } ∷ map (with_term d) d.terms

  -- ---- by numbers

  one_right : (d : Demand) → rest_right states (by_number (numbers_of n) d) ≡ by_number (numbers_of n) (counted d)
  one_right d = ap (λ k. record { node = numbers_of n d.node; constant = k; terms = map (numbers_of n) d.terms }) (sym (capped_own states (numbers_of n d.node)))

  pub all_numbered : (rights : List Numbered) (ds : List Demand) → rights ≡ numbered n ds → map (rest_right states) rights ≡ numbered n (map counted ds)
  all_numbered rights ds e =
      ap (map (rest_right states)) e ∙ mapped_twice (by_number (numbers_of n)) (rest_right states) (λ d. by_number (numbers_of n) (counted d)) ds one_right
      ∙ sym (mapped_twice counted (by_number (numbers_of n)) (λ d. by_number (numbers_of n) (counted d)) ds (λ d. refl))

  terms_right : (d : Demand) (ts : List Node) → map (term_right states (numbers_of n d.node)) (map (numbers_of n) ts) ≡ map (by_number (numbers_of n)) (map (with_term d) ts)
  terms_right d [] = refl
  terms_right d (t ∷ ts) =
      ap₂ (λ a as'. a ∷ as') (ap (λ k. record { node = numbers_of n d.node; constant = k; terms = numbers_of n t ∷ [] }) (sym (capped_own states (numbers_of n d.node)))) (terms_right d ts)

  chain_right : (d : Demand) → map (by_number (numbers_of n)) (chained d) ≡ chain_rights states (by_number (numbers_of n) d)
  chain_right d =
      ap₂ (λ a as'. a ∷ as') (ap (λ k. record { node = numbers_of n d.node; constant = k; terms = [] }) (capped_own states (numbers_of n d.node))) (sym (terms_right d d.terms))

  pub chains_numbered : (rights : List Numbered) (ds : List Demand) → rights ≡ numbered n ds → flat_map (chain_rights states) rights ≡ numbered n (flat_map chained ds)
  chains_numbered rights ds e =
      ap (flat_map (chain_rights states)) e ∙ flat_of_mapped (by_number (numbers_of n)) (chain_rights states) ds
      ∙ sym (flat_mapped chained (by_number (numbers_of n)) (λ d. chain_rights states (by_number (numbers_of n) d)) ds chain_right)

  -- ---- they are of the same nodes, and ask for no others

  pub all_of : (ds : List Demand) → AreOf (nodes_in n) ds → AreOf (nodes_in n) (map counted ds)
  all_of ds h = record {
    node = λ d c. let r = in_mapped counted ds d c in subst (λ (e : Demand). Contains (nodes_in n) e.node) r.2 (h.node r.0 r.1);
    terms = λ d x c t. let r = in_mapped counted ds d c in h.terms r.0 x r.1 (subst (λ (e : Demand). Contains e.terms x) (sym r.2) t);
  }

  pub all_ask : (ds : List Demand) → AskForAll ds (map counted ds)
  all_ask ds = λ e x c t.
      let r = in_mapped counted ds e c in
      (r.0, r.1, ap (λ (d : Demand). d.node) r.2, subst (λ (d : Demand). Contains d.terms x) (sym r.2) t)

  -- a demand of a chain is of the same node, and asks for no other
  abbrev IsPartOf : Demand → Demand → Type 0
  IsPartOf d e = (d.node ≡ e.node) × ((x : Node) → Contains e.terms x → Contains d.terms x)

  part_of : (d e : Demand) → Contains (chained d) e → IsPartOf d e
  part_of d e (zero, l, i) = subst (IsPartOf d) i (refl, λ x c. absurd (omega (arith, c.1)))
  part_of d e (suc k, l, i) =
      let r = in_mapped (with_term d) d.terms e (k, omega (arith, l), i) in
      subst (IsPartOf d) r.2 (refl, λ x c. subst (Contains d.terms) (only r.0 x c) r.1) where
        only : (t x : Node) → Contains (t ∷ []) x → t ≡ x
        only t x (zero, m, j) = j
        only t x (suc k, m, j) = absurd (omega (arith, m))

  pub chains_of : (ds : List Demand) → AreOf (nodes_in n) ds → AreOf (nodes_in n) (flat_map chained ds)
  chains_of ds h = record {
    node = λ e c. let r = in_flat chained ds e c in subst (Contains (nodes_in n)) (part_of r.0 e r.2).0 (h.node r.0 r.1);
    terms = λ e x c t. let r = in_flat chained ds e c in h.terms r.0 x r.1 ((part_of r.0 e r.2).1 x t);
  }

  pub chains_ask : (ds : List Demand) → AskForAll ds (flat_map chained ds)
  chains_ask ds = λ e x c t. let r = in_flat chained ds e c in (r.0, r.1, (part_of r.0 e r.2).0, (part_of r.0 e r.2).1 x t)

  -- ---- what meets the demands of a system meets these

  module _ (stand : AreNumbers (nodes_in n) (numbers_of n)) (y : Node → ℕ) where
    one_met : (d : Demand) → Contains (nodes_in n) d.node → IsOwned d → IsMet y d → IsMet y (counted d)
    one_met d known own met = omega (arith, met, own_known n stand d known own)

    pub all_met : (ds : List Demand) → ((d : Demand) → Contains ds d → Contains (nodes_in n) d.node) → AllByRecursion IsOwned ds → MeetAll y ds → MeetAll y (map counted ds)
    all_met [] k o m = tt
    all_met (d ∷ ds) k o m = (one_met d (k d (first_in d ds)) o.0 m.0, all_met ds (λ e c. k e (later_in d e ds c)) o.1 m.1)

    terms_met : (d : Demand) (own : ℕ) (ts : List Node) → own + sum_by y ts ≤ y d.node → own ≡ own_of states (numbers_of n d.node) → AllByRecursion (IsMet y) (map (with_term d) ts)
    terms_met d own [] h e = tt
    terms_met d own (t ∷ ts) h e =
        let s = sum_by-cons y t ts in
        (omega (arith, h, s, sym e, sum_by-cons y t []), terms_met d own ts (omega (arith, h, s)) e)

    chain_met : (d : Demand) → IsMet y (counted d) → AllByRecursion (IsMet y) (chained d)
    chain_met d h = (omega (arith, h), terms_met d (own_of states (numbers_of n d.node)) d.terms h refl)

    pub chains_met : (ds : List Demand) → MeetAll y (map counted ds) → MeetAll y (flat_map chained ds)
    chains_met [] m = tt
    chains_met (d ∷ ds) m = all_append (IsMet y) (chained d) (flat_map chained ds) (chain_met d m.0) (chains_met ds m.1)

    -- ---- and so do counts that fit

    all_paid : (ds : List Demand) → ((d : Demand) → Contains ds d → Contains (nodes_in n) d.node) → AllByRecursion IsOwned ds → AllByRecursion (IsCounted added added_joins y) ds → MeetAll y (map counted ds)
    all_paid [] k o m = tt
    all_paid (d ∷ ds) k o m = (omega (arith, m.0, own_most n stand d (k d (first_in d ds)) o.0, sum_joins y d.terms), all_paid ds (λ e c. k e (later_in d e ds c)) o.1 m.1)

    terms_paid : (d : Demand) (own : ℕ) (ts : List Node) → own + joined largest y ts ≤ y d.node → own_of states (numbers_of n d.node) ≤ own → AllByRecursion (IsMet y) (map (with_term d) ts)
    terms_paid d own [] h o = tt
    terms_paid d own (t ∷ ts) h o = (omega (arith, h, o, sum_by-cons y t []), terms_paid d own ts (omega (arith, h)) o)

    chains_paid : (ds : List Demand) → ((d : Demand) → Contains ds d → Contains (nodes_in n) d.node) → AllByRecursion IsOwned ds → AllByRecursion (IsCounted largest largest_joins y) ds → MeetAll y (flat_map chained ds)
    chains_paid [] k o m = tt
    chains_paid (d ∷ ds) k o m =
        let own = own_most n stand d (k d (first_in d ds)) o.0 in
        all_append (IsMet y) (chained d) (flat_map chained ds) (omega (arith, m.0, own), terms_paid d (own_node d.node) d.terms m.0 own) (chains_paid ds (λ e c. k e (later_in d e ds c)) o.1 m.1)

  -- ---- numbers that meet them count

  module _ (stand : AreNumbers (nodes_in n) (numbers_of n)) (numbers : List ℕ) where
    abbrev at_node : Node → ℕ
    at_node v = slice_index numbers (numbers_of n v)

    all_count : (ds : List Demand) → MeetAll at_node (map counted ds) → AllByRecursion (IsCounted added added_joins at_node) ds
    all_count [] m = tt
    all_count (d ∷ ds) m = (omega (arith, m.0, own_least n stand d.node, sum_joins at_node d.terms), all_count ds m.1)

    chain_most : (own most : ℕ) (d : Demand) (ts : List Node) → own ≤ most → own ≤ own_of states (numbers_of n d.node) → most ≡ at_node d.node → AllByRecursion (IsMet at_node) (map (with_term d) ts) → own + joined largest at_node ts ≤ most
    chain_most own most d [] l o e h = omega (arith, l)
    chain_most own most d (t ∷ ts) l o e h =
        let rest = chain_most own most d ts l o e h.1 in
        let here : own + at_node t ≤ most = omega (arith, h.0, o, e, sum_by-cons at_node t []) in
        let both : max (own + at_node t) (own + joined largest at_node ts) ≤ most = max-le here rest in
        subst (λ k. k ≤ most) (own_max own (at_node t) (joined largest at_node ts)) both where
          own_max : (o a b : ℕ) → max (o + a) (o + b) ≡ o + max a b
          own_max o a b = omega arith

    chains_count : (ds : List Demand) → MeetAll at_node (flat_map chained ds) → AllByRecursion (IsCounted largest largest_joins at_node) ds
    chains_count [] m = tt
    chains_count (d ∷ ds) m =
        let here = all_left (IsMet at_node) (chained d) (flat_map chained ds) m in
        (chain_most (own_node d.node) (at_node d.node) d d.terms (omega (arith, here.0, own_least n stand d.node)) (own_least n stand d.node) refl here.1, chains_count ds (all_right (IsMet at_node) (chained d) (flat_map chained ds) m))

    pub all_fit : (s : System) → MeetAll at_node (map counted (bare_demands (all_leaves s.devices))) → AllFit added s (counts_in n numbers)
    all_fit s m = devices_fit added added_joins at_node s.devices (leaves_count added added_joins at_node (all_leaves s.devices) (all_count (bare_demands (all_leaves s.devices)) m))

    pub chains_fit : (s : System) → MeetAll at_node (flat_map chained (bare_demands (all_leaves s.devices))) → AllFit largest s (counts_in n numbers)
    chains_fit s m = devices_fit largest largest_joins at_node s.devices (leaves_count largest largest_joins at_node (all_leaves s.devices) (chains_count (bare_demands (all_leaves s.devices)) m))

  -- ---- and counts that fit are numbers that meet them

  module _ (stand : AreNumbers (nodes_in n) (numbers_of n)) (s : System) (known : (d : Demand) → Contains (bare_demands (all_leaves s.devices)) d → Contains (nodes_in n) d.node) (c : Counts) where
    pub fitting_all : AllFit added s c → MeetAll (number_by c) (map counted (bare_demands (all_leaves s.devices)))
    fitting_all h = all_paid stand (number_by c) (bare_demands (all_leaves s.devices)) known (bare_owned (all_leaves s.devices)) (devices_met added added_joins (number_by c) s.devices h)

    pub fitting_chains : AllFit largest s c → MeetAll (number_by c) (flat_map chained (bare_demands (all_leaves s.devices)))
    fitting_chains h = chains_paid stand (number_by c) (bare_demands (all_leaves s.devices)) known (bare_owned (all_leaves s.devices)) (devices_met largest largest_joins (number_by c) s.devices h)

-- ---- each event has a number

in_channels : (us : List Name) (cs : List ℕ) (p : Place) → Contains (map place_of us) p → Contains (map (λ t. event (place_of t)) us ++ map channel cs) (event p)
in_channels [] cs p (k, l, e) = absurd (omega (arith, l))
in_channels (u ∷ us) cs p (zero, l, e) = (zero, omega arith, ap event e)
in_channels (u ∷ us) cs p (suc k, l, e) = later_in (event (place_of u)) (event p) (map (λ t. event (place_of t)) us ++ map channel cs) (in_channels us cs p (k, omega (arith, l), e))

pub in_nodes : (ts us : List Name) (cs : List ℕ) (p : Place) → Contains (map place_of us) p → Contains (nodes_of ts us cs) (event p)
in_nodes [] us cs p c = in_channels us cs p c
in_nodes (t ∷ ts) us cs p c = later_in (state (place_of t)) (event p) (nodes_of ts us cs) (in_nodes ts us cs p c)
