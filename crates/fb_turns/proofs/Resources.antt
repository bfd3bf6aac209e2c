-- No room in a resource of the tables is no room in that of the book.
use Rattle.std.proofs.Common.{◌≡◌, ◌≤◌, ◌<◌, ◌+◌, ℕ, zero, suc, Bool, true, false, List, [], ◌∷◌, slice_get, Some, Result, Ok, Err, IfOk, refl, sym, ap, subst, ◌∙◌, string_bytes, arith}
use Rattle.std.specs.Prelude.{◌↔◌, IsTrue}
use Rattle.std.specs.List.{AllByRecursion, Any}
use Rattle.fb_model.specs.Names.{Name, Path, at_place}
use Rattle.fb_model.specs.Spelling.{IsWord}
use Rattle.fb_model.specs.System as system
use Rattle.fb_model.specs.System.{Service, Input, Output, Publish, Subscribe, Delay, Cycle, Restart}
use Rattle.fb_model.specs.Services.{arrivals}
use Rattle.fb_model.specs.Wires as wires
use Rattle.fb_model.specs.Wires.{Kind, Charted, Serviced, resource_leaves, leaves_from, leaves}
use Rattle.fb_model.specs.Certificates as book
use Rattle.fb_model.specs.Certificates.{kind_arrivals, name_at, depth_at}
use Rattle.fb_model.specs.CertificateText.{names_in}
use Rattle.fb_model.proofs.Lists.{all_append, all_both, all_weaker}
use Rattle.fb_model.proofs.Placed.{all_left, all_right}
use Rattle.fb_model.proofs.Homes.{resource_homes}
use Rattle.fb_model_laws.proofs.Following.{word_of}
use Rattle.fb_model_turns.specs.Turns.{IsAlone}
use Rattle.fb_cert.specs.declared.certificate.Certificate.{Certificate}
use Rattle.fb_cert.specs.Views.{certificate_of}
use Rattle.fb_flat.specs.declared.flat.Leaf.{Leaf}
use Rattle.fb_flat.specs.declared.flat.FlatResource.{FlatResource}
use Rattle.fb_flat.specs.Sites.{dotted}
use Rattle.fb_flat.specs.Leaves.{kind_of}
use Rattle.fb_flat.specs.Tables.{IsLeaf, AreLeaves, IsResource}
use Rattle.fb_flat.proofs.Dotted.{placed_at}
use Rattle.fb_check_rows.specs.Depths.{places_at, depth_of, IsMost}
use Rattle.fb_turns.specs.Room.{ArePast, Fits, IsPast, IsPastHere}

-- ---- leaves

words : (s : Service) → AllByRecursion IsWord (arrivals s)
words (Input n types) = (word_of _ refl, tt)
words (Output n types) = tt
words (Publish channel types) = tt
words (Subscribe channel types) = (word_of _ refl, tt)
words Delay = (word_of _ refl, tt)
words Cycle = (word_of _ refl, tt)
words Restart = (word_of _ refl, tt)

module _ (depth own : ℕ) (cert : book.Certificate) where
  at_row : (path e : Name) → IsWord e → places_at cert (dotted path e) ≡ (book.places_of cert).weight (at_place (names_in path) e)
  at_row path e w = ap (book.amount (λ r. r.places) cert.weights) (placed_at path e w)

  abbrev AtPath : Path → List Name → Type 0
  AtPath path es = AllByRecursion (λ e. depth < own + (book.places_of cert).weight (at_place path e)) es

  past_of : (path : Name) (es : List Name) → AllByRecursion IsWord es → ArePast depth own cert path es ↔ AtPath (names_in path) es
  past_of path es w = (
    all_both IsWord (λ e. depth < own + places_at cert (dotted path e)) (λ e. depth < own + (book.places_of cert).weight (at_place (names_in path) e)) es (λ e v h. subst (λ n. depth < own + n) (at_row path e v) h) w,
    all_both IsWord (λ e. depth < own + (book.places_of cert).weight (at_place (names_in path) e)) (λ e. depth < own + places_at cert (dotted path e)) es (λ e v h. subst (λ n. depth < own + n) (sym (at_row path e v)) h) w,
  )

  -- a service
  pub served : (l : Leaf) (service : Service) (b : Bool) → kind_of l.body ≡ Serviced service → IsTrue b ↔ ArePast depth own cert (string_bytes l.path) (arrivals service) → (leaf : wires.Leaf) → IsLeaf l leaf → IsTrue b ↔ IsPast depth own cert leaf
  served l service b k h leaf is =
      let kind : leaf.kind ≡ Serviced service = sym is.kind ∙ k in
      let both = past_of (string_bytes l.path) (arrivals service) (words service) in
      let P : Path → Kind → Type 0 = λ p x. AtPath p (kind_arrivals x) in (
        λ t. subst (λ x. P leaf.path x) (sym kind) (subst (λ p. P p (Serviced service)) is.path (both.0 (h.0 t))),
        λ p. h.1 (both.1 (subst (λ q. P q (Serviced service)) (sym is.path) (subst (λ x. P leaf.path x) kind p))),
      )

  -- a chart has no arrival
  pub charted : (l : Leaf) (block : system.Block) → kind_of l.body ≡ Charted block → (leaf : wires.Leaf) → IsLeaf l leaf → IsTrue true ↔ IsPast depth own cert leaf
  charted l block k leaf is =
      let kind : leaf.kind ≡ Charted block = sym is.kind ∙ k in
      (λ t. subst (λ x. AtPath leaf.path (kind_arrivals x)) (sym kind) tt, λ p. refl)

  -- ---- leaves of a resource

  pub all_past : (ls : List Leaf) (all : List wires.Leaf) → AreLeaves ls all → AllByRecursion (IsPastHere depth own cert) ls → AllByRecursion (IsPast depth own cert) all
  all_past [] [] are h = tt
  all_past [] (leaf ∷ all) are h = absurd are
  all_past (l ∷ ls) [] are h = absurd are
  all_past (l ∷ ls) (leaf ∷ all) are h = (h.0 leaf are.0, all_past ls all are.1 h.1)

  pub one_fits : (ls : List Leaf) (all : List wires.Leaf) → AreLeaves ls all → Any (Fits depth own cert) ls → AllByRecursion (IsPast depth own cert) all → ⊥
  one_fits [] all are a h = absurd (omega (arith, a.2))
  one_fits (l ∷ ls) [] are a h = absurd are
  one_fits (l ∷ ls) (leaf ∷ all) are (zero, x, k, e, p) h = subst (Fits depth own cert) (sym e) p leaf are.0 h.0
  one_fits (l ∷ ls) (leaf ∷ all) are (suc i, x, k, e, p) h = one_fits ls all are.1 (i, x, omega (arith, k), e, p) h.1

-- ---- leaves of a device

homes_after : (n : ℕ) (path : Path) (rs : List system.Resource) → AllByRecursion (λ (l : wires.Leaf). n ≤ l.home) (leaves_from n path rs)
homes_after n path [] = tt
homes_after n path (r ∷ rs) =
    all_append (λ (l : wires.Leaf). n ≤ l.home) (resource_leaves n path r) (leaves_from (n + 1) path rs)
    (all_weaker (λ (l : wires.Leaf). l.home ≡ n) (λ (l : wires.Leaf). n ≤ l.home) (resource_leaves n path r) (λ l h. omega (arith, h)) (resource_homes n path r))
    (all_weaker (λ (l : wires.Leaf). n + 1 ≤ l.home) (λ (l : wires.Leaf). n ≤ l.home) (leaves_from (n + 1) path rs) (λ l h. omega (arith, h)) (homes_after (n + 1) path rs))

module _ (P : wires.Leaf → Type 0) (path : Path) (r : system.Resource) where
  -- what is so of the leaves of a resource is so of all that have its number
  abbrev AtHome : ℕ → wires.Leaf → Type 0
  AtHome q l = l.home ≡ q → P l

  from_resource : (n k q : ℕ) (rs : List system.Resource) → slice_get rs k ≡ Some r → q ≡ n + k → AllByRecursion P (resource_leaves q path r) → AllByRecursion (AtHome q) (leaves_from n path rs)
  from_resource n k q [] s e h = tt
  from_resource n zero q (x ∷ rs) s e h =
      let same : x ≡ r = cc in
      let here : q ≡ n = omega (arith, e) in
      all_append (AtHome q) (resource_leaves n path x) (leaves_from (n + 1) path rs)
      (subst (λ m. AllByRecursion (AtHome q) (resource_leaves m path x)) here (subst (λ y. AllByRecursion (AtHome q) (resource_leaves q path y)) (sym same) (all_weaker P (AtHome q) (resource_leaves q path r) (λ l p g. p) h)))
      (all_weaker (λ (l : wires.Leaf). n + 1 ≤ l.home) (AtHome q) (leaves_from (n + 1) path rs) (λ l p g. absurd (omega (arith, p, g, here))) (homes_after (n + 1) path rs))
  from_resource n (suc k) q (x ∷ rs) s e h =
      all_append (AtHome q) (resource_leaves n path x) (leaves_from (n + 1) path rs)
      (all_weaker (λ (l : wires.Leaf). l.home ≡ n) (AtHome q) (resource_leaves n path x) (λ l p g. absurd (omega (arith, p, g, e))) (resource_homes n path x))
      (from_resource (n + 1) k q rs s (omega (arith, e)) h)

  to_resource : (n k q : ℕ) (rs : List system.Resource) → slice_get rs k ≡ Some r → q ≡ n + k → AllByRecursion (AtHome q) (leaves_from n path rs) → AllByRecursion P (resource_leaves q path r)
  to_resource n k q [] s e h = absurd cc
  to_resource n zero q (x ∷ rs) s e h =
      let same : x ≡ r = cc in
      let here : q ≡ n = omega (arith, e) in
      subst (λ y. AllByRecursion P (resource_leaves q path y)) same
      (subst (λ m. AllByRecursion P (resource_leaves m path x)) (sym here)
      (all_both (λ (l : wires.Leaf). l.home ≡ n) (AtHome q) P (resource_leaves n path x) (λ l p g. g (p ∙ sym here)) (resource_homes n path x) (all_left (AtHome q) (resource_leaves n path x) (leaves_from (n + 1) path rs) h)))
  to_resource n (suc k) q (x ∷ rs) s e h = to_resource (n + 1) k q rs s (omega (arith, e)) (all_right (AtHome q) (resource_leaves n path x) (leaves_from (n + 1) path rs) h)

named : (rs : List system.Resource) (q : ℕ) (r : system.Resource) → slice_get rs q ≡ Some r → name_at rs q ≡ r.name
named [] q r s = absurd cc
named (x ∷ rs) zero r s = (let same : x ≡ r = cc in ap (λ (y : system.Resource). y.name) same)
named (x ∷ rs) (suc q) r s = named rs q r s

-- ---- a resource

-- the places of the only arrival
own_is : (cert : Certificate) (l : Leaf) (leaf : wires.Leaf) (e : Name) (n : ℕ) → IsMost cert l n → IsLeaf l leaf → kind_arrivals leaf.kind ≡ e ∷ [] → n ≡ (book.places_of (certificate_of cert)).weight (at_place leaf.path e)
own_is cert l leaf e n most is a =
    let w = (book.places_of (certificate_of cert)).weight (at_place leaf.path e) in
    let Most : ℕ → List Name → Type 0 = λ m es. AllByRecursion (λ x. (book.places_of (certificate_of cert)).weight (at_place leaf.path x) ≤ m) es in
    let up : w ≤ n = (subst (Most n) a ((most leaf is n).0 (omega arith))).0 in
    let down : n ≤ w = (most leaf is w).1 (subst (Most w) (sym a) (omega arith, tt)) in
    omega (arith, up, down)

false_is : (b : Bool) → (b ≡ false → ⊥) → IsTrue b
false_is true h = refl
false_is false h = absurd (h refl)

module _ (cert : Certificate) (d : system.Device) (q : ℕ) (r : system.Resource) (f : FlatResource) (l : Leaf) (leaf : wires.Leaf) (e : Name)
    (stands : slice_get d.resources q ≡ Some r) (tables : IsResource q (d.name ∷ []) f r) (is : IsLeaf l leaf) (arrival : kind_arrivals leaf.kind ≡ e ∷ []) where
  depth_is : depth_of cert f ≡ book.depth_of (certificate_of cert) d q
  depth_is = ap (depth_at (certificate_of cert).depths) (tables.path_is ∙ ap (λ n. d.name ∷ n ∷ []) (sym (named d.resources q r stands)))

  pub alone : (own depth : ℕ) (b : Bool) → IsMost cert l own → depth ≡ depth_of cert f → (IsTrue b → AllByRecursion (IsPastHere depth own (certificate_of cert)) f.leaves.items) → (b ≡ false → Any (Fits depth own (certificate_of cert)) f.leaves.items)
      → IsTrue b ↔ IsAlone (certificate_of cert) d q (at_place leaf.path e)
  alone own depth b most deep each one =
      let c = certificate_of cert in
      let own_now : own ≡ (book.places_of c).weight (at_place leaf.path e) = own_is cert l leaf e own most is arrival in
      let deep_now : depth ≡ book.depth_of c d q = deep ∙ depth_is in
      let At : ℕ → ℕ → Type 0 = λ n m. AllByRecursion (AtHome (IsPast n m c) (d.name ∷ []) r q) (leaves d) in
      let start : q ≡ 0 + q = omega arith in (
        λ t. subst (λ n. At n ((book.places_of c).weight (at_place leaf.path e))) deep_now (subst (At depth) own_now
            (from_resource (IsPast depth own c) (d.name ∷ []) r 0 q q d.resources stands start (all_past depth own c f.leaves.items (resource_leaves q (d.name ∷ []) r) tables.leaves (each t)))),
        λ h. false_is b (λ g. one_fits depth own c f.leaves.items (resource_leaves q (d.name ∷ []) r) tables.leaves (one g)
            (to_resource (IsPast depth own c) (d.name ∷ []) r 0 q q d.resources stands start (subst (At depth) (sym own_now) (subst (λ n. At n ((book.places_of c).weight (at_place leaf.path e))) (sym deep_now) h)))),
      )

-- ---- answers

pub ok_both : {X E : Type 0} (P Q R : X → Type 0) → ((x : X) → P x → Q x → R x) → (r : Result X E) → IfOk r P → IfOk r Q → IfOk r R
ok_both P Q R f (Ok x) h k = f x h k
ok_both P Q R f (Err e) h k = tt

pub not_both : (b : Bool) → b ≡ false → IsTrue b → ⊥
not_both true h t = cc
not_both false h t = cc
