-- What is found by its name.
use Rattle.std.proofs.Common.{◌≡◌, ℕ, zero, suc, ◌+◌, ◌≤◌, Bool, true, false, cond, List, [], ◌∷◌, map, length, slice_get, Option, Some, None, refl, sym, ◌∙◌, ap, subst, arith, string_bytes}
use Rattle.std.specs.List.{AllByRecursion}
use Rattle.std.specs.Prelude.{MatchOption}
use Rattle.std.proofs.lemmas.List.{length-map}
use Rattle.fb_model.specs.System as book
use Rattle.fb_model.specs.System.{Device}
use Rattle.fb_model.specs.Wires.{Leaf}
use Rattle.fb_model.specs.Certificates.{Certificate, events_of}
use Rattle.fb_model.specs.CertificateText.{names_in}
use Rattle.fb_verified.specs.Lookups.{is_same_path}
use Rattle.fb_chart.specs.declared.table.Block.{Block}
use Rattle.fb_chart.specs.declared.table.Event.{Event}
use Rattle.fb_device_tables.specs.declared.table.Resource.{Resource}
use Rattle.fb_chart.specs.declared.standing.Ports.{Ports}
use Rattle.st_exec.specs.Cells.{Form}
use Rattle.fb_device_tables.specs.Tables.{IsBlock, AreBlocks, AreResources, later}
use Rattle.fb_device.specs.Answers.{IsNamed, IsNoPoint, IsNumberOf, IsNoNumber}
use Rattle.fb_device.specs.Finding.{first_named}
use Rattle.fb_lists.proofs.Lists.{same_at}
use Rattle.fb_device_state.proofs.Blocks.{Pair, block_of, block_count, leaf_of, within, mapped, events_same}

-- none has the name
pub none_named : (xs : List (List ℕ)) (name : List ℕ) → first_named xs name ≡ None → AllByRecursion (λ x. is_same_path x name ≡ false) xs
none_named [] name h = tt
none_named (x ∷ xs) name h = go (is_same_path x name) refl (first_named xs name) h (none_named xs name)
  where
    go : (b : Bool) → is_same_path x name ≡ b → (o : Option ℕ) → cond b (Some 0) (later o) ≡ None → (o ≡ None → AllByRecursion (λ x. is_same_path x name ≡ false) xs) → AllByRecursion (λ x. is_same_path x name ≡ false) (x ∷ xs)
    go true e o f r = cc
    go false e None f r = (e, r refl)
    go false e (Some k) f r = cc

-- one has it
pub one_named : (xs : List (List ℕ)) (name : List ℕ) (k : ℕ) → first_named xs name ≡ Some k → (x : List ℕ) × (slice_get xs k ≡ Some x) × (is_same_path x name ≡ true)
one_named [] name k h = cc
one_named (x ∷ xs) name k h = go (is_same_path x name) refl (first_named xs name) h (λ j e. one_named xs name j e)
  where
    Goal : ℕ → Type 0
    Goal j = (y : List ℕ) × (slice_get (x ∷ xs) j ≡ Some y) × (is_same_path y name ≡ true)

    go : (b : Bool) → is_same_path x name ≡ b → (o : Option ℕ) → cond b (Some 0) (later o) ≡ Some k → ((j : ℕ) → o ≡ Some j → (y : List ℕ) × (slice_get xs j ≡ Some y) × (is_same_path y name ≡ true))
        → (y : List ℕ) × (slice_get (x ∷ xs) k ≡ Some y) × (is_same_path y name ≡ true)
    go true e o f r = (let z : 0 ≡ k = cc in subst (λ j. (y : List ℕ) × (slice_get (x ∷ xs) j ≡ Some y) × (is_same_path y name ≡ true)) z (x, refl, e))
    go false e None f r = cc
    go false e (Some j) f r =
        let z : j + 1 ≡ k = cc in
        let s : suc j ≡ k = omega (arith, z) in
        let q = r j refl in
        subst (λ i. (y : List ℕ) × (slice_get (x ∷ xs) i ≡ Some y) × (is_same_path y name ≡ true)) s (q.0, q.1, q.2)

-- ---- resources

resource_names : (cert : Certificate) (device : Device) (n : ℕ) (xs : List Resource) (rs : List book.Resource) → AreResources cert device n xs rs → map (λ (x : Resource). string_bytes x.name) xs ≡ map (λ (r : book.Resource). r.name) rs
resource_names cert device n [] [] a = refl
resource_names cert device n (x ∷ xs) (r ∷ rs) a = ap (λ k. k ∷ map (λ (x : Resource). string_bytes x.name) xs) a.0 ∙ ap (λ rest. r.name ∷ rest) (resource_names cert device (n + 1) xs rs a.2)
resource_names cert device n [] (r ∷ rs) a = absurd a
resource_names cert device n (x ∷ xs) [] a = absurd a

pub unmapped : {X Y : Type 0} (f : X → Y) (xs : List X) (k : ℕ) (y : Y) → slice_get (map f xs) k ≡ Some y → (x : X) × (slice_get xs k ≡ Some x) × (f x ≡ y)
unmapped f [] k y h = cc
unmapped f (x ∷ xs) zero y h = (let e : f x ≡ y = cc in (x, refl, e))
unmapped f (x ∷ xs) (suc k) y h = unmapped f xs k y h

pub all_unmapped : {X Y : Type 0} (f : X → Y) (P : Y → Type 0) (xs : List X) → AllByRecursion P (map f xs) → AllByRecursion (λ x. P (f x)) xs
all_unmapped f P [] h = tt
all_unmapped f P (x ∷ xs) h = (h.0, all_unmapped f P xs h.1)

pub number_of : (cert : Certificate) (device : Device) (xs : List Resource) (rs : List book.Resource) (name : List ℕ) (o : Option ℕ) → AreResources cert device 0 xs rs → o ≡ first_named (map (λ (x : Resource). string_bytes x.name) xs) name
    → MatchOption o (IsNoNumber rs name) (λ k. IsNumberOf rs name k)
number_of cert device xs rs name None a h =
    all_unmapped (λ (r : book.Resource). r.name) (λ x. is_same_path x name ≡ false) rs (none_named (map (λ (r : book.Resource). r.name) rs) name (ap (λ ns. first_named ns name) (sym (resource_names cert device 0 xs rs a)) ∙ sym h))
number_of cert device xs rs name (Some k) a h =
    let q = one_named (map (λ (r : book.Resource). r.name) rs) name k (ap (λ ns. first_named ns name) (sym (resource_names cert device 0 xs rs a)) ∙ sym h) in
    let u = unmapped (λ (r : book.Resource). r.name) rs k q.0 q.1 in
    record { resource = u.0; stands = u.1; same = ap (λ n. is_same_path n name) u.2 ∙ q.2 }

-- ---- blocks and events

-- the leaf of a block that stands
pub record Here (cert : Certificate) (all : List Leaf) (issues : List (List Form)) (i : ℕ) (x : Block) : Type 0 where
  pub leaf : Leaf
  pub own : List Form
  pub issued : List Form
  pub slots : Ports
  pub stands : slice_get all i ≡ Some leaf
  pub is : IsBlock cert all issues own issued x slots leaf

pub none_at : {X : Type 0} (xs : List X) (k : ℕ) → length xs ≤ k → slice_get xs k ≡ None
none_at [] k h = refl
none_at (x ∷ xs) zero h = absurd (omega (arith, h))
none_at (x ∷ xs) (suc k) h = none_at xs k (omega (arith, h))

module _ (cert : Certificate) (all : List Leaf) (issues owns rest : List (List Form)) (xs : List Block) (ps : List Ports) (a : AreBlocks cert all issues owns rest xs ps all) where
  here : (i : ℕ) (x : Block) → slice_get xs i ≡ Some x → Here cert all issues i x
  here i x s =
      let l = leaf_of all xs i x (block_count cert all issues owns rest xs ps all a).0 s in
      let k : Pair cert all issues owns rest xs ps i l.0 = block_of cert all issues owns rest xs ps all i l.0 a l.1 in
      record { leaf = l.0; own = k.own; issued = k.issued; slots = k.slots; stands = l.1; is = subst (λ (y : Block). IsBlock cert all issues k.own k.issued y k.slots l.0) (same_at xs i k.block x k.stands s) k.is }

  events_here : (x : Block) (own issued : List Form) (slots : Ports) (leaf : Leaf) → IsBlock cert all issues own issued x slots leaf → map (λ (e : Event). string_bytes e.name) x.events.items ≡ events_of leaf.kind
  events_here x own issued slots leaf is = events_same cert all issues own issued x slots leaf is

  pub no_block : (block event : ℕ) → length xs ≤ block → IsNoPoint all block event
  no_block block event h = λ leaf at. absurd (omega (arith, h, (block_count cert all issues owns rest xs ps all a).0, within all block leaf at))

  pub no_event : (block event : ℕ) (x : Block) → slice_get xs block ≡ Some x → length x.events.items ≤ event → IsNoPoint all block event
  no_event block event x s h = λ leaf at.
      let q = here block x s in
      let same : leaf ≡ q.leaf = same_at all block leaf q.leaf at q.stands in
      none_at (events_of leaf.kind) event
      (omega (arith, h, ap length (events_here x q.own q.issued q.slots q.leaf q.is), length-map x.events.items (λ (e : Event). string_bytes e.name), ap (λ (l : Leaf). length (events_of l.kind)) same))

  pub named_so : (block event : ℕ) (x : Block) (e : Event) (path name : List ℕ) → slice_get xs block ≡ Some x → slice_get x.events.items event ≡ Some e → path ≡ string_bytes x.path → name ≡ string_bytes e.name → IsNamed all block event path name
  named_so block event x e path name s t p n =
      let q = here block x s in
      record {
        leaf = q.leaf;
        block_is = q.stands;
        path_is = ap names_in p ∙ q.is.path;
        name_is = ap (λ ns. slice_get ns event) (sym (events_here x q.own q.issued q.slots q.leaf q.is)) ∙ mapped (λ (e : Event). string_bytes e.name) x.events.items event e t ∙ ap Some (sym n);
      }
