-- Blocks of the tables and leaves of the book, by their numbers.
use Rattle.std.proofs.Common.{◌≡◌, ℕ, zero, suc, ◌<◌, Bool, true, false, ◌||◌, List, [], ◌∷◌, map, length, slice_get, Option, Some, None, refl, sym, ◌∙◌, ap, subst, arith, string_bytes}
use Rattle.std.specs.List.{AllByRecursion}
use Rattle.std.specs.Str.{bytes_eq}
use Rattle.std.proofs.lemmas.List.{length-map}
use Rattle.fb_model.specs.Names.{Name, Place, at_place, is_in}
use Rattle.fb_model.specs.Wires.{Leaf, leaf_at}
use Rattle.fb_model.specs.Certificates.{Certificate, events_of, has_event, is_input, IsWired}
use Rattle.fb_model.specs.Devices.{steps_row, places_row}
use Rattle.fb_model.proofs.Placed.{name_same}
use Rattle.fb_chart.specs.declared.table.Point.{Point}
use Rattle.fb_chart.specs.declared.table.Event.{Event}
use Rattle.fb_chart.specs.declared.table.Block.{Block}
use Rattle.fb_chart.specs.Views.{named, event_names}
use Rattle.fb_chart.specs.declared.standing.Ports.{Ports}
use Rattle.st_exec.specs.Cells.{Form}
use Rattle.fb_device_tables.specs.Views.{place_in, place_at}
use Rattle.fb_device_tables.specs.Tables.{IsPoint, IsWeighed, IsBlock, AreBlocks}
use Rattle.fb_device_state.specs.Numbers.{IsKnown}
use Rattle.fb_lists.proofs.Lists.{all_got}

-- a block, its ports and the forms of its stores have the number of its leaf
pub record Pair (cert : Certificate) (all : List Leaf) (issues owns rest : List (List Form)) (xs : List Block) (ps : List Ports) (i : ℕ) (leaf : Leaf) : Type 0 where
  pub block : Block
  pub slots : Ports
  pub own : List Form
  pub issued : List Form
  pub stands : slice_get xs i ≡ Some block
  pub slots_stand : slice_get ps i ≡ Some slots
  pub own_stands : slice_get owns i ≡ Some own
  pub issued_stands : slice_get rest i ≡ Some issued
  pub is : IsBlock cert all issues own issued block slots leaf

pub block_of : (cert : Certificate) (all : List Leaf) (issues owns rest : List (List Form)) (xs : List Block) (ps : List Ports) (ls : List Leaf) (i : ℕ) (leaf : Leaf) → AreBlocks cert all issues owns rest xs ps ls → slice_get ls i ≡ Some leaf
    → Pair cert all issues owns rest xs ps i leaf
block_of cert all issues owns rest xs ps [] i leaf a h = cc
block_of cert all issues [] [] [] [] (l ∷ ls) i leaf a h = absurd a
block_of cert all issues [] [] [] (p ∷ ps) (l ∷ ls) i leaf a h = absurd a
block_of cert all issues [] [] (x ∷ xs) ps (l ∷ ls) i leaf a h = absurd a
block_of cert all issues [] (r ∷ rs) xs ps (l ∷ ls) i leaf a h = absurd a
block_of cert all issues (o ∷ os) [] xs ps (l ∷ ls) i leaf a h = absurd a
block_of cert all issues (o ∷ os) (r ∷ rs) [] ps (l ∷ ls) i leaf a h = absurd a
block_of cert all issues (o ∷ os) (r ∷ rs) (x ∷ xs) [] (l ∷ ls) i leaf a h = absurd a
block_of cert all issues (o ∷ os) (r ∷ rs) (x ∷ xs) (p ∷ ps) (l ∷ ls) zero leaf a h =
    let e : l ≡ leaf = cc in
    record { block = x; slots = p; own = o; issued = r; stands = refl; slots_stand = refl; own_stands = refl; issued_stands = refl; is = subst (IsBlock cert all issues o r x p) e a.0 }
block_of cert all issues (o ∷ os) (r ∷ rs) (x ∷ xs) (p ∷ ps) (l ∷ ls) (suc i) leaf a h =
    let k = block_of cert all issues os rs xs ps ls i leaf a.1 h in
    record { block = k.block; slots = k.slots; own = k.own; issued = k.issued; stands = k.stands; slots_stand = k.slots_stand; own_stands = k.own_stands; issued_stands = k.issued_stands; is = k.is }

pub block_count : (cert : Certificate) (all : List Leaf) (issues owns rest : List (List Form)) (xs : List Block) (ps : List Ports) (ls : List Leaf) → AreBlocks cert all issues owns rest xs ps ls → (length xs ≡ length ls) × (length ps ≡ length ls)
block_count cert all issues [] [] [] [] [] a = (refl, refl)
block_count cert all issues (o ∷ os) (r ∷ rs) (x ∷ xs) (p ∷ ps) (l ∷ ls) a = (let n = block_count cert all issues os rs xs ps ls a.1 in (ap suc n.0, ap suc n.1))
block_count cert all issues [] [] [] [] (l ∷ ls) a = absurd a
block_count cert all issues [] [] [] (p ∷ ps) (l ∷ ls) a = absurd a
block_count cert all issues [] [] (x ∷ xs) ps (l ∷ ls) a = absurd a
block_count cert all issues [] (r ∷ rs) xs ps (l ∷ ls) a = absurd a
block_count cert all issues (o ∷ os) [] xs ps (l ∷ ls) a = absurd a
block_count cert all issues (o ∷ os) (r ∷ rs) [] ps (l ∷ ls) a = absurd a
block_count cert all issues (o ∷ os) (r ∷ rs) (x ∷ xs) [] (l ∷ ls) a = absurd a
block_count cert all issues (o ∷ os) [] xs ps [] a = absurd a
block_count cert all issues (o ∷ os) (r ∷ rs) [] ps [] a = absurd a
block_count cert all issues (o ∷ os) (r ∷ rs) (x ∷ xs) [] [] a = absurd a
block_count cert all issues (o ∷ os) (r ∷ rs) (x ∷ xs) (p ∷ ps) [] a = absurd a
block_count cert all issues [] (r ∷ rs) xs ps [] a = absurd a
block_count cert all issues [] [] (x ∷ xs) ps [] a = absurd a
block_count cert all issues [] [] [] (p ∷ ps) [] a = absurd a

pub within : {X : Type 0} (xs : List X) (i : ℕ) (x : X) → slice_get xs i ≡ Some x → i < length xs
within [] i x h = cc
within (y ∷ ys) zero x h = omega arith
within (y ∷ ys) (suc i) x h = omega (arith, within ys i x h)

pub standing : {X : Type 0} (xs : List X) (i : ℕ) → i < length xs → (x : X) × (slice_get xs i ≡ Some x)
standing [] i h = absurd (omega (arith, h))
standing (x ∷ xs) zero h = (x, refl)
standing (x ∷ xs) (suc i) h = standing xs i (omega (arith, h))

-- the leaf of a block's number
pub leaf_of : (all : List Leaf) (xs : List Block) (i : ℕ) (x : Block) → length xs ≡ length all → slice_get xs i ≡ Some x → (leaf : Leaf) × (slice_get all i ≡ Some leaf)
leaf_of all xs i x l h = standing all i (omega (arith, l, within xs i x h))

pub mapped : {X Y : Type 0} (f : X → Y) (xs : List X) (i : ℕ) (x : X) → slice_get xs i ≡ Some x → slice_get (map f xs) i ≡ Some (f x)
mapped f [] i x h = cc
mapped f (y ∷ ys) zero x h = (let e : y ≡ x = cc in ap (λ z. Some (f z)) e)
mapped f (y ∷ ys) (suc i) x h = mapped f ys i x h

pub named_is : (names : List Name) (i : ℕ) (n : Name) → slice_get names i ≡ Some n → named names i ≡ n
named_is names i n h = ap (λ (o : Option Name). elim o [ None ↦ [] | Some x ↦ x ]) h

pub is_in_at : (names : List Name) (i : ℕ) (n : Name) → slice_get names i ≡ Some n → is_in n names ≡ true
is_in_at [] i n h = cc
is_in_at (x ∷ xs) zero n h = (let e : x ≡ n = cc in ap (λ k. bytes_eq n k || is_in n xs) e ∙ ap (λ b. b || is_in n xs) (name_same n))
is_in_at (x ∷ xs) (suc i) n h = either (bytes_eq n x) (is_in_at xs i n h)
  where
    either : (b : Bool) → is_in n xs ≡ true → (b || is_in n xs) ≡ true
    either true r = refl
    either false r = r

-- ---- points

-- what a point is: its leaf and block, and its event with the numbers of its row
pub record Known (cert : Certificate) (all : List Leaf) (issues owns rest : List (List Form)) (xs : List Block) (ps : List Ports) (p : Point) : Type 0 where
  pub leaf : Leaf
  pub at : Pair cert all issues owns rest xs ps p.block leaf
  pub event : Event
  pub leaf_stands : slice_get all p.block ≡ Some leaf
  pub event_stands : slice_get at.block.events.items p.event ≡ Some event
  pub place_is : place_at all p ≡ at_place leaf.path (string_bytes event.name)
  pub name_is : slice_get (events_of leaf.kind) p.event ≡ Some (string_bytes event.name)
  pub table_name_is : named (event_names at.block) p.event ≡ string_bytes event.name

pub events_same : (cert : Certificate) (all : List Leaf) (issues : List (List Form)) (own issued : List Form) (x : Block) (p : Ports) (leaf : Leaf) → IsBlock cert all issues own issued x p leaf → event_names x ≡ events_of leaf.kind
events_same cert all issues own issued x p leaf is = is.table.events ∙ ap events_of is.kind

pub known : (cert : Certificate) (all : List Leaf) (issues owns rest : List (List Form)) (xs : List Block) (ps : List Ports) (p : Point) → AreBlocks cert all issues owns rest xs ps all → IsPoint all p → Known cert all issues owns rest xs ps p
known cert all issues owns rest xs ps p a i =
    let k : Pair cert all issues owns rest xs ps p.block i.leaf = block_of cert all issues owns rest xs ps all p.block i.leaf a i.block in
    let same : event_names k.block ≡ events_of i.leaf.kind = events_same cert all issues k.own k.issued k.block k.slots i.leaf k.is in
    let few : p.event < length k.block.events.items = omega (arith, i.event, ap length same, length-map k.block.events.items (λ (e : Event). string_bytes e.name)) in
    let e = standing k.block.events.items p.event few in
    let listed : slice_get (event_names k.block) p.event ≡ Some (string_bytes e.0.name) = mapped (λ (v : Event). string_bytes v.name) k.block.events.items p.event e.0 e.1 in
    let name : slice_get (events_of i.leaf.kind) p.event ≡ Some (string_bytes e.0.name) = ap (λ ns. slice_get ns p.event) (sym same) ∙ listed in
    record {
      leaf = i.leaf;
      at = k;
      event = e.0;
      leaf_stands = i.block;
      event_stands = e.1;
      place_is = ap (λ o. place_in o p.event) i.block ∙ ap (at_place i.leaf.path) (named_is (events_of i.leaf.kind) p.event (string_bytes e.0.name) name);
      name_is = name;
      table_name_is = named_is (event_names k.block) p.event (string_bytes e.0.name) listed;
    }

module _ (cert : Certificate) (all : List Leaf) (issues owns rest : List (List Form)) (xs : List Block) (ps : List Ports) (p : Point) (k : Known cert all issues owns rest xs ps p) where
  pub weighs : IsWeighed cert k.leaf.path k.event
  weighs = all_got (IsWeighed cert k.leaf.path) k.at.block.events.items p.event k.event k.at.is.weights k.event_stands

  pub steps_are : k.event.steps ≡ steps_row cert (place_at all p)
  steps_are = weighs.steps ∙ ap (steps_row cert) (sym k.place_is)

  pub places_are : k.event.places ≡ places_row cert (place_at all p)
  places_are = weighs.places ∙ ap (places_row cert) (sym k.place_is)

  pub is_known : IsKnown xs p
  is_known = (k.at.block, k.at.stands, within k.at.block.events.items p.event k.event k.event_stands)

  -- its leaf is found by its path
  pub found : AllByRecursion (IsWired all) all → leaf_at all (place_at all p).path ≡ Some k.leaf
  found w = ap (λ (q : Place). leaf_at all q.path) k.place_is ∙ (all_got (IsWired all) all p.block k.leaf w k.leaf_stands).found

  pub listed : is_in (place_at all p).event (events_of k.leaf.kind) ≡ true
  listed = ap (λ (q : Place). is_in q.event (events_of k.leaf.kind)) k.place_is ∙ is_in_at (events_of k.leaf.kind) p.event (string_bytes k.event.name) k.name_is

  pub input_is : AllByRecursion (IsWired all) all → is_input all (place_at all p) ≡ true
  input_is w = ap (λ (o : Option Leaf). has_event o (place_at all p).event) (found w) ∙ listed
