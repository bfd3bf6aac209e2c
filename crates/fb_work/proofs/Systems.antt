-- The leaves of the tables and those of the book, one by one.
use Rattle.std.proofs.Common.{◌≡◌, ℕ, zero, suc, ◌+◌, ◌≤◌, List, [], ◌∷◌, ◌++◌, map, length, drop, slice_get, Some, refl, sym, ◌∙◌, ap, subst, arith, Bor}
use Rattle.std.specs.List.{Any}
use Rattle.std.proofs.lemmas.List.{map-append}
use Rattle.fb_model.specs.System as book
use Rattle.fb_model.specs.Wires as wires
use Rattle.fb_model.specs.Wires.{leaves}
use Rattle.fb_model.specs.Ranges.{Range}
use Rattle.fb_model.specs.Certificates.{all_leaves}
use Rattle.fb_model_laws.proofs.Walks.{flat_append}
use Rattle.fb_check_ranges.specs.Places.{leaves_in}
use Rattle.fb_check_ranges.proofs.Placing.{device_leaves}
use Rattle.fb_flat.specs.declared.flat.Leaf.{Leaf}
use Rattle.fb_flat.specs.declared.flat.FlatDevice.{FlatDevice}
use Rattle.fb_flat.specs.Tables.{AreDevices, AreLeaves, IsDevice, IsLeaf}
use Rattle.fb_find_laws.specs.Nodes.{capped}
use Rattle.fb_find_demands.proofs.Loops.{rest_at, turn, ends}
use Rattle.fb_model_work.specs.Spending.{Prices}
use Rattle.fb_work_charts.specs.Reckoning.{all_capped}
use Rattle.fb_work.specs.Demands.{all_works, leaf_works}
use Rattle.fb_work.proofs.Lists.{any_left, any_right}

-- ---- the leaves of a device

leaf_at : (xs : List (Bor Leaf)) (bs : List wires.Leaf) (i : ℕ) (x : Bor Leaf) → AreLeaves (map (λ l. l.now) xs) bs → Some x ≡ slice_get xs i
    → (b : wires.Leaf) × (Some b ≡ slice_get bs i) × IsLeaf x.now b
leaf_at [] bs i x a e = absurd cc
leaf_at (y ∷ xs) [] i x a e = absurd a
leaf_at (y ∷ xs) (b ∷ bs) zero x a e = let same : x ≡ y = cc in (b, refl, subst (λ (z : Bor Leaf). IsLeaf z.now b) (sym same) a.0)
leaf_at (y ∷ xs) (b ∷ bs) (suc i) x a e = leaf_at xs bs i x a.1 e

leaves_many : (xs : List (Bor Leaf)) (bs : List wires.Leaf) → AreLeaves (map (λ l. l.now) xs) bs → length xs ≡ length bs
leaves_many [] [] a = refl
leaves_many [] (b ∷ bs) a = absurd a
leaves_many (x ∷ xs) [] a = absurd a
leaves_many (x ∷ xs) (b ∷ bs) a = omega (arith, leaves_many xs bs a.1)

module _ (f : FlatDevice) (d : book.Device) (xs : List (Bor Leaf)) (own : map (λ l. l.now) xs ≡ leaves_in f.resources.items) (is : IsDevice f d) where
  own_are : AreLeaves (map (λ l. l.now) xs) (leaves d)
  own_are = subst (λ ls. AreLeaves ls (leaves d)) (sym own) (device_leaves 0 (d.name ∷ []) f.resources.items d.resources is.resources)

  -- a leaf of the tables is that of the book at its place
  pub own_leaf : (i : ℕ) (x : Bor Leaf) → Some x ≡ slice_get xs i → (b : wires.Leaf) × (Some b ≡ slice_get (leaves d) i) × IsLeaf x.now b
  own_leaf i x e = leaf_at xs (leaves d) i x own_are e

  pub own_ends : (i : ℕ) → length xs ≤ i → length (leaves d) ≤ i
  own_ends i l = omega (arith, l, leaves_many xs (leaves d) own_are)

-- ---- devices

pub device_at : (fs : List FlatDevice) (ds : List book.Device) (i : ℕ) (f : FlatDevice) → AreDevices fs ds → Some f ≡ slice_get fs i
    → (d : book.Device) × (Some d ≡ slice_get ds i) × IsDevice f d
device_at [] ds i f a e = absurd cc
device_at (g ∷ fs) [] i f a e = absurd a
device_at (g ∷ fs) (d ∷ ds) zero f a e = let same : f ≡ g = cc in (d, refl, subst (λ (h : FlatDevice). IsDevice h d) (sym same) a.0)
device_at (g ∷ fs) (d ∷ ds) (suc i) f a e = device_at fs ds i f a.1 e

devices_many : (fs : List FlatDevice) (ds : List book.Device) → AreDevices fs ds → length fs ≡ length ds
devices_many [] [] a = refl
devices_many [] (d ∷ ds) a = absurd a
devices_many (f ∷ fs) [] a = absurd a
devices_many (f ∷ fs) (d ∷ ds) a = omega (arith, devices_many fs ds a.1)

pub devices_end : (fs : List FlatDevice) (ds : List book.Device) (i : ℕ) → AreDevices fs ds → length fs ≤ i → length ds ≤ i
devices_end fs ds i a l = omega (arith, l, devices_many fs ds a)

-- what is so of a leaf of one is so of a leaf of all
pub any_device : (P : wires.Leaf → Type 0) (ds : List book.Device) (i : ℕ) (d : book.Device) → Some d ≡ slice_get ds i → Any P (leaves d)
    → Any P (all_leaves ds)
any_device P [] i d e a = absurd cc
any_device P (x ∷ ds) zero d e a = let same : d ≡ x = cc in any_left P (leaves x) (all_leaves ds) (subst (λ (y : book.Device). Any P (leaves y)) same a)
any_device P (x ∷ ds) (suc i) d e a = any_right P (leaves x) (all_leaves ds) (any_device P ds i d e a)

-- ---- their works

module _ (prices : Prices) (ranges : List Range) where
  -- those of these leaves, and of the leaves of these devices
  abbrev pub leaf_list : List wires.Leaf → List ℕ
  leaf_list all = all_capped (all_works prices ranges all)

  abbrev pub device_list : List book.Device → List ℕ
  device_list ds = leaf_list (all_leaves ds)

  leaf_first : (b : wires.Leaf) (bs : List wires.Leaf) → leaf_list (b ∷ bs) ≡ all_capped (leaf_works prices ranges b) ++ leaf_list bs
  leaf_first b bs = map-append capped (leaf_works prices ranges b) (all_works prices ranges bs)

  device_first : (d : book.Device) (ds : List book.Device) → device_list (d ∷ ds) ≡ leaf_list (leaves d) ++ device_list ds
  device_first d ds =
      ap (map capped) (flat_append (leaf_works prices ranges) (leaves d) (all_leaves ds)) ∙ map-append capped (all_works prices ranges (leaves d)) (all_works prices ranges (all_leaves ds))

  pub leaf_more : (bs : List wires.Leaf) (i : ℕ) (b : wires.Leaf) (old new whole : List ℕ) → Some b ≡ slice_get bs i
      → new ≡ old ++ all_capped (leaf_works prices ranges b) → old ++ leaf_list (drop i bs) ≡ whole → new ++ leaf_list (drop (i + 1) bs) ≡ whole
  leaf_more bs i b old new whole e n h = turn leaf_list bs i b (all_capped (leaf_works prices ranges b)) old new whole (rest_at bs i b e) (leaf_first b (drop (i + 1) bs)) n h

  pub device_more : (ds : List book.Device) (i : ℕ) (d : book.Device) (old new whole : List ℕ) → Some d ≡ slice_get ds i
      → new ≡ old ++ leaf_list (leaves d) → old ++ device_list (drop i ds) ≡ whole → new ++ device_list (drop (i + 1) ds) ≡ whole
  device_more ds i d old new whole e n h = turn device_list ds i d (leaf_list (leaves d)) old new whole (rest_at ds i d e) (device_first d (drop (i + 1) ds)) n h

  pub leaves_end : (bs : List wires.Leaf) (i : ℕ) (old whole : List ℕ) → length bs ≤ i → old ++ leaf_list (drop i bs) ≡ whole → old ≡ whole
  leaves_end bs i old whole l h = ends leaf_list bs i old whole l refl h

  pub devices_done : (ds : List book.Device) (i : ℕ) (old whole : List ℕ) → length ds ≤ i → old ++ device_list (drop i ds) ≡ whole → old ≡ whole
  devices_done ds i old whole l h = ends device_list ds i old whole l refl h
