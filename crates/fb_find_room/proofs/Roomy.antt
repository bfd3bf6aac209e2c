-- Rows with room, one after another.
use Rattle.std.proofs.Common.{◌≡◌, ◌≤◌, ◌+◌, ◌*◌, ℕ, zero, suc, Bool, true, false, refl, sym, ap, ◌∙◌, arith, min, inl, inr, List, [], ◌∷◌, ◌++◌, length, map, Option, None, Some}
use Rattle.std.specs.Prelude.{max, if◌then◌else◌, slice_get, option_map}
use Rattle.std.proofs.lemmas.Bool.{cases_lt}
use Rattle.std.proofs.Math.Nat.{le-mul_of_pos_right}
use Rattle.indexmap.specs.IndexMap.{set_value_at}
use Rattle.fb_model.specs.Names.{Name, Path, at_place, path_eq}
use Rattle.fb_model.specs.System.{Device, Resource}
use Rattle.fb_model.specs.Wires.{Leaf, resource_leaves}
use Rattle.fb_model.specs.Certificates as book
use Rattle.fb_model.specs.Certificates.{amount, kind_arrivals}
use Rattle.fb_model.specs.CertificateText.{most_places, names_in}
use Rattle.fb_cert.specs.Views.{Rows, Table, book_of, depth_rows, with_depth_at}
use Rattle.fb_cert.specs.Adding.{is_within}
use Rattle.fb_model.specs.Finding.{arrival_of, most_at}
use Rattle.fb_find_room.specs.Room.{arrivals_of, arrivals_in, arrivals_at, roomy, roomy_at, roomy_depth, roomy_rows}

-- ---- what arrivals take is told by the weights alone

module _ (one other : book.Certificate) (same : one.weights ≡ other.weights) where
  most_same : (path : Path) (es : List Name) → most_at one path es ≡ most_at other path es
  most_same path [] = refl
  most_same path (e ∷ es) = ap (λ w. max (amount (λ r. r.places) w (at_place path e)) (most_at one path es)) same ∙ ap (max (amount (λ r. r.places) other.weights (at_place path e))) (most_same path es)

  leaves_same : (all : List Leaf) → arrivals_of one all ≡ arrivals_of other all
  leaves_same [] = refl
  leaves_same (leaf ∷ rest) = ap (λ n. n + arrivals_of one rest) (most_same leaf.path (kind_arrivals leaf.kind)) ∙ ap (λ n. arrival_of other leaf + n) (leaves_same rest)

  resources_same : (path : Path) (n : ℕ) (device : Path) (rs : List Resource) → arrivals_in one path n device rs ≡ arrivals_in other path n device rs
  resources_same path n device [] = refl
  resources_same path n device (r ∷ rs) =
      ap (λ m. (if path_eq path (device ++ r.name ∷ []) then m else 0) + arrivals_in one path (n + 1) device rs) (leaves_same (resource_leaves n device r))
      ∙ ap (λ m. (if path_eq path (device ++ r.name ∷ []) then arrivals_of other (resource_leaves n device r) else 0) + m) (resources_same path (n + 1) device rs)

  devices_same : (path : Path) (ds : List Device) → arrivals_at one path ds ≡ arrivals_at other path ds
  devices_same path [] = refl
  devices_same path (d ∷ ds) = ap (λ n. n + arrivals_at one path ds) (resources_same path 0 (d.name ∷ []) d.resources) ∙ ap (λ n. arrivals_in other path 0 (d.name ∷ []) d.resources + n) (devices_same path ds)

-- ---- one row

-- sums and products that stop at the top tell the same below the limit
pub depth_is : (all times one wanted depth : ℕ) → one ≡ min all 18446744073709551615 → wanted ≡ min (one * times) 18446744073709551615 → max (min wanted 4096) depth ≡ max (min (all * times) 4096) depth
depth_is all zero one wanted depth a b = ap (λ m. max (min m 4096) depth) (b ∙ none one ∙ sym (nothing all))
  where
    nothing : (n : ℕ) → n * 0 ≡ 0
    nothing n = omega arith

    none : (n : ℕ) → min (n * 0) 18446744073709551615 ≡ 0
    none n = ap (λ m. min m 18446744073709551615) (nothing n)
depth_is all (suc times) one wanted depth a b = ap (λ m. max (min m 4096) depth) b ∙ ap (λ m. max m depth) (below (one * suc times) (all * suc times) (product one) (product all) (λ e. ap (λ n. n * suc times) e))
  where
    product : (n : ℕ) → n ≤ n * suc times
    product n = le-mul_of_pos_right n (omega arith)

    below : (p q : ℕ) → one ≤ p → all ≤ q → (one ≡ all → p ≡ q) → min (min p 18446744073709551615) 4096 ≡ min q 4096
    below p q l m e =
        elim (cases_lt 18446744073709551615 all) [
          | inl h ↦ omega (arith, a, l, m, h)
          | inr h ↦ (let s : one ≡ all = omega (arith, a, h) in let t : p ≡ q = e s in omega (arith, t))
        ]

-- a number that stands there already changes nothing
set_same : (xs : Table ℕ) (i : ℕ) (r : Name × ℕ) → slice_get xs i ≡ Some r → set_value_at xs i r.1 ≡ xs
set_same [] i r e = refl
set_same (x ∷ xs) zero r e = let s : x ≡ r = cc in ap (λ (n : ℕ). (x.0, n) ∷ xs) (sym (ap (λ (y : Name × ℕ). y.1) s))
set_same (x ∷ xs) (suc i) r e = ap (λ ys. x ∷ ys) (set_same xs i r e)

-- what cannot be said is what stood there
kept : (w d n : ℕ) → n ≡ max (min w 4096) d → is_within 1 4096 n ≡ false → n ≡ d
kept w d n e f = grind (arith, e, f)

deepened : (times : ℕ) (ds : List Device) (rows new : Rows) (index depth : ℕ) (said : Bool) (found : Option (Name × ℕ)) → slice_get rows.depths index ≡ found
    → Some depth ≡ option_map (λ (r : Name × ℕ). roomy_depth times ds (book_of rows) (names_in r.0) r.1) found → said ≡ is_within 1 most_places depth → new ≡ (if said then with_depth_at index depth rows else rows)
    → new ≡ elim found [ None ↦ rows | Some r ↦ with_depth_at index (roomy_depth times ds (book_of rows) (names_in r.0) r.1) rows ]
deepened times ds rows new index depth said None at is tells made = absurd (cc)
deepened times ds rows new index depth true (Some r) at is tells made = let e : depth ≡ roomy_depth times ds (book_of rows) (names_in r.0) r.1 = cc in made ∙ ap (λ n. with_depth_at index n rows) e
deepened times ds rows new index depth false (Some r) at is tells made =
    let e : depth ≡ roomy_depth times ds (book_of rows) (names_in r.0) r.1 = cc in
    let same : depth ≡ r.1 = kept (arrivals_at (book_of rows) (names_in r.0) ds * times) r.1 depth e (sym tells) in
    made ∙ sym (ap (λ n. with_depth_at index n rows) (sym e ∙ same) ∙ ap (λ (t : Table ℕ). record rows { depths = t }) (set_same rows.depths index r at))

pub row_deepened : (times : ℕ) (ds : List Device) (rows new : Rows) (index depth : ℕ) (said : Bool) → Some depth ≡ option_map (λ (r : Name × ℕ). roomy_depth times ds (book_of rows) (names_in r.0) r.1) (slice_get rows.depths index)
    → said ≡ is_within 1 most_places depth → new ≡ (if said then with_depth_at index depth rows else rows) → new ≡ roomy_at index times ds rows
row_deepened times ds rows new index depth said is tells made = deepened times ds rows new index depth said (slice_get rows.depths index) refl is tells made

-- ---- one row after another

-- the first k rows are changed
abbrev pub first_mapped : (Name × ℕ → ℕ) → ℕ → Table ℕ → Table ℕ
first_mapped f zero xs = xs
first_mapped f (suc k) [] = []
first_mapped f (suc k) (x ∷ xs) = (x.0, f x) ∷ first_mapped f k xs

get_mapped : (f : Name × ℕ → ℕ) (k : ℕ) (xs : Table ℕ) → slice_get (first_mapped f k xs) k ≡ slice_get xs k
get_mapped f zero xs = refl
get_mapped f (suc k) [] = refl
get_mapped f (suc k) (x ∷ xs) = get_mapped f k xs

set_mapped : (f : Name × ℕ → ℕ) (k : ℕ) (xs : Table ℕ) (r : Name × ℕ) → slice_get xs k ≡ Some r → set_value_at (first_mapped f k xs) k (f r) ≡ first_mapped f (suc k) xs
set_mapped f zero [] r e = refl
set_mapped f zero (x ∷ xs) r e = let s : x ≡ r = cc in ap (λ (y : Name × ℕ). (x.0, f y) ∷ xs) (sym s)
set_mapped f (suc k) [] r e = refl
set_mapped f (suc k) (x ∷ xs) r e = ap (λ ys. (x.0, f x) ∷ ys) (set_mapped f k xs r e)

past_mapped : (f : Name × ℕ → ℕ) (k : ℕ) (xs : Table ℕ) → slice_get xs k ≡ None → first_mapped f k xs ≡ first_mapped f (suc k) xs
past_mapped f zero [] e = refl
past_mapped f zero (x ∷ xs) e = absurd (cc)
past_mapped f (suc k) [] e = refl
past_mapped f (suc k) (x ∷ xs) e = ap (λ ys. (x.0, f x) ∷ ys) (past_mapped f k xs e)

all_mapped : (f : Name × ℕ → ℕ) (k : ℕ) (xs : Table ℕ) → length xs ≤ k → first_mapped f k xs ≡ map (λ r. (r.0, f r)) xs
all_mapped f zero [] l = refl
all_mapped f zero (x ∷ xs) l = absurd (omega (arith, l))
all_mapped f (suc k) [] l = refl
all_mapped f (suc k) (x ∷ xs) l = ap (λ ys. (x.0, f x) ∷ ys) (all_mapped f k xs (omega (arith, l)))

-- what a row gets, by the rows before all changes
abbrev got : ℕ → List Device → Rows → Name × ℕ → ℕ
got times ds rows r = roomy_depth times ds (book_of rows) (names_in r.0) r.1

-- so far the first k rows have room
abbrev pub part : ℕ → List Device → ℕ → Rows → Rows
part times ds k rows = record rows { depths = first_mapped (got times ds rows) k rows.depths }

pub part_next : (times : ℕ) (ds : List Device) (k : ℕ) (rows now new : Rows) → now ≡ part times ds k rows → new ≡ roomy_at k times ds now → new ≡ part times ds (k + 1) rows
part_next times ds k rows now new is made = made ∙ ap (roomy_at k times ds) is ∙ by (slice_get rows.depths k) refl ∙ ap (λ n. part times ds n rows) next where
  next : suc k ≡ k + 1
  next = omega arith

  by : (found : Option (Name × ℕ)) → slice_get rows.depths k ≡ found → roomy_at k times ds (part times ds k rows) ≡ part times ds (suc k) rows
  by None at =
      ap (λ (o : Option (Name × ℕ)). elim o [ None ↦ part times ds k rows | Some r ↦ with_depth_at k (roomy_depth times ds (book_of (part times ds k rows)) (names_in r.0) r.1) (part times ds k rows) ]) (get_mapped (got times ds rows) k rows.depths ∙ at)
      ∙ ap (λ (t : Table ℕ). record rows { depths = t }) (past_mapped (got times ds rows) k rows.depths at)
  by (Some r) at =
      ap (λ (o : Option (Name × ℕ)). elim o [ None ↦ part times ds k rows | Some r ↦ with_depth_at k (roomy_depth times ds (book_of (part times ds k rows)) (names_in r.0) r.1) (part times ds k rows) ]) (get_mapped (got times ds rows) k rows.depths ∙ at)
      ∙ ap (λ n. with_depth_at k (max (min (n * times) most_places) r.1) (part times ds k rows)) (devices_same (book_of (part times ds k rows)) (book_of rows) refl (names_in r.0) ds)
      ∙ ap (λ (t : Table ℕ). record rows { depths = t }) (set_mapped (got times ds rows) k rows.depths r at)

pub part_last : (times : ℕ) (ds : List Device) (k : ℕ) (rows now : Rows) → length rows.depths ≤ k → now ≡ part times ds k rows → now ≡ roomy_rows times ds rows
part_last times ds k rows now l is = is ∙ ap (λ (t : Table ℕ). record rows { depths = t }) (all_mapped (got times ds rows) k rows.depths l)

-- ---- in the book

pub book_same : (times : ℕ) (ds : List Device) (rows : Rows) → book_of (roomy_rows times ds rows) ≡ roomy times ds (book_of rows)
book_same times ds rows = ap (λ (t : List book.DepthRow). record (book_of rows) { depths = t }) (by rows.depths) where
  by : (xs : Table ℕ) → depth_rows (map (λ (r : Name × ℕ). (r.0, got times ds rows r)) xs) ≡ map (λ (r : book.DepthRow). record r { depth = roomy_depth times ds (book_of rows) r.path r.depth }) (depth_rows xs)
  by [] = refl
  by (x ∷ xs) = ap (λ (t : List book.DepthRow). record { path = names_in x.0; depth = got times ds rows x } ∷ t) (by xs)
