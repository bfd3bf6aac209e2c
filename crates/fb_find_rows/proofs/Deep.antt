-- With these rows every queue of a system is as deep as it has to be, and no deeper.
use Rattle.std.proofs.Common.{◌≡◌, ◌≤◌, ◌+◌, ℕ, zero, suc, Bool, true, false, refl, sym, ap, subst, ◌∙◌, arith, inl, inr, List, [], ◌∷◌, ◌++◌, length, Contains, string_bytes}
use Rattle.std.specs.Prelude.{◌⊎◌, ◌==◌, ◌&&◌, max}
use Rattle.std.specs.List.{AllByRecursion, flat_map}
use Rattle.std.specs.Str.{bytes_eq}
use Rattle.std.proofs.lemmas.Bool.{cases_lt, eqb-true, eq-eqb}
use Rattle.std.proofs.lemmas.List.Elements.{Contains-append_left, Contains-append_right}
use Rattle.std.proofs.lemmas.List.{map-append}
use Rattle.std.proofs.Math.Nat.{le-max_left, le-max_right}
use Rattle.fb_model.specs.Names.{Name, Path, at_place, path_eq}
use Rattle.fb_model.specs.Spelling.{IsWord}
use Rattle.fb_model.specs.System as book
use Rattle.fb_model.specs.Wires.{Leaf, leaves, leaves_from, resource_leaves}
use Rattle.fb_model.specs.Certificates as certs
use Rattle.fb_model.specs.Certificates.{ArrivalsFit, begin_places, depth_at, depth_of, kind_arrivals, name_at}
use Rattle.fb_model.specs.CertificateText.{names_in}
use Rattle.fb_model.proofs.Lists.{all_append, all_both}
use Rattle.fb_model.proofs.Homes.{resource_homes}
use Rattle.fb_model_laws.specs.Words.{IsWordyDevice}
use Rattle.fb_cert.specs.Views.{depth_rows}
use Rattle.fb_flat.specs.declared.flat.FlatResource.{FlatResource}
use Rattle.fb_flat.specs.declared.flat.FlatDevice.{FlatDevice}
use Rattle.fb_flat.specs.Tables.{AreResources, IsDevice, AreDevices}
use Rattle.fb_model.specs.Finding.{begins_of}
use Rattle.fb_check_rows.proofs.DepthSystems.{IsFrom, begin_first, begin_next, from_first, name_here, names_next}
use Rattle.fb_find_laws.specs.Finding.{HasNeededDepths, IsNeeded, is_one, for_arrival, for_begins}
use Rattle.fb_find_rows.specs.Needs.{all_rows, AreFresh, device_rows, paths, resource_texts, rows_from}
use Rattle.fb_model.specs.Finding.{arrival_of, most_arrival, most_at, needed_depth}
use Rattle.fb_find_rows.proofs.Needing.{all_at}
use Rattle.fb_find_rows.proofs.Found.{found_all, none_found}
use Rattle.fb_find_rows.proofs.QueueRows.{paths_from}

-- ---- leaves of a resource

most_all : (cert : certs.Certificate) (all : List Leaf) (m : ℕ) → most_arrival cert all ≤ m → AllByRecursion (λ leaf. arrival_of cert leaf ≤ m) all
most_all cert [] m h = tt
most_all cert (leaf ∷ rest) m h =
    let a = le-max_left (arrival_of cert leaf) (most_arrival cert rest) in
    let b = le-max_right (arrival_of cert leaf) (most_arrival cert rest) in
    (omega (arith, a, h), most_all cert rest m (omega (arith, b, h)))

le_max : (m a b : ℕ) → m ≤ max a b → (m ≤ a) ⊎ (m ≤ b)
le_max m a b h = elim (cases_lt a b) [ inl l ↦ inr (grind arith) | inr l ↦ inl (grind arith) ]

-- an arrival that takes so many places
record Takes (cert : certs.Certificate) (m : ℕ) (path : Path) (es : List Name) : Type 0 where
  e : Name
  is : Contains es e
  most : m ≤ (certs.places_of cert).weight (at_place path e)

takes : (cert : certs.Certificate) (m : ℕ) (path : Path) (es : List Name) → 1 ≤ m → m ≤ most_at cert path es → Takes cert m path es
takes cert m path [] s h = absurd (omega (arith, s, h))
takes cert m path (e ∷ es) s h =
    elim (le_max m ((certs.places_of cert).weight (at_place path e)) (most_at cert path es) h) [
      | inl l ↦ record { e = e; is = (0, omega arith, refl); most = l }
      | inr l ↦ (let t = takes cert m path es s l in record { e = t.e; is = Contains-append_right (e ∷ []) es t.e t.is; most = t.most })
    ]

record LeafTakes (cert : certs.Certificate) (m : ℕ) (all : List Leaf) : Type 0 where
  leaf : Leaf
  is : Contains all leaf
  takes : Takes cert m leaf.path (kind_arrivals leaf.kind)

leaf_takes : (cert : certs.Certificate) (m : ℕ) (all : List Leaf) → 1 ≤ m → m ≤ most_arrival cert all → LeafTakes cert m all
leaf_takes cert m [] s h = absurd (omega (arith, s, h))
leaf_takes cert m (leaf ∷ rest) s h =
    elim (le_max m (arrival_of cert leaf) (most_arrival cert rest) h) [
      | inl l ↦ record { leaf = leaf; is = (0, omega arith, refl); takes = takes cert m leaf.path (kind_arrivals leaf.kind) s l }
      | inr l ↦ (let t = leaf_takes cert m rest s l in record { leaf = t.leaf; is = Contains-append_right (leaf ∷ []) rest t.leaf t.is; takes = t.takes })
    ]

-- what all have, one has
one_of : {X : Type 0} (P : X → Type 0) (xs : List X) (x : X) → AllByRecursion P xs → Contains xs x → P x
one_of P [] x a c = absurd (omega (arith, c.1))
one_of P (y ∷ ys) x a (zero, l, e) = subst P e a.0
one_of P (y ∷ ys) x a (suc k, l, e) = one_of P ys x a.1 (k, omega (arith, l), e)

-- ---- resources

-- what is found for resources, by their numbers from n on
abbrev AreDeep : certs.Certificate → book.Device → ℕ → List book.Resource → Type 0
AreDeep cert device n [] = Unit {0}
AreDeep cert device n (r ∷ rs) = (depth_of cert device n ≡ needed_depth cert (resource_leaves n (device.name ∷ []) r)) × AreDeep cert device (n + 1) rs

abbrev IsFoundRow : certs.Certificate → Name × ℕ → Type 0
IsFoundRow cert row = depth_at cert.depths (names_in row.0) ≡ row.1

are_deep : (cert : certs.Certificate) (device : book.Device) (n : ℕ) (fs : List FlatResource) (rs : List book.Resource) → IsFrom device n rs → AreResources n (device.name ∷ []) fs rs
    → AllByRecursion (IsFoundRow cert) (rows_from cert n (device.name ∷ []) fs rs) → AreDeep cert device n rs
are_deep cert device n [] [] at a h = tt
are_deep cert device n [] (r ∷ rs) at a h = absurd a
are_deep cert device n (f ∷ fs) [] at a h = absurd a
are_deep cert device n (f ∷ fs) (r ∷ rs) at a h =
    let named : names_in (string_bytes f.path) ≡ device.name ∷ name_at device.resources n ∷ [] = a.0.path_is ∙ ap (λ (y : Name). device.name ∷ y ∷ []) (sym (name_here device n r rs at)) in
    (ap (depth_at cert.depths) (sym named) ∙ h.0, are_deep cert device (n + 1) fs rs (names_next device n r rs at) a.1 h.1)

need_arrives : (cert : certs.Certificate) (all : List Leaf) → most_arrival cert all ≤ needed_depth cert all
need_arrives cert all =
    let a = le-max_right 1 (most_arrival cert all) in
    let b = le-max_left (max 1 (most_arrival cert all)) (begins_of cert all) in
    omega (arith, a, b)

need_begins : (cert : certs.Certificate) (all : List Leaf) → begins_of cert all ≤ needed_depth cert all
need_begins cert all = le-max_right (max 1 (most_arrival cert all)) (begins_of cert all)

arrive : (cert : certs.Certificate) (device : book.Device) (n : ℕ) (rs : List book.Resource) → AreDeep cert device n rs → AllByRecursion (ArrivalsFit cert device) (leaves_from n (device.name ∷ []) rs)
arrive cert device n [] d = tt
arrive cert device n (r ∷ rs) d =
    let own = resource_leaves n (device.name ∷ []) r in
    all_append (ArrivalsFit cert device) own (leaves_from (n + 1) (device.name ∷ []) rs)
    (all_both (λ (leaf : Leaf). leaf.home ≡ n) (λ (leaf : Leaf). arrival_of cert leaf ≤ needed_depth cert own) (ArrivalsFit cert device) own
    (λ leaf home l. all_at cert leaf.path (kind_arrivals leaf.kind) (depth_of cert device leaf.home) (subst (λ m. arrival_of cert leaf ≤ m) (sym d.0 ∙ ap (depth_of cert device) (sym home)) l))
    (resource_homes n (device.name ∷ []) r) (most_all cert own (needed_depth cert own) (need_arrives cert own)))
    (arrive cert device (n + 1) rs d.1)

begin : (cert : certs.Certificate) (device : book.Device) (n : ℕ) (rs : List book.Resource) → AreDeep cert device n rs → (q : ℕ) → begin_places cert (leaves_from n (device.name ∷ []) rs) q ≤ depth_of cert device q
begin cert device n [] d q = omega arith
begin cert device n (r ∷ rs) d q = by (n == q) refl (begin cert device (n + 1) rs d.1 q) where
  own : List Leaf
  own = resource_leaves n (device.name ∷ []) r

  at_first : begin_places cert (leaves_from n (device.name ∷ []) (r ∷ rs)) n ≤ depth_of cert device n
  at_first = subst (λ m. m ≤ depth_of cert device n) (sym (begin_first cert n (device.name ∷ []) r rs)) (subst (λ m. begins_of cert own ≤ m) (sym d.0) (need_begins cert own))

  by : (b : Bool) → (n == q) ≡ b → begin_places cert (leaves_from (n + 1) (device.name ∷ []) rs) q ≤ depth_of cert device q → begin_places cert (leaves_from n (device.name ∷ []) (r ∷ rs)) q ≤ depth_of cert device q
  by true e next = subst (λ m. begin_places cert (leaves_from n (device.name ∷ []) (r ∷ rs)) m ≤ depth_of cert device m) (eqb-true n q e) at_first
  by false e next = subst (λ m. m ≤ depth_of cert device q) (sym (begin_next cert n q (device.name ∷ []) r rs e)) next

-- ---- no deeper

more_leaves : (cert : certs.Certificate) (xs ys : List Leaf) (q d : ℕ) → begin_places cert (xs ++ ys) q ≡ begin_places cert ys q → IsNeeded cert ys q d → IsNeeded cert (xs ++ ys) q d
more_leaves cert xs ys q d e (is_one l) = is_one l
more_leaves cert xs ys q d e (for_arrival leaf x c home a l) = for_arrival leaf x (Contains-append_right xs ys leaf c) home a l
more_leaves cert xs ys q d e (for_begins l) = for_begins (subst (λ m. d ≤ m) (sym e) l)

first_needed : (cert : certs.Certificate) (device : book.Device) (n : ℕ) (r : book.Resource) (rs : List book.Resource) (d : ℕ) → d ≤ needed_depth cert (resource_leaves n (device.name ∷ []) r) → IsNeeded cert (leaves_from n (device.name ∷ []) (r ∷ rs)) n d
first_needed cert device n r rs d h = elim (le_max d (max 1 (most_arrival cert own)) (begins_of cert own) h) [ inl l ↦ arrives (le_max d 1 (most_arrival cert own) l) | inr l ↦ for_begins (subst (λ m. d ≤ m) (sym (begin_first cert n (device.name ∷ []) r rs)) l) ] where
  own : List Leaf
  own = resource_leaves n (device.name ∷ []) r

  arrives : (d ≤ 1) ⊎ (d ≤ most_arrival cert own) → IsNeeded cert (leaves_from n (device.name ∷ []) (r ∷ rs)) n d
  arrives (inl l) = is_one l
  arrives (inr l) = elim (cases_lt 1 d) [ inl some ↦ taken (leaf_takes cert d own (omega (arith, some)) l) | inr few ↦ is_one few ] where
    taken : LeafTakes cert d own → IsNeeded cert (leaves_from n (device.name ∷ []) (r ∷ rs)) n d
    taken t = for_arrival t.leaf t.takes.e (Contains-append_left own (leaves_from (n + 1) (device.name ∷ []) rs) t.leaf t.is) (one_of (λ (leaf : Leaf). leaf.home ≡ n) own t.leaf (resource_homes n (device.name ∷ []) r) t.is) t.takes.is t.takes.most

needed : (cert : certs.Certificate) (device : book.Device) (n : ℕ) (rs : List book.Resource) → AreDeep cert device n rs → (q : ℕ) → n ≤ q → (n + length rs ≤ q → depth_of cert device q ≡ 0) → IsNeeded cert (leaves_from n (device.name ∷ []) rs) q (depth_of cert device q)
needed cert device n [] d q le none = is_one (let z = none (omega (arith, le)) in omega (arith, z))
needed cert device n (r ∷ rs) d q le none = by (n == q) refl (λ p. needed cert device (n + 1) rs d.1 q p (λ l. none (omega (arith, l)))) where
  by : (b : Bool) → (n == q) ≡ b → (n + 1 ≤ q → IsNeeded cert (leaves_from (n + 1) (device.name ∷ []) rs) q (depth_of cert device q)) → IsNeeded cert (leaves_from n (device.name ∷ []) (r ∷ rs)) q (depth_of cert device q)
  by true e next = subst (λ m. IsNeeded cert (leaves_from n (device.name ∷ []) (r ∷ rs)) m (depth_of cert device m)) (eqb-true n q e) (first_needed cert device n r rs (depth_of cert device n) (let s = d.0 in omega (arith, s)))
  by false e next =
      more_leaves cert (resource_leaves n (device.name ∷ []) r) (leaves_from (n + 1) (device.name ∷ []) rs) q (depth_of cert device q) (begin_next cert n q (device.name ∷ []) r rs e) (next (past e))
    where
      past : (n == q) ≡ false → n + 1 ≤ q
      past e = elim (cases_lt n q) [ inl l ↦ omega (arith, l) | inr l ↦ absurd (let s : n ≡ q = omega (arith, l, le) in let t = eq-eqb n q s in cc) ]

-- ---- devices

no_name : (rs : List book.Resource) (q : ℕ) → length rs ≤ q → name_at rs q ≡ []
no_name [] q l = refl
no_name (r ∷ rs) zero l = absurd (omega (arith, l))
no_name (r ∷ rs) (suc q) l = no_name rs q (omega (arith, l))

word_is_some : (n : Name) → IsWord n → bytes_eq n [] ≡ false
word_is_some [] w = elim w [ ]
word_is_some (c ∷ cs) w = refl

unnamed_in : (cert : certs.Certificate) (name other : Name) (n : ℕ) (fs : List FlatResource) (rs : List book.Resource) → AreResources n (other ∷ []) fs rs → AllByRecursion (λ (r : book.Resource). IsWord r.name) rs
    → AllByRecursion (λ (row : Name × ℕ). path_eq (names_in row.0) (name ∷ [] ∷ []) ≡ false) (rows_from cert n (other ∷ []) fs rs)
unnamed_in cert name other n [] rs a w = tt
unnamed_in cert name other n (f ∷ fs) [] a w = tt
unnamed_in cert name other n (f ∷ fs) (r ∷ rs) a w =
    (ap (λ (p : Path). path_eq p (name ∷ [] ∷ [])) a.0.path_is ∙ ap (λ b. bytes_eq other name && (b && true)) (word_is_some r.name w.0) ∙ and_false (bytes_eq other name), unnamed_in cert name other (n + 1) fs rs a.1 w.1)
  where
    and_false : (b : Bool) → (b && false) ≡ false
    and_false true = refl
    and_false false = refl

unnamed : (cert : certs.Certificate) (name : Name) (fs : List FlatDevice) (ds : List book.Device) → AreDevices fs ds → AllByRecursion IsWordyDevice ds → AllByRecursion (λ (row : Name × ℕ). path_eq (names_in row.0) (name ∷ [] ∷ []) ≡ false) (all_rows cert fs ds)
unnamed cert name [] ds a w = tt
unnamed cert name (f ∷ fs) [] a w = tt
unnamed cert name (f ∷ fs) (d ∷ ds) a w =
    all_append (λ (row : Name × ℕ). path_eq (names_in row.0) (name ∷ [] ∷ []) ≡ false) (device_rows cert f d) (all_rows cert fs ds) (unnamed_in cert name d.name 0 f.resources.items d.resources a.0.resources w.0.resources) (unnamed cert name fs ds a.1 w.1)

all_first : {X : Type 0} (P : X → Type 0) (xs ys : List X) → AllByRecursion P (xs ++ ys) → AllByRecursion P xs
all_first P [] ys h = tt
all_first P (x ∷ xs) ys h = (h.0, all_first P xs ys h.1)

all_last : {X : Type 0} (P : X → Type 0) (xs ys : List X) → AllByRecursion P (xs ++ ys) → AllByRecursion P ys
all_last P [] ys h = h
all_last P (x ∷ xs) ys h = all_last P xs ys h.1

device_deep : (cert : certs.Certificate) (f : FlatDevice) (d : book.Device) → IsDevice f d → ((q : ℕ) → length d.resources ≤ q → depth_of cert d q ≡ 0) → AllByRecursion (IsFoundRow cert) (device_rows cert f d) → HasNeededDepths cert d
device_deep cert f d is none h =
    let deep = are_deep cert d 0 f.resources.items d.resources (from_first d) is.resources h in
    record { arrivals = arrive cert d 0 d.resources deep; begins = begin cert d 0 d.resources deep; needed = λ q. needed cert d 0 d.resources deep q (omega arith) (λ l. none q (omega (arith, l))) }

devices_deep : (cert : certs.Certificate) (fs : List FlatDevice) (ds : List book.Device) → AreDevices fs ds → AllByRecursion (IsFoundRow cert) (all_rows cert fs ds) → ((d : book.Device) (q : ℕ) → length d.resources ≤ q → depth_of cert d q ≡ 0) → AllByRecursion (HasNeededDepths cert) ds
devices_deep cert [] [] a h none = tt
devices_deep cert [] (d ∷ ds) a h none = absurd a
devices_deep cert (f ∷ fs) [] a h none = absurd a
devices_deep cert (f ∷ fs) (d ∷ ds) a h none =
    (device_deep cert f d a.0 (none d) (all_first (IsFoundRow cert) (device_rows cert f d) (all_rows cert fs ds) h), devices_deep cert fs ds a.1 (all_last (IsFoundRow cert) (device_rows cert f d) (all_rows cert fs ds) h) none)

pub paths_all : (cert : certs.Certificate) (fs : List FlatDevice) (ds : List book.Device) → AreDevices fs ds → paths (all_rows cert fs ds) ≡ flat_map resource_texts fs
paths_all cert [] ds a = refl
paths_all cert (f ∷ fs) [] a = absurd a
paths_all cert (f ∷ fs) (d ∷ ds) a =
    map-append (λ (p : Name × ℕ). p.0) (device_rows cert f d) (all_rows cert fs ds) ∙ ap (λ (ts : List Name). ts ++ paths (all_rows cert fs ds)) (paths_from cert 0 (d.name ∷ []) f.resources.items d.resources a.0.resources)
    ∙ ap (λ (ts : List Name). resource_texts f ++ ts) (paths_all cert fs ds a.1)

-- every queue is as deep as needed where the rows are those of all resources, no two alike
pub needed_depths : (cert : certs.Certificate) (fs : List FlatDevice) (ds : List book.Device) → AreDevices fs ds → AllByRecursion IsWordyDevice ds → AreFresh [] (flat_map resource_texts fs) → cert.depths ≡ depth_rows (all_rows cert fs ds)
    → AllByRecursion (HasNeededDepths cert) ds
needed_depths cert fs ds a w fresh are =
    let table = all_rows cert fs ds in
    let found = found_all [] table (subst (AreFresh []) (sym (paths_all cert fs ds a)) fresh) in
    devices_deep cert fs ds a (subst (λ ds. AllByRecursion (λ (r : Name × ℕ). depth_at ds (names_in r.0) ≡ r.1) table) (sym are) found)
    (λ d q l. ap (λ (n : Name). depth_at cert.depths (d.name ∷ n ∷ [])) (no_name d.resources q l) ∙ ap (λ ds. depth_at ds (d.name ∷ [] ∷ [])) are ∙ none_found table (d.name ∷ [] ∷ []) (unnamed cert d.name fs ds a w))
