-- What is so of the tables is so of the system's leaves in the book.
use Rattle.std.proofs.Common.{◌≡◌, ◌≤◌, ◌<◌, ◌+◌, ℕ, zero, suc, Bool, true, false, ◌&&◌, sym, ap, subst, refl, ◌∙◌, arith, inl, inr, List, [], ◌∷◌, ◌++◌, length, get_or, string_bytes}
use Rattle.std.specs.Prelude.{◌⊎◌, ◌==◌, if◌then◌else◌}
use Rattle.std.specs.List.{Any, AllByRecursion}
use Rattle.std.specs.declared.string.String.{String}
use Rattle.std.specs.declared.alloc.Global.{Global}
use Rattle.std.proofs.lemmas.Bool.{eqb-true, eq-eqb, ne_eqb}
use Rattle.fb_model.specs.Names.{Name, Path, at_place}
use Rattle.fb_model.specs.Services.{begin}
use Rattle.fb_model.specs.System as system
use Rattle.fb_model.specs.Wires as wires
use Rattle.fb_model.specs.Wires.{resource_leaves, leaves_from, leaves}
use Rattle.fb_model.specs.Certificates as book
use Rattle.fb_model.specs.Certificates.{ArrivalsFit, begin_places, is_restart, name_at, depth_at}
use Rattle.fb_model.specs.CertificateText.{names_in}
use Rattle.fb_model.proofs.Lists.{all_append, all_both, all_weaker}
use Rattle.fb_model.proofs.Homes.{resource_homes}
use Rattle.fb_cert.specs.declared.certificate.Certificate.{Certificate}
use Rattle.fb_cert.specs.Views.{certificate_of}
use Rattle.fb_flat.specs.declared.flat.Leaf.{Leaf}
use Rattle.fb_flat.specs.declared.flat.FlatResource.{FlatResource}
use Rattle.fb_flat.specs.declared.flat.FlatDevice.{FlatDevice}
use Rattle.fb_flat.specs.Tables.{IsLeaf, AreLeaves, IsResource, AreResources, IsDevice, AreDevices}
use Rattle.fb_faults.specs.declared.shallow.Shallow.{Shallow}
use Rattle.fb_faults.specs.declared.shallow.Shallow.TheVariants.{OutOfMemory, Depth}
use Rattle.fb_check_rows.specs.Depths.{IsDeep, depth_of, Arrives, LeafArrives, ResourceFits, DeviceFits, ArrivalFails, BeginFails, IsDepthFault}
use Rattle.fb_model.specs.Finding.{begin_of, begins_of}
use Rattle.fb_model.specs.Misfits.{OneOf, IsShallow, IsShallowFault}

-- ---- one of a list

tail_of : {X : Type 0} (P : X → Type 0) (y : X) (xs : List X) (k : ℕ) (x : X) → suc k < length (y ∷ xs) → get_or (y ∷ xs) (suc k) x ≡ x → P x → Any P xs
tail_of P y xs k x l e p = (k, x, omega (arith, l), e, p)

pub some_of : {X : Type 0} (P : X → Type 0) (xs : List X) → Any P xs → OneOf P xs
some_of P [] a = absurd (omega (arith, a.2))
some_of P (y ∷ xs) (zero, x, l, e, p) = inl (subst P (sym e) p)
some_of P (y ∷ xs) (suc k, x, l, e, p) = inr (some_of P xs (tail_of P y xs k x l e p))

pub some_left : {X : Type 0} (P : X → Type 0) (xs ys : List X) → OneOf P xs → OneOf P (xs ++ ys)
some_left P [] ys s = absurd s
some_left P (x ∷ xs) ys (inl p) = inl p
some_left P (x ∷ xs) ys (inr s) = inr (some_left P xs ys s)

pub some_right : {X : Type 0} (P : X → Type 0) (xs ys : List X) → OneOf P ys → OneOf P (xs ++ ys)
some_right P [] ys s = s
some_right P (x ∷ xs) ys s = inr (some_right P xs ys s)

some_weaker : {X : Type 0} (P Q : X → Type 0) (xs : List X) → ((x : X) → P x → Q x) → OneOf P xs → OneOf Q xs
some_weaker P Q [] f s = s
some_weaker P Q (x ∷ xs) f (inl p) = inl (f x p)
some_weaker P Q (x ∷ xs) f (inr s) = inr (some_weaker P Q xs f s)

-- what all have, none lacks
pub none_lacks : {X : Type 0} (P Q : X → Type 0) (xs : List X) → ((x : X) → P x → Q x → ⊥) → AllByRecursion P xs → OneOf Q xs → ⊥
none_lacks P Q [] f a s = s
none_lacks P Q (x ∷ xs) f a (inl q) = f x a.0 q
none_lacks P Q (x ∷ xs) f a (inr s) = none_lacks P Q xs f a.1 s

-- ---- BEGIN by the numbers of resources

zero_left : (n : ℕ) → n ≡ 0 + n
zero_left n = omega arith

begin_append : (cert : book.Certificate) (xs ys : List wires.Leaf) (q : ℕ) → begin_places cert (xs ++ ys) q ≡ begin_places cert xs q + begin_places cert ys q
begin_append cert [] ys q = zero_left (begin_places cert ys q)
begin_append cert (x ∷ xs) ys q = ap (λ n. here + n) (begin_append cert xs ys q) ∙ turned here (begin_places cert xs q) (begin_places cert ys q) where
  here : ℕ
  here = if is_restart x.kind && (x.home == q) then (book.places_of cert).weight (at_place x.path begin) else 0

  turned : (a b c : ℕ) → a + (b + c) ≡ (a + b) + c
  turned a b c = omega arith

-- of the leaves of one resource all count
begin_here : (cert : book.Certificate) (n : ℕ) (xs : List wires.Leaf) → AllByRecursion (λ (l : wires.Leaf). l.home ≡ n) xs → begin_places cert xs n ≡ begins_of cert xs
begin_here cert n [] h = refl
begin_here cert n (x ∷ xs) h =
    let same : (x.home == n) ≡ true = subst (λ m. (m == n) ≡ true) (sym h.0) (eq-eqb n n refl) in
    ap (λ b. (if is_restart x.kind && b then (book.places_of cert).weight (at_place x.path begin) else 0) + begin_places cert xs n) same
    ∙ ap (λ b. (if b then (book.places_of cert).weight (at_place x.path begin) else 0) + begin_places cert xs n) (and_true (is_restart x.kind))
    ∙ ap (λ m. begin_of cert x + m) (begin_here cert n xs h.1)
  where
    and_true : (b : Bool) → (b && true) ≡ b
    and_true true = refl
    and_true false = refl

-- and of those of others none
begin_other : (cert : book.Certificate) (q : ℕ) (xs : List wires.Leaf) → AllByRecursion (λ (l : wires.Leaf). (l.home == q) ≡ false) xs → begin_places cert xs q ≡ 0
begin_other cert q [] h = refl
begin_other cert q (x ∷ xs) h =
    ap (λ b. (if is_restart x.kind && b then (book.places_of cert).weight (at_place x.path begin) else 0) + begin_places cert xs q) h.0
    ∙ ap (λ b. (if b then (book.places_of cert).weight (at_place x.path begin) else 0) + begin_places cert xs q) (and_false (is_restart x.kind))
    ∙ sym (zero_left (begin_places cert xs q))
    ∙ begin_other cert q xs h.1
  where
    and_false : (b : Bool) → (b && false) ≡ false
    and_false true = refl
    and_false false = refl

homes_after : (n : ℕ) (path : Path) (rs : List system.Resource) → AllByRecursion (λ (l : wires.Leaf). n ≤ l.home) (leaves_from n path rs)
homes_after n path [] = tt
homes_after n path (r ∷ rs) =
    all_append (λ (l : wires.Leaf). n ≤ l.home) (resource_leaves n path r) (leaves_from (n + 1) path rs)
    (all_weaker (λ (l : wires.Leaf). l.home ≡ n) (λ (l : wires.Leaf). n ≤ l.home) (resource_leaves n path r) (λ l h. omega (arith, h)) (resource_homes n path r))
    (all_weaker (λ (l : wires.Leaf). n + 1 ≤ l.home) (λ (l : wires.Leaf). n ≤ l.home) (leaves_from (n + 1) path rs) (λ l h. omega (arith, h)) (homes_after (n + 1) path rs))

-- a resource of this number has none behind it
pub begin_behind : (cert : book.Certificate) (q n : ℕ) (path : Path) (rs : List system.Resource) → q < n → begin_places cert (leaves_from n path rs) q ≡ 0
begin_behind cert q n path rs lt =
    begin_other cert q (leaves_from n path rs)
    (all_weaker (λ (l : wires.Leaf). n ≤ l.home) (λ (l : wires.Leaf). (l.home == q) ≡ false) (leaves_from n path rs) (λ l h. ne_eqb l.home q (λ e. omega (arith, e, h, lt))) (homes_after n path rs))

-- the BEGIN of the first resource
pub begin_first : (cert : book.Certificate) (n : ℕ) (path : Path) (r : system.Resource) (rs : List system.Resource) → begin_places cert (leaves_from n path (r ∷ rs)) n ≡ begins_of cert (resource_leaves n path r)
begin_first cert n path r rs =
    begin_append cert (resource_leaves n path r) (leaves_from (n + 1) path rs) n
    ∙ ap (λ m. begin_places cert (resource_leaves n path r) n + m) (begin_behind cert n (n + 1) path rs (omega arith))
    ∙ nothing_more (begin_places cert (resource_leaves n path r) n)
    ∙ begin_here cert n (resource_leaves n path r) (resource_homes n path r)
  where
    nothing_more : (m : ℕ) → m + 0 ≡ m
    nothing_more m = omega arith

-- and of another
pub begin_next : (cert : book.Certificate) (n q : ℕ) (path : Path) (r : system.Resource) (rs : List system.Resource) → (n == q) ≡ false → begin_places cert (leaves_from n path (r ∷ rs)) q ≡ begin_places cert (leaves_from (n + 1) path rs) q
begin_next cert n q path r rs e =
    begin_append cert (resource_leaves n path r) (leaves_from (n + 1) path rs) q
    ∙ ap (λ m. m + begin_places cert (leaves_from (n + 1) path rs) q)
    (begin_other cert q (resource_leaves n path r) (all_weaker (λ (l : wires.Leaf). l.home ≡ n) (λ (l : wires.Leaf). (l.home == q) ≡ false) (resource_leaves n path r) (λ l h. subst (λ m. (m == q) ≡ false) (sym h) e) (resource_homes n path r)))
    ∙ sym (zero_left (begin_places cert (leaves_from (n + 1) path rs) q))

-- ---- from tables to leaves

leaves_arrive : (cert : Certificate) (most : ℕ) (ls : List Leaf) (bs : List wires.Leaf) → AllByRecursion (LeafArrives cert most) ls → AreLeaves ls bs → AllByRecursion (Arrives cert most) bs
leaves_arrive cert most [] [] p a = tt
leaves_arrive cert most (l ∷ ls) (b ∷ bs) p a = (p.0 b a.0, leaves_arrive cert most ls bs p.1 a.1)
leaves_arrive cert most [] (b ∷ bs) p a = absurd a
leaves_arrive cert most (l ∷ ls) [] p a = absurd a

-- the depth of a resource's tables is that of its number
depth_of_number : (cert : Certificate) (device : system.Device) (n : ℕ) (f : FlatResource) (r : system.Resource) → names_in (string_bytes f.path) ≡ device.name ∷ r.name ∷ [] → name_at device.resources n ≡ r.name → depth_of cert f ≡ book.depth_of (certificate_of cert) device n
depth_of_number cert device n f r path name = ap (depth_at (certificate_of cert).depths) (path ∙ ap (λ (x : Name). device.name ∷ x ∷ []) (sym name))

depth_same : (cert : Certificate) (device : system.Device) (n : ℕ) (f : FlatResource) (r : system.Resource) → names_in (string_bytes f.path) ≡ device.name ∷ r.name ∷ [] → name_at device.resources n ≡ r.name
    → (b : wires.Leaf) → b.home ≡ n → depth_of cert f ≡ book.depth_of (certificate_of cert) device b.home
depth_same cert device n f r path name b home = depth_of_number cert device n f r path name ∙ ap (book.depth_of (certificate_of cert) device) (sym home)

one_arrives : (cert : Certificate) (device : system.Device) (n : ℕ) (f : FlatResource) (r : system.Resource) → names_in (string_bytes f.path) ≡ device.name ∷ r.name ∷ [] → name_at device.resources n ≡ r.name
    → (b : wires.Leaf) → b.home ≡ n → Arrives cert (depth_of cert f) b → ArrivalsFit (certificate_of cert) device b
one_arrives cert device n f r path name b home a = subst (λ m. Arrives cert m b) (depth_same cert device n f r path name b home) a

-- the names of the resources from a number on
abbrev pub IsFrom : system.Device → ℕ → List system.Resource → Type 0
IsFrom device n rs = (k : ℕ) → name_at device.resources (n + k) ≡ name_at rs k

pub name_here : (device : system.Device) (n : ℕ) (r : system.Resource) (rs : List system.Resource) → IsFrom device n (r ∷ rs) → name_at device.resources n ≡ r.name
name_here device n r rs at = subst (λ m. name_at device.resources m ≡ r.name) (let e : n + 0 ≡ n = omega arith in e) (at 0)

pub names_next : (device : system.Device) (n : ℕ) (r : system.Resource) (rs : List system.Resource) → IsFrom device n (r ∷ rs) → IsFrom device (n + 1) rs
names_next device n r rs at k = subst (λ m. name_at device.resources m ≡ name_at rs k) (let e : n + suc k ≡ (n + 1) + k = omega arith in e) (at (suc k))

resources_arrive : (cert : Certificate) (device : system.Device) (n : ℕ) (fs : List FlatResource) (rs : List system.Resource) → IsFrom device n rs
    → AllByRecursion (ResourceFits cert) fs → AreResources n (device.name ∷ []) fs rs → AllByRecursion (ArrivalsFit (certificate_of cert) device) (leaves_from n (device.name ∷ []) rs)
resources_arrive cert device n [] [] at p a = tt
resources_arrive cert device n (f ∷ fs) (r ∷ rs) at p a =
    all_append _ (resource_leaves n (device.name ∷ []) r) (leaves_from (n + 1) (device.name ∷ []) rs)
    (all_both (λ (b : wires.Leaf). b.home ≡ n) (Arrives cert (depth_of cert f)) (ArrivalsFit (certificate_of cert) device) (resource_leaves n (device.name ∷ []) r)
    (one_arrives cert device n f r a.0.path_is (name_here device n r rs at)) (resource_homes n (device.name ∷ []) r) (leaves_arrive cert (depth_of cert f) f.leaves.items (resource_leaves n (device.name ∷ []) r) p.0.0 a.0.leaves))
    (resources_arrive cert device (n + 1) fs rs (names_next device n r rs at) p.1 a.1)
resources_arrive cert device n [] (r ∷ rs) at p a = absurd a
resources_arrive cert device n (f ∷ fs) [] at p a = absurd a

resources_begin : (cert : Certificate) (device : system.Device) (n : ℕ) (fs : List FlatResource) (rs : List system.Resource) → IsFrom device n rs
    → AllByRecursion (ResourceFits cert) fs → AreResources n (device.name ∷ []) fs rs → (q : ℕ) → begin_places (certificate_of cert) (leaves_from n (device.name ∷ []) rs) q ≤ book.depth_of (certificate_of cert) device q
resources_begin cert device n [] [] at p a q = omega arith
resources_begin cert device n [] (r ∷ rs) at p a q = absurd a
resources_begin cert device n (f ∷ fs) [] at p a q = absurd a
resources_begin cert device n (f ∷ fs) (r ∷ rs) at p a q = by (n == q) refl (resources_begin cert device (n + 1) fs rs (names_next device n r rs at) p.1 a.1 q) where
  c : book.Certificate
  c = certificate_of cert

  at_first : begin_places c (leaves_from n (device.name ∷ []) (r ∷ rs)) n ≤ book.depth_of c device n
  at_first =
      subst (λ m. m ≤ book.depth_of c device n) (sym (begin_first c n (device.name ∷ []) r rs))
      (subst (λ m. begins_of c (resource_leaves n (device.name ∷ []) r) ≤ m) (depth_of_number cert device n f r a.0.path_is (name_here device n r rs at)) (p.0.1 (resource_leaves n (device.name ∷ []) r) a.0.leaves))

  by : (b : Bool) → (n == q) ≡ b → begin_places c (leaves_from (n + 1) (device.name ∷ []) rs) q ≤ book.depth_of c device q → begin_places c (leaves_from n (device.name ∷ []) (r ∷ rs)) q ≤ book.depth_of c device q
  by true e next = subst (λ m. begin_places c (leaves_from n (device.name ∷ []) (r ∷ rs)) m ≤ book.depth_of c device m) (eqb-true n q e) at_first
  by false e next = subst (λ m. m ≤ book.depth_of c device q) (sym (begin_next c n q (device.name ∷ []) r rs e)) next

pub from_first : (device : system.Device) → IsFrom device 0 device.resources
from_first device k = let e : 0 + k ≡ k = omega arith in ap (name_at device.resources) e

pub devices_deep : (cert : Certificate) (fs : List FlatDevice) (ds : List system.Device) → AllByRecursion (DeviceFits cert) fs → AreDevices fs ds → AllByRecursion (IsDeep (certificate_of cert)) ds
devices_deep cert [] [] p a = tt
devices_deep cert (f ∷ fs) (d ∷ ds) p a =
    (record { arrivals = resources_arrive cert d 0 f.resources.items d.resources (from_first d) p.0 a.0.resources; begins = resources_begin cert d 0 f.resources.items d.resources (from_first d) p.0 a.0.resources }, devices_deep cert fs ds p.1 a.1)
devices_deep cert [] (d ∷ ds) p a = absurd a
devices_deep cert (f ∷ fs) [] p a = absurd a

-- ---- refusals

leaves_lack : (cert : Certificate) (most n : ℕ) (ls : List Leaf) (bs : List wires.Leaf) → OneOf (λ l. (leaf : wires.Leaf) → IsLeaf l leaf → Arrives cert most leaf → ⊥) ls → AreLeaves ls bs → AllByRecursion (λ (b : wires.Leaf). b.home ≡ n) bs
    → OneOf (λ (b : wires.Leaf). (b.home ≡ n) × (Arrives cert most b → ⊥)) bs
leaves_lack cert most n [] bs s a h = absurd s
leaves_lack cert most n (l ∷ ls) [] s a h = absurd a
leaves_lack cert most n (l ∷ ls) (b ∷ bs) (inl p) a h = inl (h.0, p b a.0)
leaves_lack cert most n (l ∷ ls) (b ∷ bs) (inr s) a h = inr (leaves_lack cert most n ls bs s a.1 h.1)

-- a resource, by its number among those from n on, lacks depth
record Lacks (cert : book.Certificate) (device : system.Device) (path : Name) (n : ℕ) (all : List wires.Leaf) : Type 0 where
  m : ℕ
  after : n ≤ m
  named : names_in path ≡ device.name ∷ name_at device.resources m ∷ []
  lack : OneOf (λ (b : wires.Leaf). (b.home ≡ m) × (ArrivalsFit cert device b → ⊥)) all ⊎ (begin_places cert all m ≤ book.depth_of cert device m → ⊥)

lacks_on : (cert : book.Certificate) (device : system.Device) (path : Name) (n : ℕ) (r : system.Resource) (rs : List system.Resource) → Lacks cert device path (n + 1) (leaves_from (n + 1) (device.name ∷ []) rs) → Lacks cert device path n (leaves_from n (device.name ∷ []) (r ∷ rs))
lacks_on cert device path n r rs x = record { m = x.m; after = omega (arith, x.after); named = x.named; lack = by x.lack } where
  other : (n == x.m) ≡ false
  other = ne_eqb n x.m (λ e. omega (arith, e, x.after))

  by : (OneOf (λ (b : wires.Leaf). (b.home ≡ x.m) × (ArrivalsFit cert device b → ⊥)) (leaves_from (n + 1) (device.name ∷ []) rs) ⊎ (begin_places cert (leaves_from (n + 1) (device.name ∷ []) rs) x.m ≤ book.depth_of cert device x.m → ⊥))
      → (OneOf (λ (b : wires.Leaf). (b.home ≡ x.m) × (ArrivalsFit cert device b → ⊥)) (leaves_from n (device.name ∷ []) (r ∷ rs)) ⊎ (begin_places cert (leaves_from n (device.name ∷ []) (r ∷ rs)) x.m ≤ book.depth_of cert device x.m → ⊥))
  by (inl s) = inl (some_right _ (resource_leaves n (device.name ∷ []) r) (leaves_from (n + 1) (device.name ∷ []) rs) s)
  by (inr f) = inr (λ h. f (subst (λ k. k ≤ book.depth_of cert device x.m) (begin_next cert n x.m (device.name ∷ []) r rs other) h))

lacks_here : (cert : Certificate) (device : system.Device) (path : String Global) (n : ℕ) (f : FlatResource) (r : system.Resource) (rs : List system.Resource) → IsFrom device n (r ∷ rs) → IsResource n (device.name ∷ []) f r → IsDepthFault cert f (Depth path)
    → Lacks (certificate_of cert) device (string_bytes path) n (leaves_from n (device.name ∷ []) (r ∷ rs))
lacks_here cert device path n f r rs at is fault =
    record { m = n; after = omega arith; named = ap names_in fault.0 ∙ is.path_is ∙ ap (λ (y : Name). device.name ∷ y ∷ []) (sym here); lack = by fault.1 } where
      here : name_at device.resources n ≡ r.name
      here = name_here device n r rs at

      c : book.Certificate
      c = certificate_of cert

      by : (ArrivalFails cert f ⊎ BeginFails cert f)
          → (OneOf (λ (b : wires.Leaf). (b.home ≡ n) × (ArrivalsFit c device b → ⊥)) (leaves_from n (device.name ∷ []) (r ∷ rs)) ⊎ (begin_places c (leaves_from n (device.name ∷ []) (r ∷ rs)) n ≤ book.depth_of c device n → ⊥))
      by (inl p) =
          inl
          (some_left _ (resource_leaves n (device.name ∷ []) r) (leaves_from (n + 1) (device.name ∷ []) rs)
          (some_weaker (λ (b : wires.Leaf). (b.home ≡ n) × (Arrives cert (depth_of cert f) b → ⊥)) (λ (b : wires.Leaf). (b.home ≡ n) × (ArrivalsFit c device b → ⊥)) (resource_leaves n (device.name ∷ []) r)
          (λ b h. (h.0, λ fit. h.1 (subst (λ m. Arrives cert m b) (sym (depth_same cert device n f r is.path_is here b h.0)) fit)))
          (leaves_lack cert (depth_of cert f) n f.leaves.items (resource_leaves n (device.name ∷ []) r) (some_of (λ l. (leaf : wires.Leaf) → IsLeaf l leaf → Arrives cert (depth_of cert f) leaf → ⊥) f.leaves.items p) is.leaves (resource_homes n (device.name ∷ []) r))))
      by (inr p) =
          inr
          (λ h. p (resource_leaves n (device.name ∷ []) r) is.leaves
          (subst (λ m. begins_of c (resource_leaves n (device.name ∷ []) r) ≤ m) (sym (depth_of_number cert device n f r is.path_is here)) (subst (λ m. m ≤ book.depth_of c device n) (begin_first c n (device.name ∷ []) r rs) h)))

resources_lack : (cert : Certificate) (device : system.Device) (path : String Global) (n : ℕ) (fs : List FlatResource) (rs : List system.Resource) → IsFrom device n rs → OneOf (λ r. IsDepthFault cert r (Depth path)) fs → AreResources n (device.name ∷ []) fs rs
    → Lacks (certificate_of cert) device (string_bytes path) n (leaves_from n (device.name ∷ []) rs)
resources_lack cert device path n [] rs at s a = absurd s
resources_lack cert device path n (x ∷ fs) [] at s a = absurd a
resources_lack cert device path n (x ∷ fs) (r ∷ rs) at (inl p) a = lacks_here cert device path n x r rs at a.0 p
resources_lack cert device path n (x ∷ fs) (r ∷ rs) at (inr s) a = lacks_on (certificate_of cert) device (string_bytes path) n r rs (resources_lack cert device path (n + 1) fs rs (names_next device n r rs at) s a.1)

devices_lack : (cert : Certificate) (path : String Global) (fs : List FlatDevice) (ds : List system.Device) → OneOf (λ d. Any (λ r. IsDepthFault cert r (Depth path)) d.resources.items) fs → AreDevices fs ds → OneOf (IsShallow (certificate_of cert) (string_bytes path)) ds
devices_lack cert path [] ds s a = absurd s
devices_lack cert path (x ∷ fs) [] s a = absurd a
devices_lack cert path (x ∷ fs) (d ∷ ds) (inl p) a =
    let l = resources_lack cert d path 0 x.resources.items d.resources (from_first d) (some_of (λ r. IsDepthFault cert r (Depth path)) x.resources.items p) a.0.resources in
    inl (l.m, l.named, l.lack)
devices_lack cert path (x ∷ fs) (d ∷ ds) (inr s) a = inr (devices_lack cert path fs ds s a.1)

pub shallow : (cert : Certificate) (s : system.System) (f : Shallow) (fs : List FlatDevice) → AreDevices fs s.devices → Any (λ d. Any (λ r. IsDepthFault cert r f) d.resources.items) fs → IsShallowFault (certificate_of cert) s f
shallow cert s OutOfMemory fs a h = tt
shallow cert s (Depth path) fs a h = devices_lack cert path fs s.devices (some_of (λ d. Any (λ r. IsDepthFault cert r (Depth path)) d.resources.items) fs h) a

-- ---- what a refusal denies

device_denied : (cert : book.Certificate) (path : Name) (d : system.Device) → IsDeep cert d → IsShallow cert path d → ⊥
device_denied cert path d deep (n, named, inl s) = none_lacks (ArrivalsFit cert d) (λ (leaf : wires.Leaf). (leaf.home ≡ n) × (ArrivalsFit cert d leaf → ⊥)) (leaves d) (λ leaf fit lack. lack.1 fit) deep.arrivals s
device_denied cert path d deep (n, named, inr f) = f (deep.begins n)

pub denied : (cert : book.Certificate) (s : system.System) (f : Shallow) → IsShallowFault cert s f → AllByRecursion (IsDeep cert) s.devices → f ≡ OutOfMemory
denied cert s OutOfMemory h deep = refl
denied cert s (Depth path) h deep = absurd (none_lacks (IsDeep cert) (IsShallow cert (string_bytes path)) s.devices (device_denied cert (string_bytes path)) deep h)
