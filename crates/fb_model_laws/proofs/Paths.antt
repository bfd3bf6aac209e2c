-- The paths of the leaves of a device differ, and each leaf is found by its own.
use Rattle.std.proofs.Common.{◌≡◌, ℕ, ◌+◌, pos, ap, ap₂, refl, Bool, true, false, ◌&&◌, List, [], ◌∷◌, ◌++◌, map, Some, ◌∙◌, append_assoc}
use Rattle.std.specs.Prelude.{if◌then◌else◌}
use Rattle.std.specs.List.{AllByRecursion}
use Rattle.std.specs.Str.{bytes_eq}
use Rattle.fb_model.specs.Names.{Name, Path, Place, path_eq}
use Rattle.fb_model.specs.Values.{One}
use Rattle.fb_model.specs.Declarations.{BlockTree, SourceTree}
use Rattle.fb_model.specs.System.{Body, Basic, Served, Composite, Instances, nothing, instance, Resource, Device, System, constant, instance_names}
use Rattle.fb_model.specs.NetworkTyping.{no_face, ElaboratesWith}
use Rattle.fb_model.specs.Wires.{Leaf, Source, Constant, followed, entered_in, fed, given_in, inputs_of, leaves_of, leaves_in, leaves_from, leaves, leaf_at}
use Rattle.fb_model.proofs.Lists.{all_append, all_both, all_weaker}
use Rattle.fb_model.proofs.Placed.{Apart, path_front, path_same}
use Rattle.fb_model_laws.specs.Leaves.{AreApart}
use Rattle.fb_model_laws.proofs.Made.{IsWellMade, AreWellMade, IsWellResource, IsWellDevice}
use Rattle.fb_model_laws.proofs.Typed.{devices_made}

-- ---- where paths begin

-- the path of a leaf goes on from this one
pub record Begins (path : Path) (leaf : Leaf) : Type 0 where
  pub rest : Path
  pub is : leaf.path ≡ path ++ rest

-- it goes on from this path by another name
pub record Elsewhere (path : Path) (name : Name) (leaf : Leaf) : Type 0 where
  pub other : Name
  pub differs : bytes_eq name other ≡ false
  pub begins : Begins (path ++ other ∷ []) leaf

no_rest : (path : Path) → path ≡ path ++ []
no_rest [] = refl
no_rest (n ∷ path) = ap (λ p. n ∷ p) (no_rest path)

further : (path : Path) (name : Name) (leaf : Leaf) → Begins (path ++ name ∷ []) leaf → Begins path leaf
further path name leaf b = record { rest = name ∷ b.rest; is = b.is ∙ append_assoc path (name ∷ []) b.rest }

mutual
  begin_of : (body : Body) (home : ℕ) (path : Path) (targets : Name → List Place) (source : Name → Source) → AllByRecursion (Begins path) (leaves_of body home path targets source)
  begin_of (Basic block) home path targets source = (record { rest = []; is = no_rest path }, tt)
  begin_of (Served service) home path targets source = (record { rest = []; is = no_rest path }, tt)
  begin_of (Composite face inner events values) home path targets source =
      begin_in inner home path (λ j port. followed events (Some j) port (entered_in inner path) targets) (λ j port other. fed values (Some j) port (given_in inner path) source other)

  begin_in : (is : Instances) (home : ℕ) (path : Path) (targets : Name → Name → List Place) (source : Name → Name → Source → Source) → AllByRecursion (Begins path) (leaves_in is home path targets source)
  begin_in nothing home path targets source = tt
  begin_in (instance name parameters body rest) home path targets source =
      all_append (Begins path) _ _
      (all_weaker (Begins (path ++ name ∷ [])) (Begins path) _ (further path name) (begin_of body home (path ++ name ∷ []) (targets name) (λ port. source name port (Constant (constant parameters (inputs_of body) port)))))
      (begin_in rest home path targets source)

elsewhere_in : (is : Instances) (home : ℕ) (path : Path) (targets : Name → Name → List Place) (source : Name → Name → Source → Source) (name : Name)
    → AllByRecursion (λ m. bytes_eq name m ≡ false) (instance_names is) → AllByRecursion (Elsewhere path name) (leaves_in is home path targets source)
elsewhere_in nothing home path targets source name h = tt
elsewhere_in (instance m parameters body rest) home path targets source name h =
    all_append (Elsewhere path name) _ _
    (all_weaker (Begins (path ++ m ∷ [])) (Elsewhere path name) _ (λ l b. record { other = m; differs = h.0; begins = b })
    (begin_of body home (path ++ m ∷ []) (targets m) (λ port. source m port (Constant (constant parameters (inputs_of body) port)))))
    (elsewhere_in rest home path targets source name h.1)

-- ---- leaves apart

and_false : (a b : Bool) → a ≡ false → (a && b) ≡ false
and_false true b h = cc
and_false false b h = refl

crosses : (path : Path) (name : Name) (x y : Leaf) → Begins (path ++ name ∷ []) x → Elsewhere path name y → path_eq x.path y.path ≡ false
crosses path name x y b e =
    ap₂ path_eq (b.is ∙ append_assoc path (name ∷ []) b.rest) (e.begins.is ∙ append_assoc path (e.other ∷ []) e.begins.rest)
    ∙ (path_front path (name ∷ b.rest) (e.other ∷ e.begins.rest) ∙ and_false (bytes_eq name e.other) (path_eq b.rest e.begins.rest) e.differs)

apart_append : (xs ys : List Leaf) → AreApart xs → AreApart ys → AllByRecursion (λ (x : Leaf). AllByRecursion (λ (y : Leaf). path_eq x.path y.path ≡ false) ys) xs → AreApart (xs ++ ys)
apart_append [] ys f g h = g
apart_append (x ∷ xs) ys f g h = (all_append _ xs ys f.0 h.0, apart_append xs ys f.1 g h.1)

-- leaves behind one name are apart from those behind others
join : (path : Path) (name : Name) (xs ys : List Leaf) → AreApart xs → AreApart ys → AllByRecursion (Begins (path ++ name ∷ [])) xs → AllByRecursion (Elsewhere path name) ys → AreApart (xs ++ ys)
join path name xs ys f g b e =
    apart_append xs ys f g
    (all_weaker (Begins (path ++ name ∷ [])) (λ (x : Leaf). AllByRecursion (λ (y : Leaf). path_eq x.path y.path ≡ false) ys) xs
    (λ x s. all_weaker (Elsewhere path name) (λ (y : Leaf). path_eq x.path y.path ≡ false) ys (λ y t. crosses path name x y s t) e) b)

mutual
  apart_of : (body : Body) (home : ℕ) (path : Path) (targets : Name → List Place) (source : Name → Source) → IsWellMade body → AreApart (leaves_of body home path targets source)
  apart_of (Basic block) home path targets source m = (tt, tt)
  apart_of (Served service) home path targets source m = (tt, tt)
  apart_of (Composite face inner events values) home path targets source m =
      apart_in inner home path (λ j port. followed events (Some j) port (entered_in inner path) targets) (λ j port other. fed values (Some j) port (given_in inner path) source other) m.0 m.1.apart

  apart_in : (is : Instances) (home : ℕ) (path : Path) (targets : Name → Name → List Place) (source : Name → Name → Source → Source) → AreWellMade is → Apart (instance_names is) → AreApart (leaves_in is home path targets source)
  apart_in nothing home path targets source m a = tt
  apart_in (instance name parameters body rest) home path targets source m a =
      join path name _ _ (apart_of body home (path ++ name ∷ []) (targets name) (λ port. source name port (Constant (constant parameters (inputs_of body) port))) m.0) (apart_in rest home path targets source m.2 a.1)
      (begin_of body home (path ++ name ∷ []) (targets name) (λ port. source name port (Constant (constant parameters (inputs_of body) port)))) (elsewhere_in rest home path targets source name a.0)

-- ---- devices

-- a resource as a body
abbrev pub resource_body : Resource → Body
resource_body r = Composite no_face r.inner r.events r.values

elsewhere_from : (n : ℕ) (path : Path) (rs : List Resource) (name : Name) → AllByRecursion (λ m. bytes_eq name m ≡ false) (map (λ (r : Resource). r.name) rs) → AllByRecursion (Elsewhere path name) (leaves_from n path rs)
elsewhere_from n path [] name h = tt
elsewhere_from n path (r ∷ rs) name h =
    all_append (Elsewhere path name) _ _
    (all_weaker (Begins (path ++ r.name ∷ [])) (Elsewhere path name) _ (λ l b. record { other = r.name; differs = h.0; begins = b }) (begin_of (resource_body r) n (path ++ r.name ∷ []) (λ o. []) (λ i. Constant (One (pos 0)))))
    (elsewhere_from (n + 1) path rs name h.1)

apart_from : (n : ℕ) (path : Path) (rs : List Resource) → AllByRecursion IsWellResource rs → Apart (map (λ (r : Resource). r.name) rs) → AreApart (leaves_from n path rs)
apart_from n path [] m a = tt
apart_from n path (r ∷ rs) m a =
    join path r.name _ _ (apart_of (resource_body r) n (path ++ r.name ∷ []) (λ o. []) (λ i. Constant (One (pos 0))) m.0) (apart_from (n + 1) path rs m.1 a.1)
    (begin_of (resource_body r) n (path ++ r.name ∷ []) (λ o. []) (λ i. Constant (One (pos 0)))) (elsewhere_from (n + 1) path rs r.name a.0)

pub device_apart : (d : Device) → IsWellDevice d → AreApart (leaves d)
device_apart d m = apart_from 0 (d.name ∷ []) d.resources m.resources m.apart

pub all_apart : (library : List BlockTree) (source : SourceTree) (system : System) → ElaboratesWith library source system → AllByRecursion (λ (d : Device). AreApart (leaves d)) system.devices
all_apart library source system e = all_weaker IsWellDevice (λ (d : Device). AreApart (leaves d)) system.devices device_apart (devices_made library source system e)

-- ---- leaves found

-- each leaf is found by its path
abbrev pub AreFound : List Leaf → List Leaf → Type 0
AreFound all ls = AllByRecursion (λ (l : Leaf). leaf_at all l.path ≡ Some l) ls

pub all_found : (ls : List Leaf) → AreApart ls → AreFound ls ls
all_found [] a = tt
all_found (l ∷ ls) a = (
  ap (λ b. if b then Some l else leaf_at ls l.path) (path_same l.path),
  all_both (λ (m : Leaf). path_eq l.path m.path ≡ false) (λ (m : Leaf). leaf_at ls m.path ≡ Some m) (λ (m : Leaf). leaf_at (l ∷ ls) m.path ≡ Some m) ls (λ m f e. ap (λ b. if b then Some l else leaf_at ls m.path) f ∙ e) a.0 (all_found ls a.1),
)
