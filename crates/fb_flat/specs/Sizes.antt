-- A network inside another is smaller.
use Rattle.std.specs.Prelude.{ℕ, suc, ◌≡◌, ◌≤◌, List, [], ◌∷◌, map, max}
use Rattle.std.proofs.Common.{arith, rules, refl, ◌∙◌, ap, sym}
use denote.Ref.{Bor}
use Rattle.fb_types_blocks.specs.declared.typed.Face.{Face}
use denote.Param.Weighed.{most}
use Rattle.fb_types_networks.specs.declared.typed.Network.{Network, out-Network, fold-Network}
use Rattle.fb_types_networks.specs.declared.typed.Instance.{Instance, fold-Instance}
use Rattle.fb_types_networks.specs.declared.typed.Body.{Body, out-Body, fold-Body, fold_out-Body, map-Body, the_lemmas}
use Rattle.fb_types_networks.specs.declared.typed.Body.TheOpen.{Body-F}
use Rattle.fb_flat.specs.declared.lookup.Inside.{Inside}
use Rattle.fb_flat.specs.declared.lookup.Inside.TheVariants as i
use Rattle.fb_flat.specs.declared.lookup.Indexed.TheDeep.{deep-Inside}
use Rattle.fb_flat.specs.declared.lookup.Indexed.TheView.{size}
use Rattle.fb_flat.specs.Indexes.{IsInside, AreInside, sum, body_size, network_size, sized, size_of}

pub size_is : (n : Network) → size_of n ≡ sum (map sized (out-Network n).instances.items)
size_is n = search (rules, the_lemmas)

abbrev inner_size : Body-F Body Instance Network → ℕ
inner_size (Body-F.Basic k) = 0
inner_size (Body-F.Served s) = 0
inner_size (Body-F.Composite f n) = suc (size_of n.value)

opened : (i : Instance) → sized i ≡ fold-Body ℕ ℕ ℕ body_size (λ i. i.body) network_size i.body
opened i = search (rules, the_lemmas)

pub sized_is : (i : Instance) → sized i ≡ inner_size (out-Body i.body)
sized_is i = opened i ∙ fold_out-Body ℕ ℕ ℕ body_size (λ i. i.body) network_size i.body ∙ by (out-Body i.body) where
  by : (b : Body-F Body Instance Network)
      → body_size (map-Body Body Instance Network ℕ ℕ ℕ (fold-Body ℕ ℕ ℕ body_size (λ i. i.body) network_size) (fold-Instance ℕ ℕ ℕ body_size (λ i. i.body) network_size) (fold-Network ℕ ℕ ℕ body_size (λ i. i.body) network_size) b) ≡ inner_size b
  by (Body-F.Basic k) = refl
  by (Body-F.Served s) = refl
  by (Body-F.Composite f n) = refl

deep_is : (b : Body-F Body Instance Network) (x : Inside) → IsInside b x → deep-Inside x ≤ inner_size b
deep_is (Body-F.Basic k) i.Leaf h = omega arith
deep_is (Body-F.Basic k) (i.Composite g v) h = absurd h
deep_is (Body-F.Served s) i.Leaf h = omega arith
deep_is (Body-F.Served s) (i.Composite g v) h = absurd h
deep_is (Body-F.Composite f n) i.Leaf h = absurd h
deep_is (Body-F.Composite f n) (i.Composite g v) h = let e : size v ≡ size_of n.value = ap size_of (h.1) in omega (arith, e)

all_deep : (is : List Instance) (xs : List Inside) → AreInside is xs → most deep-Inside xs ≤ sum (map sized is)
all_deep [] [] h = omega arith
all_deep [] (x ∷ xs) h = absurd h
all_deep (i ∷ is) [] h = absurd h
all_deep (i ∷ is) (x ∷ xs) h =
    let a = deep_is (out-Body i.body) x (h.0) in
    let b = all_deep is xs (h.1) in
    let e = sized_is i in
    omega (arith, a, b, e)

pub inside_smaller : (n : Network) (xs : List Inside) → AreInside (out-Network n).instances.items xs → max (most deep-Inside xs) 0 ≤ size_of n
inside_smaller n xs h = let a = all_deep (out-Network n).instances.items xs h in let e = size_is n in omega (arith, a, e)

-- a composite is larger than what is inside it
pub sized_inside : (j : Instance) (g : Bor Face) (v : Network) → IsInside (out-Body j.body) (i.Composite g v) → sized j ≡ suc (size_of v)
sized_inside j g v h = sized_is j ∙ by (out-Body j.body) h where
  by : (b : Body-F Body Instance Network) → IsInside b (i.Composite g v) → inner_size b ≡ suc (size_of v)
  by (Body-F.Basic k) h = absurd h
  by (Body-F.Served s) h = absurd h
  by (Body-F.Composite f n) h = ap (λ m. suc (size_of m)) (sym (h.1))
