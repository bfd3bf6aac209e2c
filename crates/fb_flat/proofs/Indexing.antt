-- What is inside instances, one after another.
use Rattle.std.proofs.Common.{◌≡◌, ℕ, zero, suc, ◌<◌, ◌≤◌, List, [], ◌∷◌, ◌++◌, None, Some, length, map, get_or, refl, ap, subst, sym, ◌∙◌, arith}
use Rattle.std.specs.Prelude.{slice_get}
use Rattle.fb_types_networks.specs.declared.typed.Instance.{Instance}
use Rattle.fb_types_networks.specs.declared.typed.Body.{out-Body}
use Rattle.fb_flat.specs.declared.lookup.Inside.{Inside}
use Rattle.std.proofs.lemmas.Option.{slice_get-get_or}
use Rattle.fb_types_networks.specs.declared.typed.Network.{Network, out-Network}
use Rattle.fb_flat.specs.Indexes.{IsInside, AreInside, sum, sized, size_of}
use Rattle.fb_flat.specs.Sizes.{size_is}

pub inside_more : (is : List Instance) (xs : List Inside) (i : Instance) (x : Inside) → AreInside is xs → IsInside (out-Body i.body) x → AreInside (is ++ i ∷ []) (xs ++ x ∷ [])
inside_more [] [] i x h e = (e, tt)
inside_more [] (y ∷ xs) i x h e = absurd h
inside_more (j ∷ is) [] i x h e = absurd h
inside_more (j ∷ is) (y ∷ xs) i x h e = (h.0, inside_more is xs i x (h.1) e)

-- there are as many
pub inside_length : (is : List Instance) (xs : List Inside) → AreInside is xs → length is ≡ length xs
inside_length [] [] h = refl
inside_length [] (y ∷ xs) h = absurd h
inside_length (j ∷ is) [] h = absurd h
inside_length (j ∷ is) (y ∷ xs) h = ap suc (inside_length is xs (h.1))

none_some : {X : Type 0} {x : X} → None ≡ Some x → ⊥
none_some e = cc

-- and at a place stands what is inside the instance there
pub inside_at : (is : List Instance) (xs : List Inside) (k : ℕ) (i : Instance) (x : Inside) → AreInside is xs → slice_get is k ≡ Some i → slice_get xs k ≡ Some x → IsInside (out-Body i.body) x
inside_at [] xs k i x h e f = absurd (none_some e)
inside_at (j ∷ is) [] k i x h e f = absurd h
inside_at (j ∷ is) (y ∷ xs) zero i x h e f = let p : j ≡ i = cc in let q : y ≡ x = cc in subst (λ b. IsInside (out-Body b.body) x) p (subst (IsInside (out-Body j.body)) q (h.0))
inside_at (j ∷ is) (y ∷ xs) (suc k) i x h e f = inside_at is xs k i x (h.1) e f

-- an instance is no larger than its network
in_sum : (is : List Instance) (k : ℕ) (i : Instance) → slice_get is k ≡ Some i → sized i ≤ sum (map sized is)
in_sum [] k i e = absurd (none_some e)
in_sum (j ∷ is) zero i e = let p : j ≡ i = cc in let q : sized j ≡ sized i = ap sized p in omega (arith, q)
in_sum (j ∷ is) (suc k) i e = let h = in_sum is k i e in omega (arith, h)

pub sized_at : (n : Network) (k : ℕ) (i : Instance) → slice_get (out-Network n).instances.items k ≡ Some i → sized i ≤ size_of n
sized_at n k i e = let h = in_sum (out-Network n).instances.items k i e in let s = size_is n in omega (arith, h, s)

-- what stands at an index
pub stands : (xs is : List Instance) (k : ℕ) (x : Instance) → xs ≡ is → k < length is → x ≡ get_or xs k x → slice_get is k ≡ Some x
stands xs is k x e lt at = slice_get-get_or is k x lt ∙ ap Some (sym (at ∙ ap (λ l. get_or l k x) e))
