-- The places of all BEGIN, one leaf after another.
use Rattle.std.proofs.Common.{◌≡◌, ◌≤◌, ◌<◌, ℕ, zero, suc, ◌+◌, ◌-◌, List, [], ◌∷◌, drop, length, get_or, sym, ap, subst, ◌∙◌, refl, arith}
use Rattle.std.specs.Prelude.{◌↔◌}
use Rattle.fb_model.specs.Wires as wires
use Rattle.fb_cert.specs.declared.certificate.Certificate.{Certificate}
use Rattle.fb_cert.specs.Views.{certificate_of}
use Rattle.fb_flat.specs.declared.flat.Leaf.{Leaf}
use Rattle.fb_flat.specs.Tables.{IsLeaf, AreLeaves}
use Rattle.fb_check_rows.specs.Depths.{IsBegin}
use Rattle.fb_model.specs.Finding.{begin_of, begins_of}

-- what is left is enough for the leaves from here on just where the depth is for all
abbrev pub IsLeft : Certificate → List Leaf → ℕ → ℕ → ℕ → Type 0
IsLeft cert ls k left most = (all : List wires.Leaf) → AreLeaves ls all → (begins_of (certificate_of cert) (drop k all) ≤ left) ↔ (begins_of (certificate_of cert) all ≤ most)

-- the leaf of the book at an index
pub record Found (l : Leaf) (k : ℕ) (all : List wires.Leaf) : Type 0 where
  pub leaf : wires.Leaf
  pub here : drop k all ≡ leaf ∷ drop (suc k) all
  pub is : IsLeaf l leaf

pub found : (ls : List Leaf) (all : List wires.Leaf) (k : ℕ) (l : Leaf) → AreLeaves ls all → k < length ls → l ≡ get_or ls k l → Found l k all
found [] all k l a lt e = absurd (omega arith)
found (x ∷ ls) [] k l a lt e = absurd a
found (x ∷ ls) (leaf ∷ all) zero l a lt e = record { leaf = leaf; here = refl; is = subst (λ y. IsLeaf y leaf) (sym e) a.0 }
found (x ∷ ls) (leaf ∷ all) (suc k) l a lt e = let f = found ls all k l a.1 (omega arith) e in record { leaf = f.leaf; here = f.here; is = f.is }

pub none_left : (ls : List Leaf) (all : List wires.Leaf) (k : ℕ) → AreLeaves ls all → length ls ≤ k → drop k all ≡ []
none_left [] [] zero a le = refl
none_left [] [] (suc k) a le = refl
none_left [] (leaf ∷ all) k a le = absurd a
none_left (x ∷ ls) [] k a le = absurd a
none_left (x ∷ ls) (leaf ∷ all) zero a le = absurd (omega arith)
none_left (x ∷ ls) (leaf ∷ all) (suc k) a le = none_left ls all k a.1 (omega arith)

moved : (n more left next : ℕ) → n ≤ left → next ≡ left - n → (more ≤ next) ↔ (n + more ≤ left)
moved n more left next le e = (λ h. omega arith, λ h. omega arith)

plain : (cert : Certificate) (ls : List Leaf) (k : ℕ) (l : Leaf) (n left most : ℕ) → IsLeft cert ls k left most → k < length ls → l ≡ get_or ls k l → IsBegin cert l n
    → (all : List wires.Leaf) → AreLeaves ls all → (n + begins_of (certificate_of cert) (drop (k + 1) all) ≤ left) ↔ (begins_of (certificate_of cert) all ≤ most)
plain cert ls k l n left most so lt e b all a =
    let f = found ls all k l a lt e in
    let next : k + 1 ≡ suc k = omega arith in
    let here : begins_of (certificate_of cert) (drop k all) ≡ n + begins_of (certificate_of cert) (drop (k + 1) all) =
    ap (begins_of (certificate_of cert)) f.here ∙ ap (λ m. m + begins_of (certificate_of cert) (drop (suc k) all)) (b f.leaf f.is) ∙ ap (λ i. n + begins_of (certificate_of cert) (drop i all)) (sym next) in
    let both = so all a in
    (λ h. both.0 (subst (λ m. m ≤ left) (sym here) h), λ h. subst (λ m. m ≤ left) here (both.1 h))

-- one leaf on
pub left_on : (cert : Certificate) (ls ys : List Leaf) (k : ℕ) (l : Leaf) (n left next most : ℕ) → ys ≡ ls → IsLeft cert ls k left most → k < length ys → l ≡ get_or ys k l → IsBegin cert l n → n ≤ left → next ≡ left - n → IsLeft cert ls (k + 1) next most
left_on cert ls ys k l n left next most same so lt e b le d = λ all a.
    let whole = plain cert ls k l n left most so (subst (λ zs. k < length zs) same lt) (subst (λ zs. l ≡ get_or zs k l) same e) b all a in
    let step = moved n (begins_of (certificate_of cert) (drop (k + 1) all)) left next le d in
    (λ h. whole.0 (step.0 h), λ h. step.1 (whole.1 h))

-- a leaf for which too little is left
pub too_many : (cert : Certificate) (ls ys : List Leaf) (k : ℕ) (l : Leaf) (n left most : ℕ) → ys ≡ ls → IsLeft cert ls k left most → k < length ys → l ≡ get_or ys k l → IsBegin cert l n → left < n
    → (all : List wires.Leaf) → AreLeaves ls all → begins_of (certificate_of cert) all ≤ most → ⊥
too_many cert ls ys k l n left most same so lt e b gt all a h =
    let whole = plain cert ls k l n left most so (subst (λ zs. k < length zs) same lt) (subst (λ zs. l ≡ get_or zs k l) same e) b all a in
    absurd (omega (arith, whole.1 h, gt))

-- after the last leaf
pub all_left : (cert : Certificate) (ls ys : List Leaf) (k left most : ℕ) → ys ≡ ls → length ys ≤ k → IsLeft cert ls k left most → (all : List wires.Leaf) → AreLeaves ls all → begins_of (certificate_of cert) all ≤ most
all_left cert ls ys k left most same le so all a = (so all a).0 (subst (λ xs. begins_of (certificate_of cert) xs ≤ left) (sym (none_left ls all k a (subst (λ zs. length zs ≤ k) same le))) (omega arith))
