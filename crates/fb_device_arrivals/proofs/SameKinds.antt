-- Blocks of the tables and leaves of the book have the same kinds.
use Rattle.std.proofs.Common.{◌≡◌, ℕ, zero, suc, ◌+◌, Bool, true, false, cond, List, [], ◌∷◌, map, length, slice_get, Option, Some, None, refl, sym, ◌∙◌, ap, subst, arith}
use Rattle.fb_model.specs.Wires.{Kind, Leaf, leaves}
use Rattle.fb_model.specs.Certificates.{Certificate}
use Rattle.fb_model.specs.Devices.{first_leaf}
use Rattle.st_exec.specs.Cells.{Form}
use Rattle.fb_chart.specs.declared.standing.Ports.{Ports}
use Rattle.fb_chart.specs.declared.table.Block.{Block}
use Rattle.fb_chart.specs.Views.{kind_of}
use Rattle.fb_device_tables.specs.Tables.{AreBlocks, first_at, later}
use Rattle.fb_device_state.specs.declared.program.Program.{Program}
use Rattle.fb_device_state.specs.declared.program.Running.{Running}
use Rattle.fb_device_state.specs.Sessions.{session_of}
use Rattle.fb_device_state.specs.Machines.{device_in}
use Rattle.fb_device_state.specs.Keeping.{IsGood}

abbrev pub leaf_kind : Leaf → Kind
leaf_kind leaf = leaf.kind

kinds_of : (cert : Certificate) (all : List Leaf) (issues owns rest : List (List Form)) (xs : List Block) (ps : List Ports) (ls : List Leaf) → AreBlocks cert all issues owns rest xs ps ls → map kind_of xs ≡ map leaf_kind ls
kinds_of cert all issues [] [] [] [] [] a = refl
kinds_of cert all issues (o ∷ os) (r ∷ rs) (x ∷ xs) (p ∷ ps) (l ∷ ls) a = ap (λ k. k ∷ map kind_of xs) a.0.kind ∙ ap (λ ks. l.kind ∷ ks) (kinds_of cert all issues os rs xs ps ls a.1)
kinds_of cert all issues [] [] [] [] (l ∷ ls) a = absurd a
kinds_of cert all issues [] [] [] (p ∷ ps) ls a = absurd a
kinds_of cert all issues [] [] (x ∷ xs) ps ls a = absurd a
kinds_of cert all issues [] (r ∷ rs) xs ps ls a = absurd a
kinds_of cert all issues (o ∷ os) [] xs ps ls a = absurd a
kinds_of cert all issues (o ∷ os) (r ∷ rs) [] ps ls a = absurd a
kinds_of cert all issues (o ∷ os) (r ∷ rs) (x ∷ xs) [] ls a = absurd a
kinds_of cert all issues (o ∷ os) (r ∷ rs) (x ∷ xs) (p ∷ ps) [] a = absurd a

pub same_kinds : (p : Program) (r : Running) → IsGood p r → map kind_of p.tables.blocks.items ≡ map leaf_kind (leaves (device_in (session_of p r)))
same_kinds p r g = kinds_of _ _ _ _ _ p.tables.blocks.items p.tables.ports.items (leaves (device_in (session_of p r))) g.program.tables.blocks

-- the leaf of a block's number
pub leaf_at_block : (xs : List Block) (ls : List Leaf) (k : ℕ) (x : Block) → map kind_of xs ≡ map leaf_kind ls → slice_get xs k ≡ Some x → (leaf : Leaf) × (slice_get ls k ≡ Some leaf) × (kind_of x ≡ leaf.kind)
leaf_at_block [] ls k x e h = cc
leaf_at_block (y ∷ ys) [] k x e h = cc
leaf_at_block (y ∷ ys) (l ∷ ls) zero x e h = (let s : y ≡ x = cc in let t : kind_of y ≡ l.kind = cc in (l, refl, ap kind_of (sym s) ∙ t))
leaf_at_block (y ∷ ys) (l ∷ ls) (suc k) x e h = leaf_at_block ys ls k x (tails e) h
  where
    tails : (kind_of y ∷ map kind_of ys) ≡ (l.kind ∷ map leaf_kind ls) → map kind_of ys ≡ map leaf_kind ls
    tails f = cc

pub kind_count : (xs : List Block) (ls : List Leaf) → map kind_of xs ≡ map leaf_kind ls → length xs ≡ length ls
kind_count [] [] e = refl
kind_count [] (l ∷ ls) e = cc
kind_count (x ∷ xs) [] e = cc
kind_count (x ∷ xs) (l ∷ ls) e = ap suc (kind_count xs ls (tails e))
  where
    tails : (kind_of x ∷ map kind_of xs) ≡ (l.kind ∷ map leaf_kind ls) → map kind_of xs ≡ map leaf_kind ls
    tails f = cc

-- ---- the first block of a kind

-- no block is of the kind
pub none_at : (is : Kind → Bool) (xs : List Block) (ls : List Leaf) → map kind_of xs ≡ map leaf_kind ls → first_at is xs ≡ None → first_leaf is ls ≡ None
none_at is [] [] e h = refl
none_at is [] (l ∷ ls) e h = cc
none_at is (x ∷ xs) [] e h = cc
none_at is (x ∷ xs) (l ∷ ls) e h =
    ap (λ k. cond (is k) (Some l) (first_leaf is ls)) (sym (heads e)) ∙ go (is (kind_of x)) (first_at is xs) h (none_at is xs ls (tails e))
  where
    heads : (kind_of x ∷ map kind_of xs) ≡ (l.kind ∷ map leaf_kind ls) → kind_of x ≡ l.kind
    heads f = cc

    tails : (kind_of x ∷ map kind_of xs) ≡ (l.kind ∷ map leaf_kind ls) → map kind_of xs ≡ map leaf_kind ls
    tails f = cc

    go : (b : Bool) (o : Option ℕ) → cond b (Some 0) (later o) ≡ None → (o ≡ None → first_leaf is ls ≡ None) → cond b (Some l) (first_leaf is ls) ≡ None
    go true o f r = cc
    go false None f r = r refl
    go false (Some k) f r = cc

-- the first block of the kind, and its leaf
pub record FirstAt (is : Kind → Bool) (xs : List Block) (ls : List Leaf) (k : ℕ) : Type 0 where
  pub leaf : Leaf
  pub block : Block
  pub leaf_stands : slice_get ls k ≡ Some leaf
  pub block_stands : slice_get xs k ≡ Some block
  pub kind : kind_of block ≡ leaf.kind
  pub first : first_leaf is ls ≡ Some leaf
  pub so : is leaf.kind ≡ true

pub found_at : (is : Kind → Bool) (xs : List Block) (ls : List Leaf) (k : ℕ) → map kind_of xs ≡ map leaf_kind ls → first_at is xs ≡ Some k → FirstAt is xs ls k
found_at is [] ls k e h = cc
found_at is (x ∷ xs) [] k e h = cc
found_at is (x ∷ xs) (l ∷ ls) k e h = go (is (kind_of x)) refl (first_at is xs) h (λ j f. found_at is xs ls j (tails e) f)
  where
    heads : (kind_of x ∷ map kind_of xs) ≡ (l.kind ∷ map leaf_kind ls) → kind_of x ≡ l.kind
    heads f = cc

    tails : (kind_of x ∷ map kind_of xs) ≡ (l.kind ∷ map leaf_kind ls) → map kind_of xs ≡ map leaf_kind ls
    tails f = cc

    numbered : (b : Bool) → is (kind_of x) ≡ b → is l.kind ≡ b
    numbered b f = ap is (sym (heads e)) ∙ f

    next : (j : ℕ) → is (kind_of x) ≡ false → FirstAt is xs ls j → FirstAt is (x ∷ xs) (l ∷ ls) (suc j)
    next j f i = record {
      leaf = i.leaf;
      block = i.block;
      leaf_stands = i.leaf_stands;
      block_stands = i.block_stands;
      kind = i.kind;
      first = ap (λ b. cond b (Some l) (first_leaf is ls)) (numbered false f) ∙ i.first;
      so = i.so;
    }

    go : (b : Bool) → is (kind_of x) ≡ b → (o : Option ℕ) → cond b (Some 0) (later o) ≡ Some k → ((j : ℕ) → o ≡ Some j → FirstAt is xs ls j) → FirstAt is (x ∷ xs) (l ∷ ls) k
    go true t o f r =
        let z : 0 ≡ k = cc in
        subst (FirstAt is (x ∷ xs) (l ∷ ls)) z
        (record { leaf = l; block = x; leaf_stands = refl; block_stands = refl; kind = heads e; first = ap (λ b. cond b (Some l) (first_leaf is ls)) (numbered true t); so = numbered true t })
    go false t None f r = cc
    go false t (Some j) f r =
        let z : j + 1 ≡ k = cc in
        let s : suc j ≡ k = omega (arith, z) in
        subst (FirstAt is (x ∷ xs) (l ∷ ls)) s (next j t (r j refl))
