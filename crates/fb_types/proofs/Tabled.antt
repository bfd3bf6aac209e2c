-- Tables of types, and what is remembered by names.
use Rattle.std.proofs.Common.{◌≡◌, ◌⊎◌, inl, inr, Bool, true, false, cond, List, [], ◌∷◌, ◌++◌, Option, None, Some, is_some, option_map, refl, sym, ap, subst, ◌∙◌, string_bytes}
use Rattle.std.specs.Prelude.{ℕ, ◌+◌, take, slice_get, string_eq}
use Rattle.std.proofs.lemmas.List.{take_more}
use Rattle.std.proofs.lemmas.Option.{slice_get_within, get_or_from_slice_get}
use Rattle.std.specs.Option.{option_or}
use Rattle.std.specs.Map.{lookup}
use Rattle.std.specs.Str.{bytes_eq}
use Rattle.std.proofs.lemmas.Slice.Eq.{bytes_eq-Decides}
use Rattle.std.specs.declared.string.String.{String}
use Rattle.std.specs.declared.alloc.Global.{Global}
use denote.Ref.{Bor}
use Rattle.indexmap.specs.IndexMap.{IndexMap, insert_entry, UpdatesBy}
use Rattle.std.proofs.lemmas.Map.Text.{hash_map_updates_text}
use Rattle.fb_model.specs.Names.{Name}
use Rattle.fb_model.specs.Declarations.{BlockTree}
use Rattle.fb_model.specs.NetworkTyping.{type_named}
use Rattle.fb_tree.specs.declared.tree.BlockTree.{BlockTree as Tree}
use Rattle.fb_types.specs.Made.{tree_of}

or_cond : {X : Type 0} (b : Bool) (x : X) (o p : Option X) → option_or (cond b (Some x) o) p ≡ cond b (Some x) (option_or o p)
or_cond true x o p = refl
or_cond false x o p = refl

pub named_append : (bs cs : List BlockTree) (x : Name) → type_named (bs ++ cs) x ≡ option_or (type_named bs x) (type_named cs x)
named_append [] cs x = refl
named_append (b ∷ bs) cs x = ap (λ o. cond (bytes_eq x b.name.text) (Some b) o) (named_append bs cs x) ∙ sym (or_cond (bytes_eq x b.name.text) b (type_named bs x) (type_named cs x))

lookup_append : {K V : Type 0} (p : K → Bool) (es fs : List (K × V)) → lookup p (es ++ fs) ≡ option_or (lookup p es) (lookup p fs)
lookup_append p [] fs = refl
lookup_append p (e ∷ es) fs = ap (λ o. cond (p (e.0)) (Some (e.1)) o) (lookup_append p es fs) ∙ sym (or_cond (p (e.0)) (e.1) (lookup p es) (lookup p fs))

map_or : {X Y : Type 0} (f : X → Y) (o p : Option X) → option_map f (option_or o p) ≡ option_or (option_map f o) (option_map f p)
map_or f None p = refl
map_or f (Some x) p = refl

map_cond : {X Y : Type 0} (f : X → Y) (b : Bool) (x : X) → option_map f (cond b (Some x) None) ≡ cond b (Some (f x)) None
map_cond f true x = refl
map_cond f false x = refl

abbrev pub Entries : Type 0
Entries = List (String Global × Bor Tree)

abbrev pub found : Entries → Name → Option BlockTree
found es x = option_map tree_of (lookup (λ k. bytes_eq x (string_bytes k)) es)

-- a type of a new name
pub table_more : (bs : List BlockTree) (es : Entries) (k : String Global) (b : Bor Tree) → string_bytes k ≡ (tree_of b).name.text → ((x : Name) → found es x ≡ type_named bs x)
    → (x : Name) → found (es ++ (k, b) ∷ []) x ≡ type_named (bs ++ tree_of b ∷ []) x
table_more bs es k b e so x =
    ap (option_map tree_of) (lookup_append (λ k. bytes_eq x (string_bytes k)) es ((k, b) ∷ []))
    ∙ map_or tree_of (lookup (λ k. bytes_eq x (string_bytes k)) es) (cond (bytes_eq x (string_bytes k)) (Some b) None)
    ∙ ap (λ o. option_or o (option_map tree_of (cond (bytes_eq x (string_bytes k)) (Some b) None))) (so x)
    ∙ ap (option_or (type_named bs x)) (map_cond tree_of (bytes_eq x (string_bytes k)) b ∙ ap (λ n. cond (bytes_eq x n) (Some (tree_of b)) None) e)
    ∙ sym (named_append bs (tree_of b ∷ []) x)

some_none : {X : Type 0} (o : Option X) → is_some o ≡ false → o ≡ None
some_none None e = refl
some_none (Some x) e = absurd cc

some_is : {X : Type 0} {x : X} → Some x ≡ None → ⊥
some_is e = cc

or_none : {X : Type 0} (o : Option X) → o ≡ option_or o None
or_none None = refl
or_none (Some x) = refl

or_there : {X : Type 0} (o p : Option X) → is_some o ≡ true → o ≡ option_or o p
or_there None p e = absurd cc
or_there (Some x) p e = refl

there_map : {X Y : Type 0} (f : X → Y) (o : Option X) → is_some o ≡ true → is_some (option_map f o) ≡ true
there_map f None e = absurd cc
there_map f (Some x) e = refl

same_name : (x y : Name) → bytes_eq x y ≡ true → x ≡ y
same_name x y e = (bytes_eq-Decides x y).0 e

-- a type of a name that there is already
pub table_same : (bs : List BlockTree) (es : Entries) (b : BlockTree) → is_some (lookup (λ k. bytes_eq b.name.text (string_bytes k)) es) ≡ true → ((x : Name) → found es x ≡ type_named bs x)
    → (x : Name) → found es x ≡ type_named (bs ++ b ∷ []) x
table_same bs es b there so x = so x ∙ by (bytes_eq x b.name.text) refl ∙ sym (named_append bs (b ∷ []) x) where
  by : (t : Bool) → bytes_eq x b.name.text ≡ t → type_named bs x ≡ option_or (type_named bs x) (cond t (Some b) None)
  by true e = or_there (type_named bs x) (Some b) (subst (λ n. is_some (type_named bs n) ≡ true) (sym (same_name x b.name.text e)) (subst (λ o. is_some o ≡ true) (so b.name.text) (there_map tree_of (lookup (λ k. bytes_eq b.name.text (string_bytes k)) es) there)))
  by false e = or_none (type_named bs x)

-- what a key that is none of those enters at the end
pub new_last : {V : Type 0} (es : List (String Global × V)) (k : String Global) (v : V) (x : Name) → string_bytes k ≡ x → is_some (lookup (λ j. bytes_eq x (string_bytes j)) es) ≡ false
    → insert_entry (λ i j. bytes_eq (string_bytes i) (string_bytes j)) es k v ≡ es ++ (k, v) ∷ []
new_last [] k v x e none = refl
new_last (f ∷ es) k v x e none = by (bytes_eq x (string_bytes (f.0))) (ap (λ n. bytes_eq n (string_bytes (f.0))) e) none (new_last es k v x e) where
  by : (t : Bool) → bytes_eq (string_bytes k) (string_bytes (f.0)) ≡ t → is_some (cond t (Some (f.1)) (lookup (λ j. bytes_eq x (string_bytes j)) es)) ≡ false
      → (is_some (lookup (λ j. bytes_eq x (string_bytes j)) es) ≡ false → insert_entry (λ i j. bytes_eq (string_bytes i) (string_bytes j)) es k v ≡ es ++ (k, v) ∷ [])
      → cond (bytes_eq (string_bytes k) (string_bytes (f.0))) ((f.0, v) ∷ es) (f ∷ insert_entry (λ i j. bytes_eq (string_bytes i) (string_bytes j)) es k v) ≡ f ∷ es ++ (k, v) ∷ []
  by true is none again = absurd cc
  by false is none again = ap (λ t. cond t ((f.0, v) ∷ es) (f ∷ insert_entry (λ i j. bytes_eq (string_bytes i) (string_bytes j)) es k v)) is ∙ ap (λ l. f ∷ l) (again none)

-- ---- tables that are copied, and shrink

-- what a table finds with a new name
pub found_more : (es : Entries) (k : String Global) (b : Bor Tree) (x : Name) → found (es ++ (k, b) ∷ []) x ≡ option_or (found es x) (cond (bytes_eq x (string_bytes k)) (Some (tree_of b)) None)
found_more es k b x =
    ap (option_map tree_of) (lookup_append (λ k. bytes_eq x (string_bytes k)) es ((k, b) ∷ []))
    ∙ map_or tree_of (lookup (λ k. bytes_eq x (string_bytes k)) es) (cond (bytes_eq x (string_bytes k)) (Some b) None)
    ∙ ap (option_or (found es x)) (map_cond tree_of (bytes_eq x (string_bytes k)) b)

-- and with a name that it has
pub found_same : (es : Entries) (n : Name) (b : BlockTree) → is_some (lookup (λ k. bytes_eq n (string_bytes k)) es) ≡ true → (x : Name) → found es x ≡ option_or (found es x) (cond (bytes_eq x n) (Some b) None)
found_same es n b there x = by (bytes_eq x n) refl where
  by : (t : Bool) → bytes_eq x n ≡ t → found es x ≡ option_or (found es x) (cond t (Some b) None)
  by true e = or_there (found es x) (Some b) (subst (λ m. is_some (found es m) ≡ true) (sym (same_name x n e)) (there_map tree_of (lookup (λ k. bytes_eq n (string_bytes k)) es) there))
  by false e = or_none (found es x)

-- the next of some entries
pub take_got : {X : Type 0} (xs : List X) (i : ℕ) (x : X) → slice_get xs i ≡ Some x → take (i + 1) xs ≡ take i xs ++ x ∷ []
take_got xs i x h = take_more xs i x (slice_get_within xs i x h) ∙ ap (λ y. take i xs ++ y ∷ []) (get_or_from_slice_get xs i x x h)

map_without : {X Y : Type 0} (f : X → Y) (t : Bool) (o : Option X) → option_map f (cond t None o) ≡ cond t None (option_map f o)
map_without f true o = refl
map_without f false o = refl

-- and without one
pub found_without : {S : Type 0} (n : Name) (old new : IndexMap (String Global) (Bor Tree) S) → UpdatesBy string_eq (λ k. bytes_eq n (string_bytes k)) old new None → (x : Name) → found new.entries x ≡ cond (bytes_eq n x) None (found old.entries x)
found_without n old new h x = ap (option_map tree_of) (hash_map_updates_text n old new None h x) ∙ map_without tree_of (bytes_eq n x) (lookup (λ k. bytes_eq x (string_bytes k)) old.entries)

-- ---- what is remembered

-- what a table finds with one more entry is what is new, or was there
pub remembered : {V : Type 0} (es : List (String Global × V)) (k : String Global) (v w : V) (x : Name) → lookup (λ j. bytes_eq x (string_bytes j)) (insert_entry (λ i j. bytes_eq (string_bytes i) (string_bytes j)) es k v) ≡ Some w
    → ((string_bytes k ≡ x) × (v ≡ w)) ⊎ (lookup (λ j. bytes_eq x (string_bytes j)) es ≡ Some w)
remembered [] k v w x e = by (bytes_eq x (string_bytes k)) refl e where
  by : (t : Bool) → bytes_eq x (string_bytes k) ≡ t → cond t (Some v) None ≡ Some w → ((string_bytes k ≡ x) × (v ≡ w)) ⊎ (None ≡ Some w)
  by true is e = inl (sym (same_name x (string_bytes k) is), cc)
  by false is e = inr e
remembered (f ∷ es) k v w x e = by (bytes_eq (string_bytes k) (string_bytes (f.0))) refl e (remembered es k v w x) where
  deeper : (s : Bool) → cond s (Some (f.1)) (lookup (λ j. bytes_eq x (string_bytes j)) (insert_entry (λ i j. bytes_eq (string_bytes i) (string_bytes j)) es k v)) ≡ Some w
      → (lookup (λ j. bytes_eq x (string_bytes j)) (insert_entry (λ i j. bytes_eq (string_bytes i) (string_bytes j)) es k v) ≡ Some w → ((string_bytes k ≡ x) × (v ≡ w)) ⊎ (lookup (λ j. bytes_eq x (string_bytes j)) es ≡ Some w))
      → ((string_bytes k ≡ x) × (v ≡ w)) ⊎ (cond s (Some (f.1)) (lookup (λ j. bytes_eq x (string_bytes j)) es) ≡ Some w)
  deeper true e again = inr e
  deeper false e again = again e

  here : (s : Bool) → bytes_eq x (string_bytes (f.0)) ≡ s → bytes_eq (string_bytes k) (string_bytes (f.0)) ≡ true → cond s (Some v) (lookup (λ j. bytes_eq x (string_bytes j)) es) ≡ Some w
      → ((string_bytes k ≡ x) × (v ≡ w)) ⊎ (cond s (Some (f.1)) (lookup (λ j. bytes_eq x (string_bytes j)) es) ≡ Some w)
  here true is same e = inl (same_name (string_bytes k) (string_bytes (f.0)) same ∙ sym (same_name x (string_bytes (f.0)) is), cc)
  here false is same e = inr e

  by : (t : Bool) → bytes_eq (string_bytes k) (string_bytes (f.0)) ≡ t → lookup (λ j. bytes_eq x (string_bytes j)) (cond t ((f.0, v) ∷ es) (f ∷ insert_entry (λ i j. bytes_eq (string_bytes i) (string_bytes j)) es k v)) ≡ Some w
      → (lookup (λ j. bytes_eq x (string_bytes j)) (insert_entry (λ i j. bytes_eq (string_bytes i) (string_bytes j)) es k v) ≡ Some w → ((string_bytes k ≡ x) × (v ≡ w)) ⊎ (lookup (λ j. bytes_eq x (string_bytes j)) es ≡ Some w))
      → ((string_bytes k ≡ x) × (v ≡ w)) ⊎ (cond (bytes_eq x (string_bytes (f.0))) (Some (f.1)) (lookup (λ j. bytes_eq x (string_bytes j)) es) ≡ Some w)
  by true is e again = here (bytes_eq x (string_bytes (f.0))) refl is e
  by false is e again = deeper (bytes_eq x (string_bytes (f.0))) e again
