-- Channels and their shapes, one end after another.
use Rattle.std.proofs.Common.{◌≡◌, ◌⊎◌, inl, inr, ℕ, nat_eq, true, false, cond, Bool, List, [], ◌∷◌, ◌++◌, map, Option, None, Some, option_map, Result, Ok, Err, IfErr, refl, sym, ap, subst, ◌∙◌, append_assoc}
use Rattle.std.specs.List.{AllByRecursion}
use Rattle.std.specs.Map.{lookup}
use Rattle.std.proofs.lemmas.List.{map_push}
use Rattle.std.proofs.lemmas.Map.Made.{lookup-map_values}
use Rattle.indexmap.specs.IndexMap.{IndexMap, get, insert_entry}
use Rattle.indexmap.proofs.CallerLemmas.{insert_entry-new}
use denote.Enum.Bare.{sameb, same_true, true_same}
use Rattle.std.specs.Bool.{Decides}
use Rattle.std.specs.Cmp.Lexicographic.{pointwise}
use Rattle.std.proofs.lemmas.Slice.Eq.{slice_eq-Decides}
use Rattle.fb_words.specs.contracts.elem_type.ElemType.{the_type}
use Rattle.std.specs.Option.{unwrap_or}
use Rattle.std.proofs.lemmas.Bool.Decides.{Decides-eqb}
use Rattle.fb_words.specs.declared.elem_type.ElemType.{ElemType}
use Rattle.fb_words.specs.declared.format.Format.TheVariants.{First}
use Rattle.fb_model.specs.System.{Service}
use Rattle.fb_model.specs.System as book
use Rattle.fb_model.specs.NetworkTyping.{HasShape, AreAlike}
use Rattle.fb_faults.specs.declared.typing.TypeFault.{TypeFault}
use Rattle.fb_faults.specs.declared.typing.TypeFault.TheVariants.{OutOfMemory}
use Rattle.fb_types.specs.declared.shapes.Seen.{Seen}
use Rattle.fb_types.specs.Uses.{services_at}
use Rattle.fb_model.specs.Nesting.{Used}
use Rattle.fb_types.specs.Shapes.{shape_in, shape_of, shapes_of, Noted, IsOtherwise, no_memory_for_shape, other_shape}
use Rattle.fb_model.specs.NumberFaults.{Shape, Shaped, end_of, HasEnd, IsUnlike, no_memory_for_channels, unlike_ends}

-- ---- tables

none_some : {X : Type 0} {o : Option X} {x : X} → o ≡ None → o ≡ Some x → ⊥
none_some e f = let h = sym e ∙ f in cc

same_number : (n : ℕ) → nat_eq n n ≡ true
same_number n = (Decides-eqb n n).1 refl

-- what stands in a table stands in a longer one
kept : (es : List Shaped) (s : Shaped) (n : ℕ) (ends : Shape) → shape_in es n ≡ Some ends → shape_in (es ++ s ∷ []) n ≡ Some ends
kept [] s n ends h = absurd (none_some refl h)
kept (e ∷ es) s n ends h = by (nat_eq n (e.0)) h (kept es s n ends) where
  by : (b : Bool) → cond b (Some (e.1)) (shape_in es n) ≡ Some ends → (shape_in es n ≡ Some ends → shape_in (es ++ s ∷ []) n ≡ Some ends) → cond b (Some (e.1)) (shape_in (es ++ s ∷ []) n) ≡ Some ends
  by true h again = h
  by false h again = again h

-- what is new stands in it
there : (es : List Shaped) (n : ℕ) (ends : Shape) → shape_in es n ≡ None → shape_in (es ++ (n, ends) ∷ []) n ≡ Some ends
there [] n ends h = ap (λ b. cond b (Some ends) None) (same_number n)
there (e ∷ es) n ends h = by (nat_eq n (e.0)) h (there es n ends) where
  by : (b : Bool) → cond b (Some (e.1)) (shape_in es n) ≡ None → (shape_in es n ≡ None → shape_in (es ++ (n, ends) ∷ []) n ≡ Some ends) → cond b (Some (e.1)) (shape_in (es ++ (n, ends) ∷ []) n) ≡ Some ends
  by true h again = absurd (none_some h refl)
  by false h again = again h

-- what stands in a longer table stood there, or is what is new
either : (es : List Shaped) (s : Shaped) (n : ℕ) (ends : Shape) → shape_in (es ++ s ∷ []) n ≡ Some ends → (shape_in es n ≡ Some ends) ⊎ (s ≡ (n, ends))
either [] s n ends h = inr (by (nat_eq n (s.0)) refl h) where
  by : (b : Bool) → nat_eq n (s.0) ≡ b → cond b (Some (s.1)) None ≡ Some ends → s ≡ (n, ends)
  by true e h = let p : n ≡ s.0 = (Decides-eqb n (s.0)).0 e in let q : s.1 ≡ ends = cc in ap (λ k. (k, s.1)) (sym p) ∙ ap (λ t. (n, t)) q
  by false e h = absurd (none_some refl h)
either (e ∷ es) s n ends h = by (nat_eq n (e.0)) h (either es s n ends) where
  by : (b : Bool) → cond b (Some (e.1)) (shape_in (es ++ s ∷ []) n) ≡ Some ends → (shape_in (es ++ s ∷ []) n ≡ Some ends → (shape_in es n ≡ Some ends) ⊎ (s ≡ (n, ends)))
      → (cond b (Some (e.1)) (shape_in es n) ≡ Some ends) ⊎ (s ≡ (n, ends))
  by true h again = inl h
  by false h again = again h

-- ---- ends so far

-- the channel has its ends there
abbrev pub Fits : List Shaped → Option Shaped → Type 0
Fits shapes None = Unit {0}
Fits shapes (Some s) = shape_in shapes (s.0) ≡ Some (s.1)

-- each end's channel has its ends in the table, and each channel of the table has an end
pub record ShapesSo (shapes : List Shaped) (done : List Used) : Type 0 where
  pub each : AllByRecursion (λ u. Fits shapes (end_of (u.1))) done
  pub known : (n : ℕ) (ends : Shape) → shape_in shapes n ≡ Some ends → HasEnd done n ends

pub shapes_begun : ShapesSo [] []
shapes_begun = record { each = tt; known = λ n ends h. absurd (none_some refl h) }

all_more : {X : Type 0} {P Q : X → Type 0} → ((x : X) → P x → Q x) → (xs : List X) (y : X) → AllByRecursion P xs → Q y → AllByRecursion Q (xs ++ y ∷ [])
all_more f [] y h q = (q, tt)
all_more f (x ∷ xs) y h q = (f x (h.0), all_more f xs y (h.1) q)

fits_more : (es : List Shaped) (s : Shaped) (o : Option Shaped) → Fits es o → Fits (es ++ s ∷ []) o
fits_more es s None h = tt
fits_more es s (Some t) h = kept es s (t.0) (t.1) h

earlier : (done : List Used) (u : Used) (n : ℕ) (ends : Shape) → HasEnd done n ends → HasEnd (done ++ u ∷ []) n ends
earlier done u n ends h = record { front = h.front; back = h.back ++ u ∷ []; one = h.one; parts = ap (λ l. l ++ u ∷ []) h.parts ∙ append_assoc h.front (h.one ∷ h.back) (u ∷ []); end = h.end }

last : (done : List Used) (u : Used) (n : ℕ) (ends : Shape) → end_of (u.1) ≡ Some (n, ends) → HasEnd (done ++ u ∷ []) n ends
last done u n ends h = record { front = done; back = []; one = u; parts = refl; end = h }

pub shapes_more : (old new : List Shaped) (done : List Used) (u : Used) → ShapesSo old done → Noted old (end_of (u.1)) new → ShapesSo new (done ++ u ∷ [])
shapes_more old new done u so h = by (end_of (u.1)) refl h where
  by : (o : Option Shaped) → end_of (u.1) ≡ o → Noted old o new → ShapesSo new (done ++ u ∷ [])
  by None e n =
      rw n record {
        each = all_more (λ x f. f) done u so.each (subst (Fits old) (sym e) tt);
        known = λ k ends f. earlier done u k ends (so.known k ends f);
      }
  by (Some s) e (inl n) =
      rw (n.1) record {
        each = all_more (λ x f. f) done u so.each (subst (Fits old) (sym e) (n.0));
        known = λ k ends f. earlier done u k ends (so.known k ends f);
      }
  by (Some s) e (inr n) =
      rw (n.1) record {
        each = all_more (λ x f. fits_more old s (end_of (x.1)) f) done u so.each (subst (Fits (old ++ s ∷ [])) (sym e) (there old (s.0) (s.1) (n.0)));
        known = λ k ends f. elim (either old s k ends f) [ inl g ↦ earlier done u k ends (so.known k ends g) | inr g ↦ last done u k ends (e ∙ ap Some g) ];
      }

-- ---- what the ends say

has_shape : (shapes : List Shaped) (s : Service) → Fits shapes (end_of s) → HasShape (λ n. unwrap_or (shape_in shapes n) (First, [])) s
has_shape shapes (book.Input n types) h = tt
has_shape shapes (book.Output n types) h = tt
has_shape shapes (book.Publish c types) h = sym (ap (λ o. unwrap_or o (First, [])) h)
has_shape shapes (book.Subscribe c types) h = sym (ap (λ o. unwrap_or o (First, [])) h)
has_shape shapes book.Delay h = tt
has_shape shapes book.Cycle h = tt
has_shape shapes book.Restart h = tt

all_shaped : (shapes : List Shaped) (us : List Used) → AllByRecursion (λ u. Fits shapes (end_of (u.1))) us → AllByRecursion (HasShape (λ n. unwrap_or (shape_in shapes n) (First, []))) (services_at us)
all_shaped shapes [] h = tt
all_shaped shapes (u ∷ us) h = (has_shape shapes (u.1) (h.0), all_shaped shapes us (h.1))

pub shapes_done : (shapes : List Shaped) (us : List Used) → ShapesSo shapes us → AreAlike (services_at us)
shapes_done shapes us so = record { shape = λ n. unwrap_or (shape_in shapes n) (First, []); each = all_shaped shapes us so.each }

pub shapes_wrong : (shapes : List Shaped) (all done after : List Used) (u : Used) (f : TypeFault) → ShapesSo shapes done → all ≡ done ++ u ∷ after → IsOtherwise shapes u f → IsUnlike all f
shapes_wrong shapes all done after u f so parts (no_memory_for_shape e) = no_memory_for_channels e
shapes_wrong shapes all done after u f so parts (other_shape {n = n} {shape = ends} {first = first} is was differ e) = unlike_ends done after u parts (so.known n first was) is differ e

-- ---- ends that are alike have no fault

some_same : {X : Type 0} (x y : X) → Some x ≡ Some y → x ≡ y
some_same x y e = cc

shape_says : (shape : ℕ → Shape) (s : Service) (n : ℕ) (ends : Shape) → HasShape shape s → end_of s ≡ Some (n, ends) → ends ≡ shape n
shape_says shape (book.Input m types) n ends h e = absurd cc
shape_says shape (book.Output m types) n ends h e = absurd cc
shape_says shape (book.Publish c types) n ends h e = let p = some_same (c.number, (c.format, types)) (n, ends) e in sym (ap (λ k. k.1) p) ∙ h ∙ ap (λ k. shape (k.0)) p
shape_says shape (book.Subscribe c types) n ends h e = let p = some_same (c.number, (c.format, types)) (n, ends) e in sym (ap (λ k. k.1) p) ∙ h ∙ ap (λ k. shape (k.0)) p
shape_says shape book.Delay n ends h e = absurd cc
shape_says shape book.Cycle n ends h e = absurd cc
shape_says shape book.Restart n ends h e = absurd cc

at_parts : (P : Service → Type 0) (before after : List Used) (u : Used) → AllByRecursion P (services_at (before ++ u ∷ after)) → P (u.1) × AllByRecursion P (services_at before)
at_parts P [] after u h = (h.0, tt)
at_parts P (x ∷ before) after u h = let k = at_parts P before after u (h.1) in (k.0, (h.0, k.1))

pub no_unlike : (us : List Used) (f : TypeFault) → AreAlike (services_at us) → IsUnlike us f → f ≡ OutOfMemory
no_unlike us f a (no_memory_for_channels e) = e
no_unlike us f a (unlike_ends before after u {n = n} {shape = ends} {first = first} parts end is differ e) =
    let here = at_parts (HasShape a.shape) before after u (subst (λ l. AllByRecursion (HasShape a.shape) (services_at l)) parts a.each) in
    let was = at_parts (HasShape a.shape) end.front end.back end.one (subst (λ l. AllByRecursion (HasShape a.shape) (services_at l)) end.parts (here.1)) in
    absurd (differ (shape_says a.shape (end.one.1) n first (was.0) end.end ∙ sym (shape_says a.shape (u.1) n ends (here.0) is)))

pub only_memory : {T : Type 0} (us : List Used) (r : Result T TypeFault) → AreAlike (services_at us) → IfErr r (IsUnlike us) → IfErr r (λ f. f ≡ OutOfMemory)
only_memory us (Ok x) a h = h
only_memory us (Err f) a h = no_unlike us f a h

-- ---- what the table said

pub first_is : (n : ℕ) (es : List (ℕ × Seen)) (o : Option Seen) → o ≡ lookup (nat_eq n) es → option_map shape_of o ≡ shape_in (map (λ e. (e.0, shape_of e.1)) es) n
first_is n es o e = ap (option_map shape_of) e ∙ sym (lookup-map_values shape_of (nat_eq n) es)

found_first : (o : Option Seen) → option_map shape_of o ≡ None → o ≡ None
found_first None e = refl
found_first (Some x) e = absurd (none_some e refl)

pub put_is : {S : Type 0} (m : IndexMap ℕ Seen S) (n : ℕ) (shape : Seen) (new : List (ℕ × Seen))
    → shape_in (shapes_of m) n ≡ None → new ≡ insert_entry nat_eq m.entries n shape → map (λ e. (e.0, shape_of e.1)) new ≡ shapes_of m ++ (n, shape_of shape) ∷ []
put_is m n shape new none e =
    let gone : get nat_eq m n ≡ None = found_first (get nat_eq m n) (first_is n m.entries (get nat_eq m n) refl ∙ none) in
    ap (map (λ e. (e.0, shape_of e.1))) (e ∙ insert_entry-new nat_eq m n shape gone) ∙ map_push (λ e. (e.0, shape_of e.1)) m.entries (n, shape)

-- ---- types compared

type_decides : (a b : ElemType) → Decides (sameb the_type a b) (a ≡ b)
type_decides a b = (λ e. same_true the_type tt a b e, λ e. true_same the_type a b e)

pub types_decide : (xs ys : List ElemType) (r : Bool) → r ≡ pointwise (sameb the_type) xs ys → Decides r (xs ≡ ys)
types_decide xs ys r e = slice_eq-Decides type_decides xs ys r e

pub types_differ : (xs ys : List ElemType) (r : Bool) → r ≡ pointwise (sameb the_type) xs ys → r ≡ false → xs ≡ ys → ⊥
types_differ xs ys r e f same = let h : true ≡ false = sym ((types_decide xs ys r e).1 same) ∙ f in cc
