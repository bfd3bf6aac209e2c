-- Tables of events, resources and devices.
use Rattle.std.proofs.Common.{◌≡◌, ℕ, ◌+◌, ◌<◌, List, [], ◌∷◌, ◌++◌, refl, sym, ap, ◌∙◌, map, take, length, get_or, Some, string_bytes, Global}
use Rattle.std.specs.Prelude.{slice_get}
use Rattle.std.specs.List.{Any}
use Rattle.std.specs.Option.{option_map}
use Rattle.std.specs.declared.string.String.{String}
use Rattle.std.specs.declared.vec.Vec.{Vec}
use Rattle.std.proofs.lemmas.List.{take_more, map_push}
use Rattle.std.proofs.lemmas.Option.{slice_get-map, slice_get_within, get_or_from_slice_get}
use Rattle.fb_model.specs.Typing.{names_of}
use Rattle.fb_types_blocks.specs.Views.{event_of}
use Rattle.fb_faults.specs.declared.typing.TypeFault.{TypeFault}
use Rattle.fb_faults.specs.declared.typing.TypeFault.TheVariants.{OutOfMemory, UnknownName, DuplicateName, TypeMismatch, BadLiteral, NotWritable, BadConnection, TwoSources, BadService, RecursiveComposite, Limit, ChannelShape}
use Rattle.fb_flat.specs.Leaves.{IsLimitAt}

-- ---- lists

pub take_got : {X : Type 0} (xs : List X) (i : ℕ) (x : X) → slice_get xs i ≡ Some x → take (i + 1) xs ≡ take i xs ++ x ∷ []
take_got xs i x h = take_more xs i x (slice_get_within xs i x h) ∙ ap (λ y. take i xs ++ y ∷ []) (get_or_from_slice_get xs i x x h)

pub mapped_more : {X Y : Type 0} (f : X → Y) (xs : List X) (i : ℕ) (x : X) → i < length xs → x ≡ get_or xs i x → map f (take (i + 1) xs) ≡ map f (take i xs) ++ f x ∷ []
mapped_more f xs i x h e = ap (map f) (take_more xs i x h ∙ ap (λ y. take i xs ++ y ∷ []) (sym e)) ∙ map_push f (take i xs) x

pub any_here : {X : Type 0} (P : X → Type 0) (xs : List X) (i : ℕ) (x : X) → i < length xs → x ≡ get_or xs i x → P x → Any P xs
any_here P xs i x l e p = (i, x, l, sym e, p)

-- ---- events

abbrev Entries : Type 0
Entries = List (String Global × Vec (String Global) Global)

named : (es : Entries) → map (λ p. string_bytes p.0) es ≡ names_of (map (λ p. event_of (string_bytes p.0) p.1.items) es)
named [] = refl
named (e ∷ es) = ap (λ ns. string_bytes e.0 ∷ ns) (named es)

-- the name of the event at an index
pub named_at : (es : Entries) (i : ℕ) → option_map (λ p. string_bytes p.0) (slice_get es i) ≡ slice_get (names_of (map (λ p. event_of (string_bytes p.0) p.1.items) es)) i
named_at es i = sym (slice_get-map (λ p. string_bytes p.0) es i) ∙ ap (λ ns. slice_get ns i) (named es)

-- ---- refusals

pub limit_weaker : (P Q : ℕ → Type 0) (f : TypeFault) → ((n : ℕ) → P n → Q n) → IsLimitAt P f → IsLimitAt Q f
limit_weaker P Q OutOfMemory g h = tt
limit_weaker P Q (Limit offset) g h = g offset h
limit_weaker P Q (UnknownName offset) g h = absurd h
limit_weaker P Q (DuplicateName offset) g h = absurd h
limit_weaker P Q (TypeMismatch offset) g h = absurd h
limit_weaker P Q (BadLiteral offset) g h = absurd h
limit_weaker P Q (NotWritable offset) g h = absurd h
limit_weaker P Q (BadConnection offset) g h = absurd h
limit_weaker P Q (TwoSources offset) g h = absurd h
limit_weaker P Q (BadService offset) g h = absurd h
limit_weaker P Q (RecursiveComposite offset) g h = absurd h
limit_weaker P Q (ChannelShape offset) g h = absurd h
