-- Names of ports one after another.
use Rattle.std.proofs.Common.{◌≡◌, ℕ, suc, ◌+◌, ◌<◌, List, [], ◌∷◌, ◌++◌, map, drop, length, get_or, sym, ap, ◌∙◌, arith, string_bytes}
use Rattle.std.proofs.Math.Seq.{drop-cons}
use Rattle.std.proofs.lemmas.List.{map_push, append_assoc}
use Rattle.std.specs.declared.string.String.{String}
use Rattle.std.specs.declared.alloc.Global.{Global}
use Rattle.fb_words.specs.declared.elem_type.ElemType.{ElemType}
use Rattle.fb_words.specs.declared.elem_type.ElemType.TheVariants as t
use Rattle.fb_model.specs.Names.{Name}
use Rattle.fb_model.specs.Store.{variable_names}
use Rattle.fb_model.specs.Services.{ports}

pub named_more : (f : ℕ → Name) (types : List ElemType) (i : ℕ) (goal : List Name) (s : String Global) (names new : List (String Global)) → i < length types → string_bytes s ≡ f (i + 1) → new ≡ names ++ s ∷ []
    → map string_bytes names ++ variable_names (ports f (i + 1) (drop i types)) ≡ goal → map string_bytes new ++ variable_names (ports f (i + 1 + 1) (drop (i + 1) types)) ≡ goal
named_more f types i goal s names new l is e h =
    let rest = variable_names (ports f (i + 1 + 1) (drop (i + 1) types)) in
    let next : drop i types ≡ get_or types i t.Bool ∷ drop (i + 1) types = drop-cons types i t.Bool l ∙ ap (λ n. get_or types i t.Bool ∷ drop n types) (plus i) in
    ap (λ ns. map string_bytes ns ++ rest) e
    ∙ ap (λ ns. ns ++ rest) (map_push string_bytes names s)
    ∙ append_assoc (map string_bytes names) (string_bytes s ∷ []) rest
    ∙ ap (λ x. map string_bytes names ++ x ∷ rest) is
    ∙ sym (ap (λ ts. map string_bytes names ++ variable_names (ports f (i + 1) ts)) next)
    ∙ h
  where
    plus : (i : ℕ) → suc i ≡ i + 1
    plus i = omega arith
