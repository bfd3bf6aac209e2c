-- What is printed of rows, and what is left to print.
use Rattle.std.proofs.Common.{◌≡◌, ℕ, zero, suc, ◌+◌, List, [], ◌∷◌, ◌++◌, drop, slice_get, Some, None, codes, refl, sym, ap, ◌∙◌, append_assoc, add-one}
use Rattle.std.specs.Prelude.{flat_map}
use Rattle.std.proofs.lemmas.Grind.{flat_map-append}
use Rattle.std.proofs.lemmas.List.{append-nil}
use Rattle.fb_model.specs.CertificateText.{TextRow}
use Rattle.fb_cert.specs.Rows.{Rows}
use Rattle.fb_cert.specs.declared.kind.Kind.{Kind}
use Rattle.fb_cert.specs.Printed.{row_line, entries_of, entries, printed}

drop_some : {A : Type 0} (xs : List A) (i : ℕ) (x : A) → Some x ≡ slice_get xs i → drop i xs ≡ x ∷ drop (suc i) xs
drop_some [] i x h = absurd (cc)
drop_some (y ∷ xs) zero x h = let same : x ≡ y = cc in ap (λ z. z ∷ xs) (sym same)
drop_some (y ∷ xs) (suc i) x h = drop_some xs i x h

drop_none : {A : Type 0} (xs : List A) (i : ℕ) → None ≡ slice_get xs i → drop i xs ≡ drop (suc i) xs
drop_none [] zero h = refl
drop_none [] (suc i) h = refl
drop_none (y ∷ xs) zero h = absurd (cc)
drop_none (y ∷ xs) (suc i) h = drop_none xs i h

-- what is printed, and then what is left from an index on
abbrev pub with_left : List TextRow → ℕ → List ℕ → List ℕ
with_left es i text = text ++ flat_map row_line (drop i es)

pub some_left : (es : List TextRow) (i : ℕ) (e : TextRow) (text all : List ℕ) → Some e ≡ slice_get es i → with_left es i text ≡ all → with_left es (i + 1) (text ++ row_line e) ≡ all
some_left es i e text all h g =
    append_assoc text (row_line e) (flat_map row_line (drop (i + 1) es))
    ∙ ap (λ k. text ++ (row_line e ++ flat_map row_line (drop k es))) (add-one i)
    ∙ ap (λ d. text ++ flat_map row_line d) (sym (drop_some es i e h))
    ∙ g

pub none_left : (es : List TextRow) (i : ℕ) (text all : List ℕ) → None ≡ slice_get es i → with_left es i text ≡ all → with_left es (i + 1) text ≡ all
none_left es i text all h g = ap (λ k. with_left es k text) (add-one i) ∙ ap (λ d. text ++ flat_map row_line d) (sym (drop_none es i h)) ∙ g

-- a kind is printed, and then the others
pub kind_left : (rs : Rows) (k : Kind) (ks : List Kind) (old new : List ℕ) → new ≡ old ++ flat_map row_line (entries_of k rs)
    → new ++ flat_map row_line (flat_map (λ j. entries_of j rs) ks) ≡ old ++ flat_map row_line (flat_map (λ j. entries_of j rs) (k ∷ ks))
kind_left rs k ks old new h =
    let own = entries_of k rs in
    let rest = flat_map (λ j. entries_of j rs) ks in
    ap (λ t. t ++ flat_map row_line rest) h ∙ append_assoc old (flat_map row_line own) (flat_map row_line rest) ∙ ap (λ t. old ++ t) (sym (flat_map-append row_line own rest))

-- the whole text
pub all_left : (rs : Rows) (first whole : List ℕ) → first ≡ codes "CERT 1" ++ 10 ∷ [] → whole ++ [] ≡ first ++ flat_map row_line (entries rs) → whole ≡ printed rs
unfolding printed
all_left rs first whole e h = sym (append-nil whole) ∙ h ∙ ap (λ t. t ++ flat_map row_line (entries rs)) e
