-- Entries that are changed.
use Rattle.std.proofs.Common.{◌≡◌, ℕ, zero, suc, List, [], ◌∷◌, refl, ◌∙◌, ap, max, get_or}
use Rattle.std.specs.Prelude.{slice_set}
use Rattle.fb_keys.specs.declared.state.Entry.{Entry}
use Rattle.fb_keys.specs.State.{raise_at}

pub raises_at : (entries : List Entry) (place upto : ℕ) (entry : Entry) (most : ℕ) → entry ≡ get_or entries place entry → most ≡ max entry.upto upto
    → slice_set entries place (record entry { upto = most }) ≡ raise_at entries place upto
raises_at [] place upto entry most is e = refl
raises_at (x ∷ xs) zero upto entry most is e =
    ap (λ (p : Entry). record p { upto = most } ∷ xs) is ∙ ap (λ (n : ℕ). record x { upto = n } ∷ xs) (e ∙ ap (λ (p : Entry). max p.upto upto) is)
raises_at (x ∷ xs) (suc place) upto entry most is e = ap (λ (ps : List Entry). x ∷ ps) (raises_at xs place upto entry most is e)
