-- Where outputs of the tables lead, one after another.
use Rattle.std.proofs.Common.{◌≡◌, ◌≤◌, ℕ, ◌+◌, true, false, cond, List, [], ◌∷◌, length, map, drop, sym, ap, ◌∙◌, string_bytes}
use Rattle.std.specs.Str.{bytes_eq}
use Rattle.fb_model.specs.Names.{Name}
use Rattle.fb_flat.specs.Tables.{targets_of, target_place}
use Rattle.fb_find_demands.proofs.Loops.{drop_all}
use Rattle.fb_flat.specs.declared.flat.Output.{Output}

pub targets_here : (xs : List Output) (i : ℕ) (x : Output) (o : Name) → drop i xs ≡ x ∷ drop (i + 1) xs → bytes_eq o (string_bytes x.name) ≡ true → targets_of (drop i xs) o ≡ targets_of xs o → map target_place x.targets.items ≡ targets_of xs o
targets_here xs i x o e t k = ap (λ b. cond b (map target_place x.targets.items) (targets_of (drop (i + 1) xs) o)) (sym t) ∙ ap (λ ys. targets_of ys o) (sym e) ∙ k

pub targets_past : (xs : List Output) (i : ℕ) (x : Output) (o : Name) → drop i xs ≡ x ∷ drop (i + 1) xs → bytes_eq o (string_bytes x.name) ≡ false → targets_of (drop i xs) o ≡ targets_of xs o → targets_of (drop (i + 1) xs) o ≡ targets_of xs o
targets_past xs i x o e t k = ap (λ b. cond b (map target_place x.targets.items) (targets_of (drop (i + 1) xs) o)) (sym t) ∙ ap (λ ys. targets_of ys o) (sym e) ∙ k

pub nothing_left : (xs : List Output) (i : ℕ) (o : Name) → length xs ≤ i → targets_of (drop i xs) o ≡ targets_of xs o → [] ≡ targets_of xs o
nothing_left xs i o l k = ap (λ ys. targets_of ys o) (sym (drop_all xs i l)) ∙ k
