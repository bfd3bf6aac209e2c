-- The number of an algorithm.
use Rattle.std.proofs.Common.{◌≡◌, ◌≤◌, ℕ, zero, suc, Bool, true, false, cond, List, [], ◌∷◌, map, length, Option, None, Some, option_map, slice_get, string_bytes, refl, sym, ap, subst, ◌∙◌, arith}
use Rattle.std.specs.Str.{bytes_eq}
use Rattle.std.proofs.lemmas.List.{length-map}
use Rattle.fb_model.specs.Names.{Name}
use Rattle.fb_model.specs.System as book
use Rattle.fb_model.specs.Charts.{named}
use Rattle.fb_model.proofs.Names.{eq_turned}
use Rattle.st_types.specs.CommandViews.{commands_of}
use Rattle.fb_types_blocks.specs.declared.typed.Block.{Block}
use Rattle.fb_types_blocks.specs.Views.{block_of}
use Rattle.fb_types_blocks.specs.Answers.{names_in_map}
use Rattle.fb_types_networks.proofs.Places.{place, place_below}
use Rattle.fb_chart.specs.Tables.{IsAlgorithm}
use Rattle.fb_device_tables.specs.Filling.{Routine, most_numbers}
use Rattle.fb_device_tables.proofs.Numbers.{suc_of}

-- an algorithm as a table has it, in the book
abbrev pub routine_of : Routine → book.Procedure
routine_of r = record { name = string_bytes r.0; algorithm = commands_of r.1.statements.items }

abbrev pub routine_names : List Routine → List Name
routine_names rs = map (λ p. string_bytes p.0) rs

-- what stands at a number is what is found by a name
abbrev IsAt : List Routine → Name → ℕ → Type 0
IsAt rs x i = (p : book.Procedure) × (slice_get (map routine_of rs) i ≡ Some p) × (named (map routine_of rs) x ≡ Some p.algorithm)

turn : (x : Name) (r : Routine) (rs : List Routine) → ((j : ℕ) → place (bytes_eq x) (routine_names rs) ≡ Some j → IsAt rs x j) → (t : Bool) → bytes_eq x (string_bytes r.0) ≡ t
    → (i : ℕ) → cond t (Some 0) (option_map suc (place (bytes_eq x) (routine_names rs))) ≡ Some i → IsAt (r ∷ rs) x i
turn x r rs again true s zero e = (routine_of r, refl, ap (λ b. cond b (Some (routine_of r).algorithm) (named (map routine_of rs) x)) (eq_turned (string_bytes r.0) x ∙ s))
turn x r rs again true s (suc i) e = absurd cc
turn x r rs again false s i e =
    let j = suc_of (place (bytes_eq x) (routine_names rs)) i e in
    let k = again j.0 j.1 in (
      k.0,
      ap (slice_get (map routine_of (r ∷ rs))) j.2 ∙ k.1,
      ap (λ b. cond b (Some (routine_of r).algorithm) (named (map routine_of rs) x)) (eq_turned (string_bytes r.0) x ∙ s) ∙ k.2,
    )

routine_at : (rs : List Routine) (x : Name) (i : ℕ) → place (bytes_eq x) (routine_names rs) ≡ Some i → IsAt rs x i
unfolding place
routine_at [] x i e = absurd cc
routine_at (r ∷ rs) x i e = turn x r rs (routine_at rs x) (bytes_eq x (string_bytes r.0)) refl i e

pub routine_found : (k : Block) (x : Name) (i n : ℕ) → place (bytes_eq x) (names_in_map k.procedures) ≡ Some i → (i ≤ most_numbers → n ≡ i) → length k.procedures.entries ≤ most_numbers → IsAlgorithm (block_of k) (Some x) (Some n)
routine_found k x i n e f few =
    let l = place_below (bytes_eq x) (names_in_map k.procedures) i e in
    let many = length-map k.procedures.entries (λ p. string_bytes p.0) in
    let same : i ≡ n = sym (f (omega (arith, l, few, many))) in
    let at : IsAt k.procedures.entries x n = subst (IsAt k.procedures.entries x) same (routine_at k.procedures.entries x i e) in
    at

none_named : (rs : List Routine) (x : Name) → place (bytes_eq x) (routine_names rs) ≡ None → named (map routine_of rs) x ≡ None
unfolding place
none_named [] x e = refl
none_named (r ∷ rs) x e =
    ap (λ b. cond b (Some (routine_of r).algorithm) (named (map routine_of rs) x)) (eq_turned (string_bytes r.0) x)
    ∙ by (bytes_eq x (string_bytes r.0)) (place (bytes_eq x) (routine_names rs)) e (none_named rs x)
  where
    by : (t : Bool) (o : Option ℕ) → cond t (Some 0) (option_map suc o) ≡ None → (o ≡ None → named (map routine_of rs) x ≡ None) → cond t (Some (routine_of r).algorithm) (named (map routine_of rs) x) ≡ None
    by true o f g = absurd cc
    by false None f g = g refl
    by false (Some k) f g = absurd cc

pub routine_missing : (k : Block) (x : Name) → place (bytes_eq x) (names_in_map k.procedures) ≡ None → IsAlgorithm (block_of k) (Some x) None
routine_missing k x e = none_named k.procedures.entries x e
