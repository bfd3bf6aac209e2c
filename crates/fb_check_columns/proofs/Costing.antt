-- What the algorithms of a block cost.
use Rattle.std.proofs.Common.{◌≡◌, ◌<◌, ◌+◌, ◌*◌, ◌++◌, ℕ, take, length, get_or, Bool, true, false, cond, List, [], ◌∷◌, map, Some, refl, sym, ap, ◌∙◌, string_bytes, arith}
use Rattle.std.specs.Str.{bytes_eq}
use Rattle.std.specs.declared.string.String.{String}
use Rattle.std.specs.declared.alloc.Global.{Global}
use Rattle.fb_model.specs.Names.{Name}
use Rattle.fb_model.specs.System as book
use Rattle.fb_model.specs.Charts.{named}
use Rattle.fb_model.specs.Clear.{Spans, cost}
use Rattle.fb_model.specs.Ranges.{cost_of}
use Rattle.st_types.specs.declared.whole.Algo.{Algo}
use Rattle.st_types.specs.CommandViews.{commands_of}
use Rattle.fb_check_columns.specs.Reckoning.{value_at}
use Rattle.fb_types_blocks.proofs.Lists.{mapped_more}
use Rattle.fb_check_columns.proofs.Lists.{bytes_turned}

abbrev pub procedure_of : String Global × Algo → book.Procedure
procedure_of p = record { name = string_bytes p.0; algorithm = commands_of p.1.statements.items }

nothing : (u : ℕ) → 0 ≡ u * 0
nothing u = omega arith

-- what stands at the name of an algorithm is its cost
pub named_cost : (u : ℕ) (spans : Spans) (es : List (String Global × Algo)) (x : Name)
    → value_at (map (λ e. string_bytes e.0) es) (map (λ (p : book.Procedure). u * cost spans p.algorithm) (map procedure_of es)) 0 x ≡ u * cost_of spans (named (map procedure_of es) x)
named_cost u spans [] x = nothing u
named_cost u spans (e ∷ es) x = by (bytes_eq x (string_bytes e.0)) refl (named_cost u spans es x) where
  rest : ℕ
  rest = value_at (map (λ e. string_bytes e.0) es) (map (λ (p : book.Procedure). u * cost spans p.algorithm) (map procedure_of es)) 0 x

  by : (b : Bool) → bytes_eq x (string_bytes e.0) ≡ b → rest ≡ u * cost_of spans (named (map procedure_of es) x)
      → cond b (u * cost spans (commands_of e.1.statements.items)) rest
      ≡ u * cost_of spans (cond (bytes_eq (string_bytes e.0) x) (Some (commands_of e.1.statements.items)) (named (map procedure_of es) x))
  by true h others = ap (λ t. u * cost_of spans (cond t (Some (commands_of e.1.statements.items)) (named (map procedure_of es) x))) (sym (bytes_turned x (string_bytes e.0) true h))
  by false h others = others ∙ ap (λ t. u * cost_of spans (cond t (Some (commands_of e.1.statements.items)) (named (map procedure_of es) x))) (sym (bytes_turned x (string_bytes e.0) false h))

map_end : {X Y : Type 0} (f : X → Y) (xs : List X) (x : X) → map f (xs ++ x ∷ []) ≡ map f xs ++ f x ∷ []
map_end f [] x = refl
map_end f (y ∷ xs) x = ap (λ ys. f y ∷ ys) (map_end f xs x)

-- one more of the algorithms
pub twice_more : (f : book.Procedure → ℕ) (es : List (String Global × Algo)) (i : ℕ) (e : String Global × Algo) → i < length es → e ≡ get_or es i e
    → map f (map procedure_of (take (i + 1) es)) ≡ map f (map procedure_of (take i es)) ++ f (procedure_of e) ∷ []
twice_more f es i e l g = ap (map f) (mapped_more procedure_of es i e l g) ∙ map_end f (map procedure_of (take i es)) (procedure_of e)
