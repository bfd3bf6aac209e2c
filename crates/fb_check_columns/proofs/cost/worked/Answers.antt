use Rattle.std.proofs.Common.{◌≡◌, ℕ, List, Option, Some, sym, ap, subst, string_bytes}
use Rattle.fb_check_columns.specs.Sums.{IsSum}
use Rattle.fb_check_columns.specs.Reckoning.{AreSums, value_at, table_names}
use Rattle.fb_check_columns.proofs.Values.{sum_at}
use Rattle.fb_check_columns.proofs.cost.worked.Goals as goal

pub returns-in-Some : goal.returns-in-Some
returns-in-Some c =
    λ costs h.
    let names = table_names c.args.block.now.procedures in
    let ns = costs.algorithms in
    let s = sum_at names c.deref.result.now ns c.as_str.result.now (subst (λ (xs : List (Option ℕ)). AreSums xs ns) (sym c.deref.ensures.value) h.0) in
    let t = subst (λ x. IsSum x (value_at names ns 0 c.as_str.result.now)) (sym c.at.ensures) s in
    let u = subst (λ x. IsSum c.at.result (value_at names ns 0 x)) c.as_str.ensures.value t in
    subst (λ o. IsSum c.at.result (elim o [ Rattle.std.proofs.Common.None ↦ 0 | Some p ↦ value_at names ns 0 (string_bytes p) ])) (sym c.in-Some.is) u
