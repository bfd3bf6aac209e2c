use Rattle.std.proofs.Common.{◌≡◌, List, ◌++◌, map, sym, ap, ◌∙◌, subst}
use Rattle.std.proofs.lemmas.List.{append_assoc}
use Rattle.std.specs.Prelude.{OnOk}
use Rattle.fb_model.specs.Names.{Name}
use Rattle.st_types.specs.declared.term.TypedExpr.{TypedExpr}
use Rattle.st_types.specs.declared.term.TypedLink.{TypedLink}
use Rattle.st_types.specs.Views.{term_of, tail_of}
use Rattle.fb_ranges.specs.Narrowing.{read_behind, read_in}
use Rattle.fb_ranges.proofs.Chains.{read_chain}
use Rattle.fb_ranges.proofs.touched.+reading.Goals as goal
use Rattle.fb_ranges.specs.Views.{names_of}

pub add_read-returns-in_ok-add_read-in-Chain : goal.add_read-returns-in_ok-add_read-in-Chain
add_read-returns-in_ok-add_read-in-Chain t c =
    let b = c.in-Chain.first in
    let v = c.in-Chain.links in
    let old = names_of c.args.names.now.items in
    let e =
    ap (λ (xs : List Name). xs ++ read_behind (map tail_of c.deref-in-Chain-2.result.now)) c.in_ok-add_read-in-Chain.ensures
    ∙ append_assoc old (read_in (term_of c.deref-in-Chain.result.now)) (read_behind (map tail_of c.deref-in-Chain-2.result.now))
    ∙ ap (λ (x : TypedExpr). old ++ (read_in (term_of x) ++ read_behind (map tail_of c.deref-in-Chain-2.result.now))) c.deref-in-Chain.ensures
    ∙ ap (λ (ls : List TypedLink). old ++ (read_in (term_of b.value) ++ read_behind (map tail_of ls))) c.deref-in-Chain-2.ensures.value
    ∙ ap (λ (xs : List Name). old ++ xs) (sym (read_chain b v))
    ∙ ap (λ (x : TypedExpr). old ++ read_in (term_of x)) (sym c.in-Chain.is) in
    subst (λ (xs : List Name). OnOk c.add_read_behind.result (names_of c.add_read_behind.new.names.items ≡ xs)) e c.add_read_behind.ensures
