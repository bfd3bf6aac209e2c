use Rattle.std.proofs.Common.{◌+◌, List, map, sym, ap, ap₂, ◌∙◌, arith}
use Rattle.std.proofs.lemmas.Int.{clamps}
use Rattle.st_types.specs.declared.term.TypedLink.{TypedLink}
use Rattle.st_types.specs.declared.term.TypedExpr.{TypedExpr}
use Rattle.st_types.specs.Views.{tail_of, term_of}
use Rattle.fb_prices.specs.Words.{prices_of}
use Rattle.fb_model_work.specs.Spending.{in_term}
use Rattle.fb_find_laws.specs.Nodes.{capped}
use Rattle.fb_work_statements.specs.Sums.{linked_work}
use Rattle.fb_work_statements.proofs.Capping.{capped_again}
use Rattle.fb_work_statements.proofs.Linking.{linked_capped, next_work, work_chain}
use Rattle.fb_work_statements.proofs.expression.+expression.Goals as goal

pub expression_work-returns-in-Chain : goal.expression_work-returns-in-Chain
expression_work-returns-in-Chain t c =
    let ps = prices_of c.args.prices.now in
    let b = c.in-Chain.first in
    let v = c.in-Chain.links in
    let n = in_term ps (term_of b.value) in
    let first = c.expression_work-in-Chain.ensures ∙ ap (λ (x : TypedExpr). capped (in_term ps (term_of x))) c.deref-in-Chain.ensures in
    c.links_work.ensures
    ∙ ap₂ (λ (l : List TypedLink) m. capped (linked_work ps (map tail_of l) m)) c.deref-in-Chain-2.ensures.value first
    ∙ linked_capped ps (map tail_of v.items) (capped n) n (capped_again n)
    ∙ ap capped (sym (work_chain ps b v))
    ∙ ap (λ x. capped (in_term ps x)) (sym (ap term_of c.in-Chain.is))

pub links_work-loop-link-init : goal.links_work-loop-link-init
links_work-loop-link-init t c =
    let ps = prices_of c.args.prices.now in
    let first = c.args.first in
    let all = c.min-all.result in
    record {
      least = omega (arith, clamps, c.min-all.ensures);
      sum = linked_capped ps (map tail_of c.args.links.now) all first (omega (arith, clamps, c.min-all.ensures));
    }

pub links_work-loop-link-preserved : goal.links_work-loop-link-preserved
links_work-loop-link-preserved t c =
    let ps = prices_of c.args.prices.now in
    let links = c.args.links.now in
    let h = c.loop-link.invariant in
    let cost = c.price.ensures ∙ ap ps c.of_operation.ensures in
    record {
      least = omega (arith, clamps, c.added-all.ensures);
      sum =
          next_work ps links c.loop-link.link-index c.link-item.result c.loop-link.all c.expression_work-operand.result c.added.result c.added-all.result
          (capped (linked_work ps (map tail_of links) c.args.first))
          c.loop-link-test.true c.link-item.is h.sum c.expression_work-operand.ensures c.added.ensures
          (c.added-all.ensures ∙ ap (λ n. capped (n + c.added.result)) cost);
    }
