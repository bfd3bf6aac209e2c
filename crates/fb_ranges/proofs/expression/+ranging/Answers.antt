use Rattle.std.proofs.Common.{List, map, sym, ap, ap₂, ◌∙◌}
use Rattle.fb_model.specs.Language.{given}
use Rattle.fb_model.specs.Clear.{range_of}
use Rattle.fb_model.specs.Asking.{range_in}
use Rattle.st_types.specs.declared.term.TypedLink.{TypedLink}
use Rattle.st_types.specs.Views.{term_of, tail_of}
use Rattle.fb_ranges_intervals.specs.Views.{span_of}
use Rattle.fb_ranges.specs.Views.{clear_range, linked, linked_in, spans_of}
use Rattle.fb_ranges.proofs.Chains.{in_chain, next_in, next_linked, range_chain}
use Rattle.fb_ranges.proofs.expression.+ranging.Goals as goal

pub range-returns-in-Chain-clause-range : goal.range-returns-in-Chain-clause-range
range-returns-in-Chain-clause-range t c =
    let spans = spans_of c.args.ranges.now in
    let b = c.in-Chain.first in
    let v = c.in-Chain.links in
    c.range_links.ensures.range
    ∙ ap₂ (λ (l : List TypedLink) r. linked_in spans (map tail_of l) r) c.deref-in-Chain-2.ensures.value (c.range-first.ensures.range ∙ ap (λ x. range_in (term_of x) spans) c.deref-in-Chain.ensures)
    ∙ sym (in_chain spans b v)
    ∙ ap (λ x. range_in x spans) (sym (ap term_of c.in-Chain.is))

pub range-returns-in-Chain-clause-clear : goal.range-returns-in-Chain-clause-clear
range-returns-in-Chain-clause-clear t c =
    let spans = spans_of c.args.ranges.now in
    let b = c.in-Chain.first in
    let v = c.in-Chain.links in
    c.range_links.ensures.clear
    ∙ ap₂ (λ (l : List TypedLink) o. given o (linked spans (map tail_of l))) c.deref-in-Chain-2.ensures.value (c.range-first.ensures.clear ∙ ap (λ x. range_of (term_of x) spans) c.deref-in-Chain.ensures)
    ∙ sym (range_chain spans b v)
    ∙ ap (λ x. range_of x spans) (sym (ap term_of c.in-Chain.is))

pub range_links-loop-link-preserved : goal.range_links-loop-link-preserved
range_links-loop-link-preserved t c =
    let spans = spans_of c.args.ranges.now in
    let links = c.args.links.now in
    let i = c.loop-link.link-index in
    let y = c.link-item.result in
    let all = c.loop-link.all in
    let operand = c.range-operand.result in
    let next = c.combined-all.result in
    let h = c.loop-link.invariant in
    record {
      range =
          next_in spans links i y (span_of all.range) (span_of operand.range) (span_of next.range) (linked_in spans (map tail_of links) (span_of c.args.first.range))
          c.loop-link-test.true c.link-item.is h.range c.range-operand.ensures.range c.combined-all.ensures.range;
      clear =
          next_linked spans links i y (clear_range all) (clear_range operand) (clear_range next) (given (clear_range c.args.first) (linked spans (map tail_of links)))
          c.loop-link-test.true c.link-item.is h.clear c.range-operand.ensures.clear c.combined-all.ensures.clear;
    }
