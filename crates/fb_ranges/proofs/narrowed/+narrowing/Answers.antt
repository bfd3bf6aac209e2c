use Rattle.std.proofs.Common.{◌≡◌, true, subst, ◌≤◌, map, take, sym, ap, ◌∙◌, arith}
use Rattle.fb_model.specs.Clear.{narrowed}
use Rattle.st_types.specs.Views.{Tail, term_of, tail_of, joined}
use Rattle.fb_ranges.specs.Narrowing.{splits}
use Rattle.fb_ranges.specs.Views.{spans_of}
use Rattle.fb_ranges.proofs.Conditions.{tail_is, one_more, front_none}
use Rattle.fb_ranges.proofs.narrowed.+narrowing.Goals as goal

pub narrow_chain-loop-i-preserved : goal.narrow_chain-loop-i-preserved
narrow_chain-loop-i-preserved t c =
    let b = c.args.holds in
    let x = term_of c.args.first.now in
    let links = c.args.links.now in
    let i = c.loop-i.i in
    let l = c.index-links-i.result in
    let lt = c.loop-i-test.true in
    let is = c.index-links-i.is in
    let low : c.parts_from-begin.result ≤ i = omega arith in
    let own : splits b (tail_of l).0 ≡ true = subst (λ y. splits b (tail_of y).0 ≡ true) (sym is) (c.parts_from-begin.ensures.parts i l low lt) in
    let e : spans_of c.narrow.new.ranges ≡ narrowed (tail_of l).2 b (spans_of c.loop-i.ranges) =
    c.in_ok-narrow.ensures
    ∙ ap (λ y. narrowed (term_of y.operand) b (spans_of c.loop-i.ranges)) (sym is)
    ∙ ap (λ (y : Tail). narrowed y.2 b (spans_of c.loop-i.ranges)) (sym (tail_is l)) in
    let before : spans_of c.loop-i.ranges ≡ narrowed (joined x (map tail_of (take i links))) b (spans_of c.args.ranges.now) = c.loop-i.invariant in
    e ∙ ap (narrowed (tail_of l).2 b) before ∙ sym (one_more x links i l b (spans_of c.args.ranges.now) lt is own)

pub narrow_front-returns : goal.narrow_front-returns
narrow_front-returns t c =
    let some : 2 ≤ c.args.begin = omega arith in
    sym (front_none (term_of c.args.first.now) c.args.links.now c.args.begin c.args.holds (spans_of c.args.ranges.now) some c.requires.within c.requires.front)
