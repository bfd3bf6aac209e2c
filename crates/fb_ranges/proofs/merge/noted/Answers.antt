use Rattle.std.proofs.Common.{ap, ◌∙◌, arith, map, refl, string_bytes}
use Rattle.std.proofs.lemmas.List.{take_all}
use Rattle.fb_ranges_intervals.specs.Views.{span_of}
use Rattle.fb_ranges.specs.Views.{names_of, spans_of}
use Rattle.fb_ranges.proofs.Noted.{noted_next}
use Rattle.fb_ranges.proofs.merge.noted.Goals as goal

pub loop-name-preserved : goal.loop-name-preserved
loop-name-preserved c =
    ap (map span_of) c.in_ok-push.ensures.items
    ∙ noted_next c.args.names.now c.loop-name.name-index c.name-item.result (spans_of c.args.ranges.now) c.loop-name.noted.items c.find_at.result (string_bytes c.name-item.result.now.name)
    c.loop-name-test.true c.name-item.is refl c.find_at.ensures c.loop-name.invariant

pub returns : goal.returns
returns c = c.loop-name.invariant ∙ ap (λ ns. map (spans_of c.args.ranges.now) (names_of ns)) (take_all c.loop-name.name-index c.args.names.now (omega (arith, c.loop-name-test.false)))
