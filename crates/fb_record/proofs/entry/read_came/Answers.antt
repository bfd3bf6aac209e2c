use Rattle.std.proofs.Common.{◌≡◌, ◌+◌, ◌<◌, List, [], ◌∷◌, drop, Some, None, Vec, Global, ℕ, map, length, sym, ap, ◌∙◌, arith}
use Rattle.std.specs.Option.{option_map}
use Rattle.std.proofs.lemmas.List.{map-append}
use Rattle.fb_record.specs.Records.{after, came_in}
use Rattle.fb_record.proofs.Coming.{more_at, none_at}
use Rattle.fb_record.proofs.entry.read_came.Goals as goal

pub returns-in-None : goal.returns-in-None
returns-in-None c =
    let said = sym (ap (option_map (λ (v : Vec ℕ Global). v.items)) c.in-None.is) ∙ c.in_ok-bytes.ensures in
    (none_at c.args.words.now c.loop-word.word-index _ c.loop-word-test.true _ _ c.loop-word.left c.is_end.result c.loop-word.invariant.0 c.loop-word.invariant.1 c.is_end.ensures c.if-is_end.false said, tt)

pub loop-word-preserved : goal.loop-word-preserved
loop-word-preserved c =
    let said = sym (ap (option_map (λ (v : Vec ℕ Global). v.items)) c.in-Some.is) ∙ c.in_ok-bytes.ensures in
    let one = more_at c.args.words.now c.loop-word.word-index _ c.loop-word-test.true _ _ c.loop-word.left c.is_end.result c.in-Some.bytes.items c.loop-word.invariant.0 c.loop-word.invariant.1 c.is_end.ensures c.if-is_end.false said in
    (one ∙ ap (λ ds. option_map (after ds) (came_in (map (λ w. w.now) (drop (c.loop-word.word-index + 1) c.args.words.now)))) (sym (ap (map (λ (v : Vec ℕ Global). v.items)) c.in_ok-push-in-Some.ensures.items ∙ map-append (λ (v : Vec ℕ Global). v.items) c.loop-word.datagrams.items (c.in-Some.bytes ∷ []))), omega (arith, c.loop-word.invariant.1, c.loop-word-test.true))
