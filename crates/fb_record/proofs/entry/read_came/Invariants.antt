use Rattle.std.proofs.Common.{◌≡◌, ◌+◌, drop, length, map}
use Rattle.std.specs.Option.{option_map}
use Rattle.fb_record.specs.Records.{after, came_in}
use Rattle.fb_record.proofs.entry.read_came.Given as goal

-- what was read, and then what is left, is the whole
abbrev pub invariant-loop-word : goal.invariant-loop-word
invariant-loop-word l =
    (came_in (map (λ w. w.now) l.words) ≡ option_map (after (map (λ d. d.items) l.datagrams.items)) (came_in (map (λ w. w.now) (drop l.word-index l.words))))
    × (l.left + l.word-index ≡ length l.words)
