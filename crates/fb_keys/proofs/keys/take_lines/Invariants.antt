use Rattle.std.proofs.Common.{◌≡◌, ◌+◌, Ok, drop, map}
use Rattle.fb_keys.specs.Keys.{lines_from}
use Rattle.fb_keys.specs.Views.{read_of}
use Rattle.fb_keys.proofs.keys.take_lines.Given as goal

-- what was read, and then what is left, is the whole
abbrev pub invariant-loop-line : goal.invariant-loop-line
invariant-loop-line l =
    (lines_from (l.number + 1) (Ok (read_of l.reader)) (map (λ w. w.now) (drop l.line-index l.lines)) ≡ lines_from 1 (Ok (read_of l.initial.reader)) (map (λ w. w.now) l.lines))
    × (l.number ≡ l.line-index)
