use Rattle.std.proofs.Common.{◌≡◌, ◌++◌, take}
use Rattle.std.specs.Prelude.{vec_capacity}
use Rattle.fbr_lines.proofs.lines.Lines.put.Given as goal

-- the bytes so far stand behind the others
abbrev pub invariant-loop-byte : goal.invariant-loop-byte
invariant-loop-byte l =
    (l.self-inside.waiting.items ≡ l.fn.self.bytes ++ take l.byte-index l.line)
    × (vec_capacity l.self-inside.waiting ≡ l.fn.self.room)
    × (l.self-inside.lost ≡ l.fn.self.lost)
