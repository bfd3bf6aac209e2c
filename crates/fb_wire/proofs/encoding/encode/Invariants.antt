use Rattle.std.proofs.Common.{◌≡◌, ◌++◌, take}
use Rattle.fb_wire.specs.Views.{all_bytes}
use Rattle.fb_wire.proofs.encoding.encode.Given as goal

-- so many values are written behind the first bytes
abbrev pub invariant-loop-typed : goal.invariant-loop-typed
invariant-loop-typed l = l.bytes.items ≡ l.initial.bytes.items ++ all_bytes (take l.typed-index l.values)
