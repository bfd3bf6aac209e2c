use Rattle.std.proofs.Common.{◌≡◌, ◌++◌, map, drop, string_bytes}
use Rattle.fb_device_tables.proofs.give.copied.Given as goal

-- the names so far, with those left, are all
abbrev pub invariant-loop-name : goal.invariant-loop-name
invariant-loop-name l = map string_bytes l.copy.items ++ map string_bytes (drop l.name-index l.names) ≡ map string_bytes l.names
