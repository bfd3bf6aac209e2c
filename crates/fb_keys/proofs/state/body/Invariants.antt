use Rattle.std.proofs.Common.{◌≡◌, ◌++◌, drop, string_bytes}
use Rattle.std.specs.Prelude.{flat_map}
use Rattle.fb_keys.specs.State.{body_text, entry_line}
use Rattle.fb_keys.proofs.state.body.Given as goal

-- what is written, and then what is left, is the whole
abbrev pub invariant-loop-entry : goal.invariant-loop-entry
invariant-loop-entry l = string_bytes l.text ++ flat_map entry_line (drop l.entry-index l.entries) ≡ body_text (record { own = l.fn.own; entries = l.entries })
