use Rattle.std.proofs.Common.{◌≡◌, drop}
use Rattle.fb_keys.specs.State.{upto_in}
use Rattle.fb_keys.proofs.state.upto_in.Given as goal

-- no entry so far is of the peer under the key
abbrev pub invariant-loop-entry : goal.invariant-loop-entry
invariant-loop-entry l = upto_in l.number l.mark (drop l.entry-index l.entries) ≡ upto_in l.number l.mark l.entries
