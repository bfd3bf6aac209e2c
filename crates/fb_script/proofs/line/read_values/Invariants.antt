use Rattle.std.proofs.Common.{◌≡◌, ◌++◌, drop}
use Rattle.std.specs.Option.{option_map}
use Rattle.fb_script.specs.Lines.{values_in}
use Rattle.fb_script.specs.Views.{texts}
use Rattle.fb_script.proofs.line.read_values.Given as goal

-- what was read, and then what is left, is the whole
abbrev pub invariant-loop-word : goal.invariant-loop-word
invariant-loop-word l = values_in (texts l.words) ≡ option_map (λ vs. l.values.items ++ vs) (values_in (texts (drop l.word-index l.words)))
