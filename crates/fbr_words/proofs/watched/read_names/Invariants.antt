use Rattle.std.proofs.Common.{◌≡◌, ◌++◌, drop, length, map}
use Rattle.std.specs.Prelude.{option_map}
use Rattle.fbr_words.specs.Program.{whole, each_in}
use Rattle.fbr_words.proofs.watched.read_names.Given as goal

-- the names so far, with the words that are left
abbrev pub invariant-loop-word : goal.invariant-loop-word
invariant-loop-word l =
    (option_map (λ rest. map (λ name. name.now) l.names.items ++ rest) (each_in whole (map (λ word. word.now) (drop l.word-index l.fn.words))) ≡ each_in whole (map (λ word. word.now) l.fn.words))
    × (length l.names.items ≡ l.word-index)
