use Rattle.std.proofs.Common.{◌≡◌, ◌++◌, drop, length, map}
use Rattle.std.specs.Prelude.{option_map}
use Rattle.fb_addresses.specs.Addresses.{endpoint_of, endpoint_in}
use Rattle.fbr_words.specs.Program.{each_in}
use Rattle.fbr_words.proofs.network.read_peers.Given as goal

-- the addresses so far, with those of the words that are left
abbrev pub invariant-loop-word : goal.invariant-loop-word
invariant-loop-word l =
    (option_map (λ rest. map endpoint_of l.peers ++ rest) (each_in endpoint_in (map (λ word. word.now) (drop l.word-index l.fn.words))) ≡ each_in endpoint_in (map (λ word. word.now) l.fn.words))
    × (length l.peers ≡ l.word-index)
