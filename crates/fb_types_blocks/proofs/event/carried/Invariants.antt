use Rattle.std.proofs.Common.{◌≡◌, ◌++◌, map, drop, string_bytes}
use Rattle.fb_model.specs.BlockTyping.{AreKnown}
use Rattle.fb_model.specs.Typing.{texts}
use Rattle.fb_tree.specs.Words.{word_of}
use Rattle.fb_types_blocks.specs.Answers.{names_in_map}
use Rattle.fb_types_blocks.proofs.event.carried.Given as goal

-- all are known where those that are left are
abbrev pub invariant-loop-name : goal.invariant-loop-name
invariant-loop-name l =
    let rest = map word_of (drop l.name-index l.names) in
    let all = map word_of l.names in
    record {
      known : AreKnown (names_in_map l.variables) rest → AreKnown (names_in_map l.variables) all;
      value : map string_bytes l.carried.items ++ texts rest ≡ texts all;
    }
