use Rattle.std.proofs.Common.{◌≡◌, ◌++◌, map, drop}
use Rattle.fb_model.specs.BlockTyping.{declared, names_in}
use Rattle.fb_model.specs.Typing.{AreNew, texts}
use Rattle.fb_tree.specs.Words.{word_of}
use Rattle.fb_types_blocks.specs.Views.{declared_in}
use Rattle.fb_types_blocks.proofs.variable.share.Given as goal

-- the variables so far are followed by those of the names that are left, which are new
abbrev pub invariant-loop-name : goal.invariant-loop-name
invariant-loop-name l =
    let rest = map word_of (drop l.name-index l.names) in
    let of = declared l.variable.of_type l.variable.bounds l.variable.start in
    record {
      new : AreNew (names_in (declared_in l.variables)) (texts rest);
      value : declared_in l.variables ++ map of rest ≡ declared_in l.initial.variables ++ map of (map word_of l.names);
    }
