use Rattle.std.proofs.Common.{◌≡◌, ◌++◌, map, drop, string_bytes}
use Rattle.fb_model.specs.BlockTyping.{symbol_of, names_in}
use Rattle.fb_model.specs.Typing.{AreNew}
use Rattle.st_types.specs.Views.{entries}
use Rattle.fb_types_blocks.specs.Answers.{names_in_map}
use Rattle.fb_types_blocks.specs.Views.{declared_of, declared_in}
use Rattle.fb_types_blocks.proofs.scope.enlarge.Given as goal

-- the entries so far are followed by those of the variables that are left, whose names are new
abbrev pub invariant-loop-index : goal.invariant-loop-index
invariant-loop-index l =
    let rest = map (λ p. declared_of (string_bytes p.0) p.1) (drop l.index l.variables.entries) in
    record {
      new : AreNew (names_in_map l.scope) (names_in rest);
      value : entries l.scope ++ map (symbol_of l.writable) rest ≡ entries l.initial.scope ++ map (symbol_of l.writable) (declared_in l.variables);
    }
