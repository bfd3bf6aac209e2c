use Rattle.std.proofs.Common.{refl, sym, subst}
use Rattle.fb_model.specs.System as book
use Rattle.fb_model.specs.NetworkTyping.{IsMade, a_basic}
use Rattle.fb_tree.specs.Files as trees_of
use Rattle.fb_types_blocks.specs.Views.{block_of}
use Rattle.fb_model.specs.Nesting.{by_basic}
use Rattle.fb_types.proofs.make.basic_type.Goals as goal

pub returns-clause-made : goal.returns-clause-made
returns-clause-made c = λ bs d e.
    record {
      made = subst (λ k. IsMade bs d (trees_of.block_of c.args.source.now) (book.Basic (block_of k))) (sym c.in_ok-new.ensures.ok) (a_basic e c.in_ok-block.ensures.found.typed);
      deep_is = refl;
      uses = by_basic e;
    }
