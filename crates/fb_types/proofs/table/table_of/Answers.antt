use Rattle.std.proofs.Common.{[], map, refl}
use Rattle.fb_tree.specs.Files as trees_of
use Rattle.fb_types.proofs.table.table_of.Goals as goal

pub returns : goal.returns
returns c = c.in_ok-add_all-2.ensures (map trees_of.block_of c.args.source.now) (c.in_ok-add_all.ensures [] (rw c.new-types.ensures.empty (λ x. refl)))
