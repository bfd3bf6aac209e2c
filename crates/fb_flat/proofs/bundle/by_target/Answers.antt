use Rattle.std.proofs.Common.{refl}
use Rattle.fb_flat.proofs.bundle.by_target.Goals as goal

pub add_targets-requires : goal.add_targets-requires
add_targets-requires c = λ i port. rw c.new-bundles.ensures.empty refl
