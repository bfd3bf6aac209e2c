use Rattle.std.proofs.Common.{refl}
use Rattle.fb_flat.proofs.bundle.by_source.Goals as goal

pub add_sources-requires : goal.add_sources-requires
add_sources-requires c = λ i port. rw c.new-bundles.ensures.empty refl
