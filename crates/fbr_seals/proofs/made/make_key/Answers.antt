use Rattle.fbr_files.specs.declared.fault.Fault.TheVariants.{Input, File}
use Rattle.fbr_seals.proofs.Refusing.{refused_key}
use Rattle.fbr_seals.proofs.made.make_key.Goals as goal

pub returns-in_default-clause-told : goal.returns-in_default-clause-told
returns-in_default-clause-told g c = refused_key Input (g.W.Write.contents c.args.output.now) (g.W.Write.contents c.print_outcome.new.output) c.print_outcome.result c.print_outcome.ensures.told

pub returns-then-not-is_begun-clause-told : goal.returns-then-not-is_begun-clause-told
returns-then-not-is_begun-clause-told g c =
    refused_key (File c.in-Some-state.name) (g.W.Write.contents c.args.output.now) (g.W.Write.contents c.print_outcome-then-not-is_begun.new.output) c.print_outcome-then-not-is_begun.result c.print_outcome-then-not-is_begun.ensures.told
