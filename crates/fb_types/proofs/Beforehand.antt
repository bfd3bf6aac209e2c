-- Sources with event blocks that are declared beforehand have one system, and no fault.
use Rattle.std.proofs.Common.{◌≡◌, List}
use Rattle.fb_model.specs.Declarations.{BlockTree, SourceTree}
use Rattle.fb_model.specs.System.{System}
use Rattle.fb_model.specs.NetworkTyping.{ElaboratesWith}
use Rattle.fb_model.specs.EventBlocks.{event_blocks, AreEventBlocks, Elaborates}
use Rattle.fb_faults.specs.declared.typing.TypeFault.{TypeFault}
use Rattle.fb_faults.specs.declared.typing.TypeFault.TheVariants.{OutOfMemory}
use Rattle.fb_model.specs.SourceFaults.{IsRefused}
use Rattle.fb_types.proofs.Swapped.{swapped}
use Rattle.fb_types.proofs.Whole.{one_whole, whole_true}

-- with whichever declarations of the event blocks
pub elaborated_with : (library : List BlockTree) (source : SourceTree) (s : System) → AreEventBlocks library → Elaborates source s → ElaboratesWith library source s
elaborated_with library source s all h = swapped h.library library event_blocks source s h.beforehand all h.typed

pub one_elaborated : (source : SourceTree) (s t : System) → Elaborates source s → Elaborates source t → s ≡ t
one_elaborated source s t h k = one_whole k.library source s t (elaborated_with k.library source s k.beforehand h) k.typed

pub elaborated_true : (source : SourceTree) (s : System) (f : TypeFault) → Elaborates source s → IsRefused source f → f ≡ OutOfMemory
elaborated_true source s f h k = whole_true k.library source s f (elaborated_with k.library source s k.beforehand h) k.fault
