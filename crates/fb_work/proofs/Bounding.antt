-- The law of work for systems that stand in texts.
use Rattle.std.proofs.Common.{ℕ, List}
use Rattle.std.specs.List.{AllByRecursion}
use Rattle.fb_model.specs.Tokens.{Token}
use Rattle.fb_model.specs.StructuredTextGrammar.{IsExpression, IsAlgorithm, most_nested, most_nested_statements}
use Rattle.fb_model.specs.Declarations.{SourceTree}
use Rattle.fb_model.specs.DeclarationGrammar.{IsFile}
use Rattle.fb_model.specs.NetworkTyping.{ElaboratesWith}
use Rattle.fb_model.specs.System.{Device, System}
use Rattle.fb_model.specs.Certificates.{Certificate, Fits}
use Rattle.fb_model.specs.Devices.{Machine}
use Rattle.fb_model.specs.Written.{IsWritten}
use Rattle.fb_model_turns.specs.Turns.{ComesTo, Counts}
use Rattle.fb_model_work.specs.Spending.{Prices}
use Rattle.fb_model_work.specs.Work.{AllWorkFits, BoundsWork}
use Rattle.fb_types_events.proofs.EventTrees.{event_source}
use Rattle.fb_types_events.proofs.Spelled.{event_source_spelled}
use Rattle.fb_verified.proofs.Written.{with_event_trees}
use Rattle.fb_work.specs.Counting.{BoundsAllWork}

-- as the book has it
abbrev pub Law : Type 0
Law =
    (ts us : List Token) (n k m l : ℕ) (library source : SourceTree) (system : System)
    → IsFile (IsExpression n) (IsAlgorithm n k) ts library → IsFile (IsExpression m) (IsAlgorithm m l) us source → ElaboratesWith library.blocks source system
    → (cert : Certificate) → Fits system cert → (prices : Prices) (counts : Counts) → AllWorkFits prices cert.ranges counts system
    → AllByRecursion (λ (d : Device). (s : Machine) → ComesTo cert d s → BoundsWork prices counts cert d s) system.devices

pub bounds : Law → (s : System) (cert : Certificate) → IsWritten s → Fits s cert → (prices : Prices) (counts : Counts)
    → AllWorkFits prices cert.ranges counts s → BoundsAllWork prices cert s counts
bounds law s cert (text, is) fits prices counts paid =
    let l = event_source_spelled in
    let x = is.source_is in
    law l.0 x.0 most_nested most_nested_statements most_nested most_nested_statements event_source is.source s l.2 x.2 (with_event_trees is.source s is.typed) cert fits prices counts paid
