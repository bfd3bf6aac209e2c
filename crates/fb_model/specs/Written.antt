-- Systems that stand in texts.
use Rattle.std.specs.Prelude.{ℕ, List}
use Rattle.fb_model.specs.Declarations.{SourceTree}
use Rattle.fb_model.specs.System.{System}
use Rattle.fb_model.specs.EventBlocks.{Elaborates}
use Rattle.fb_model.specs.Sources.{IsSource}

-- a text stands for a system: it spells a source, which is well typed
pub record IsSystemOf (text : List ℕ) (system : System) : Type 0 where
  pub source : SourceTree
  pub source_is : IsSource text source
  pub typed : Elaborates source system

-- the system stands in a text
abbrev pub IsWritten : System → Type 0
IsWritten system = (text : List ℕ) × IsSystemOf text system
