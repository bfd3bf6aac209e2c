-- Source trees of declarations, without where they lie in memory. A number after a word is the place of its token.
-- IEC 61499-1 edition 2, annex B (textual syntax), this project's profile.
use Rattle.std.specs.Prelude.{ℕ, List, Option}
use Rattle.fb_words.specs.declared.elem_type.ElemType.{ElemType}
use Rattle.fb_model.specs.Productions.{Word}
use Rattle.fb_model.specs.Trees.{Constant, StateTree, ParameterTree, ConnectionTree}
use Rattle.fb_model.specs.StructuredText.{Expression, Statements}

-- an event of a block, and the variables that it is WITH
pub record EventTree : Type 0 where
  pub name : Word
  pub carries : List Word

-- the lowest and the highest index of an array
pub record BoundsTree : Type 0 where
  pub low : Constant
  pub high : Constant

-- a start value, with the place of its `:=`
pub record StartTree : Type 0 where
  pub at : ℕ
  pub value : Constant

-- variables of one type
pub record VariableTree : Type 0 where
  pub names : List Word
  pub bounds : Option BoundsTree
  pub type : ElemType
  pub start : Option StartTree

-- a guard, with the place of its `[`
pub record GuardTree : Type 0 where
  pub at : ℕ
  pub condition : Expression

-- a transition without an event and without a guard has the condition 1
pub record TransitionTree : Type 0 where
  pub source : Word
  pub target : Word
  pub event : Option Word
  pub guard : Option GuardTree

pub record AlgorithmTree : Type 0 where
  pub name : Word
  pub body : Statements

-- what a basic block does
pub record ChartTree : Type 0 where
  pub internals : List VariableTree
  pub states : List StateTree
  pub transitions : List TransitionTree
  pub algorithms : List AlgorithmTree

-- an instance, with the types in its square brackets, where it has these, and its parameters
pub record InstanceTree : Type 0 where
  pub name : Word
  pub type : Word
  pub types : Option (List ElemType)
  pub parameters : List ParameterTree

-- what composites and resources are made of
pub record NetworkTree : Type 0 where
  pub instances : List InstanceTree
  pub events : List ConnectionTree
  pub values : List ConnectionTree

pub data BodyTree : Type 0 where
  Chart : (chart : ChartTree) → BodyTree
  Network : (network : NetworkTree) → BodyTree

-- a basic block or a composite
pub record BlockTree : Type 0 where
  pub name : Word
  pub event_inputs : List EventTree
  pub event_outputs : List EventTree
  pub inputs : List VariableTree
  pub outputs : List VariableTree
  pub body : BodyTree

pub record ResourceTree : Type 0 where
  pub name : Word
  pub network : NetworkTree

pub record DeviceTree : Type 0 where
  pub name : Word
  pub resources : List ResourceTree

pub record SystemTree : Type 0 where
  pub name : Word
  pub devices : List DeviceTree

-- a whole text: block types and one system
pub record SourceTree : Type 0 where
  pub blocks : List BlockTree
  pub system : SystemTree
