-- When the rows of a block are clear, over its tables.
use Rattle.std.specs.Prelude.{◌≡◌, ◌⊎◌, List, Option, string_bytes}
use Rattle.std.specs.Option.{option_map}
use Rattle.std.specs.List.{AllByRecursion}
use Rattle.std.specs.declared.string.String.{String}
use Rattle.std.specs.declared.alloc.Global.{Global}
use Rattle.fb_model.specs.Names.{Name}
use Rattle.fb_model.specs.Language.{Guard, Algorithm}
use Rattle.fb_model.specs.Clear.{Spans, Leaves, Traps, examined}
use Rattle.fb_model.specs.Ranges.{IsClearGuard, IsClearAlgorithm}
use Rattle.fb_model.specs.Wires as wires
use Rattle.fb_model.specs.Wires.{Charted}
use Rattle.fb_cert.specs.declared.certificate.Certificate.{Certificate}
use Rattle.fb_flat.specs.declared.flat.Leaf.{Leaf}
use Rattle.fb_types_blocks.specs.declared.typed.Transition.{Transition}
use Rattle.fb_types_blocks.specs.declared.typed.Block.{Block}
use Rattle.fb_types_blocks.specs.Views.{block_of}
use Rattle.st_types.specs.declared.whole.Algo.{Algo}
use Rattle.st_types.specs.Views.{term_of}
use Rattle.st_types.specs.CommandViews.{commands_of}
use Rattle.fb_check_ranges.specs.Rows.{rows_in}
use Rattle.fb_check_ranges.specs.Reasons.{Lacks, OneFails}
use Rattle.fb_model.specs.Misfits.{Reason, Starts, Links, Keeps, Divides, GuardFails}
use Rattle.fb_check_ranges.specs.Beginning.{NamedVariable, entry_name, shown, InputBegins, OtherBegins, LinkLies}

-- ---- algorithms and guards

-- an algorithm leaves a row, or traps
abbrev pub AlgorithmFails : Spans → Algorithm → Reason → Type 0
AlgorithmFails rows a Starts = ⊥
AlgorithmFails rows a Links = ⊥
AlgorithmFails rows a Keeps = examined rows a ≡ Leaves
AlgorithmFails rows a Divides = examined rows a ≡ Traps

-- an algorithm of the tables: its name, and its statements
abbrev pub Procedure : Type 0
Procedure = String Global × Algo

abbrev pub procedure_name : Procedure → Name
procedure_name p = string_bytes p.0

abbrev pub procedure_text : Procedure → Algorithm
procedure_text p = commands_of p.1.statements.items

abbrev pub guard_in : Transition → Option Guard
guard_in t = option_map term_of t.guard

-- ---- a block

abbrev pub rows_of_block : Certificate → Name → Block → Spans
rows_of_block cert path k = rows_in cert path (Charted (block_of k))

abbrev pub InputFails : Certificate → Name → (Name → wires.Source) → NamedVariable → Reason → Type 0
InputFails cert path source e = Lacks Starts (InputBegins cert path source (shown e))

abbrev pub OtherFails : Certificate → Name → NamedVariable → Reason → Type 0
OtherFails cert path e = Lacks Starts (OtherBegins cert path (shown e))

abbrev pub LinkFails : Certificate → Name → List Leaf → (Name → wires.Source) → NamedVariable → Reason → Type 0
LinkFails cert path ls source e = Lacks Links (LinkLies cert path ls source (shown e))

-- the rows of a block's variables lie in their types and hold what these have at first, where its inputs have these sources
pub record VariablesBegin (cert : Certificate) (path : Name) (source : Name → wires.Source) (k : Block) : Type 0 where
  pub inputs : AllByRecursion (λ (e : NamedVariable). InputBegins cert path source (shown e)) k.face.inputs.entries
  pub outputs : AllByRecursion (λ (e : NamedVariable). OtherBegins cert path (shown e)) k.face.outputs.entries
  pub internals : AllByRecursion (λ (e : NamedVariable). OtherBegins cert path (shown e)) k.internals.entries

-- a variable of this name fails
abbrev pub VariableFails : Certificate → Name → (Name → wires.Source) → Block → Reason → Name → Type 0
VariableFails cert path source k reason x =
    OneFails entry_name (InputFails cert path source) k.face.inputs.entries reason x
    ⊎ OneFails entry_name (OtherFails cert path) k.face.outputs.entries reason x
    ⊎ OneFails entry_name (OtherFails cert path) k.internals.entries reason x

-- the algorithms and guards of a block are clear
pub record RunsClear (cert : Certificate) (path : Name) (k : Block) : Type 0 where
  pub algorithms : AllByRecursion (λ (p : Procedure). IsClearAlgorithm (rows_of_block cert path k) (procedure_text p)) k.procedures.entries
  pub guards : AllByRecursion (λ (t : Transition). IsClearGuard (rows_of_block cert path k) (guard_in t)) k.transitions.items

-- an algorithm of this name fails, or a guard of a transition from a state of this name
abbrev pub RunFails : Certificate → Name → Block → Reason → Name → Type 0
RunFails cert path k reason x =
    OneFails procedure_name (λ p. AlgorithmFails (rows_of_block cert path k) (procedure_text p)) k.procedures.entries reason x
    ⊎ OneFails (λ (t : Transition). string_bytes t.source) (λ t. GuardFails (rows_of_block cert path k) (guard_in t)) k.transitions.items reason x

-- the rows of a block are clear
pub record ChartLies (cert : Certificate) (path : Name) (ls : List Leaf) (source : Name → wires.Source) (k : Block) : Type 0 where
  pub variables : VariablesBegin cert path source k
  pub links : AllByRecursion (λ (e : NamedVariable). LinkLies cert path ls source (shown e)) k.face.inputs.entries
  pub runs : RunsClear cert path k

-- something of this name in the block fails
abbrev pub BlockFails : Certificate → Name → List Leaf → (Name → wires.Source) → Block → Reason → Name → Type 0
BlockFails cert path ls source k reason x =
    VariableFails cert path source k reason x ⊎ OneFails entry_name (LinkFails cert path ls source) k.face.inputs.entries reason x ⊎ RunFails cert path k reason x
