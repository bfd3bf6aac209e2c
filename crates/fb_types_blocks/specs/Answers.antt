-- What the code's answers are in the words of the definitions.
use Rattle.std.specs.Prelude.{◌≡◌, ◌++◌, List, [], ◌∷◌, Bool, not, cond, map, string_bytes, Option, None, Some, Result, Ok, Err}
use Rattle.std.specs.List.{AllByRecursion}
use Rattle.std.specs.declared.string.String.{String}
use Rattle.std.specs.declared.alloc.Global.{Global}
use Rattle.indexmap.specs.IndexMap.{IndexMap}
use Rattle.fb_tree.specs.declared.name.Name.{Name as TextName}
use Rattle.fb_model.specs.Names.{Name, is_in}
use Rattle.fb_model.specs.Declarations.{BlockTree, ChartTree}
use Rattle.fb_model.specs.TextFaults.{Fault, unknown_name, type_mismatch, bad_literal, not_writable}
use Rattle.fb_model.specs.TextTyping.{Symbol}
use Rattle.fb_model.specs.Typing.{typed_state, state_texts}
use Rattle.fb_model.specs.BlockTyping.{IsBasic, IsActionTyped, AreTransitions, AreProcedures, algorithm_texts}
use Rattle.fb_model.specs.System as book
use Rattle.fb_faults.specs.declared.typing.TypeFault.{TypeFault}
use Rattle.fb_faults.specs.declared.typing.TypeFault.TheVariants.{OutOfMemory, UnknownName, TypeMismatch, BadLiteral, NotWritable}
use Rattle.fb_types_blocks.specs.declared.typed.Block.{Block}
use Rattle.fb_types_blocks.specs.Views.{declared_in, block_of}

-- whether a name is new, and the names with it at the end
abbrev pub Extends : List Name → Name → List Name → Bool → Type 0
Extends old name new added = (added ≡ not (is_in name old)) × (new ≡ cond added (old ++ name ∷ []) old)

-- the text of a name that may be left out
abbrev pub text_of : Option TextName → Option Name
text_of None = None
text_of (Some x) = Some (string_bytes x.text)

-- the names of a table's entries, in order
abbrev pub names_in_map : {V S : Type 0} → IndexMap (String Global) V S → List Name
names_in_map m = map (λ p. string_bytes p.0) m.entries

-- what stands under them
abbrev pub pairs_of : {V S : Type 0} → IndexMap (String Global) V S → List (Name × V)
pairs_of m = map (λ p. (string_bytes p.0, p.1)) m.entries

-- what a function that takes no memory returned, seen by view, is what is defined
abbrev pub Gives : {X Y : Type 0} → (X → Y) → Result X TypeFault → Result Y Fault → Type 0
Gives view (Ok x) said = said ≡ Ok (view x)
Gives view (Err (UnknownName at)) said = said ≡ Err (unknown_name at)
Gives view (Err (TypeMismatch at)) said = said ≡ Err (type_mismatch at)
Gives view (Err (BadLiteral at)) said = said ≡ Err (bad_literal at)
Gives view (Err (NotWritable at)) said = said ≡ Err (not_writable at)
Gives view (Err other) said = ⊥

-- it is found, unless memory ran out
abbrev pub Finds : {X Y : Type 0} → (X → Y) → Result X TypeFault → Y → Type 0
Finds view (Ok x) y = view x ≡ y
Finds view (Err OutOfMemory) y = Unit {0}
Finds view (Err other) y = ⊥

-- states, transitions and algorithms are what a chart elaborates to, in a scope, at a block with these event inputs and event outputs
pub record IsChart (env : List Symbol) (inputs outputs : List Name) (c : ChartTree) (ss : List book.State) (ts : List book.Transition) (ps : List book.Procedure) : Type 0 where
  pub actions : AllByRecursion (λ s. AllByRecursion (IsActionTyped (algorithm_texts c.algorithms) outputs) s.actions) c.states
  pub states : ss ≡ map typed_state c.states
  pub transitions : AreTransitions env (state_texts c.states) inputs c.transitions ts
  pub procedures : AreProcedures env c.algorithms ps

-- a block is what its declaration elaborates to, and its variables are those of the declaration
pub record IsTypedBlock (b : BlockTree) (c : ChartTree) (k : Block) : Type 0 where
  pub typed : IsBasic b c (block_of k)
  pub inputs_are : typed.ins ≡ declared_in k.face.inputs
  pub outputs_are : typed.outs ≡ declared_in k.face.outputs
  pub internals_are : typed.inner ≡ declared_in k.internals
