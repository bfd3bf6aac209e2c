-- What typing leaves of the charts of a system: which of their variables are arrays, and algorithms and guards that use them so.
-- IEC 61131-3 edition 3, 6.4.4 (arrays) and 7.3.3 (statements), this project's profile.
use Rattle.std.specs.Prelude.{ℕ, ◌≡◌, true, List, ◌++◌, Option, None, Some}
use Rattle.std.specs.List.{AllByRecursion}
use Rattle.std.specs.Option.{option_map}
use Rattle.fb_model.specs.Names.{Name, is_in}
use Rattle.fb_model.specs.Language.{Guard}
use Rattle.fb_model.specs.System.{Transition, Procedure, Block}
use Rattle.fb_model.specs.BlockTyping.{extent}
use Rattle.fb_model.specs.Wires.{Charted}
use Rattle.fb_model.specs.Store.{variable_names}
use Rattle.fb_model.specs.Ranges.{variables, length_in}
use Rattle.fb_model.specs.Shapes.{Shape, TermFits, AlgorithmFits, written}

-- there is no guard, or it reads variables as they are
abbrev pub GuardFits : Shape → Option Guard → Type 0
GuardFits shape None = Unit {0}
GuardFits shape (Some g) = TermFits shape g

-- these are names of outputs and internal variables
abbrev pub AreOwn : Block → List Name → Type 0
AreOwn block xs = AllByRecursion (λ x. is_in x (variable_names (block.outputs ++ block.internals)) ≡ true) xs

-- the variables have this shape, algorithms and guards use them so, and no algorithm writes an input
pub record IsShaped (block : Block) (shape : Shape) : Type 0 where
  pub lengths : (x : Name) → length_in (variables (Charted block)) x ≡ option_map extent (shape x)
  pub algorithms : AllByRecursion (λ (p : Procedure). AlgorithmFits shape p.algorithm) block.procedures
  pub guards : AllByRecursion (λ (t : Transition). GuardFits shape t.guard) block.transitions
  pub writes : AllByRecursion (λ (p : Procedure). AreOwn block (written p.algorithm)) block.procedures

abbrev pub IsShapely : Block → Type 0
IsShapely block = (shape : Shape) × IsShaped block shape
