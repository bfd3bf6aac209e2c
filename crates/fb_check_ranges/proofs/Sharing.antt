-- What was examined of a block, over its tables and in the book.
use Rattle.std.proofs.Common.{◌≡◌, subst, string_bytes}
use Rattle.std.specs.List.{AllByRecursion}
use Rattle.fb_model.specs.Names.{Name}
use Rattle.fb_model.specs.System as book
use Rattle.fb_model.specs.Clear.{Spans}
use Rattle.fb_model.specs.Ranges.{IsClearAlgorithm, IsClearGuard}
use Rattle.fb_cert.specs.declared.certificate.Certificate.{Certificate}
use Rattle.fb_types_blocks.specs.declared.typed.Transition.{Transition}
use Rattle.fb_types_blocks.specs.declared.typed.Block.{Block}
use Rattle.fb_types_blocks.specs.Views.{transition_of, block_of}
use Rattle.st_types.specs.CommandViews.{commands_of}
use Rattle.fb_check_ranges.specs.Clearing.{Procedure, procedure_text, guard_in, rows_of_block, RunsClear}
use Rattle.fb_check_ranges.specs.Examining.{AreClear}
use Rattle.fb_lists.proofs.Lists.{all_source}
use Rattle.fb_check_ranges.proofs.Lists.{all_over}

-- an algorithm as a table has it, in the book
abbrev procedure_of : Procedure → book.Procedure
procedure_of p = record { name = string_bytes p.0; algorithm = commands_of p.1.statements.items }

-- what is clear in the tables is clear in the book
pub clear_shown : (spans : Spans) (k : Block) → AllByRecursion (λ (p : Procedure). IsClearAlgorithm spans (procedure_text p)) k.procedures.entries → AllByRecursion (λ (t : Transition). IsClearGuard spans (guard_in t)) k.transitions.items
    → AreClear spans (block_of k)
clear_shown spans k a g =
    record {
      algorithms = all_over (λ (p : book.Procedure). IsClearAlgorithm spans p.algorithm) procedure_of k.procedures.entries a;
      guards = all_over (λ (t : book.Transition). IsClearGuard spans t.guard) transition_of k.transitions.items g;
    }

-- and the other way round
pub runs_shown : (cert : Certificate) (path : Name) (k : Block) → AreClear (rows_of_block cert path k) (block_of k) → RunsClear cert path k
runs_shown cert path k h =
    let spans = rows_of_block cert path k in
    record {
      algorithms = all_source (λ (p : Procedure). IsClearAlgorithm spans (procedure_text p)) (λ (p : book.Procedure). IsClearAlgorithm spans p.algorithm) procedure_of k.procedures.entries (λ p c. c) h.algorithms;
      guards = all_source (λ (t : Transition). IsClearGuard spans (guard_in t)) (λ (t : book.Transition). IsClearGuard spans t.guard) transition_of k.transitions.items (λ t c. c) h.guards;
    }

-- what is clear of one is clear of another that is alike
pub clear_alike : (r s : Spans) (a b : book.Block) → r ≡ s → a ≡ b → AreClear r a → AreClear s b
clear_alike r s a b rows block h = subst (λ (x : book.Block). AreClear s x) block (subst (λ (x : Spans). AreClear x a) rows h)
