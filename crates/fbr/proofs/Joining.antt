-- From what was added, one file behind another, to what files are together.
use Rattle.std.proofs.Common.{◌≡◌, ℕ, List, subst, sym, inl, inr}
use Rattle.fbr_files.specs.declared.fault.Fault.{Fault}
use Rattle.fbr_files.specs.declared.fault.Fault.TheVariants.{Memory}
use Rattle.fbr_files.specs.Writing.{Holdings}
use Rattle.fbr_texts.specs.Once.{Written, nothing}
use Rattle.fbr_texts.specs.Parts.{Start}
use Rattle.fbr.specs.Together.{AreFilesAdded, IsApplicationAdded, IsJoined, IsJoinFault, IsOwnFault}

-- block types of files and an application behind them are one text
pub joined_in : (before : Holdings) (names : List (List ℕ)) (app : List ℕ) (types all : Written) → AreFilesAdded before names nothing types → IsApplicationAdded (before app) app types all
    → (text : List ℕ) (parts : List Start) → text ≡ all.bytes → parts ≡ all.parts → IsJoined before names app text parts
joined_in before names app types all added last text parts t p = record { types = types; all = all; added = added; last = last; text_is = t; parts_are = p }

-- memory may run out of behind the last
pub memory_in : (before : Holdings) (names : List (List ℕ)) (app : List ℕ) (fault : Fault) (own : List ℕ) → fault ≡ Memory → own ≡ app → IsJoinFault before names app fault own
memory_in before names app fault own f o = inr (subst (λ e. IsOwnFault (before app) app e) (sym f) (inl tt), o)
