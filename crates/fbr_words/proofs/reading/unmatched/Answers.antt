use Rattle.std.proofs.Common.{◌≡◌, ◌∙◌, sym, inl, inr}
use Rattle.fbr_words.proofs.Entered.{asked_of_fault, fault_in}
use Rattle.clap.specs.declared.error.kind.ErrorKind.TheVariants.{DisplayHelp, DisplayVersion}
use Rattle.fbr_words.proofs.reading.unmatched.Goals as goal

pub returns-in-DisplayHelp : goal.returns-in-DisplayHelp
returns-in-DisplayHelp c = λ words h.
    elim c.in-DisplayHelp.is [
      | inl is ↦ (let k = fault_in words c.args.error DisplayHelp (sym c.kind.ensures ∙ is) (λ e. absurd cc) h in (asked_of_fault words DisplayHelp k, inl k))
      | inr is ↦ (let k = fault_in words c.args.error DisplayVersion (sym c.kind.ensures ∙ is) (λ e. absurd cc) h in (asked_of_fault words DisplayVersion k, inr k))
    ]

pub returns-in_default : goal.returns-in_default
returns-in_default c = λ words h. asked_of_fault words c.kind.result (fault_in words c.args.error c.kind.result (sym c.kind.ensures) c.in_default.not-OutOfMemory h)
