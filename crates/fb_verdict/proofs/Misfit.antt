-- How a certificate does not fit, said of the texts.
use Rattle.std.proofs.Common.{ℕ, List}
use Rattle.fb_model.specs.System.{System}
use Rattle.fb_model.specs.Certificates.{Certificate}
use Rattle.fb_model.specs.CertificateText.{Spells}
use Rattle.fb_model.specs.Misfits.{IsLimit, IsMisfit}
use Rattle.fb_model.specs.SourceFaults.{SomeCrowded}
use Rattle.fb_model.specs.Verdicts.{IsMisfitOf}
use Rattle.fb_faults.specs.declared.typing.TypeFault.{TypeFault}
use Rattle.fb_faults.specs.declared.typing.TypeFault.TheVariants as faults
use Rattle.fb_faults.specs.declared.refusal.Refusal.{Refusal}
use Rattle.fb_faults.specs.declared.refusal.Refusal.TheVariants.{OutOfMemory, Text, Typing, Certificate as Spelling, UnknownRow, MissingRow, UnknownChannel, MissingChannel, RangeStart, RangeLink, RangeKept, IndexOrDivisor, Charge, Weight, Depth, Far, Channel}
use Rattle.fb_types.specs.declared.typed.Configuration.{Configuration}
use Rattle.fb_types.specs.Views.{system_of}
use Rattle.fb_flat.proofs.Crowding.{devices_crowded}
use Rattle.fb_verdict.specs.Faults.{Crowds, IsFitFault}
use Rattle.fb_verdict.specs.Verdicts.{IsTypedOf}

limit_weaker : (P Q : ℕ → Type 0) (f : TypeFault) → ((at : ℕ) → P at → Q at) → IsLimit P f → IsLimit Q f
limit_weaker P Q (faults.Limit at) w h = w at h
limit_weaker P Q faults.OutOfMemory w h = absurd h
limit_weaker P Q (faults.UnknownName at) w h = absurd h
limit_weaker P Q (faults.DuplicateName at) w h = absurd h
limit_weaker P Q (faults.TypeMismatch at) w h = absurd h
limit_weaker P Q (faults.BadLiteral at) w h = absurd h
limit_weaker P Q (faults.NotWritable at) w h = absurd h
limit_weaker P Q (faults.BadConnection at) w h = absurd h
limit_weaker P Q (faults.TwoSources at) w h = absurd h
limit_weaker P Q (faults.BadService at) w h = absurd h
limit_weaker P Q (faults.RecursiveComposite at) w h = absurd h
limit_weaker P Q (faults.ChannelShape at) w h = absurd h

-- the places of crowded resources are those of others too
misfit_weaker : (P Q : ℕ → Type 0) (s : System) (cert : Certificate) (f : Refusal) → ((at : ℕ) → P at → Q at) → IsMisfit P s cert f → IsMisfit Q s cert f
misfit_weaker P Q s cert OutOfMemory w h = tt
misfit_weaker P Q s cert (Text x) w h = absurd h
misfit_weaker P Q s cert (Typing x) w h = limit_weaker P Q x w h
misfit_weaker P Q s cert (Spelling x) w h = absurd h
misfit_weaker P Q s cert (UnknownRow path) w h = h
misfit_weaker P Q s cert (MissingRow path) w h = h
misfit_weaker P Q s cert (UnknownChannel c) w h = h
misfit_weaker P Q s cert (MissingChannel c) w h = h
misfit_weaker P Q s cert (RangeStart path) w h = h
misfit_weaker P Q s cert (RangeLink path) w h = h
misfit_weaker P Q s cert (RangeKept path) w h = h
misfit_weaker P Q s cert (IndexOrDivisor path) w h = h
misfit_weaker P Q s cert (Charge path) w h = h
misfit_weaker P Q s cert (Weight path) w h = h
misfit_weaker P Q s cert (Depth path) w h = h
misfit_weaker P Q s cert (Far path) w h = h
misfit_weaker P Q s cert (Channel c) w h = h

-- so it is of the texts
pub of_texts : (text certificate : List ℕ) (typed : Configuration) (rows : Certificate) (f : Refusal) → IsTypedOf text typed → Spells certificate rows → IsFitFault typed rows f → IsMisfitOf text certificate f
of_texts text certificate typed rows f t r h =
    record {
      system = system_of typed;
      rows = rows;
      system_is = t.system_is;
      certificate_is = r;
      fault =
          misfit_weaker (Crowds typed) (SomeCrowded t.system_is.source.system.devices (system_of typed).devices) (system_of typed) rows f
          (λ at k. devices_crowded t.system_is.source.system.devices typed.devices.items at t.offsets k) h;
    }
