-- Faults of texts as refusals, and what stands in texts.
use Rattle.std.proofs.Common.{◌≡◌, ℕ, List, subst, sym, refl, Result, Ok, Err}
use Rattle.std.specs.Prelude.{IfOk, OnOk}
use Rattle.fb_model.specs.Certificates as book
use Rattle.fb_model.specs.CertificateText.{Spells}
use Rattle.fb_model.specs.Declarations.{SourceTree}
use Rattle.fb_model.specs.System.{System}
use Rattle.fb_model.specs.EventBlocks.{Elaborates}
use Rattle.fb_faults.specs.declared.text.TextFault.{TextFault}
use Rattle.fb_faults.specs.declared.text.TextFault.TheVariants as texts
use Rattle.fb_faults.specs.declared.typing.TypeFault.{TypeFault}
use Rattle.fb_faults.specs.declared.typing.TypeFault.TheVariants as faults
use Rattle.fb_types_networks.specs.Answers.{Finds as FindsTyped}
use Rattle.fb_model.specs.SourceFaults.{IsRefused}
use Rattle.fb_faults.specs.declared.certificate.CertFault.{CertFault}
use Rattle.fb_faults.specs.declared.certificate.CertFault.TheVariants as certs
use Rattle.fb_cert.specs.Answers.{Finds}
use Rattle.fb_model.specs.RefusedCertificates.{Refuses}
use Rattle.fb_model.specs.Sources.{IsSource}
use Rattle.fb_text.specs.Answers.{ReadsText, FindsTree}
use Rattle.fb_model.specs.RefusedTexts.{IsRefusal}
use Rattle.fb_text_laws.proofs.Answered.{answers_are_so}
use Rattle.fb_verified.specs.Checked.{Checked, system_in, certificate_in}
use Rattle.fb_faults.specs.declared.refusal.Refusal.{Refusal}
use Rattle.fb_faults.specs.declared.refusal.Refusal.TheVariants.{OutOfMemory, Text, Typing, Certificate as Spelling, UnknownRow, MissingRow, UnknownChannel, MissingChannel, RangeStart, RangeLink, RangeKept, IndexOrDivisor, Charge, Weight, Depth, Far, Channel}
use Rattle.fb_faults.specs.Refusals.{of_text, of_type, of_certificate}
use Rattle.fb_model.specs.Certificates.{Fits}
use Rattle.fb_types.specs.declared.typed.Configuration.{Configuration}
use Rattle.fb_types.specs.Views.{system_of, system_offsets, all_offsets}
use Rattle.fb_model.specs.Written.{IsSystemOf}
use Rattle.fb_verdict.specs.Verdicts.{IsTypedOf, IsOfTexts}
use Rattle.fb_model.specs.Verdicts.{IsTypingFault, IsTextFault, IsCertificateFault}

pub typing_fault : (source : SourceTree) (f : TypeFault) → IsRefused source f → IsTypingFault source (of_type f)
typing_fault source faults.OutOfMemory h = tt
typing_fault source (faults.UnknownName at) h = h
typing_fault source (faults.DuplicateName at) h = h
typing_fault source (faults.TypeMismatch at) h = h
typing_fault source (faults.BadLiteral at) h = h
typing_fault source (faults.NotWritable at) h = h
typing_fault source (faults.BadConnection at) h = h
typing_fault source (faults.TwoSources at) h = h
typing_fault source (faults.BadService at) h = h
typing_fault source (faults.RecursiveComposite at) h = h
typing_fault source (faults.Limit at) h = h
typing_fault source (faults.ChannelShape at) h = h

told : (text : List ℕ) (f : TextFault) → IsRefusal text f → IsTextFault text (of_text f)
told text texts.OutOfMemory h = tt
told text (texts.BadCharacter at) h = h
told text (texts.BigNumber at) h = h
told text texts.TooLong h = h
told text (texts.Syntax at) h = h
told text (texts.TooDeep at) h = h

pub text_fault : (text : List ℕ) (f : TextFault) → ReadsText text (Err f) → IsTextFault text (of_text f)
text_fault text f h = told text f (answers_are_so text (Err f) h)

pub certificate_fault : (text : List ℕ) (f : CertFault) → Refuses text f → IsCertificateFault text (of_certificate f)
certificate_fault text certs.OutOfMemory h = tt
certificate_fault text certs.TooLong h = h
certificate_fault text (certs.Row line) h = h
certificate_fault text (certs.DuplicateRow line) h = h

-- a fault of a tree is one of its text
pub tree_fault : (text : List ℕ) (source : SourceTree) (f : Refusal) → IsSource text source → IsTypingFault source f → IsTextFault text f
tree_fault text source OutOfMemory s h = tt
tree_fault text source (Typing x) s h = (source, s, h)
tree_fault text source (Text x) s h = absurd h
tree_fault text source (Spelling x) s h = absurd h
tree_fault text source (UnknownRow x) s h = absurd h
tree_fault text source (MissingRow x) s h = absurd h
tree_fault text source (RangeStart x) s h = absurd h
tree_fault text source (RangeLink x) s h = absurd h
tree_fault text source (RangeKept x) s h = absurd h
tree_fault text source (IndexOrDivisor x) s h = absurd h
tree_fault text source (Charge x) s h = absurd h
tree_fault text source (Weight x) s h = absurd h
tree_fault text source (Depth x) s h = absurd h
tree_fault text source (Far x) s h = absurd h
tree_fault text source (Channel c) s h = absurd h
tree_fault text source (UnknownChannel c) s h = absurd h
tree_fault text source (MissingChannel c) s h = absurd h

-- where the tree is found unless memory runs out, a fault is that memory ran out
pub no_memory : (f : TextFault) (source : SourceTree) → FindsTree (Err f) source → of_text f ≡ OutOfMemory
no_memory texts.OutOfMemory source h = refl
no_memory (texts.BadCharacter at) source h = absurd h
no_memory (texts.BigNumber at) source h = absurd h
no_memory texts.TooLong source h = absurd h
no_memory (texts.Syntax at) source h = absurd h
no_memory (texts.TooDeep at) source h = absurd h

-- the same of a source tree
pub no_space : {X Y : Type 0} (view : X → Y) (f : TypeFault) (y : Y) → FindsTyped view (Err f) y → of_type f ≡ OutOfMemory
no_space view faults.OutOfMemory y h = refl
no_space view (faults.UnknownName at) y h = absurd h
no_space view (faults.DuplicateName at) y h = absurd h
no_space view (faults.TypeMismatch at) y h = absurd h
no_space view (faults.BadLiteral at) y h = absurd h
no_space view (faults.NotWritable at) y h = absurd h
no_space view (faults.BadConnection at) y h = absurd h
no_space view (faults.TwoSources at) y h = absurd h
no_space view (faults.BadService at) y h = absurd h
no_space view (faults.RecursiveComposite at) y h = absurd h
no_space view (faults.Limit at) y h = absurd h
no_space view (faults.ChannelShape at) y h = absurd h

-- the same of a certificate's text
pub no_room : {X Y : Type 0} (view : X → Y) (f : CertFault) (y : Y) → Finds view (Err f) y → of_certificate f ≡ OutOfMemory
no_room view certs.OutOfMemory y h = refl
no_room view certs.TooLong y h = absurd h
no_room view (certs.Row line) y h = absurd h
no_room view (certs.DuplicateRow line) y h = absurd h

-- a source that is the same is well typed alike
pub along : (x y : SourceTree) (system : System) → x ≡ y → Elaborates y system → Elaborates x system
along x y system e h = subst (λ s. Elaborates s system) (sym e) h

-- what is typed of a text has the offsets of its names
pub typed_of : (text : List ℕ) (source : SourceTree) (r : Result Configuration Refusal) → IsSource text source → IfOk r (λ t. Elaborates source (system_of t))
    → IfOk r (λ t. system_offsets t.devices.items ≡ all_offsets source.system.devices) → IfOk r (IsTypedOf text)
typed_of text source (Ok t) is typed offsets = record { system_is = record { source = source; source_is = is; typed = typed }; offsets = offsets }
typed_of text source (Err f) is typed offsets = tt

-- what is verified of a system and a certificate that stand in texts
pub accepted_by : (text certificate : List ℕ) (system : System) (rows : book.Certificate) (r : Result Checked Refusal) → IsSystemOf text system → Spells certificate rows
    → IfOk r (λ v. (system_in v ≡ system) × (certificate_in v ≡ rows)) → OnOk r (Fits system rows) → IfOk r (IsOfTexts text certificate)
accepted_by text certificate system rows (Ok v) s c same fits =
    record {
      system_is = subst (IsSystemOf text) (sym same.0) s;
      certificate_is = subst (Spells certificate) (sym same.1) c;
      fits = subst (λ x. Fits x (certificate_in v)) (sym same.0) (subst (Fits system) (sym same.1) fits);
    }
accepted_by text certificate system rows (Err f) s c same fits = tt
