-- The device that is asked for, and what is told of it.
use Rattle.std.proofs.Common.{◌≡◌, ◌∙◌, ℕ, inl, inr, List, [], sym, ap, subst, Option, Some, None, Result, Ok, Err, IfOk}
use Rattle.std.specs.Prelude.{slice_get, MatchResult}
use Rattle.fb_model.specs.System.{Device}
use Rattle.fb_model.specs.Messages.{Stamp}
use Rattle.fb_model.specs.Devices.{silent, at_first}
use Rattle.fb_verified.specs.Checked.{system_in}
use Rattle.fb_verdict.specs.Verdicts.{IsOfTexts}
use Rattle.fb_device_state.specs.Sessions.{Session}
use Rattle.fb_device_state.specs.Machines.{device_in, machine_of}
use Rattle.fbr_files.specs.declared.fault.Fault.{Fault}
use Rattle.fbr_files.specs.declared.fault.Fault.TheVariants as faults
use Rattle.fbr_files.specs.Outcomes.{Tells, refusal, IsContents, IsReadFault}
use Rattle.fbr_words.specs.Program.{Service}
use Rattle.fbr_files.specs.Reading.{held_by}
use Rattle.fbr_files.specs.Writing.{Holdings}
use Rattle.fbr_serve.specs.Serving.{IsTextsReady, IsFilesReady, IsFilesDevice, IsTextsFault, IsFilesFault, TakesBoot, HasNoBoot, SealsAt, TakesSeals, HasNoSeals, TellsBy, TellsServe, no_boot, no_device, no_seals, a_device, HasNoRecord, no_record}

-- ---- the files

pub first_unread : (q : Service) (held_app held_cert : Option (List ℕ)) (f : Fault) → IsReadFault q.app f → IsFilesFault q held_app held_cert f
first_unread q held_app held_cert faults.Memory h = tt
first_unread q held_app held_cert (faults.File name) h = inl h
first_unread q held_app held_cert faults.Input h = absurd h
first_unread q held_app held_cert (faults.Line n) h = absurd h
first_unread q held_app held_cert faults.Usage h = absurd h
first_unread q held_app held_cert (faults.Refused r) h = absurd h
first_unread q held_app held_cert (faults.Unbound r) h = absurd h
first_unread q held_app held_cert (faults.Device name) h = absurd h
first_unread q held_app held_cert faults.LinkDown h = absurd h
first_unread q held_app held_cert (faults.Socket port) h = absurd h

pub second_unread : (q : Service) (held_app held_cert : Option (List ℕ)) (f : Fault) → IsReadFault q.cert f → IsFilesFault q held_app held_cert f
second_unread q held_app held_cert faults.Memory h = tt
second_unread q held_app held_cert (faults.File name) h = inr h
second_unread q held_app held_cert faults.Input h = absurd h
second_unread q held_app held_cert (faults.Line n) h = absurd h
second_unread q held_app held_cert faults.Usage h = absurd h
second_unread q held_app held_cert (faults.Refused r) h = absurd h
second_unread q held_app held_cert (faults.Unbound r) h = absurd h
second_unread q held_app held_cert (faults.Device name) h = absurd h
second_unread q held_app held_cert faults.LinkDown h = absurd h
second_unread q held_app held_cert (faults.Socket port) h = absurd h

pub texts_at_fault : (q : Service) (held_app held_cert : Option (List ℕ)) (app cert : List ℕ) (f : Fault) → IsContents held_app app → IsContents held_cert cert → IsTextsFault app cert q.device f → IsFilesFault q held_app held_cert f
texts_at_fault q held_app held_cert app cert faults.Memory a c h = tt
texts_at_fault q held_app held_cert app cert (faults.File name) a c h = absurd h
texts_at_fault q held_app held_cert app cert faults.Input a c h = absurd h
texts_at_fault q held_app held_cert app cert (faults.Line n) a c h = absurd h
texts_at_fault q held_app held_cert app cert faults.Usage a c h = absurd h
texts_at_fault q held_app held_cert app cert (faults.Refused r) a c h = (app, cert, a, c, h)
texts_at_fault q held_app held_cert app cert (faults.Unbound r) a c h = absurd h
texts_at_fault q held_app held_cert app cert (faults.Device name) a c h = (app, cert, a, c, h)
texts_at_fault q held_app held_cert app cert faults.LinkDown a c h = absurd h
texts_at_fault q held_app held_cert app cert (faults.Socket port) a c h = absurd h

-- what is loaded of the texts that two files hold is loaded of the files
pub files_loaded : (q : Service) (boot : ℕ) (held_app held_cert : Option (List ℕ)) (app cert : List ℕ) (r : Result Session Fault) → IsContents held_app app → IsContents held_cert cert
    → MatchResult r (IsTextsReady q boot app cert) (IsTextsFault app cert q.device) → MatchResult r (IsFilesReady q boot held_app held_cert) (IsFilesFault q held_app held_cert)
files_loaded q boot held_app held_cert app cert (Ok s) a c h = (app, cert, a, c, h)
files_loaded q boot held_app held_cert app cert (Err f) a c h = texts_at_fault q held_app held_cert app cert f a c h

-- ---- the device

-- a device that is ready starts
pub started : (q : Service) (boot : ℕ) (held_app held_cert : Option (List ℕ)) (s t : Session) → IsFilesReady q boot held_app held_cert s
    → ((first : ℕ) (stamp : Stamp) → machine_of s ≡ silent (device_in s) first stamp → machine_of t ≡ at_first (device_in s) first stamp)
    → t.verified ≡ s.verified → t.number ≡ s.number → IsFilesDevice q boot held_app held_cert t
started q boot held_app held_cert s t h first v n =
    let app = h.0 in
    let cert = h.1 in
    let r = h.4 in
    let stamp : Stamp = record { boot = boot; sequence = 1 } in
    let device : device_in s ≡ r.device = ap (λ o. elim o [ None ↦ record { name = []; resources = [] } | Some d ↦ d ]) r.stands in
    let machine : machine_of t ≡ at_first (device_in s) 1 stamp = first 1 stamp (r.silent ∙ ap (λ (d : Device). silent d 1 stamp) (sym device)) in (
      app,
      cert,
      h.2,
      h.3,
      record {
        texts = subst (λ w. IsOfTexts app cert w) (sym v) r.texts;
        device = r.device;
        stands = ap (λ w. slice_get (system_in w).devices t.number) v ∙ ap (λ k. slice_get (system_in s.verified).devices k) n ∙ r.stands;
        named = r.named;
        first = machine ∙ ap (λ (d : Device). at_first d 1 stamp) device;
      },
    )

-- ---- what is told

pub refused_served : {E : Type 0} (q : Service) (before booted after : Holdings) (boot : ℕ) (f : Fault) (old new : Option (List ℕ)) (r : Result ℕ E) → TakesBoot q.life.boot before booted boot
    → IsFilesFault q (held_by q.meant (before q.app)) (before q.cert) f → IfOk r (λ status. Tells (refusal f) old new status) → IfOk r (λ status. TellsServe q before booted after old new status)
refused_served q before booted after boot f old new (Ok status) taken is h = no_device boot taken f is h
refused_served q before booted after boot f old new (Err e) taken is h = tt

pub unbooted_served : {E : Type 0} (q : Service) (before booted after : Holdings) (f : Fault) (old new : Option (List ℕ)) (r : Result ℕ E) → HasNoBoot q.life.boot before booted f
    → IfOk r (λ status. Tells (refusal f) old new status) → IfOk r (λ status. TellsServe q before booted after old new status)
unbooted_served q before booted after f old new (Ok status) is h = no_boot f is h
unbooted_served q before booted after f old new (Err e) is h = tt

pub unsealed_served : {E : Type 0} (q : Service) (before booted after : Holdings) (boot : ℕ) (f : Fault) (old new : Option (List ℕ)) (r : Result ℕ E) → TakesBoot q.life.boot before booted boot
    → HasNoSeals q.guard f → IfOk r (λ status. Tells (refusal f) old new status) → IfOk r (λ status. TellsServe q before booted after old new status)
unsealed_served q before booted after boot f old new (Ok status) taken is h = no_seals boot taken f is h
unsealed_served q before booted after boot f old new (Err e) taken is h = tt

pub device_served : {E : Type 0} (q : Service) (before booted after : Holdings) (boot : ℕ) (a : Option SealsAt) (s : Session) (old new : Option (List ℕ)) (r : Result ℕ E)
    → TakesBoot q.life.boot before booted boot → TakesSeals q.guard booted after a → IsFilesDevice q boot (held_by q.meant (before q.app)) (before q.cert) s → IfOk r (λ status. TellsBy q a s old new status)
    → IfOk r (λ status. TellsServe q before booted after old new status)
device_served q before booted after boot a s old new (Ok status) taken seals is h = a_device boot taken a seals s is h
device_served q before booted after boot a s old new (Err e) taken seals is h = tt

pub unrecorded_served : {E : Type 0} (q : Service) (before booted after : Holdings) (boot : ℕ) (f : Fault) (old new : Option (List ℕ)) (r : Result ℕ E) → TakesBoot q.life.boot before booted boot
    → HasNoRecord q.life.recorded f → IfOk r (λ status. Tells (refusal f) old new status) → IfOk r (λ status. TellsServe q before booted after old new status)
unrecorded_served q before booted after boot f old new (Ok status) taken is h = no_record boot taken f is h
unrecorded_served q before booted after boot f old new (Err e) taken is h = tt
