-- A command and what it comes to.
use Rattle.std.proofs.Common.{◌≡◌, ◌⊎◌, ℕ, zero, suc, List, [], Option, None, Some, Result, Ok, Err, refl, sym, subst, inl, inr}
use Rattle.std.specs.Prelude.{slice_get, IfOk}
use Rattle.std.specs.Io.KnownBytes.{Appends}
use Rattle.fb_model.specs.System.{Device, System}
use Rattle.fb_model.specs.Devices.{Answer}
use Rattle.fb_model.specs.World as book
use Rattle.fb_model.specs.World.{Datagram, Local, At_device, Deliver_datagram, World, Answered, WorldHappens}
use Rattle.fb_model.specs.Certificates.{Certificate}
use Rattle.fb_world.specs.Answers.{steps_of}
use Rattle.fb_world_course.specs.Scenes.{Scene, system_of, cert_of, world_of}
use Rattle.fb_world.specs.declared.answer.RootSteps.{RootSteps}
use Rattle.fb_script.specs.Lines.{Command, Offer, Deliver, Tick, Dispatch, Root}
use Rattle.fb_script.specs.Playing.{Asks, IsUnknown, Plays}
use Rattle.fb_script.specs.Steps.{IsWritten, HasHappened, IsObeyed}
use Rattle.fb_script.specs.Texts.{answer_text, root_text}
use Rattle.fb_script.specs.declared.run.End.{End}
use Rattle.fb_script.specs.declared.run.End.TheVariants.{Line, OutOfMemory}

-- ---- an event that a command asks for

acted : (old new : Scene) (command : Command) (event : book.WorldEvent) (answer : Answer) (sent : Option ℕ) → Asks (system_of old) command event → WorldHappens (system_of old) (cert_of old) (world_of old) event (Answered answer sent) (world_of new)
    → Plays (system_of old) (cert_of old) command (world_of old) (answer_text sent answer) (world_of new)
acted old new (Offer name number values) event answer sent asks h = record { event = event; answer = answer; sent = sent; asks = asks; happens = h; text_is = refl }
acted old new (Deliver number name) event answer sent asks h = record { event = event; answer = answer; sent = sent; asks = asks; happens = h; text_is = refl }
acted old new (Tick name now) event answer sent asks h = record { event = event; answer = answer; sent = sent; asks = asks; happens = h; text_is = refl }
acted old new (Dispatch name resource) event answer sent asks h = record { event = event; answer = answer; sent = sent; asks = asks; happens = h; text_is = refl }
acted old new (Root number) event answer sent asks h = absurd asks

-- at a device that is there nothing is unknown but a datagram
known : (system : System) (cert : Certificate) (old new : World) (d : ℕ) (event : Local) (device : Device) → slice_get system.devices d ≡ Some device → WorldHappens system cert old (At_device d event) book.Unknown new → ⊥
known system cert old new d event device stands h = let e = h.0 in absurd cc

no_datagram : (device : Device) (o : Option Datagram) → book.IsUnknown (Some device) o → o ≡ None
no_datagram device None h = refl
no_datagram device (Some g) h = absurd h

unknown_datagram : (system : System) (cert : Certificate) (old new : World) (number d : ℕ) (device : Device) → slice_get system.devices d ≡ Some device → WorldHappens system cert old (Deliver_datagram number d) book.Unknown new
    → (book.datagram_numbered old.datagrams number ≡ None) × (new ≡ old)
unknown_datagram system cert old new zero d device stands h = (no_datagram device _ (subst (λ o. book.IsUnknown o (book.datagram_numbered old.datagrams zero)) stands h.0), h.1)
unknown_datagram system cert old new (suc n) d device stands h = (no_datagram device _ (subst (λ o. book.IsUnknown o (book.datagram_numbered old.datagrams (suc n))) stands h.0), h.1)

unknown : (old new : Scene) (command : Command) (event : book.WorldEvent) → Asks (system_of old) command event → WorldHappens (system_of old) (cert_of old) (world_of old) event book.Unknown (world_of new)
    → IsUnknown (system_of old) (cert_of old) (world_of old) command × (world_of new ≡ world_of old)
unknown old new (Offer name number values) event asks h =
    absurd (known (system_of old) (cert_of old) (world_of old) (world_of new) asks.0 (book.An_offer number values) asks.1 asks.2.stands (subst (λ e. WorldHappens (system_of old) (cert_of old) (world_of old) e book.Unknown (world_of new)) asks.3 h))
unknown old new (Deliver number name) event asks h =
    let u = unknown_datagram (system_of old) (cert_of old) (world_of old) (world_of new) number asks.0 asks.1 asks.2.stands (subst (λ e. WorldHappens (system_of old) (cert_of old) (world_of old) e book.Unknown (world_of new)) asks.3 h) in
    (inr u.0, u.1)
unknown old new (Tick name now) event asks h =
    absurd (known (system_of old) (cert_of old) (world_of old) (world_of new) asks.0 (book.A_tick now) asks.1 asks.2.stands (subst (λ e. WorldHappens (system_of old) (cert_of old) (world_of old) e book.Unknown (world_of new)) asks.3 h))
unknown old new (Dispatch name resource) event asks h =
    absurd (known (system_of old) (cert_of old) (world_of old) (world_of new) asks.0 (book.A_dispatch asks.3.0) asks.1 asks.2.stands (subst (λ e. WorldHappens (system_of old) (cert_of old) (world_of old) e book.Unknown (world_of new)) asks.3.2 h))
unknown old new (Root number) event asks h = absurd asks

-- the script ends there
ends : (old new : Scene) (command : Command) (event : book.WorldEvent) (n : ℕ) (before after : Option (List ℕ)) (end : End) → Asks (system_of old) command event → Appends before after []
    → ((end ≡ OutOfMemory) × (world_of new ≡ world_of old)) ⊎ ((end ≡ Line n) × WorldHappens (system_of old) (cert_of old) (world_of old) event book.Unknown (world_of new)) → IsObeyed old command n before after (Some end) new
ends old new command event n before after end asks still (inl m) = (inl m.0, (still, m.1))
ends old new command event n before after end asks still (inr m) = let u = unknown old new command event asks m.1 in (inr (u.0, m.0), (still, u.1))

-- what happened is what the command is to come to
obeyed : (old new : Scene) (command : Command) (event : book.WorldEvent) (n : ℕ) (before after : Option (List ℕ)) (end : Option End) → Asks (system_of old) command event → HasHappened old event n before after end new → IsObeyed old command n before after end new
obeyed old new command event n before after None asks h = (answer_text h.1 h.0, acted old new command event h.0 h.1 asks h.2, h.3)
obeyed old new command event n before after (Some end) asks h = ends old new command event n before after end asks h.1 h.0

pub if_obeyed : {E : Type 0} (old new : Scene) (command : Command) (event : book.WorldEvent) (n : ℕ) (before after : Option (List ℕ)) (r : Result (Option End) E) → Asks (system_of old) command event
    → IfOk r (λ end. HasHappened old event n before after end new) → IfOk r (λ end. IsObeyed old command n before after end new)
if_obeyed old new command event n before after (Ok end) asks h = obeyed old new command event n before after end asks h
if_obeyed old new command event n before after (Err e) asks h = h

-- ---- what is written

pub root_told : (old : Scene) (command : Command) (n root : ℕ) (told : RootSteps) (before after : Option (List ℕ)) → command ≡ Root root → book.root_steps (cert_of old) (world_of old) root ≡ Some (steps_of told)
    → IsWritten (root_text root (steps_of told)) before after → IsObeyed old command n before after None old
root_told old command n root told before after is steps w = subst (λ c. IsObeyed old c n before after None old) (sym is) (root_text root (steps_of told), (steps_of told, steps, refl, refl), w)
