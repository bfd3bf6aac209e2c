-- A resource that follows too many connections is told of by its path.
use Rattle.std.proofs.Common.{◌≡◌, ◌<◌, ℕ, ap, subst, ◌∙◌, List, [], ◌∷◌, Option, length, get_or, string_bytes, Contains}
use Rattle.std.specs.List.{AllByRecursion, Any}
use Rattle.fb_model.specs.Names.{Name}
use Rattle.fb_model.specs.Spelling.{IsWord}
use Rattle.fb_model.specs.System as book
use Rattle.fb_model.specs.CertificateText.{names_in}
use Rattle.fb_model_laws.specs.Words.{IsWordyDevice}
use Rattle.fb_model.specs.Written.{IsWritten}
use Rattle.fb_verified.proofs.Written.{words}
use Rattle.fb_flat.proofs.Dotted.{names_back}
use Rattle.fb_types.specs.declared.typed.Configuration.{Configuration}
use Rattle.fb_types.specs.declared.typed.Device.{Device}
use Rattle.fb_types.specs.declared.typed.Resource.{Resource}
use Rattle.fb_types.specs.Views.{device_of, resource_of, system_of}
use Rattle.fb_check_rows.proofs.Loops.{any_in}
use Rattle.fb_faults.specs.declared.no_bound.NoBound.{NoBound}
use Rattle.fb_faults.specs.declared.no_bound.NoBound.TheVariants.{OutOfMemory, Cycle, NoRange, Limit}
use Rattle.fb_find_rows.specs.Needs.{IsPastFault}
use Rattle.fb_model.specs.Finding.{follows_many, IsNeverBound}
use Rattle.fb_find.specs.Crowds.{IsCrowded}
use Rattle.fb_lists.proofs.Lists.{all_here}
use Rattle.fb_find.proofs.Lists.{in_image}

pub past_any : {X : Type 0} (P : Name → X → Type 0) (xs ys : List X) (i : ℕ) (x : X) → ys ≡ xs → i < length ys → x ≡ get_or ys i x → (fault : NoBound) → IsPastFault (λ t. P t x) fault → IsPastFault (λ t. Any (P t) xs) fault
past_any P xs ys i x same l e OutOfMemory h = tt
past_any P xs ys i x same l e (Cycle places) h = h
past_any P xs ys i x same l e (NoRange path) h = h
past_any P xs ys i x same l e (Limit resource) h = any_in (P (string_bytes resource)) xs ys i x same l e h

-- the same of a resource, where the name of its device is read by another name
pub past_one : (name other : Name) (xs ys : List Resource) (i : ℕ) (x : Resource) → ys ≡ xs → i < length ys → x ≡ get_or ys i x → other ≡ name → (fault : NoBound) → IsPastFault (λ t. IsCrowded other t x) fault → IsPastFault (λ t. Any (IsCrowded name t) xs) fault
past_one name other xs ys i x same l e is fault h = past_any (IsCrowded name) xs ys i x same l e fault (subst (λ o. IsPastFault (λ t. IsCrowded o t x) fault) is h)

-- the resource that is told of is one of the system
pub above : (repeats : Option ℕ) (t : Configuration) (fault : NoBound) → IsWritten (system_of t) → IsPastFault (λ text. Any (λ (d : Device). Any (IsCrowded (string_bytes d.name) text) d.resources.items) t.devices.items) fault → IsNeverBound repeats (system_of t) fault
above repeats t OutOfMemory w h = tt
above repeats t (Cycle places) w h = absurd h
above repeats t (NoRange path) w h = absurd h
above repeats t (Limit resource) w h =
    let d : Device = h.1 in
    let k = h.4 in
    let r : Resource = k.1 in
    let at_device = in_image device_of t.devices.items h.0 d h.2 h.3 in
    let at_resource = in_image resource_of d.resources.items k.0 r k.2 k.3 in
    let wordy = one_of (system_of t).devices (device_of d) (words (system_of t) w) at_device in
    let name = one_word (device_of d).resources (resource_of r) wordy.resources at_resource in
    follows_many (device_of d) (resource_of r) at_device at_resource (ap names_in k.4.0 ∙ names_back (string_bytes d.name) (string_bytes r.name ∷ []) wordy.name (name, tt)) k.4.1
  where
    one_of : (ds : List book.Device) (d : book.Device) → AllByRecursion IsWordyDevice ds → Contains ds d → IsWordyDevice d
    one_of ds d a c = all_here IsWordyDevice ds c.0 d a c.1 c.2

    one_word : (rs : List book.Resource) (r : book.Resource) → AllByRecursion (λ (r : book.Resource). IsWord r.name) rs → Contains rs r → IsWord r.name
    one_word rs r a c = all_here (λ (r : book.Resource). IsWord r.name) rs c.0 r a c.1 c.2
