-- What calls and answers of a device are in the book.
use Rattle.std.specs.Prelude.{ℕ, ◌≡◌, true, false, List, Option, None, Some, slice_get}
use Rattle.std.specs.List.{AllByRecursion}
use Rattle.fb_model.specs.Wires.{Leaf}
use Rattle.fb_model.specs.System.{Resource}
use Rattle.fb_model.specs.Certificates.{Certificate, events_of}
use Rattle.fb_model.specs.CertificateText.{names_in}
use Rattle.fb_model.specs.Devices as book
use Rattle.fb_model.specs.Devices.{Machine, steps_row, is_pending}
use Rattle.fb_model.specs.Headline.{IsOpen}
use Rattle.fb_verified.specs.Lookups.{is_same_path}
use Rattle.fb_device_tables.specs.Views.{place_at}
use Rattle.fb_device_tables.specs.Tables.{far_at}
use Rattle.fb_device_arrivals.specs.Answers.{admission_of}
use Rattle.fb_device_dispatch.specs.Answers.{dispatched_of, HasPoint}
use Rattle.fb_device.specs.declared.answer.Opening.{Opening}
use Rattle.fb_device.specs.declared.answer.Step.{Step}
use Rattle.fb_device.specs.declared.answer.Step.TheVariants.{Offer, Deliver, Tick, Dispatch}
use Rattle.fb_device.specs.declared.answer.Answer.{Answer}
use Rattle.fb_device.specs.declared.answer.Answer.TheVariants.{Admitted, Fired, Served}

abbrev pub answer_of : List Leaf → Answer → book.Answer
answer_of all (Admitted answer) = admission_of answer
answer_of all (Fired count) = book.Expired count
answer_of all (Served turned) = dispatched_of all turned

abbrev pub event_of : Step → book.Event
event_of (Offer input values) = book.Offer input values.items
event_of (Deliver bytes) = book.Deliver bytes.items
event_of (Tick now) = book.Tick now
event_of (Dispatch resource) = book.Dispatch resource

-- a dispatch answers the numbers of an event
abbrev pub HasPlace : List Leaf → Answer → Type 0
HasPlace all (Admitted answer) = Unit {0}
HasPlace all (Fired count) = Unit {0}
HasPlace all (Served turned) = HasPoint all turned

-- ---- questions

-- the arrival that opened a cause with a pending entry; none for any other number
abbrev pub IsOpening : Certificate → List Leaf → Machine → ℕ → Option Opening → Type 0
IsOpening cert all m c None = (q : ℕ) → is_pending c (m.queues q) ≡ false
IsOpening cert all m c (Some o) =
    (q : ℕ) × IsOpen (m.queues q) c (place_at all (record { block = o.block; event = o.event })) × (o.weight ≡ steps_row cert (place_at all (record { block = o.block; event = o.event })))
    × (o.far ≡ far_at cert (place_at all (record { block = o.block; event = o.event })))

-- a block and an event by their numbers
pub record IsNamed (all : List Leaf) (block event : ℕ) (path name : List ℕ) : Type 0 where
  pub leaf : Leaf
  pub block_is : slice_get all block ≡ Some leaf
  pub path_is : names_in path ≡ leaf.path
  pub name_is : slice_get (events_of leaf.kind) event ≡ Some name

-- there is no block of this number, or it has no event of that
abbrev pub IsNoPoint : List Leaf → ℕ → ℕ → Type 0
IsNoPoint all block event = (leaf : Leaf) → slice_get all block ≡ Some leaf → slice_get (events_of leaf.kind) event ≡ None

-- the number of a resource of a name, in which letter case has no meaning
pub record IsNumberOf (resources : List Resource) (name : List ℕ) (n : ℕ) : Type 0 where
  pub resource : Resource
  pub stands : slice_get resources n ≡ Some resource
  pub same : is_same_path resource.name name ≡ true

abbrev pub IsNoNumber : List Resource → List ℕ → Type 0
IsNoNumber resources name = AllByRecursion (λ (r : Resource). is_same_path r.name name ≡ false) resources
