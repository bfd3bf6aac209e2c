-- What a dispatch of a service comes to, in the book's terms.
-- This project's profile of IEC 61499-1 edition 2, 6.
use Rattle.std.specs.Prelude.{ℕ, ℤ, ◌≡◌, List, [], ◌∷◌, Option, None, Some}
use Rattle.std.specs.Option.{option_map}
use Rattle.fb_model.specs.Names.{Name}
use Rattle.fb_model.specs.Values.{Values}
use Rattle.fb_model.specs.System.{Service}
use Rattle.fb_model.specs.Services.{service_events, service_event_outputs}
use Rattle.fb_model.specs.Store as st
use Rattle.fb_model.specs.Store.{Condition, LeafState}
use Rattle.fb_model.specs.Serving as book
use Rattle.fb_model.specs.Serving.{Reply, emits, reply}
use Rattle.fb_chart.specs.Views.{named}
use Rattle.fb_wire.specs.Views.{stamped_of}
use Rattle.fb_chart.specs.declared.standing.Stamps.{Stamps}
use Rattle.fb_chart.specs.declared.standing.Stamps.TheVariants as k
use Rattle.fb_chart.specs.declared.standing.Standing.{Standing}
use Rattle.fb_chart.specs.declared.standing.Standing.TheVariants as s
use Rattle.fb_chart.specs.declared.standing.Effect.{Effect}
use Rattle.fb_chart.specs.declared.standing.Effect.TheVariants as e
use Rattle.fb_chart.specs.declared.standing.Response.{Response}

-- what is kept of stamps, in the book
abbrev pub stamps_in : Stamps → st.Stamps
stamps_in k.Unstamped = st.Unstamped
stamps_in (k.Upcoming stamp) = st.Upcoming (stamped_of stamp)
stamps_in k.Exhausted = st.Exhausted
stamps_in (k.Latest stamp) = st.Latest (stamped_of stamp)

-- what a service remembers, in the book
abbrev pub condition_of : Standing → Condition
condition_of (s.Closed stamps) = st.Closed (stamps_in stamps)
condition_of (s.Ready stamps) = st.Ready (stamps_in stamps)
condition_of s.Quiet = st.Quiet
condition_of (s.Armed due) = st.Armed due
condition_of s.Fired = st.Fired
condition_of s.Plain = st.Plain

-- what a service does outside of its device, in the book
abbrev pub effect_in : Effect → book.Effect
effect_in (e.Send message) = book.Send message
effect_in (e.Write number values) = book.Write number values.items

abbrev pub effect_of : Option Effect → Option book.Effect
effect_of o = option_map effect_in o

-- the name of an event of a service, by its number
abbrev pub event_at : Service → ℕ → Name
event_at service n = named (service_events service) n

-- what is emitted, by the number of the event output
abbrev pub outs_at : Service → Option ℕ → List Name
outs_at service None = []
outs_at service (Some n) = named (service_event_outputs service) n ∷ []

-- a leaf of these values that remembers this
abbrev pub leaf_of : Values → Values → Standing → LeafState
leaf_of own issued standing = record { cells = record { own = own; issued = issued }; condition = condition_of standing }

-- the reply that a response comes to, where these are the working values after it and the issued ones before it
abbrev pub responded : Service → Response → Values → Values → Reply
responded service t own issued = emits service (outs_at service t.output) (effect_of t.effect) (leaf_of own issued t.standing)

-- a dispatch of a service, by its event's number, comes to this response; these are the working values before it and after it, and the issued ones before it
abbrev pub Replies : Service → ℕ → ℕ → List ℤ → Values → Values → Values → Standing → Response → Type 0
Replies service clock event values own own' issued standing t = reply service clock (event_at service event) values (leaf_of own issued standing) ≡ responded service t own' issued
