-- A PUBLISH and two SUBSCRIBE of one channel, worked out by hand: the rows and the demands of the network.
use Rattle.std.proofs.Common.{◌≡◌, List, [], ◌∷◌, Some, None, refl, pos}
use Rattle.std.specs.Prelude.{codes}
use Rattle.fb_words.specs.declared.format.Format.{Format}
use Rattle.fb_words.specs.declared.format.Format.TheVariants.{First, Second}
use Rattle.fb_model.specs.Names.{Name, Place, at_place}
use Rattle.fb_model.specs.Values.{One}
use Rattle.fb_model.specs.System.{Service}
use Rattle.fb_model.specs.Services.{req, init, rsp, arrive}
use Rattle.fb_model.specs.Wires.{Serviced, Leaf, Constant}
use Rattle.fb_model.specs.Certificates.{channels_of, required, Far_rows}
use Rattle.fb_model.specs.Demands.{event, channel, channel_demands, linked, bare, of_dispatch}

abbrev leaf_of : Name → Service → Leaf
leaf_of name service = record { home = 0; path = name ∷ []; kind = Serviced service; targets = λ o. []; source = λ i. Constant (One (pos 0)) }

-- "P" publishes to channel 7, and "S" and "T" subscribe it
abbrev all : Format → List Leaf
all f =
    leaf_of (codes "P") (Service.Publish (record { number = 7; format = f }) []) ∷ leaf_of (codes "S") (Service.Subscribe (record { number = 7; format = f }) [])
    ∷ leaf_of (codes "T") (Service.Subscribe (record { number = 7; format = f }) []) ∷ []

abbrev at : Name → Name → Place
at name e = at_place (name ∷ []) e

channels : channels_of (leaf_of (codes "S") (Service.Subscribe (record { number = 9; format = First }) []) ∷ all First) ≡ 7 ∷ 9 ∷ []
channels = refl

without_repeats : required Far_rows None (all First) ≡ []
without_repeats = refl

with_a_row : required Far_rows (Some 2) (all First)
    ≡ at (codes "P") init ∷ at (codes "P") req ∷ at (codes "S") init ∷ at (codes "S") rsp ∷ at (codes "S") arrive ∷ at (codes "T") init ∷ at (codes "T") rsp ∷ at (codes "T") arrive ∷ []
with_a_row = refl

-- with REPEATS 3
first_format : channel_demands 3 (all First)
    ≡ record {
      node = channel 7;
      constant = 0;
      terms =
          event (at (codes "S") arrive) ∷ event (at (codes "S") arrive) ∷ event (at (codes "S") arrive) ∷ event (at (codes "T") arrive) ∷ event (at (codes "T") arrive)
          ∷ event (at (codes "T") arrive) ∷ [];
    }
    ∷ []
first_format = refl

second_format : channel_demands 3 (all Second) ≡ record { node = channel 7; constant = 0; terms = event (at (codes "S") arrive) ∷ event (at (codes "T") arrive) ∷ [] } ∷ []
second_format = refl

sending : of_dispatch (linked (bare (leaf_of (codes "P") (Service.Publish (record { number = 7; format = First }) [])))) (Service.Publish (record { number = 7; format = First }) []) req
    ≡ record { node = event (at (codes "P") req); constant = 1; terms = [] } ∷ record { node = event (at (codes "P") req); constant = 1; terms = channel 7 ∷ [] } ∷ []
sending = refl

starting : of_dispatch (linked (bare (leaf_of (codes "P") (Service.Publish (record { number = 7; format = First }) [])))) (Service.Publish (record { number = 7; format = First }) []) init
    ≡ record { node = event (at (codes "P") init); constant = 1; terms = [] } ∷ record { node = event (at (codes "P") init); constant = 1; terms = [] } ∷ []
starting = refl
