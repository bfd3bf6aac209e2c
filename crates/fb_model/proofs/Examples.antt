-- The definitions compute: worked examples, by their numbers.
use Rattle.std.proofs.Common.{◌≡◌, true, false, [], ◌∷◌, List, map, Some, None, refl, pos}
use Rattle.std.specs.Prelude.{codes}
use Rattle.fb_words.specs.declared.elem_type.ElemType.TheVariants as t
use Rattle.fb_model.specs.Names.{Name, Path, Place, at_place}
use Rattle.fb_model.specs.Spelling.{whole, digit, joined, no_more, IsNumber, based, decimal, hexadecimal}
use Rattle.fb_model.specs.Messages.{To_channel, spelling}
use Rattle.fb_model.specs.System.{Block, Input, Connection, Basic, Served, nothing, instance, Device}
use Rattle.fb_model.specs.Services.{ind, arrive}
use Rattle.fb_model.specs.Wires.{Leaf, leaves}
use Rattle.fb_model.specs.Certificates.{Certificate, steps_of, places_of, sent_weight, is_input, depth_at}
use Rattle.fb_model.specs.CertificateText.{place_of, names_in}
use Rattle.fb_model.specs.Devices.{held}
use Rattle.fb_model.specs.Typing.{input_numbers, event_outputs_of}

-- ---- numbers

-- 16#7F is 127, and 1_0 is 10
based_number : IsNumber (codes "16#7F") 127
based_number = based hexadecimal (whole refl (digit refl no_more))

joined_number : IsNumber (codes "1_0") 10
joined_number = decimal (whole refl (joined refl no_more))

-- ---- datagrams

-- channel 7 with one INT, 5
datagram : spelling (record { purpose = To_channel; number = 7; stamp = None; values = record { type = t.Int; value = pos 5 } ∷ [] }) ≡ 70 ∷ 66 ∷ 1 ∷ 1 ∷ 0 ∷ 7 ∷ 1 ∷ 2 ∷ 0 ∷ 0 ∷ 0 ∷ 0 ∷ 0 ∷ 0 ∷ 0 ∷ 5 ∷ []
datagram = refl

-- the same with the stamp 3 1
stamped_datagram : spelling (record { purpose = To_channel; number = 7; stamp = Some (record { boot = 3; sequence = 1 }); values = record { type = t.Int; value = pos 5 } ∷ [] }) ≡ 70 ∷ 66 ∷ 2 ∷ 1 ∷ 0 ∷ 7 ∷ 0 ∷ 0 ∷ 0 ∷ 3 ∷ 0 ∷ 0 ∷ 0 ∷ 1 ∷ 1 ∷ 2 ∷ 0 ∷ 0 ∷ 0 ∷ 0 ∷ 0 ∷ 0 ∷ 0 ∷ 5 ∷ []
stamped_datagram = refl

-- ---- a button, a fork and two cells

abbrev cell : Block
cell =
    record {
      event_inputs = record { name = codes "EI"; carries = [] } ∷ [];
      event_outputs = [];
      inputs = [];
      outputs = [];
      internals = [];
      states = record { name = codes "START"; actions = [] } ∷ record { name = codes "DONE"; actions = [] } ∷ [];
      transitions =
          record { source = codes "START"; target = codes "DONE"; event = Some (codes "EI"); guard = None }
          ∷ record { source = codes "DONE"; target = codes "START"; event = None; guard = None } ∷ [];
      procedures = [];
    }

abbrev fork : Block
fork =
    record {
      event_inputs = record { name = codes "EI"; carries = [] } ∷ [];
      event_outputs = record { name = codes "EO1"; carries = [] } ∷ record { name = codes "EO2"; carries = [] } ∷ [];
      inputs = [];
      outputs = [];
      internals = [];
      states =
          record { name = codes "START"; actions = [] }
          ∷ record { name = codes "ACT"; actions = record { algorithm = None; output = Some (codes "EO1") } ∷ record { algorithm = None; output = Some (codes "EO2") } ∷ [] } ∷ [];
      transitions =
          record { source = codes "START"; target = codes "ACT"; event = Some (codes "EI"); guard = None }
          ∷ record { source = codes "ACT"; target = codes "START"; event = None; guard = None } ∷ [];
      procedures = [];
    }

abbrev link : Name → Name → Name → Name → Connection
link i p j q = record { source = record { instance = Some i; port = p }; target = record { instance = Some j; port = q } }

abbrev device : Device
device =
    record {
      name = codes "D";
      resources = record {
        name = codes "R";
        inner = instance (codes "BUTTON") [] (Served (Input 1 [])) (instance (codes "F") [] (Basic fork) (instance (codes "C1") [] (Basic cell) (instance (codes "C2") [] (Basic cell) nothing)));
        events = link (codes "BUTTON") ind (codes "F") (codes "EI") ∷ link (codes "F") (codes "EO1") (codes "C1") (codes "EI") ∷ link (codes "F") (codes "EO2") (codes "C2") (codes "EI") ∷ [];
        values = [];
      } ∷ [];
    }

abbrev path : Name → Path
path x = codes "D" ∷ codes "R" ∷ x ∷ []

abbrev at : Name → Name → Place
at x e = at_place (path x) e

abbrev cert : Certificate
cert =
    record {
      ranges = [];
      charges =
          record { place = at (codes "F") (codes "START"); steps = 0; places = 0 }
          ∷ record { place = at (codes "F") (codes "ACT"); steps = 7; places = 2 }
          ∷ record { place = at (codes "C1") (codes "DONE"); steps = 1; places = 0 } ∷ [];
      weights =
          record { place = at (codes "BUTTON") arrive; steps = 10; places = 2 }
          ∷ record { place = at (codes "F") (codes "EI"); steps = 9; places = 2 }
          ∷ record { place = at (codes "C1") (codes "EI"); steps = 3; places = 1 }
          ∷ record { place = at (codes "C2") (codes "EI"); steps = 3; places = 1 } ∷ [];
      depths = record { path = codes "D" ∷ codes "R" ∷ []; depth = 3 } ∷ [];
      repeats = None;
      fars = [];
      far_states = [];
      channels = [];
    }

-- each output leads where its connection does
led : map (λ (l : Leaf). l.targets (codes "EO2")) (leaves device) ≡ [] ∷ (at (codes "C2") (codes "EI") ∷ []) ∷ [] ∷ [] ∷ []
led = refl

pressed : map (λ (l : Leaf). l.targets ind) (leaves device) ≡ (at (codes "F") (codes "EI") ∷ []) ∷ [] ∷ [] ∷ [] ∷ []
pressed = refl

-- the state that emits to both cells costs 6 steps and 2 places by itself, within its charge of 7 and 2
abbrev fork_targets : Name → List Place
fork_targets = elim (leaves device) [ [] ↦ λ o. [] | b ∷ ls ↦ elim ls [ [] ↦ λ o. [] | f ∷ rest ↦ f.targets ] ]

own_steps : sent_weight (steps_of cert) fork_targets (codes "EO1" ∷ codes "EO2" ∷ []) ≡ 6
own_steps = refl

own_places : sent_weight (places_of cert) fork_targets (codes "EO1" ∷ codes "EO2" ∷ []) ≡ 2
own_places = refl

rows : (steps_of cert).weight (at (codes "BUTTON") arrive) ≡ 10
rows = refl

no_row : (steps_of cert).charge (at (codes "C2") (codes "DONE")) ≡ 0
no_row = refl

depth : depth_at cert.depths (codes "D" ∷ codes "R" ∷ []) ≡ 3
depth = refl

arrival_is_listed : is_input (leaves device) (at (codes "BUTTON") arrive) ≡ true
arrival_is_listed = refl

unknown_is_not : is_input (leaves device) (at (codes "BUTTON") (codes "EI")) ≡ false
unknown_is_not = refl

-- ---- credit: two causes, one of them with two entries, hold 2 and 1 places
held_places : held (places_of cert).weight (record { cause = 1; opening = at (codes "BUTTON") arrive; place = at (codes "C1") (codes "EI"); values = [] } ∷ record { cause = 1; opening = at (codes "BUTTON") arrive; place = at (codes "C2") (codes "EI"); values = [] } ∷ record { cause = 2; opening = at (codes "C1") (codes "EI"); place = at (codes "C1") (codes "EI"); values = [] } ∷ []) ≡ 3
held_places = refl

-- ---- certificate texts
dotted_place : place_of (codes "D.R.C.START") ≡ at_place (codes "D" ∷ codes "R" ∷ codes "C" ∷ []) (codes "START")
dotted_place = refl

dotted_path : names_in (codes "D.R") ≡ codes "D" ∷ codes "R" ∷ []
dotted_path = refl

-- ---- typing
numbers : input_numbers (instance (codes "A") [] (Served (Input 3 [])) (instance (codes "B") [] (Basic cell) (instance (codes "C") [] (Served (Input 5 [])) nothing))) ≡ 3 ∷ 5 ∷ []
numbers = refl

outputs : event_outputs_of (Basic fork) ≡ codes "EO1" ∷ codes "EO2" ∷ []
outputs = refl
