-- Where the variables of services lie: this project's profile of IEC 61499-1 edition 2, 6.1.
use Rattle.std.specs.Prelude.{ℕ, ℤ, ◌≡◌, List, [], ◌∷◌, map}
use Rattle.fb_words.specs.declared.elem_type.ElemType.{ElemType}
use Rattle.fb_model.specs.Names.{Name}
use Rattle.fb_model.specs.Values.{One, Values, number_of}
use Rattle.fb_model.specs.Language.{setting}
use Rattle.fb_model.specs.System.{Service, Input, Output, Publish, Subscribe, Delay, Cycle, Restart}
use Rattle.fb_model.specs.Services.{qi, qo, dt, received, sent, numbered}
use Rattle.fb_model.specs.Wires.{Kind, Charted, Serviced}
use Rattle.fb_model.specs.Ranges.{types_of}
use Rattle.st_exec.specs.Forms.{Form, plain_slot}
use Rattle.fb_chart.specs.declared.standing.Ports.{Ports}

-- the types of the values that a service sends or writes
abbrev pub sends : Service → List ElemType
sends (Input number types) = []
sends (Output number types) = types
sends (Publish channel types) = types
sends (Subscribe channel types) = []
sends Delay = []
sends Cycle = []
sends Restart = []

-- the types of the values that a service receives
abbrev pub receives : Service → List ElemType
receives service = types_of (Serviced service)

-- the slots of variables, one by one
abbrev pub slots_of : List Form → List Name → List ℕ
slots_of forms names = map (plain_slot forms) names

-- the slots are those of the service's variables
pub record ArePorts (service : Service) (forms : List Form) (p : Ports) : Type 0 where
  pub quality_in : p.quality_in ≡ plain_slot forms qi
  pub quality_out : p.quality_out ≡ plain_slot forms qo
  pub time : p.time ≡ plain_slot forms dt
  pub sent : p.sent.items ≡ slots_of forms (numbered sent 1 (sends service))
  pub received : p.received.items ≡ slots_of forms (numbered received 1 (receives service))

-- of a leaf the slots are those of a service's variables; of a chart nothing is said
abbrev pub ServesPorts : Kind → List Form → Ports → Type 0
ServesPorts (Charted block) forms p = Unit {0}
ServesPorts (Serviced service) forms p = ArePorts service forms p

-- values after the variables of these names took these numbers, one after another
abbrev pub received_in : List Name → List ℤ → Values → Values
received_in [] vs values = values
received_in (n ∷ ns) [] values = values
received_in (n ∷ ns) (v ∷ vs) values = received_in ns vs (setting values n (One v))

-- the numbers of these variables
abbrev pub numbers_at : List Name → Values → List ℤ
numbers_at names values = map (λ x. number_of (values x)) names
