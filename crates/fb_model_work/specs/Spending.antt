-- What runs spend: each primitive that a dispatch is made of has a price.
-- IEC 61131-3 edition 3, 7.3 (Structured Text) and IEC 61499-1 edition 2, 5.2.2 (execution control charts); which primitives there are is this project's profile.
use Rattle.std.specs.Prelude.{ℕ, zero, suc, ◌+◌, ◌*◌, ◌&&◌, ◌==◌, ℤ, ◌+ℤ◌, Bool, false, length, List, [], ◌∷◌, Option, Some, None, if◌then◌else◌}
use Rattle.std.specs.Str.{bytes_eq}
use Rattle.fb_words.specs.declared.operator.Operator.TheVariants as o
use Rattle.fb_words.specs.declared.operator.Operation.{Operation}
use Rattle.fb_words.specs.declared.operator.Operation.TheVariants.{Infix, Negate, Not, Abs, Min, Max, Limit, Convert}
use Rattle.fb_prices.specs.declared.primitive.Primitive.{Primitive}
use Rattle.fb_prices.specs.declared.primitive.Primitive.TheVariants as p
use Rattle.fb_model.specs.Names.{Name, Place}
use Rattle.fb_model.specs.Values.{One, Values}
use Rattle.fb_model.specs.TypedText.{Term, constant, read, part, single, double, Command, set, set_part, choose, match_on, count, done, then_do, Choices, no_choice, choice, Cases, no_case, a_case}
use Rattle.fb_model.specs.Language.{Guard, Algorithm, Outcome, Done, Trap, value_of, setting, is_zero, labelled, iteration_count, run_one, run}
use Rattle.fb_model.specs.System.{Transition, Block, Service, Device, Input, Output, Publish, Subscribe, Delay, Cycle, Restart}
use Rattle.fb_model.specs.Services.{init, rsp, start, stop}
use Rattle.fb_model.specs.Wires.{Kind, Charted, Serviced}
use Rattle.fb_model.specs.Store.{Cells, LeafState, takes, gives, sampled}
use Rattle.fb_model.specs.Charts.{is_open, tested, algorithm_of, emission, Phase, Waiting, Acting, Settling, Moment, At, Moves, with_event, freely, acts, settles, Reaches, here, then, dispatched, Invoked}
use Rattle.fb_model.specs.Serving.{Effect, Serves}
use Rattle.fb_model.specs.Certificates.{Certificate}
use Rattle.fb_model.specs.Devices.{Ended, Machine, Event, Dispatch, Answer, Ran, Runs, Happens, Run}

-- a price for each primitive
abbrev pub Prices : Type 0
Prices = Primitive → ℕ

-- ---- expressions

-- the primitive of an operation
abbrev pub of_operation : Operation → Primitive
of_operation (Infix o.Plus) = p.Add
of_operation (Infix o.Minus) = p.Add
of_operation (Infix o.Times) = p.Multiply
of_operation (Infix o.Over) = p.Divide
of_operation (Infix o.Modulo) = p.Modulo
of_operation (Infix o.And) = p.Logic
of_operation (Infix o.Or) = p.Logic
of_operation (Infix o.Xor) = p.Logic
of_operation (Infix o.Equal) = p.Compare
of_operation (Infix o.NotEqual) = p.Compare
of_operation (Infix o.Less) = p.Compare
of_operation (Infix o.Greater) = p.Compare
of_operation (Infix o.LessEqual) = p.Compare
of_operation (Infix o.GreaterEqual) = p.Compare
of_operation Negate = p.Negate
of_operation Not = p.Not
of_operation Abs = p.Absolute
of_operation Min = p.Extreme
of_operation Max = p.Extreme
of_operation Limit = p.Extreme
of_operation (Convert from to) = p.Convert

-- an expression costs the same whatever its values are: both operands are always evaluated
abbrev pub in_term : Prices → Term → ℕ
in_term prices (constant k) = prices p.Constant
in_term prices (read x) = prices p.Variable
in_term prices (part x low high i) = prices p.Element + in_term prices i
in_term prices (single f a e) = prices (of_operation f) + in_term prices e
in_term prices (double f a e g) = prices (of_operation f) + (in_term prices e + in_term prices g)

-- ---- statements

-- what a number that is there leads to
abbrev pub where_some : {A : Type 0} → Option A → (A → ℕ) → ℕ
where_some None f = 0
where_some (Some v) f = f v

-- what comes after a run that is done
abbrev pub where_done : Outcome → (Values → ℕ) → ℕ
where_done (Done values n) f = f values
where_done Trap f = 0

-- n iterations of a FOR, the first of them with v, where one has this price besides its body
abbrev pub in_iterations : ℕ → ℕ → (Values → Outcome) → (Values → ℕ) → Name → ℤ → ℤ → Values → ℕ
in_iterations price zero body spent x v k values = 0
in_iterations price (suc n) body spent x v k values =
    let begun = setting values x (One v) in
    (price + spent begun) + where_done (body begun) (in_iterations price n body spent x (v +ℤ k) k)

-- what statements spend that run from these values
abbrev mutual
  pub in_one : Prices → Command → Values → ℕ
  in_one prices (set x e) values = prices p.Assign + in_term prices e
  in_one prices (set_part x low high i e) values = prices p.AssignElement + (in_term prices i + in_term prices e)
  in_one prices (choose choices other) values = prices p.If + in_choices prices choices values (in_all prices other values)
  in_one prices (match_on e cases other) values = prices p.Case + (in_term prices e + where_some (value_of e values) (λ v. in_cases prices cases v values (in_all prices other values)))
  in_one prices (count x a e g k plain body) values =
      prices p.For + ((in_term prices e + in_term prices g) + where_some (value_of e values) (λ u. where_some (value_of g values) (λ v. in_iterations (prices p.Iteration) (iteration_count u v k) (run body) (in_all prices body) x u k values)))

  pub in_all : Prices → Algorithm → Values → ℕ
  in_all prices done values = 0
  in_all prices (then_do c cs) values = in_one prices c values + where_done (run_one c values) (in_all prices cs)

  -- the conditions up to the first that holds, and what is done there
  pub in_choices : Prices → Choices → Values → ℕ → ℕ
  in_choices prices no_choice values other = other
  in_choices prices (choice e body rest) values other =
      (prices p.Branch + in_term prices e) + where_some (value_of e values) (λ v. if is_zero v then in_choices prices rest values other else in_all prices body values)

  -- the arms up to the first that has the value, each with all its labels, and what is done there
  pub in_cases : Prices → Cases → ℤ → Values → ℕ → ℕ
  in_cases prices no_case v values other = other
  in_cases prices (a_case labels body rest) v values other =
      (prices p.Arm + prices p.Label * length labels) + (if labelled labels v then in_all prices body values else in_cases prices rest v values other)

-- ---- charts

abbrev pub in_guard : Prices → Option Guard → ℕ
in_guard prices None = prices p.Open
in_guard prices (Some g) = prices p.Guard + in_term prices g

-- a transition of the state is tried, or passed by where its event is not there
abbrev pub in_trial : Prices → Option Name → Transition → ℕ
in_trial prices waiting t = if is_open t.event waiting then in_guard prices t.guard else prices p.Skip

abbrev pub is_held : Option Bool → Bool
is_held None = false
is_held (Some b) = b

-- the transitions of a state, up to the first that is crossed, or all of them
abbrev pub in_choice : Prices → List Transition → Name → Option Name → Values → ℕ
in_choice prices [] s waiting values = 0
in_choice prices (t ∷ ts) s waiting values =
    if bytes_eq t.source s
    then in_trial prices waiting t + (if is_open t.event waiting && is_held (tested t.guard values) then 0 else in_choice prices ts s waiting values)
    else in_choice prices ts s waiting values

abbrev pub in_algorithm : Prices → Option Algorithm → Values → ℕ
in_algorithm prices None values = 0
in_algorithm prices (Some a) values = prices p.Call + in_all prices a values

-- outputs are issued with their data, and what they reach is put into the queue
abbrev pub in_outputs : Prices → Kind → (Name → List Place) → List Name → ℕ
in_outputs prices kind targets [] = 0
in_outputs prices kind targets (o ∷ os) = (prices p.Issue + (prices p.Give * length (gives kind o) + prices p.Put * length (targets o))) + in_outputs prices kind targets os

-- one small step of a chart
abbrev pub in_move : Prices → (Name → List Place) → (block : Block) (m n : Moment) → Moves block m n → ℕ
in_move prices targets block m n (with_event s u e c k out crossed) = (prices p.Scan + in_choice prices block.transitions s (Some e) c.own) + prices p.Cross
in_move prices targets block m n (freely s u c k out crossed) = (prices p.Scan + in_choice prices block.transitions s None c.own) + prices p.Cross
in_move prices targets block m n (acts s a left c k j out values ran) =
    prices p.Act + (in_algorithm prices (algorithm_of block a.algorithm) c.own + in_outputs prices (Charted block) targets (emission a.output))
in_move prices targets block m n (settles s c k out) = 0

abbrev pub in_moves : Prices → (Name → List Place) → (block : Block) (m n : Moment) → Reaches block m n → ℕ
in_moves prices targets block m n here = 0
in_moves prices targets block m n ((then) c d before move) = in_moves prices targets block m c before + in_move prices targets block c d move

-- it rests where no transition is crossed
abbrev pub in_rest : Prices → Block → Name → Cells → Phase → ℕ
in_rest prices block s c (Waiting e) = prices p.Scan + in_choice prices block.transitions s (Some e) c.own
in_rest prices block s c (Acting left) = 0
in_rest prices block s c Settling = prices p.Scan + in_choice prices block.transitions s None c.own

abbrev pub in_invocation : Prices → (Name → List Place) → (block : Block) (before : LeafState) (event : Name) (after : LeafState) (steps : ℕ) (outs : List Name) → Invoked block before event after steps outs → ℕ
in_invocation prices targets block before event after steps outs i =
    in_moves prices targets block (dispatched before event) (At i.end after.cells i.phase steps outs) i.run + in_rest prices block i.end after.cells i.phase

-- ---- services

-- an event input or arrival of a service, with the values that it receives, writes or sends
abbrev pub in_service : Prices → Service → Name → ℕ
in_service prices (Input number types) e = prices p.Receive + prices p.Value * length types
in_service prices (Output number types) e = prices p.Write + prices p.Value * length types
in_service prices (Publish channel types) e = if bytes_eq e init then prices p.Initialize else prices p.Send + prices p.Value * length types
in_service prices (Subscribe channel types) e =
    if bytes_eq e init then prices p.Initialize else if bytes_eq e rsp then prices p.Respond else prices p.Take + prices p.Value * length types
in_service prices Delay e = if bytes_eq e start then prices p.Start else if bytes_eq e stop then prices p.Stop else prices p.Expire
in_service prices Cycle e = if bytes_eq e start then prices p.Start else if bytes_eq e stop then prices p.Stop else prices p.Expire
in_service prices Restart e = prices p.Begin

-- ---- dispatches

abbrev pub in_kind : Prices → Kind → Name → ℕ
in_kind prices (Charted block) e = prices p.Dispatch
in_kind prices (Serviced service) e = in_service prices service e

-- an entry is taken from the queue, and the inputs that are WITH its event are sampled
abbrev pub in_dispatch : Prices → Kind → Name → ℕ
in_dispatch prices kind e = in_kind prices kind e + prices p.Sample * length (takes kind e)

abbrev pub in_serving : Prices → (Name → List Place) → (kind : Kind) (clock : ℕ) (e : Name) (values : List ℤ) (before after : LeafState) (steps : ℕ) (outs : List Name) (effect : Option Effect)
    → Serves kind clock e values before after steps outs effect → ℕ
in_serving prices targets (Charted block) clock e values before after steps outs effect served = in_invocation prices targets block before e after steps outs served.0
in_serving prices targets (Serviced service) clock e values before after steps outs effect served = in_outputs prices (Serviced service) targets outs

-- all that a dispatch spends
abbrev pub in_run : Prices → (cert : Certificate) (device : Device) (old : Machine) (q cause : ℕ) (place : Place) (steps : ℕ) (effect : Option Effect) (ended : Option Ended) (new : Machine)
    → Runs cert device old q cause place steps effect ended new → ℕ
in_run prices cert device old q cause place steps effect ended new r =
    in_dispatch prices r.leaf.kind r.first.place.event
    + in_serving prices r.leaf.targets r.leaf.kind old.clock r.first.place.event r.first.values (sampled old.store r.leaf r.first.place.event) r.after steps r.outs effect r.served

-- what the dispatches of a cause spend, at one event
abbrev pub in_event : Prices → (cert : Certificate) (device : Device) (c : ℕ) (old : Machine) (e : Event) (a : Answer) (new : Machine) → Happens cert device old e a new → ℕ
in_event prices cert device c old (Dispatch q) (Ran cause place steps effect ended) new r = if cause == c then in_run prices cert device old q cause place steps effect ended new r else 0
in_event prices cert device c old _ _ new h = 0

-- and over a run
abbrev pub in_course : Prices → (cert : Certificate) (device : Device) (c : ℕ) (old : Machine) (es : List Event) (answers : List Answer) (new : Machine) → Run cert device old es answers new → ℕ
in_course prices cert device c old [] answers new r = 0
in_course prices cert device c old (e ∷ es) [] new r = 0
in_course prices cert device c old (e ∷ es) (a ∷ answers) new r = in_event prices cert device c old e a r.0 r.1 + in_course prices cert device c r.0 es answers new r.2
