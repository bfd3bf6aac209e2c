-- What the algorithms of leaves cost with their calls.
-- This project's profile.
use Rattle.std.specs.Prelude.{ℕ, ◌≡◌, ◌+◌, ◌<◌, List, [], map, Option}
use Rattle.std.specs.List.{Any}
use Rattle.fb_prices.specs.declared.primitive.Primitive.TheVariants as p
use Rattle.fb_model.specs.Names.{Name}
use Rattle.fb_model.specs.System.{Procedure}
use Rattle.fb_model.specs.Language.{Algorithm}
use Rattle.fb_model.specs.Clear.{Spans}
use Rattle.fb_model.specs.Ranges.{Range, rows}
use Rattle.fb_model.specs.Wires.{Kind, Charted, Serviced, Leaf}
use Rattle.fb_model.specs.Charts.{algorithm_of}
use Rattle.fb_model.specs.CertificateText.{most_steps}
use Rattle.fb_model_work.specs.Spending.{Prices}
use Rattle.fb_model_work.specs.Most.{most, most_of}
use Rattle.fb_faults.specs.declared.no_bound.NoBound.{NoBound}
use Rattle.fb_faults.specs.declared.no_bound.NoBound.TheVariants as b
use Rattle.fb_work_charts.specs.Charges.{Tariff}
use Rattle.fb_work.specs.declared.refusal.NoWork.{NoWork}
use Rattle.fb_work.specs.declared.refusal.NoWork.TheVariants.{OutOfMemory, TooMuch}

-- an algorithm with its call
abbrev pub called : Prices → Spans → Algorithm → ℕ
called prices spans a = prices p.Call + most prices spans a

-- those of a kind, in their order
abbrev pub costs_of : Prices → Spans → Kind → List ℕ
costs_of prices spans (Charted block) = map (λ (q : Procedure). called prices spans q.algorithm) block.procedures
costs_of prices spans (Serviced service) = []

-- one of them costs more than is told apart
abbrev pub IsDear : Prices → Spans → Kind → Type 0
IsDear prices spans (Charted block) = Any (λ (q : Procedure). most_steps < called prices spans q.algorithm) block.procedures
IsDear prices spans (Serviced service) = ⊥

-- the algorithm of a name, with its call
abbrev pub cost_named : Prices → Spans → Kind → Option Name → ℕ
cost_named prices spans (Charted block) a = most_of prices spans (algorithm_of block a)
cost_named prices spans (Serviced service) a = 0

-- what is reckoned with at a leaf of the book
abbrev pub tariff_at : Prices → List Range → Leaf → Tariff
tariff_at prices ranges leaf = record { prices = prices; algorithm = cost_named prices (rows ranges leaf.path leaf.kind) leaf.kind; targets = leaf.targets }

-- memory ran out, or this is so
abbrev pub OrMemory : Type 0 → NoWork → Type 0
OrMemory IsSo OutOfMemory = Unit {0}
OrMemory IsSo TooMuch = IsSo

-- want of memory is told as such, and all else as too much
abbrev pub IsToldBy : NoBound → NoWork → Type 0
IsToldBy b.OutOfMemory told = told ≡ OutOfMemory
IsToldBy fault told = told ≡ TooMuch
