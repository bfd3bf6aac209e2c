-- The demands of a column of a certificate, and the numbers that it gives nodes.
-- This project's profile.
use Rattle.std.specs.Prelude.{ℕ, ◌*◌, List, [], ◌++◌, Option}
use Rattle.std.specs.List.{flat_map, AllByRecursion}
use Rattle.fb_model.specs.Names.{Name, at_place}
use Rattle.fb_model.specs.Wires.{Kind, Charted, Serviced, Leaf}
use Rattle.fb_model.specs.Clear.{Spans}
use Rattle.fb_model.specs.Charts.{algorithm_of}
use Rattle.fb_model.specs.Ranges.{Range, rows, cost_of}
use Rattle.fb_model.specs.Certificates.{Column}
use Rattle.fb_model.specs.Demands.{Node, state, event, channel, Demand, IsMet, Ground, of_kind, linked, channel_demands}

-- the number of a node in a column
abbrev pub number_of : Column → Node → ℕ
number_of col (state p) = col.charge p
number_of col (event p) = col.weight p
number_of col (channel c) = col.sending c

-- what an algorithm of a leaf costs in a column where a step counts so much
abbrev pub price_of : ℕ → Spans → Kind → Option Name → ℕ
price_of unit spans (Charted block) a = unit * cost_of spans (algorithm_of block a)
price_of unit spans (Serviced service) a = 0

abbrev pub ground_of : ℕ → List Range → Leaf → Ground
ground_of unit ranges leaf = record { unit = unit; price = price_of unit (rows ranges leaf.path leaf.kind) leaf.kind; own = at_place leaf.path; targets = leaf.targets; datagram = λ c. [] }

-- what a column without datagrams must fulfil, where a dispatch, a crossing or a step counts so much, and the variables have these ranges
abbrev pub demands : ℕ → List Range → List Leaf → List Demand
demands unit ranges all = flat_map (λ leaf. of_kind (ground_of unit ranges leaf) leaf.kind) all

-- what the steps on all devices must fulfil, where each datagram is delivered at most so often to a device
abbrev pub network_demands : ℕ → List Range → List Leaf → List Demand
network_demands repeats ranges all = flat_map (λ leaf. of_kind (linked (ground_of 1 ranges leaf)) leaf.kind) all ++ channel_demands repeats all

-- numbers that fulfil all of them
abbrev pub MeetAll : (Node → ℕ) → List Demand → Type 0
MeetAll x ds = AllByRecursion (IsMet x) ds
