-- What turns of a device did in all: this project's profile.
use Rattle.std.specs.Prelude.{ℕ, ◌+◌, min, List, ◌++◌, codes}
use Rattle.std.specs.List.{sum_by}
use Rattle.std.specs.Fmt.{decimal}
use Rattle.fb_turn.specs.Turns.{report_of}
use Rattle.fb_model.specs.Turning.{Turn}
use Rattle.fb_turn.specs.declared.turning.Report.{Report}
use Rattle.fbr_notices.specs.declared.sums.Sums.{Sums}

-- a turn, and the moment of it in milliseconds
pub record TurnAt : Type 0 where
  pub now : ℕ
  pub turn : Turn

abbrev pub report_at : TurnAt → Report
report_at x = report_of x.turn

-- a count of 64 bits stays where it can rise no more
abbrev pub capped : ℕ → ℕ
capped n = min n 18446744073709551615

abbrev pub sums_of : List TurnAt → Sums
sums_of all =
    record {
      fired = capped (sum_by (λ x. (report_at x).fired) all);
      received = capped (sum_by (λ x. (report_at x).received) all);
      denied = capped (sum_by (λ x. (report_at x).denied) all);
      ran = capped (sum_by (λ x. (report_at x).ran) all);
      sent = capped (sum_by (λ x. (report_at x).sent) all);
      lost = capped (sum_by (λ x. (report_at x).lost) all);
    }

-- with one report more
abbrev pub with_report : Sums → Report → Sums
with_report s r =
    record {
      fired = capped (s.fired + r.fired);
      received = capped (s.received + r.received);
      denied = capped (s.denied + r.denied);
      ran = capped (s.ran + r.ran);
      sent = capped (s.sent + r.sent);
      lost = capped (s.lost + r.lost);
    }

-- `fired 0 received 1 denied 0`
abbrev pub came_text : Sums → List ℕ
came_text s = codes "fired " ++ decimal s.fired ++ codes " received " ++ decimal s.received ++ codes " denied " ++ decimal s.denied

-- `ran 3 sent 1 lost 0`
abbrev pub went_text : Sums → List ℕ
went_text s = codes "ran " ++ decimal s.ran ++ codes " sent " ++ decimal s.sent ++ codes " lost " ++ decimal s.lost

-- `fired 0 received 1 denied 0 ran 3 sent 1 lost 0`
abbrev pub sums_text : Sums → List ℕ
sums_text s = came_text s ++ codes " " ++ went_text s
