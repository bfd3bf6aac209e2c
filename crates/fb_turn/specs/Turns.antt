-- A turn of a device over a link: the clock, the datagrams that came in, and one dispatch of each resource.
-- This project's profile.
use Rattle.std.specs.Prelude.{◌≡◌, ℕ, ◌+◌, ◌≤◌, List, [], ◌++◌, map, length, Bool, false, if◌then◌else◌, Result, Ok, Err, Option}
use Rattle.std.specs.List.{flat_map, sum_by, AllByRecursion}
use Rattle.fb_model.specs.System.{Device}
use Rattle.fb_model.specs.Serving.{Effect}
use Rattle.fb_model.specs.Certificates.{Certificate}
use Rattle.fb_model.specs.Devices.{Machine, Dispatch, Run, Happens}
use Rattle.fb_words.specs.Links.{LinkCall}
use Rattle.fb_turn.specs.declared.turning.Report.{Report}
use Rattle.fb_turn.specs.declared.turning.LinkDown.{LinkDown}
use Rattle.fb_model.specs.Turning.{Chain, Close, ClosesAt, Cut, Receipt, Service, Sight, Turn, close_calls, coming, delivery, denials, each_once, effect_of, handing, is_cut, losses, lost_in, runs, sends, sends_for, serving, takings}

-- ---- the whole

abbrev pub report_of : Turn → Report
report_of t =
    record {
      fired = t.fired;
      received = length t.receipts;
      denied = sum_by denials t.receipts;
      ran = sum_by runs t.services;
      sent = sum_by takings t.services;
      lost = sum_by losses t.services;
    }

-- a turn answers the report of it, in which each resource was dispatched once; or that the link is down, where a receive failed, and then none was
abbrev pub IsTold : Turn → ℕ → Result Report LinkDown → Type 0
IsTold t resources (Ok report) = (is_cut t.close ≡ false) × (length t.services ≡ resources) × (report ≡ report_of t)
IsTold t resources (Err down) = (t.close ≡ Cut) × (t.services ≡ [])

-- ---- the parts of a turn

-- the receives of a turn, with the deliveries between them
pub record Receives {L W : Type 0} (cert : Certificate) (device : Device) (calls : L → LinkCall → L → Type 0) (count : L → ℕ) (sees : W → Sight → W → Type 0) (s : Machine) (l : L) (w : W) (all : List Receipt) (close : Close) (t : Machine) (m : L) (v : W) : Type 0 where
  pub device_run : Run cert device s (map delivery all) (map (λ r. r.answer) all) t
  pub link_run : Chain calls l (map handing all ++ close_calls close) m
  pub seen : Chain sees w (map coming all) v
  pub datagrams : AllByRecursion (λ r. length r.bytes ≤ 160) all
  pub closes : ClosesAt close (length all)
  pub counted : count m ≡ count l + (if is_cut close then 1 else 0)

-- the dispatches of the first resources
pub record Serves {L W : Type 0} (cert : Certificate) (device : Device) (calls : L → LinkCall → L → Type 0) (count : L → ℕ) (sees : W → Sight → W → Type 0) (s : Machine) (l : L) (w : W) (all : List Service) (t : Machine) (m : L) (v : W) : Type 0 where
  pub device_run : Run cert device s (each_once 0 all) (map (λ o. o.answer) all) t
  pub link_run : Chain calls l (flat_map sends all) m
  pub seen : Chain sees w (map serving all) v
  pub counted : count m ≡ count l + sum_by losses all

-- what an effect gives to the link
pub record GoesOut {L : Type 0} (calls : L → LinkCall → L → Type 0) (count : L → ℕ) (effect : Option Effect) (l : L) (taken : Bool) (m : L) : Type 0 where
  pub link_run : Chain calls l (sends_for effect taken) m
  pub counted : count m ≡ count l + lost_in effect taken

-- the dispatch of a resource
pub record ServesOne {L W : Type 0} (cert : Certificate) (device : Device) (calls : L → LinkCall → L → Type 0) (count : L → ℕ) (sees : W → Sight → W → Type 0) (resource : ℕ) (s : Machine) (l : L) (w : W) (one : Service) (t : Machine) (m : L) (v : W) : Type 0 where
  pub happens : Happens cert device s (Dispatch resource) one.answer t
  pub out : GoesOut calls count (effect_of one.answer) l one.taken m
  pub seen : sees w (serving one) v
