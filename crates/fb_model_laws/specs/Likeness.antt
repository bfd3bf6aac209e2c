-- Demands that differ in their constants alone.
use Rattle.std.specs.Prelude.{ℕ, ◌≡◌, ◌+◌, List, [], ◌∷◌}
use Rattle.std.specs.List.{AllByRecursion}
use Rattle.fb_model.specs.Names.{Name}
use Rattle.fb_model.specs.System.{Action, State}
use Rattle.fb_model.specs.Services.{service_events, can_emit}
use Rattle.fb_model.specs.Wires.{Kind, Charted, Serviced}
use Rattle.fb_model.specs.Charts.{emission}
use Rattle.fb_model.specs.Certificates.{reached}
use Rattle.fb_model.specs.Demands.{Demand, Ground, work}

-- one by one they are of the same node and terms, and their constants are so to each other
abbrev pub AreLike : (ℕ → ℕ → Type 0) → List Demand → List Demand → Type 0
AreLike P [] [] = Unit {0}
AreLike P (d ∷ ds) (e ∷ es) = (d.node ≡ e.node) × (d.terms ≡ e.terms) × P d.constant e.constant × AreLike P ds es
AreLike P [] (e ∷ es) = ⊥
AreLike P (d ∷ ds) [] = ⊥

-- what actions emit leads to the same
abbrev pub LeadAlike : Ground → Ground → List Action → Type 0
LeadAlike g h actions = AllByRecursion (λ (a : Action). reached g.targets (emission a.output) ≡ reached h.targets (emission a.output)) actions

abbrev pub KindLeadsAlike : Ground → Ground → Kind → Type 0
KindLeadsAlike g h (Charted block) = AllByRecursion (λ (s : State). LeadAlike g h s.actions) block.states
KindLeadsAlike g h (Serviced service) = AllByRecursion (λ (e : Name). reached g.targets (can_emit service e) ≡ reached h.targets (can_emit service e)) (service_events service)

-- two grounds with the same places, on which actions cost what is so to each other
pub record AreGroundsAlike (P : ℕ → ℕ → Type 0) (g h : Ground) (kind : Kind) : Type 0 where
  pub unit : g.unit ≡ h.unit
  pub own : (n : Name) → g.own n ≡ h.own n
  pub datagram : (c : ℕ) → g.datagram c ≡ h.datagram c
  pub leads : KindLeadsAlike g h kind
  pub same : (n : ℕ) → P n n
  pub works : (actions : List Action) → P (work g actions) (work h actions)
  pub crosses : (actions : List Action) → P (work g actions + g.unit) (work h actions + h.unit)
