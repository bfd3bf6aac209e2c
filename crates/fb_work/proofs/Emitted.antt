-- What is emitted weighs alike as nodes and as places.
use Rattle.std.proofs.Common.{◌≡◌, ℕ, ◌+◌, Bool, true, false, cond, List, [], ◌∷◌, ◌++◌, map, refl, sym, ◌∙◌, ap, arith}
use Rattle.std.specs.List.{sum_by}
use Rattle.std.specs.Str.{bytes_eq}
use Rattle.std.proofs.lemmas.List.Sums.{sum_by-cons, sum_by-append}
use Rattle.fb_model.specs.Names.{Name, Place}
use Rattle.fb_model.specs.System.{Action, Service, Input, Output, Publish, Subscribe, Delay, Cycle, Restart}
use Rattle.fb_model.specs.Services.{can_emit, init}
use Rattle.fb_model.specs.Charts.{emission}
use Rattle.fb_model.specs.Certificates.{reached}
use Rattle.fb_model.specs.Demands.{Node, event, Ground, emitted, sent}
use Rattle.fb_model_turns.specs.Turns.{added, caused, joined, outputs_of}
use Rattle.fb_model_turns.proofs.Joins.{added_joins, caused-append}
use Rattle.fb_turns.specs.Counting.{counts_by}

neither : (b : Bool) (xs : List Node) → xs ≡ [] → cond b [] xs ≡ []
neither true xs h = refl
neither false xs h = h

module _ (x : Node → ℕ) where
  places_sum : (ps : List Place) → sum_by x (map event ps) ≡ joined added (λ p. x (event p)) ps
  places_sum [] = refl
  places_sum (p ∷ ps) = sum_by-cons x (event p) (map event ps) ∙ ap (λ k. x (event p) + k) (places_sum ps)

  -- what outputs reach
  pub reached_sum : (targets : Name → List Place) (outs : List Name) → sum_by x (map event (reached targets outs)) ≡ caused added (counts_by x) targets outs
  reached_sum targets outs = places_sum (reached targets outs)

  -- what actions emit
  pub emitted_sum : (g : Ground) (actions : List Action) → sum_by x (emitted g actions) ≡ caused added (counts_by x) g.targets (outputs_of actions)
  emitted_sum g [] = refl
  emitted_sum g (a ∷ rest) =
      sum_by-append x (map event (reached g.targets (emission a.output))) (emitted g rest)
      ∙ ap (λ n. n + sum_by x (emitted g rest)) (reached_sum g.targets (emission a.output))
      ∙ ap (λ n. caused added (counts_by x) g.targets (emission a.output) + n) (emitted_sum g rest)
      ∙ sym (caused-append added added_joins (counts_by x) g.targets (emission a.output) (outputs_of rest))

  pub one_sum : (v : Node) → sum_by x (v ∷ []) ≡ x v
  one_sum v = omega (arith, sum_by-cons x v [])

  -- what actions emit, and a state
  pub followed_sum : (g : Ground) (actions : List Action) (v : Node)
      → sum_by x (emitted g actions ++ v ∷ []) ≡ caused added (counts_by x) g.targets (outputs_of actions) + x v
  followed_sum g actions v =
      sum_by-append x (emitted g actions) (v ∷ [])
      ∙ ap (λ n. n + sum_by x (v ∷ [])) (emitted_sum g actions)
      ∙ ap (λ n. caused added (counts_by x) g.targets (outputs_of actions) + n) (one_sum v)

  -- datagrams that ask for nothing do not weigh
  none_sent : (g : Ground) → ((c : ℕ) → g.datagram c ≡ []) → (service : Service) (e : Name) → sent g service e ≡ []
  none_sent g none (Input n types) e = refl
  none_sent g none (Output n types) e = refl
  none_sent g none (Publish c types) e = neither (bytes_eq e init) (g.datagram c.number) (none c.number)
  none_sent g none (Subscribe c types) e = refl
  none_sent g none Delay e = refl
  none_sent g none Cycle e = refl
  none_sent g none Restart e = refl

  pub sent_sum : (g : Ground) → ((c : ℕ) → g.datagram c ≡ []) → (service : Service) (e : Name)
      → sum_by x (sent g service e ++ map event (reached g.targets (can_emit service e))) ≡ caused added (counts_by x) g.targets (can_emit service e)
  sent_sum g none service e =
      ap (λ d. sum_by x (d ++ map event (reached g.targets (can_emit service e)))) (none_sent g none service e) ∙ reached_sum g.targets (can_emit service e)
