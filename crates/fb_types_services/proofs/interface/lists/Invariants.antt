use Rattle.std.proofs.Common.{◌≡◌, List, ℕ, drop, map}
use Rattle.std.specs.Borrow.{Bor}
use Rattle.fb_model.specs.Names.{is_in}
use Rattle.fb_types_services.proofs.interface.lists.Given as goal

abbrev pub invariant-loop-one : goal.invariant-loop-one
invariant-loop-one l = is_in l.name (map (λ (s : Bor (List ℕ)). s.now) (drop l.one-index l.names)) ≡ is_in l.name (map (λ (s : Bor (List ℕ)). s.now) l.names)
