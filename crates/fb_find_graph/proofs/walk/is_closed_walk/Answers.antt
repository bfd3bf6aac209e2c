use Rattle.std.proofs.Common.{ℕ, length, arith, map, take, ◌-◌, ◌↔◌, IsTrue, sym, subst}
use Rattle.std.proofs.lemmas.List.{length-map}
use Rattle.fb_find_graph.specs.Views.{inequality_of, system_of}
use Rattle.fb_find_graph.specs.Walks.{AreApart}
use Rattle.fb_find_graph.proofs.Walking.{apart_tells}
use Rattle.fb_find_graph.proofs.walk.is_closed_walk.Goals as goal

pub returns : goal.returns
returns c =
    let walk = c.args.walk.now in
    let many = length-map c.args.system.now (λ v. map inequality_of v.items) in
    let apart : IsTrue c.in_ok-apart.apart ↔ AreApart (length (system_of c.args.system.now)) (take (length walk - 1) walk) = subst (λ (n : ℕ). IsTrue c.in_ok-apart.apart ↔ AreApart n (take (length walk - 1) walk)) (sym many) c.in_ok-apart.ensures in
    apart_tells (system_of c.args.system.now) walk c.in_ok-apart.apart (omega (arith, c.if-length-lt2.false)) (c.closes.ensures.0 c.if-not-closes.false) (c.demands_along.ensures.0 c.if-not-demands_along.false) apart
