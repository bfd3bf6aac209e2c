use Rattle.std.proofs.Common.{ℕ, ◌+◌, List, map, drop, Bor}
use Rattle.std.proofs.lemmas.List.{map-append}
use Rattle.fb_model.specs.Names.{Name, Place}
use Rattle.fb_model.specs.Certificates.{reached}
use Rattle.fb_model.specs.Demands.{event}
use Rattle.fb_flat.specs.Tables.{targets_of}
use Rattle.fb_find_demands.specs.Rights.{numbers_of}
use Rattle.fb_find_demands.proofs.Loops.{rest_got, turn}
use Rattle.fb_find_demands.proofs.scene.add_reached.Goals as goal

pub loop-name-preserved : goal.loop-name-preserved
loop-name-preserved c =
    let f : Place → ℕ = λ p. numbers_of c.args.numbering.now (event p) in
    let t = targets_of c.args.outputs.now in
    let xs = c.args.names.now in
    let i = c.loop-name.name-index in
    turn (λ (ns : List (Bor Name)). map f (reached t (map (λ n. n.now) ns))) xs i _ _ c.loop-name.terms.items c.add_output.new.terms.items _ (rest_got xs i _ c.loop-name-test.true)
    (map-append f _ (reached t (map (λ (n : Bor Name). n.now) (drop (i + 1) xs)))) c.in_ok-add_output.ensures c.loop-name.invariant
