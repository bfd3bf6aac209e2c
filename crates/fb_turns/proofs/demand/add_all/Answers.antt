use Rattle.std.proofs.Common.{◌≡◌, ℕ, List, ap₂, ◌∙◌}
use Rattle.fb_turns.specs.Counting.{all_right}
use Rattle.fb_find_demands.specs.Rights.{right_of}
use Rattle.fb_turns.proofs.Loops.{one_added}
use Rattle.fb_turns.proofs.demand.add_all.Goals as goal

pub returns : goal.returns
returns c =
    let same : c.in_ok-terms.terms.items ≡ c.args.right.now.terms.items = c.in_ok-terms.ensures.items_if_clones_equal (λ x y e. e) ∙ c.as_slice.ensures.value in
    one_added c.args.rights.now.items c.push.new.self.items _ (all_right c.args.states (right_of c.args.right.now)) c.in_ok-push.ensures.items
    (ap₂ (λ (k : ℕ) (ts : List ℕ). record { node = c.args.right.now.node; constant = k; terms = ts }) c.own.ensures same)
