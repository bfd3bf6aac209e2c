use Rattle.std.proofs.Common.{◌≡◌, ℕ, List, [], ◌∷◌, ◌++◌, map, get_or, refl, ap, ◌∙◌}
use Rattle.fb_find_demands.proofs.Loops.{rest_got, turn, ends}
use Rattle.fb_find_demands.specs.Rights.{right_of, rights_of}
use Rattle.fb_turns.specs.Counting.{term_right}
use Rattle.fb_turns.proofs.Loops.{one_added}
use Rattle.fb_turns.proofs.demand.add_terms.Goals as goal

pub loop-term-init : goal.loop-term-init
loop-term-init c = refl

pub loop-term-preserved : goal.loop-term-preserved
loop-term-preserved c =
    let node = c.args.right.now.node in
    let f = term_right c.args.states node in
    let xs = c.deref-term-items.result.now in
    let i = c.loop-term.term-index in
    let x = get_or xs i 0 in
    let one : right_of c.in_ok-with_term.field-0 ≡ f x = c.in_ok-with_term.ensures ∙ ap (λ (k : ℕ). record { node = node; constant = k; terms = x ∷ [] }) c.own-constant.ensures in
    turn (map f) xs i x (f x ∷ []) (rights_of c.loop-term.rights.items) (rights_of c.push.new.self.items) _ (rest_got xs i 0 c.loop-term-test.true) refl
    (one_added c.loop-term.rights.items c.push.new.self.items c.in_ok-with_term.field-0 (f x) c.in_ok-push.ensures.items one) c.loop-term.invariant

pub returns : goal.returns
returns c =
    let f = term_right c.args.states c.args.right.now.node in
    ends (map f) c.deref-term-items.result.now c.loop-term.term-index (rights_of c.loop-term.rights.items) (rights_of c.args.rights.now.items ++ map f c.deref-term-items.result.now) c.loop-term-test.false refl c.loop-term.invariant
    ∙ ap (λ (ts : List ℕ). rights_of c.args.rights.now.items ++ map f ts) c.deref-term-items.ensures.value
