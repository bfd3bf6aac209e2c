-- What chains cost, a link at a time.
use Rattle.std.proofs.Common.{◌≡◌, ℕ, ◌+◌, ◌<◌, List, [], ◌∷◌, length, drop, get_or, map, refl, sym, ap, ◌∙◌, Vec, rules}
use Rattle.std.specs.declared.alloc.Global.{Global}
use Rattle.std.specs.declared.boxed.Box.{Box}
use Rattle.fb_model.specs.TypedText.{Term, double}
use Rattle.st_types.specs.declared.term.TypedExpr.{TypedExpr, Chain, the_lemmas}
use Rattle.st_types.specs.declared.term.TypedLink.{TypedLink}
use Rattle.st_types.specs.Views.{Tail, joined, term_of, tail_of}
use Rattle.st_types.proofs.Chains.{view_chain}
use Rattle.st_types.proofs.Gathering.{drop_step}
use Rattle.fb_find_laws.specs.Nodes.{capped}
use Rattle.fb_model_work.specs.Spending.{Prices, in_term, of_operation}
use Rattle.fb_work_statements.specs.Sums.{linked_work}
use Rattle.fb_work_statements.proofs.Capping.{added_capped, summed}

work_joined : (ps : Prices) (x : Term) (ls : List Tail) → in_term ps (joined x ls) ≡ linked_work ps ls (in_term ps x)
work_joined ps x [] = refl
work_joined ps x (l ∷ ls) = work_joined ps (double l.0 l.1 x l.2) ls

-- what a chain costs, from what its first operand does
pub work_chain : (ps : Prices) (b : Box TypedExpr Global) (v : Vec TypedLink Global)
    → in_term ps (term_of (Chain b v)) ≡ linked_work ps (map tail_of v.items) (in_term ps (term_of b.value))
work_chain ps b v = ap (in_term ps) (view_chain b v) ∙ work_joined ps (term_of b.value) (map tail_of v.items)

-- as far as numbers are told apart, the first operand may be capped
pub linked_capped : (ps : Prices) (ls : List Tail) (m n : ℕ) → capped m ≡ capped n → capped (linked_work ps ls m) ≡ capped (linked_work ps ls n)
linked_capped ps [] m n h = h
linked_capped ps (l ∷ ls) m n h =
    let cost = ps (of_operation l.0) in
    let own = in_term ps l.2 in
    linked_capped ps ls (cost + (m + own)) (cost + (n + own)) (added_capped cost own m n h)

tail_is : (y : TypedLink) → tail_of y ≡ (y.operation, y.of_type, term_of y.operand)
tail_is y = search (rules, the_lemmas)

-- the next operation
pub next_work : (ps : Prices) (links : List TypedLink) (i : ℕ) (y : TypedLink) (n o s q all : ℕ)
    → i < length links → y ≡ get_or links i y → capped (linked_work ps (map tail_of (drop i links)) n) ≡ all
    → o ≡ capped (in_term ps (term_of y.operand)) → s ≡ capped (n + o) → q ≡ capped (ps (of_operation y.operation) + s)
    → capped (linked_work ps (map tail_of (drop (i + 1) links)) q) ≡ all
next_work ps links i y n o s q all lt is h operand sum put =
    let rest = map tail_of (drop (i + 1) links) in
    let cost = ps (of_operation y.operation) in
    let own = in_term ps (term_of y.operand) in
    linked_capped ps rest q (cost + (n + own)) (summed cost n own o s q operand sum put)
    ∙ ap (λ (l : Tail). capped (linked_work ps (l ∷ rest) n)) (sym (tail_is y))
    ∙ ap (λ (l : List TypedLink). capped (linked_work ps (map tail_of l) n)) (sym (drop_step links i y lt is))
    ∙ h
