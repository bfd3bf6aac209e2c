-- What statements cost, a statement, a branch and a FOR at a time.
use Rattle.std.proofs.Common.{◌≡◌, ℕ, ◌+◌, ◌*◌, ◌<◌, true, false, max, List, length, drop, get_or, Option, None, Some, sym, ap, subst, ◌∙◌, arith, rules, Vec}
use Rattle.std.proofs.lemmas.Bool.{false≢true}
use Rattle.std.proofs.lemmas.Int.{clamps}
use Rattle.std.specs.Prelude.{if◌then◌else◌}
use Rattle.std.specs.declared.alloc.Global.{Global}
use Rattle.fb_prices.specs.declared.primitive.Primitive.TheVariants as p
use Rattle.fb_model.specs.TypedText.{Commands}
use Rattle.fb_model.specs.Spans.{Span}
use Rattle.fb_model.specs.Clear.{Spans, Found, Clear, Leaves, Traps, changed, reset, assigned, range_of, narrowed, most_iterations, taken, examine_one}
use Rattle.fb_model_laws.proofs.Ending.{Ends}
use Rattle.st_types.specs.declared.command.TypedStmt.{TypedStmt, the_lemmas}
use Rattle.st_types.specs.declared.command.TypedStmt.TheVariants.{For}
use Rattle.st_types.specs.declared.command.TypedBranch.{TypedBranch}
use Rattle.st_types.specs.declared.command.TypedArm.{TypedArm}
use Rattle.st_types.specs.declared.command.Counting.{Counting}
use Rattle.st_types.specs.Commanding.{Counted}
use Rattle.st_types.specs.Views.{term_of}
use Rattle.st_types.specs.CommandViews.{case_of, choice_of, choices_of, command_of, commands_of, counted_command, counting_of}
use Rattle.st_types.proofs.Gathering.{drop_step}
use Rattle.fb_ranges.specs.declared.told.Told.{Told}
use Rattle.fb_ranges.specs.declared.expression.Ranged.{Ranged}
use Rattle.fb_ranges.specs.Finding.{tell}
use Rattle.fb_ranges.specs.Views.{clear_range}
use Rattle.fb_ranges_intervals.specs.Views.{span_of}
use Rattle.fb_find_laws.specs.Nodes.{capped}
use Rattle.fb_model_work.specs.Spending.{Prices, in_term, where_some}
use Rattle.fb_model_work.specs.Most.{most_all, most_choices, most_one, where_clear}
use Rattle.fb_work_statements.specs.Sums.{most_iterated, most_repeated}
use Rattle.fb_work_statements.specs.Telling.{has_steps}
use Rattle.fb_work_statements.proofs.Capping.{dearest, repeated}

-- ---- statements

pub command_for : (k : Counting) (v : Vec TypedStmt Global) → command_of (For k v) ≡ counted_command (counting_of k) (commands_of v.items)
command_for k v = search (rules, the_lemmas)

pub case_is : (a : TypedArm) → case_of a ≡ (a.labels.items, commands_of a.body.items)
case_is a = search (rules, the_lemmas)

pub choice_is : (b : TypedBranch) → choice_of b ≡ (term_of b.condition, commands_of b.body.items)
choice_is b = search (rules, the_lemmas)

-- behind what is clear
goes_on : (found : Found) (end : Spans) (f : Spans → ℕ) → has_steps (tell found) ≡ true → Ends found end → where_clear found f ≡ f end
goes_on (Clear s n) end f h e = ap f e
goes_on Leaves end f h e = absurd (false≢true h)
goes_on Traps end f h e = absurd (false≢true h)

one_more : (sum own rest w s : ℕ) → w ≡ capped own → s ≡ capped (sum + w) → capped (s + rest) ≡ capped (sum + (own + rest))
one_more sum own rest w s e put = omega (arith, clamps, e, put)

-- one more statement
pub next_statement : (ps : Prices) (rows : Spans) (list : List TypedStmt) (i : ℕ) (y : TypedStmt)
    (here after : Spans) (told : Told) (sum w s all : ℕ)
    → i < length list → y ≡ get_or list i y → capped (sum + most_all ps rows (commands_of (drop i list)) here) ≡ all
    → w ≡ capped (most_one ps rows (command_of y) here) → s ≡ capped (sum + w)
    → told ≡ tell (examine_one rows (command_of y) here) → has_steps told ≡ true → Ends (examine_one rows (command_of y) here) after
    → capped (s + most_all ps rows (commands_of (drop (i + 1) list)) after) ≡ all
next_statement ps rows list i y here after told sum w s all lt is h e put tells clear end =
    let found = examine_one rows (command_of y) here in
    let rest = λ (u : Spans). most_all ps rows (commands_of (drop (i + 1) list)) u in
    let own = most_one ps rows (command_of y) here in
    one_more sum own (rest after) w s e put
    ∙ ap (λ n. capped (sum + (own + n))) (sym (goes_on found after rest (subst (λ (u : Told). has_steps u ≡ true) tells clear) end))
    ∙ ap (λ (l : List TypedStmt). capped (sum + most_all ps rows (commands_of l) here)) (sym (drop_step list i y lt is))
    ∙ h

-- ---- branches

-- one more branch
pub next_branch : (ps : Prices) (rows : Spans) (branches : List TypedBranch) (i : ℕ) (y : TypedBranch) (other : Spans → ℕ) (here after : Spans)
    (best tried o b t a m all : ℕ)
    → i < length branches → y ≡ get_or branches i y → max best (capped (tried + most_choices ps rows (choices_of (drop i branches)) other here)) ≡ all
    → o ≡ capped (ps p.Branch + in_term ps (choice_of y).0) → b ≡ capped (most_all ps rows (choice_of y).1 (narrowed (choice_of y).0 true here))
    → t ≡ capped (tried + o) → a ≡ capped (t + b) → m ≡ max best a → after ≡ narrowed (choice_of y).0 false here
    → max m (capped (t + most_choices ps rows (choices_of (drop (i + 1) branches)) other after)) ≡ all
next_branch ps rows branches i y other here after best tried o b t a m all lt is h e f put g most left =
    let rest = λ (u : Spans). most_choices ps rows (choices_of (drop (i + 1) branches)) other u in
    let c = choice_of y in
    ap (λ (u : Spans). max m (capped (t + rest u))) left
    ∙ dearest best tried (ps p.Branch + in_term ps c.0) (most_all ps rows c.1 (narrowed c.0 true here)) (rest (narrowed c.0 false here)) o b t a m all
    e f put g most
    (ap (λ (l : List TypedBranch). max best (capped (tried + most_choices ps rows (choices_of l) other here))) (sym (drop_step branches i y lt is)) ∙ h)

-- ---- FOR

-- the range of a bound that is clear
pub ranged : (e : Ranged) (o : Option Span) → e.is_clear ≡ true → clear_range e ≡ o → o ≡ Some (span_of e.range)
ranged e o clear h = sym h ∙ ap (λ b. if b then Some (span_of e.range) else None) clear

again : (a b : ℕ) → capped (a + capped b) ≡ capped (a + b)
again a b = omega (arith, clamps)

-- so many iterations, each from the rows of what the body assigns
pub iterations_cost : (ps : Prices) (rows : Spans) (k : Counted) (body : Commands) (spans inside : Spans) (r s : Span) (n w each all : ℕ)
    → range_of k.first spans ≡ Some r → range_of k.last spans ≡ Some s → n ≡ most_iterations r s k.step
    → inside ≡ changed k.variable (λ b. taken r s k.step n) (reset (assigned body) rows spans) → w ≡ capped (most_all ps rows body inside)
    → each ≡ capped (ps p.Iteration + w) → all ≡ capped (n * each) → all ≡ capped (most_repeated ps rows k body spans)
iterations_cost ps rows k body spans inside r s n w each all first last many from work one put =
    let a = ps p.Iteration in
    let m = λ (j : ℕ). most_all ps rows body (changed k.variable (λ b. taken r s k.step j) (reset (assigned body) rows spans)) in
    let body_is = work ∙ ap (λ (u : Spans). capped (most_all ps rows body u)) from in
    put
    ∙ ap (λ j. capped (n * j)) (one ∙ ap (λ j. capped (a + j)) body_is ∙ again a (m n))
    ∙ repeated n (a + m n)
    ∙ ap (λ j. capped (j * (a + m j))) many
    ∙ ap (λ (q : Option Span). capped (where_some q (most_iterated ps rows k body spans r))) (sym last)
    ∙ ap (λ (q : Option Span). capped (where_some q (λ v. where_some (range_of k.last spans) (most_iterated ps rows k body spans v)))) (sym first)

-- the price of a FOR, its bounds and its iterations
pub for_cost : (a e g w x y s t all : ℕ) → x ≡ capped e → y ≡ capped g → s ≡ capped (x + y) → t ≡ capped (s + capped w) → all ≡ capped (a + t)
    → all ≡ capped (a + ((e + g) + w))
for_cost a e g w x y s t all h k sum both put =
    let s_is : s ≡ capped (e + g) = omega (arith, clamps, h, k, sum) in
    let t_is : t ≡ capped ((e + g) + w) = omega (arith, clamps, s_is, both) in
    omega (arith, clamps, t_is, put)
