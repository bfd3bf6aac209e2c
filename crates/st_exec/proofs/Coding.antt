-- Lists that are coded an item at a time, and the views of coded items.
use Rattle.std.proofs.Common.{◌≡◌, ℕ, suc, ◌+◌, ◌<◌, Bool, true, false, ◌&&◌, List, [], ◌∷◌, ◌++◌, map, take, length, get_or, sym, ap, ◌∙◌, arith, rules}
use Rattle.std.proofs.Math.Seq.{take-suc}
use Rattle.std.proofs.lemmas.List.{map_push}
use Rattle.fb_model.specs.TypedText.{done}
use Rattle.st_types.specs.declared.term.TypedLink.{TypedLink}
use Rattle.st_types.specs.declared.term.TypedExpr.{the_lemmas as expr_lemmas}
use Rattle.st_types.specs.declared.command.TypedBranch.{TypedBranch}
use Rattle.st_types.specs.declared.command.TypedArm.{TypedArm}
use Rattle.st_types.specs.declared.command.TypedStmt.{TypedStmt, the_lemmas as stmt_lemmas}
use Rattle.st_types.specs.Views.{term_of, tail_of}
use Rattle.st_types.specs.CommandViews.{then_all, command_of, commands_of, choice_of, case_of}
use Rattle.st_exec.specs.declared.code.CodeLink.{CodeLink}
use Rattle.st_exec.specs.declared.code.Code.{the_lemmas as code_lemmas}
use Rattle.st_exec.specs.declared.command.CodeBranch.{CodeBranch}
use Rattle.st_exec.specs.declared.command.CodeArm.{CodeArm}
use Rattle.st_exec.specs.declared.command.CodeStmt.{CodeStmt, the_lemmas as coded_lemmas}
use Rattle.st_exec.specs.Forms.{Form}
use Rattle.st_exec.specs.CodeViews.{code_term, code_tail, code_command, code_commands, code_choice, code_case}
use Rattle.st_exec.specs.Placed.{placed, placed_link, placed_arm, placed_branch, placed_all, all_true}

take_step : {X : Type 0} (xs : List X) (i : ℕ) (x : X) → i < length xs → x ≡ get_or xs i x → take (i + 1) xs ≡ take i xs ++ x ∷ []
take_step xs i x lt e = let f : i + 1 ≡ suc i = omega arith in ap (λ k. take k xs) f ∙ take-suc xs i x lt ∙ ap (λ y. take i xs ++ y ∷ []) (sym e)

-- one more item that is the same as its source
pub same_more : {X Y V : Type 0} (f : X → V) (g : Y → V) (coded next : List X) (all : List Y) (i : ℕ) (x : X) (y : Y) → i < length all → y ≡ get_or all i y
    → map f coded ≡ map g (take i all) → next ≡ coded ++ x ∷ [] → f x ≡ g y → map f next ≡ map g (take (i + 1) all)
same_more f g coded next all i x y lt at so e v =
    ap (map f) e ∙ map_push f coded x ∙ ap (λ vs. vs ++ f x ∷ []) so ∙ ap (λ w. map g (take i all) ++ w ∷ []) v ∙ sym (map_push g (take i all) y) ∙ ap (map g) (sym (take_step all i y lt at))

and_more : (b : Bool) (xs ys : Bool) → ((xs ≡ true) → ys ≡ true) → (b && xs) ≡ true → (b && ys) ≡ true
and_more true xs ys again h = again h
and_more false xs ys again h = h

true_more : {X : Type 0} (f : X → Bool) (xs : List X) (x : X) → all_true (map f xs) ≡ true → f x ≡ true → all_true (map f (xs ++ x ∷ [])) ≡ true
true_more f [] x h e = ap (λ b. b && true) e
true_more f (y ∷ ys) x h e = and_more (f y) (all_true (map f ys)) (all_true (map f (ys ++ x ∷ []))) (λ g. true_more f ys x g e) h

-- one more item whose slots are right
pub slots_more : {X : Type 0} (f : X → Bool) (coded next : List X) (x : X) → all_true (map f coded) ≡ true → next ≡ coded ++ x ∷ [] → f x ≡ true → all_true (map f next) ≡ true
slots_more f coded next x so e v = ap (λ l. all_true (map f l)) e ∙ true_more f coded x so v

-- ---- items

pub link_same : (c : CodeLink) (l : TypedLink) → c.operation ≡ l.operation → c.of_type ≡ l.of_type → code_term c.operand ≡ term_of l.operand → code_tail c ≡ tail_of l
link_same c l f a e =
    code_view c ∙ ap (λ o. (o, c.of_type, code_term c.operand)) f ∙ ap (λ t. (l.operation, t, code_term c.operand)) a ∙ ap (λ v. (l.operation, l.of_type, v)) e ∙ sym (link_view l)
  where
    code_view : (k : CodeLink) → code_tail k ≡ (k.operation, k.of_type, code_term k.operand)
    code_view k = search (rules, code_lemmas)

    link_view : (k : TypedLink) → tail_of k ≡ (k.operation, k.of_type, term_of k.operand)
    link_view k = search (rules, expr_lemmas)

pub link_slots : (fs : List Form) (c : CodeLink) → placed fs c.operand ≡ true → placed_link fs c ≡ true
link_slots fs c h = view c ∙ h where
  view : (k : CodeLink) → placed_link fs k ≡ placed fs k.operand
  view k = search (rules, code_lemmas)

pub branch_same : (c : CodeBranch) (b : TypedBranch) → code_term c.condition ≡ term_of b.condition → code_commands c.body.items ≡ commands_of b.body.items → code_choice c ≡ choice_of b
branch_same c b e f = code_view c ∙ ap (λ v. (v, code_commands c.body.items)) e ∙ ap (λ v. (term_of b.condition, v)) f ∙ sym (branch_view b) where
  code_view : (k : CodeBranch) → code_choice k ≡ (code_term k.condition, code_commands k.body.items)
  code_view k = search (rules, coded_lemmas)

  branch_view : (k : TypedBranch) → choice_of k ≡ (term_of k.condition, commands_of k.body.items)
  branch_view k = search (rules, stmt_lemmas)

pub branch_slots : (fs : List Form) (c : CodeBranch) → placed fs c.condition ≡ true → placed_all fs c.body.items ≡ true → placed_branch fs c ≡ true
branch_slots fs c h g = view c ∙ ap (λ b. b && placed_all fs c.body.items) h ∙ g where
  view : (k : CodeBranch) → placed_branch fs k ≡ (placed fs k.condition && placed_all fs k.body.items)
  view k = search (rules, coded_lemmas)

pub arm_same : (c : CodeArm) (a : TypedArm) → c.labels.items ≡ a.labels.items → code_commands c.body.items ≡ commands_of a.body.items → code_case c ≡ case_of a
arm_same c a e f = code_view c ∙ ap (λ v. (v, code_commands c.body.items)) e ∙ ap (λ v. (a.labels.items, v)) f ∙ sym (arm_view a) where
  code_view : (k : CodeArm) → code_case k ≡ (k.labels.items, code_commands k.body.items)
  code_view k = search (rules, coded_lemmas)

  arm_view : (k : TypedArm) → case_of k ≡ (k.labels.items, commands_of k.body.items)
  arm_view k = search (rules, stmt_lemmas)

pub arm_slots : (fs : List Form) (c : CodeArm) → placed_all fs c.body.items ≡ true → placed_arm fs c ≡ true
arm_slots fs c h = view c ∙ h where
  view : (k : CodeArm) → placed_arm fs k ≡ placed_all fs k.body.items
  view k = search (rules, coded_lemmas)

-- the same statements are the same commands
pub body_same : (coded : List CodeStmt) (list source : List TypedStmt) → map code_command coded ≡ map command_of list → list ≡ source → code_commands coded ≡ commands_of source
body_same coded list source e at = ap (λ l. then_all l done) e ∙ ap commands_of at
