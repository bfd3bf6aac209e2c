-- Branches and arms, one after another.
use Rattle.std.proofs.Common.{◌≡◌, ℕ, ◌+◌, ◌*◌, ◌<◌, ◌≤◌, ℤ, true, false, List, ◌∷◌, length, drop, get_or, Some, sym, ap, subst, ◌∙◌, arith, rules, Vec}
use Rattle.std.specs.Prelude.{if◌then◌else◌}
use Rattle.std.specs.declared.alloc.Global.{Global}
use denote.Param.Weighed.{most, at_most}
use Rattle.fb_model.specs.Values.{Values}
use Rattle.fb_model.specs.TypedText.{constant, choose, match_on, Commands, choice, a_case}
use Rattle.fb_model.specs.Language.{Outcome, value_of, with_value, is_zero, labelled, run, run_choices, run_cases}
use Rattle.st_exec.specs.declared.code.Code.{Code}
use Rattle.st_exec.specs.declared.command.CodeStmt.{CodeStmt, If, Case, the_lemmas}
use Rattle.st_exec.specs.declared.command.CodeBranch.{CodeBranch}
use Rattle.st_exec.specs.declared.command.CodeArm.{CodeArm}
use Rattle.st_exec.specs.CodeViews.{code_term, code_command, code_commands, code_choice, code_choices, code_case, code_cases}
use Rattle.st_types.specs.CommandViews.{Chosen, Cased}
use Rattle.st_types.proofs.Gathering.{drop_step}
use Rattle.st_exec.specs.Cells.{Form}
use Rattle.st_exec.specs.Runs.{Supports, SupportsOne}
use Rattle.st_exec.proofs.Serving.{choice_served, choices_served, case_served, cases_served}
use Rattle.st_exec.proofs.command.CodeStmt.TheLaws.{the_size as stmt_size}
use Rattle.st_exec.proofs.command.CodeBranch.TheLaws.{the_size as branch_size}
use Rattle.st_exec.proofs.command.CodeArm.TheLaws.{the_size as arm_size}

pub if_view : (b : Vec CodeBranch Global) (v : Vec CodeStmt Global) → code_command (If b v) ≡ choose (code_choices b.items) (code_commands v.items)
if_view b v = search (rules, the_lemmas)

pub case_view : (e : Code) (a : Vec CodeArm Global) (v : Vec CodeStmt Global) → code_command (Case e a v) ≡ match_on (code_term e) (code_cases a.items) (code_commands v.items)
case_view e a v = search (rules, the_lemmas)

branch_view : (b : CodeBranch) → code_choice b ≡ (code_term b.condition, code_commands b.body.items)
branch_view b = search (rules, the_lemmas)

arm_view : (a : CodeArm) → code_case a ≡ (a.labels.items, code_commands a.body.items)
arm_view a = search (rules, the_lemmas)

pub choices_cons : (b : CodeBranch) (bs : List CodeBranch) → code_choices (b ∷ bs) ≡ choice (code_term b.condition) (code_commands b.body.items) (code_choices bs)
choices_cons b bs = ap (λ (p : Chosen). choice p.0 p.1 (code_choices bs)) (branch_view b)

pub cases_cons : (a : CodeArm) (as' : List CodeArm) → code_cases (a ∷ as') ≡ a_case a.labels.items (code_commands a.body.items) (code_cases as')
cases_cons a as' = ap (λ (p : Cased). a_case p.0 p.1 (code_cases as')) (arm_view a)

module _ (values : Values) (o : Outcome) where
  module _ (b : CodeBranch) (bs : List CodeBranch) (v : ℤ) (is : value_of (code_term b.condition) values ≡ Some v) where
    choice_runs : run_choices (code_choices (b ∷ bs)) values o ≡ (if is_zero v then run_choices (code_choices bs) values o else run (code_commands b.body.items) values)
    choice_runs =
        ap (λ c. run_choices c values o) (choices_cons b bs)
        ∙ ap (λ r. with_value r (λ v. if is_zero v then run_choices (code_choices bs) values o else run (code_commands b.body.items) values)) is

    pub choice_taken : is_zero v ≡ false → run_choices (code_choices (b ∷ bs)) values o ≡ run (code_commands b.body.items) values
    choice_taken z = choice_runs ∙ ap (λ c. if c then run_choices (code_choices bs) values o else run (code_commands b.body.items) values) z

    pub choice_passed : is_zero v ≡ true → run_choices (code_choices (b ∷ bs)) values o ≡ run_choices (code_choices bs) values o
    choice_passed z = choice_runs ∙ ap (λ c. if c then run_choices (code_choices bs) values o else run (code_commands b.body.items) values) z

  module _ (a : CodeArm) (as' : List CodeArm) (k : ℤ) where
    case_runs : run_cases (code_cases (a ∷ as')) k values o ≡ (if labelled a.labels.items k then run (code_commands a.body.items) values else run_cases (code_cases as') k values o)
    case_runs = ap (λ c. run_cases c k values o) (cases_cons a as')

    pub case_taken : labelled a.labels.items k ≡ true → run_cases (code_cases (a ∷ as')) k values o ≡ run (code_commands a.body.items) values
    case_taken z = case_runs ∙ ap (λ c. if c then run (code_commands a.body.items) values else run_cases (code_cases as') k values o) z

    pub case_passed : labelled a.labels.items k ≡ false → run_cases (code_cases (a ∷ as')) k values o ≡ run_cases (code_cases as') k values o
    case_passed z = case_runs ∙ ap (λ c. if c then run (code_commands a.body.items) values else run_cases (code_cases as') k values o) z

-- ---- sizes

pub branch_body : (b : CodeBranch) → most stmt_size b.body.items + 1 ≤ branch_size b
branch_body b = search (rules, the_lemmas)

pub arm_body : (a : CodeArm) → most stmt_size a.body.items + 1 ≤ arm_size a
arm_body a = search (rules, the_lemmas)

pub if_first : (b : Vec CodeBranch Global) (v : Vec CodeStmt Global) → most branch_size b.items + 1 ≤ stmt_size (If b v)
if_first b v = search (rules, the_lemmas)

pub if_rest : (b : Vec CodeBranch Global) (v : Vec CodeStmt Global) → most stmt_size v.items + 1 ≤ stmt_size (If b v)
if_rest b v = search (rules, the_lemmas)

pub case_first : (e : Code) (a : Vec CodeArm Global) (v : Vec CodeStmt Global) → most arm_size a.items + 1 ≤ stmt_size (Case e a v)
case_first e a v = search (rules, the_lemmas)

pub case_rest : (e : Code) (a : Vec CodeArm Global) (v : Vec CodeStmt Global) → most stmt_size v.items + 1 ≤ stmt_size (Case e a v)
case_rest e a v = search (rules, the_lemmas)

-- ---- one iteration of a loop over arms or branches

module _ (list : List CodeArm) (i : ℕ) (a : CodeArm) (before : i < length list) (at : a ≡ get_or list i a) (k : ℤ) (body : List CodeStmt) (body_at : body ≡ a.body.items) where
  here : drop i list ≡ a ∷ drop (i + 1) list
  here = drop_step list i a before at

  module _ (values : Values) (o whole : Outcome) (left : run_cases (code_cases (drop i list)) k values o ≡ whole) where
    left_here : run_cases (code_cases (a ∷ drop (i + 1) list)) k values o ≡ whole
    left_here = ap (λ l. run_cases (code_cases l) k values o) (sym here) ∙ left

    pub arm_taken : labelled a.labels.items k ≡ true → run (code_commands body) values ≡ whole
    arm_taken z = ap (λ l. run (code_commands l) values) body_at ∙ sym (case_taken values o a (drop (i + 1) list) k z) ∙ left_here

    pub arm_passed : labelled a.labels.items k ≡ false → run_cases (code_cases (drop (i + 1) list)) k values o ≡ whole
    arm_passed z = sym (case_passed values o a (drop (i + 1) list) k z) ∙ left_here

  module _ (forms : List Form) (other : Commands) (serves : SupportsOne forms (match_on (constant k) (code_cases (drop i list)) other)) where
    serves_here : SupportsOne forms (match_on (constant k) (a_case a.labels.items (code_commands a.body.items) (code_cases (drop (i + 1) list))) other)
    serves_here = subst (λ c. SupportsOne forms (match_on (constant k) c other)) (ap code_cases here ∙ cases_cons a (drop (i + 1) list)) serves

    pub arm_serves : Supports forms (code_commands body)
    arm_serves = subst (λ l. Supports forms (code_commands l)) (sym body_at) (case_served forms (constant k) a.labels.items (code_commands a.body.items) (code_cases (drop (i + 1) list)) other serves_here)

    pub arms_serve : SupportsOne forms (match_on (constant k) (code_cases (drop (i + 1) list)) other)
    arms_serve = cases_served forms (constant k) a.labels.items (code_commands a.body.items) (code_cases (drop (i + 1) list)) other serves_here

  pub arm_smaller : (t : ℕ) → 4 * most arm_size list + 2 ≤ t → 4 * most stmt_size body + 1 < t
  arm_smaller t h =
      let m = at_most arm_size list i a before in
      let g = ap arm_size at in
      let b = arm_body a in
      let e = ap (most stmt_size) body_at in
      omega (arith, h, m, g, b, e)

module _ (list : List CodeBranch) (i : ℕ) (b : CodeBranch) (before : i < length list) (at : b ≡ get_or list i b) where
  there : drop i list ≡ b ∷ drop (i + 1) list
  there = drop_step list i b before at

  module _ (values : Values) (o whole : Outcome) (left : run_choices (code_choices (drop i list)) values o ≡ whole) where
    left_there : run_choices (code_choices (b ∷ drop (i + 1) list)) values o ≡ whole
    left_there = ap (λ l. run_choices (code_choices l) values o) (sym there) ∙ left

    pub branch_taken : (v : ℤ) → value_of (code_term b.condition) values ≡ Some v → is_zero v ≡ false → (body : List CodeStmt) → body ≡ b.body.items → run (code_commands body) values ≡ whole
    branch_taken v e z body body_at = ap (λ l. run (code_commands l) values) body_at ∙ sym (choice_taken values o b (drop (i + 1) list) v e z) ∙ left_there

    pub branch_passed : (v : ℤ) → value_of (code_term b.condition) values ≡ Some v → is_zero v ≡ true → run_choices (code_choices (drop (i + 1) list)) values o ≡ whole
    branch_passed v e z = sym (choice_passed values o b (drop (i + 1) list) v e z) ∙ left_there

  module _ (forms : List Form) (other : Commands) (serves : SupportsOne forms (choose (code_choices (drop i list)) other)) where
    serves_there : SupportsOne forms (choose (choice (code_term b.condition) (code_commands b.body.items) (code_choices (drop (i + 1) list))) other)
    serves_there = subst (λ c. SupportsOne forms (choose c other)) (ap code_choices there ∙ choices_cons b (drop (i + 1) list)) serves

    pub branch_serves : (body : List CodeStmt) → body ≡ b.body.items → Supports forms (code_commands body)
    branch_serves body body_at = subst (λ l. Supports forms (code_commands l)) (sym body_at) (choice_served forms (code_term b.condition) (code_commands b.body.items) (code_choices (drop (i + 1) list)) other serves_there)

    pub branches_serve : SupportsOne forms (choose (code_choices (drop (i + 1) list)) other)
    branches_serve = choices_served forms (code_term b.condition) (code_commands b.body.items) (code_choices (drop (i + 1) list)) other serves_there

  pub branch_smaller : (body : List CodeStmt) → body ≡ b.body.items → (t : ℕ) → 4 * most branch_size list + 2 ≤ t → 4 * most stmt_size body + 1 < t
  branch_smaller body body_at t h =
      let m = at_most branch_size list i b before in
      let g = ap branch_size at in
      let s = branch_body b in
      let e = ap (most stmt_size) body_at in
      omega (arith, h, m, g, s, e)
