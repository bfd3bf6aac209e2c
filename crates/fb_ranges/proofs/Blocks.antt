-- Examinations, a statement, a branch and an arm at a time.
use Rattle.std.proofs.Common.{◌≡◌, ℕ, zero, suc, ◌+◌, ◌<◌, ℤ, List, length, drop, get_or, refl, sym, ap, ap₂, ◌∙◌, arith, rules, string_bytes, Vec}
use Rattle.std.specs.Prelude.{OnOk, Result, Ok, Err}
use Rattle.st_types.specs.declared.term.VariableName.{VariableName}
use Rattle.fb_model.specs.Names.{Name}
use Rattle.fb_model.specs.TypedText.{set, set_part, choose, match_on}
use Rattle.fb_model.specs.Spans.{Span}
use Rattle.fb_model.specs.Clear.{Spans, changed, reset, taken, left_with, examine, examine_one}
use Rattle.st_types.specs.declared.command.TypedStmt.{TypedStmt, the_lemmas}
use Rattle.st_types.specs.declared.command.TypedStmt.TheVariants.{Set, SetElement, If, Case}
use Rattle.st_types.specs.declared.command.TypedBranch.{TypedBranch}
use Rattle.st_types.specs.declared.command.TypedArm.{TypedArm}
use Rattle.std.specs.declared.alloc.Global.{Global}
use Rattle.st_types.specs.declared.term.TypedExpr.{TypedExpr}
use Rattle.st_types.specs.Views.{term_of}
use Rattle.st_types.specs.CommandViews.{command_of, commands_of, choice_of, choices_of, cases_of}
use Rattle.st_types.proofs.Gathering.{drop_step}
use Rattle.fb_model.specs.Asking.{Asked, point, asking_all, asked_loop, ask, ask_one}
use Rattle.fb_model_laws.proofs.Ending.{ends_one}
use Rattle.fb_ranges.specs.declared.told.Told.{Told}
use Rattle.fb_ranges.specs.Finding.{in_sequence, tell}
use Rattle.fb_ranges.proofs.Sides.{changed_known}
use Rattle.fb_ranges.proofs.Telling.{tell_onward, sequence_again}

pub on_ok : {A E : Type 0} (r : Result A E) (P Q : Type 0) → (P → Q) → OnOk r P → OnOk r Q
on_ok (Ok x) P Q f h = f h
on_ok (Err e) P Q f h = tt

pub on_ok_both : {A E : Type 0} (r : Result A E) (P Q R : Type 0) → (P → Q → R) → OnOk r P → OnOk r Q → OnOk r R
on_ok_both (Ok x) P Q R f h k = f h k
on_ok_both (Err e) P Q R f h k = tt

-- ---- statements

pub command_set : (x : VariableName) (e : TypedExpr) → command_of (Set x e) ≡ set (string_bytes x.name) (term_of e)
command_set x e = search (rules, the_lemmas)

pub command_element : (x : VariableName) (low high : ℤ) (i e : TypedExpr) → command_of (SetElement x low high i e) ≡ set_part (string_bytes x.name) low high (term_of i) (term_of e)
command_element x low high i e = search (rules, the_lemmas)

pub command_if : (bs : Vec TypedBranch Global) (other : Vec TypedStmt Global) → command_of (If bs other) ≡ choose (choices_of bs.items) (commands_of other.items)
command_if bs other = search (rules, the_lemmas)

pub command_case : (e : TypedExpr) (arms : Vec TypedArm Global) (other : Vec TypedStmt Global) → command_of (Case e arms other) ≡ match_on (term_of e) (cases_of arms.items) (commands_of other.items)
command_case e arms other = search (rules, the_lemmas)

-- one more statement
pub next_asked : (rows : Spans) (list : List TypedStmt) (i : ℕ) (y : TypedStmt) (a b all : Asked) → i < length list → y ≡ get_or list i y
    → ask rows (commands_of (drop i list)) a ≡ all → b ≡ ask_one rows (command_of y) a → ask rows (commands_of (drop (i + 1) list)) b ≡ all
next_asked rows list i y a b all lt is h e = ap (ask rows (commands_of (drop (i + 1) list))) e ∙ sym (ap (λ (l : List TypedStmt). ask rows (commands_of l) a) (drop_step list i y lt is)) ∙ h

pub next_told : (rows : Spans) (list : List TypedStmt) (i : ℕ) (y : TypedStmt) (a b : Asked) (before told all : Told) → i < length list → y ≡ get_or list i y
    → in_sequence before (tell (examine rows (commands_of (drop i list)) a.spans)) ≡ all → told ≡ tell (examine_one rows (command_of y) a.spans) → b ≡ ask_one rows (command_of y) a
    → in_sequence (in_sequence before told) (tell (examine rows (commands_of (drop (i + 1) list)) b.spans)) ≡ all
next_told rows list i y a b before told all lt is h e put =
    let rest = λ (s : Spans). examine rows (commands_of (drop (i + 1) list)) s in
    let found = examine_one rows (command_of y) a.spans in
    ap₂ (λ (u : Told) (p : Asked). in_sequence (in_sequence before u) (tell (rest p.spans))) e put
    ∙ sequence_again before (tell found) (tell (rest (ask_one rows (command_of y) a).spans))
    ∙ ap (in_sequence before) (sym (tell_onward found rest (ask_one rows (command_of y) a).spans (ends_one rows (command_of y) a)) ∙ sym (ap (λ (l : List TypedStmt). tell (examine rows (commands_of l) a.spans)) (drop_step list i y lt is)))
    ∙ h

-- ---- branches

pub choice_is : (b : TypedBranch) → choice_of b ≡ (term_of b.condition, commands_of b.body.items)
choice_is b = search (rules, the_lemmas)

-- ---- FOR

asked_some : (n : ℕ) (xs : List Name) (rows : Spans) (f : Asked → Asked) (x : Name) (r s : Span) (k : ℤ) (a : Asked) → 0 < n
    → asked_loop n xs rows f x r s k a
    ≡ (let begin = reset xs rows a.spans in let end = f (point (changed x (λ b. taken r s k n) begin) (asking_all xs a.spans a.rows)) in point (changed x (left_with r s k n) begin) (asking_all xs end.spans end.rows))
asked_some zero xs rows f x r s k a some = absurd (omega (arith, some))
asked_some (suc n) xs rows f x r s k a some = refl

-- a FOR of some iterations
pub iterations_asked : (n : ℕ) (xs : List Name) (rows : Spans) (f : Asked → Asked) (x : Name) (r s : Span) (k : ℤ) (a : Asked) (base after asked more : Spans) (own l : Span) → 0 < n
    → base ≡ reset xs rows a.spans → own ≡ taken r s k n → l ≡ left_with r s k n (base x) → after ≡ changed x (λ b. l) base → asked ≡ asking_all xs a.spans a.rows
    → more ≡ (let end = f (point (changed x (λ b. own) base) asked) in asking_all xs end.spans end.rows) → point after more ≡ asked_loop n xs rows f x r s k a
iterations_asked n xs rows f x r s k a base after asked more own l some same o left put begins ends =
    let asks = λ (p : Span) (u q : Spans). let end = f (point (changed x (λ b. p) u) q) in asking_all xs end.spans end.rows in
    let p = taken r s k n in
    ap₂ point
    (put ∙ changed_known x (left_with r s k n) base l left ∙ ap (changed x (left_with r s k n)) same)
    (ends ∙ ap (λ (b : Span). asks b base asked) o ∙ ap₂ (λ (u q : Spans). asks p u q) same begins)
    ∙ sym (asked_some n xs rows f x r s k a some)
