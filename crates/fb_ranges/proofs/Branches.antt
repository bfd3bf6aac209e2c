-- Branches of an IF and arms of a CASE, one at a time.
use Rattle.std.proofs.Common.{◌≡◌, ℕ, ◌+◌, ◌<◌, true, false, List, ◌++◌, length, drop, get_or, Option, None, Some, refl, sym, ap, ap₂, subst, ◌∙◌, rules}
use Rattle.fb_model.specs.Names.{Name, is_in}
use Rattle.fb_model.specs.TypedText.{Term, Commands}
use Rattle.fb_model.specs.Spans.{Span, joined}
use Rattle.fb_model.specs.Clear.{Spans, Found, range_of, narrowed, with_range, either, assigned, reset, examine, examine_choices, examine_cases}
use Rattle.fb_model.proofs.Names.{not_front, not_back}
use Rattle.st_types.specs.declared.command.TypedStmt.{the_lemmas}
use Rattle.st_types.specs.declared.command.TypedBranch.{TypedBranch}
use Rattle.st_types.specs.declared.command.TypedArm.{TypedArm}
use Rattle.st_types.specs.CommandViews.{commands_of, case_of, cases_of, choice_of, choices_of}
use Rattle.st_types.proofs.Gathering.{drop_step}
use Rattle.fb_model.specs.Asking.{Asked, point, met, ask, ask_choices, ask_cases}
use Rattle.fb_ranges.specs.declared.told.Told.{Told}
use Rattle.fb_ranges.specs.Finding.{longer, tell}
use Rattle.fb_ranges.specs.Meeting.{Besides, Mark, joint, met_by, ranges_after}
use Rattle.fb_ranges.specs.Narrowing.{read_in}
use Rattle.fb_ranges.proofs.Covers.{narrowed_besides}
use Rattle.fb_ranges.proofs.Frames.{all_besides}
use Rattle.fb_ranges.proofs.Telling.{longer_again, tell_either}
use Rattle.fb_ranges.proofs.Ways.{joint_again}

pub case_is : (a : TypedArm) → case_of a ≡ (a.labels.items, commands_of a.body.items)
case_is a = search (rules, the_lemmas)

-- what a branch touches
pub branch_besides : (rows s t : Spans) (e : Term) (c : Commands) (q : Spans) → t ≡ narrowed e true s → Besides (read_in e ++ assigned c) s (ask rows c (point t q)).spans
branch_besides rows s t e c q put = λ x out.
    all_besides rows c (point t q) x (not_back x (read_in e) (assigned c) out)
    ∙ ap (λ (u : Spans). u x) put
    ∙ narrowed_besides e true s x (not_front x (read_in e) (assigned c) out)

-- one more way, before those that are still to be examined
meets_on : (i j : ℕ) (s t u : Spans) (rest all : Asked) → j ≡ i + 1 → u ≡ joint i s t → met_by i s (point (λ x. joined (t x) (rest.spans x)) rest.rows) ≡ all → met_by j u rest ≡ all
meets_on i j s t u rest all next e h =
    ap₂ (λ (k : ℕ) (v : Spans). met_by k v rest) next e
    ∙ ap (λ (v : Spans). point v rest.rows) (joint_again i s t rest.spans)
    ∙ h

tells_on : (a b c all : Told) (f g : Found) → b ≡ tell f → c ≡ longer a b → longer a (tell (either f g)) ≡ all → longer c (tell g) ≡ all
tells_on a b c all f g e put h = ap (λ (u : Told). longer u (tell g)) (put ∙ ap (longer a) e) ∙ longer_again a (tell f) (tell g) ∙ ap (longer a) (sym (tell_either f g)) ∙ h

with_either : (o : Option Span) (p q : Found) → with_range o (λ r. either p q) ≡ either (with_range o (λ r. p)) q
with_either None p q = refl
with_either (Some r) p q = refl

-- the next branch
pub branch_asked : (rows : Spans) (branches : List TypedBranch) (i : ℕ) (b : TypedBranch) (asks : Asked → Asked) (n count : ℕ) (marks marked : Name → Mark) (s ends later q more : Spans) (xs : List Name) (all : Asked)
    → i < length branches → b ≡ get_or branches i b → met_by n (ranges_after n marks s) (ask_choices rows (choices_of (drop i branches)) asks (point s q)) ≡ all
    → reset xs ends s ≡ (ask rows (choice_of b).1 (point (narrowed (choice_of b).0 true s) q)).spans → more ≡ (ask rows (choice_of b).1 (point (narrowed (choice_of b).0 true s) q)).rows
    → xs ≡ read_in (choice_of b).0 ++ assigned (choice_of b).1 → count ≡ n + 1
    → ((others : Spans) → Besides xs s others → ranges_after count marked others ≡ joint n (ranges_after n marks s) (reset xs ends s)) → later ≡ narrowed (choice_of b).0 false s
    → met_by count (ranges_after count marked later) (ask_choices rows (choices_of (drop (i + 1) branches)) asks (point later more)) ≡ all
branch_asked rows branches i b asks n count marks marked s ends later q more xs all lt is h w asked names next meet put =
    let c = choice_of b in
    let way = ask rows c.1 (point (narrowed c.0 true s) q) in
    let rest = λ (u p : Spans). ask_choices rows (choices_of (drop (i + 1) branches)) asks (point u p) in
    let before = ranges_after n marks s in
    let besides : Besides xs s later = λ x out. ap (λ (u : Spans). u x) put ∙ narrowed_besides c.0 false s x (not_front x (read_in c.0) (assigned c.1) (subst (λ (ys : List Name). is_in x ys ≡ false) names out)) in
    meets_on n count before way.spans (ranges_after count marked later) (rest later more) all next (meet later besides ∙ ap (joint n before) w)
    (ap₂ {C = Asked} (λ u p. met_by n before (met way (rest u p))) put asked ∙ sym (ap (λ (l : List TypedBranch). met_by n before (ask_choices rows (choices_of l) asks (point s q))) (drop_step branches i b lt is)) ∙ h)

pub branch_told : (rows : Spans) (branches : List TypedBranch) (i : ℕ) (b : TypedBranch) (other : Spans → Found) (s later : Spans) (before told total all : Told)
    → i < length branches → b ≡ get_or branches i b → longer before (tell (examine_choices rows (choices_of (drop i branches)) other s)) ≡ all
    → told ≡ tell (with_range (range_of (choice_of b).0 s) (λ r. examine rows (choice_of b).1 (narrowed (choice_of b).0 true s))) → total ≡ longer before told → later ≡ narrowed (choice_of b).0 false s
    → longer total (tell (examine_choices rows (choices_of (drop (i + 1) branches)) other later)) ≡ all
branch_told rows branches i b other s later before told total all lt is h e sum put =
    let c = choice_of b in
    let rest = λ (u : Spans). examine_choices rows (choices_of (drop (i + 1) branches)) other u in
    let way = examine rows c.1 (narrowed c.0 true s) in
    tells_on before told total all (with_range (range_of c.0 s) (λ r. way)) (rest later) e sum
    (ap (λ (u : Spans). longer before (tell (either (with_range (range_of c.0 s) (λ r. way)) (rest u)))) put
    ∙ ap (λ (f : Found). longer before (tell f)) (sym (with_either (range_of c.0 s) way (rest (narrowed c.0 false s))))
    ∙ sym (ap (λ (l : List TypedBranch). longer before (tell (examine_choices rows (choices_of l) other s))) (drop_step branches i b lt is))
    ∙ h)

-- the next arm
pub arm_asked : (rows : Spans) (arms : List TypedArm) (i : ℕ) (a : TypedArm) (asks : Asked → Asked) (n count : ℕ) (marks marked : Name → Mark) (s ends q more : Spans) (xs : List Name) (all : Asked)
    → i < length arms → a ≡ get_or arms i a → met_by n (ranges_after n marks s) (ask_cases rows (cases_of (drop i arms)) asks (point s q)) ≡ all
    → reset xs ends s ≡ (ask rows (case_of a).1 (point s q)).spans → more ≡ (ask rows (case_of a).1 (point s q)).rows → count ≡ n + 1
    → ((others : Spans) → Besides xs s others → ranges_after count marked others ≡ joint n (ranges_after n marks s) (reset xs ends s))
    → met_by count (ranges_after count marked s) (ask_cases rows (cases_of (drop (i + 1) arms)) asks (point s more)) ≡ all
arm_asked rows arms i a asks n count marks marked s ends q more xs all lt is h w asked next meet =
    let way = ask rows (case_of a).1 (point s q) in
    let rest = λ (p : Spans). ask_cases rows (cases_of (drop (i + 1) arms)) asks (point s p) in
    let before = ranges_after n marks s in
    meets_on n count before way.spans (ranges_after count marked s) (rest more) all next (meet s (λ x out. refl) ∙ ap (joint n before) w)
    (ap {B = Asked} (λ p. met_by n before (met way (rest p))) asked ∙ sym (ap (λ (l : List TypedArm). met_by n before (ask_cases rows (cases_of l) asks (point s q))) (drop_step arms i a lt is)) ∙ h)

pub arm_told : (rows : Spans) (arms : List TypedArm) (i : ℕ) (a : TypedArm) (other : Found) (s : Spans) (before told total all : Told)
    → i < length arms → a ≡ get_or arms i a → longer before (tell (examine_cases rows (cases_of (drop i arms)) other s)) ≡ all
    → told ≡ tell (examine rows (case_of a).1 s) → total ≡ longer before told
    → longer total (tell (examine_cases rows (cases_of (drop (i + 1) arms)) other s)) ≡ all
arm_told rows arms i a other s before told total all lt is h e sum =
    tells_on before told total all (examine rows (case_of a).1 s) (examine_cases rows (cases_of (drop (i + 1) arms)) other s) e sum
    (sym (ap (λ (l : List TypedArm). longer before (tell (examine_cases rows (cases_of l) other s))) (drop_step arms i a lt is)) ∙ h)
