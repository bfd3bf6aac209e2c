-- Which guards and algorithms are clear under the ranges of their variables, what ranges they leave, and what they cost.
-- This project's profile; the statements are those of IEC 61131-3 edition 3, 7.3.3.
use Rattle.std.specs.Prelude.{ℕ, zero, suc, ◌+◌, ◌*◌, max, ℤ, pos, negsuc, ◌+ℤ◌, ◌-ℤ◌, ◌*ℤ◌, int_le, int_lt, nat_eq, Bool, true, false, not, ◌&&◌, List, [], ◌∷◌, ◌++◌, Option, None, Some, if◌then◌else◌}
use Rattle.std.specs.Int.{int_min, int_max}
use Rattle.std.specs.Str.{bytes_eq}
use Rattle.fb_words.specs.declared.elem_type.ElemType.{ElemType}
use Rattle.fb_words.specs.declared.elem_type.ElemType.TheVariants as t
use Rattle.fb_words.specs.declared.operator.Operator.{Operator}
use Rattle.fb_words.specs.declared.operator.Operator.TheVariants as o
use Rattle.fb_words.specs.declared.operator.Operation.TheVariants.{Infix, Not}
use Rattle.fb_model.specs.Names.{Name, is_in}
use Rattle.fb_model.specs.TypedText.{Term, constant, read, part, single, double, Command, set, set_part, choose, match_on, count, done, then_do, Choices, no_choice, choice, Cases, no_case, a_case}
use Rattle.fb_model.specs.Language.{Guard, Algorithm, given, iteration_count}
use Rattle.fb_model.specs.Spans.{Span, span, within, joined, range_one, range_two}

-- the range of each variable of a block
abbrev pub Spans : Type 0
Spans = Name → Span

-- one variable has another range
abbrev pub changed : Name → (Span → Span) → Spans → Spans
changed x f spans = λ y. if bytes_eq x y then f (spans y) else spans y

-- ---- expressions

-- the range of an expression, none where a divisor may be zero or an index out of bounds
abbrev pub range_of : Term → Spans → Option Span
range_of (constant k) spans = Some (span k k)
range_of (read x) spans = Some (spans x)
range_of (part x low high i) spans = given (range_of i spans) (λ r. if within r (span low high) then Some (spans x) else None)
range_of (single f a e) spans = given (range_of e spans) (range_one f a)
range_of (double f a e g) spans = given (range_of e spans) (λ r. given (range_of g spans) (range_two f a r))

-- ---- narrowing

-- a cut that leaves nothing is not made
abbrev pub cut : Span → Span → Span
cut c r = if int_le c.low c.high then c else r

abbrev pub at_most : ℤ → Span → Span
at_most k r = cut (span r.low (int_min r.high k)) r

abbrev pub at_least : ℤ → Span → Span
at_least k r = cut (span (int_max r.low k) r.high) r

abbrev pub just : ℤ → Span → Span
just k r = cut (span (int_max r.low k) (int_min r.high k)) r

-- an end that is the number goes
abbrev pub without : ℤ → Span → Span
without k r =
    let low = if int_le r.low k && int_le k r.low then r.low +ℤ pos 1 else r.low in
    let high = if int_le r.high k && int_le k r.high then r.high -ℤ pos 1 else r.high in
    cut (span low high) r

-- the range of x where `x REL k` holds
abbrev pub meets : Operator → ℤ → Span → Span
meets o.Less k r = at_most (k -ℤ pos 1) r
meets o.LessEqual k r = at_most k r
meets o.Greater k r = at_least (k +ℤ pos 1) r
meets o.GreaterEqual k r = at_least k r
meets o.Equal k r = just k r
meets o.NotEqual k r = without k r
meets other k r = r

-- the relation that holds where another does not, and the one that holds from the other side
abbrev pub opposite : Operator → Operator
opposite o.Less = o.GreaterEqual
opposite o.LessEqual = o.Greater
opposite o.Greater = o.LessEqual
opposite o.GreaterEqual = o.Less
opposite o.Equal = o.NotEqual
opposite o.NotEqual = o.Equal
opposite other = other

abbrev pub mirrored : Operator → Operator
mirrored o.Less = o.Greater
mirrored o.LessEqual = o.GreaterEqual
mirrored o.Greater = o.Less
mirrored o.GreaterEqual = o.LessEqual
mirrored other = other

-- truth values have no narrower ranges
abbrev pub is_truth : ElemType → Bool
is_truth t.Bool = true
is_truth other = false

-- a relation between a variable and a number, from either side; anything else says nothing
abbrev pub related : Operator → Term → Term → Spans → Spans
related f (read x) (constant k) spans = changed x (meets f k) spans
related f (constant k) (read x) spans = changed x (meets (mirrored f) k) spans
related f e g spans = spans

-- the ranges where a condition is true, or false
abbrev pub narrowed : Term → Bool → Spans → Spans
narrowed (single Not a e) b spans = narrowed e (not b) spans
narrowed (double (Infix o.And) a e g) true spans = narrowed g true (narrowed e true spans)
narrowed (double (Infix o.Or) a e g) false spans = narrowed g false (narrowed e false spans)
narrowed (double (Infix f) a e g) b spans = if is_truth a then spans else related (if b then f else opposite f) e g spans
narrowed e b spans = spans

-- ---- statements

-- what an examination finds: clear, with the ranges afterwards and the most steps; a value that leaves its row; or a divisor that may be zero or an index out of bounds
pub data Found : Type 0 where
  Clear : (spans : Spans) (steps : ℕ) → Found
  Leaves : Found
  Traps : Found

-- goes on where all is clear
abbrev pub onward : Found → (Spans → Found) → Found
onward (Clear spans n) f = elim (f spans) [ Clear after m ↦ Clear after (n + m) | Leaves ↦ Leaves | Traps ↦ Traps ]
onward Leaves f = Leaves
onward Traps f = Traps

abbrev pub costing : ℕ → Found → Found
costing n (Clear spans m) = Clear spans (n + m)
costing n Leaves = Leaves
costing n Traps = Traps

-- goes on with the range of an expression
abbrev pub with_range : Option Span → (Span → Found) → Found
with_range None f = Traps
with_range (Some r) f = f r

-- one way or another: each variable in the smallest range that holds both, and the steps of the longer
abbrev pub either : Found → Found → Found
either (Clear spans n) (Clear others m) = Clear (λ x. joined (spans x) (others x)) (max n m)
either (Clear spans n) other = other
either Leaves other = Leaves
either Traps other = Traps

-- ---- assigned variables, as they stand in the text: the own variable of a FOR too, but of an idle one; what stands in its body counts

-- a FOR between two spelled numbers that has no iteration
abbrev pub is_idle : Bool → Term → Term → ℤ → Bool
is_idle true (constant a) (constant b) k = nat_eq (iteration_count a b k) 0
is_idle plain e g k = false

abbrev mutual
  pub assigned_one : Command → List Name
  assigned_one (set x e) = x ∷ []
  assigned_one (set_part x low high i e) = []
  assigned_one (choose choices other) = assigned_choices choices ++ assigned other
  assigned_one (match_on e cases other) = assigned_cases cases ++ assigned other
  assigned_one (count x a e g k plain body) = if is_idle plain e g k then assigned body else x ∷ assigned body

  pub assigned : Algorithm → List Name
  assigned done = []
  assigned (then_do c cs) = assigned_one c ++ assigned cs

  pub assigned_choices : Choices → List Name
  assigned_choices no_choice = []
  assigned_choices (choice e body rest) = assigned body ++ assigned_choices rest

  pub assigned_cases : Cases → List Name
  assigned_cases no_case = []
  assigned_cases (a_case labels body rest) = assigned body ++ assigned_cases rest

-- these variables lie in their rows
abbrev pub are_kept : List Name → Spans → Spans → Bool
are_kept [] rows spans = true
are_kept (x ∷ xs) rows spans = within (spans x) (rows x) && are_kept xs rows spans

-- these variables have their rows
abbrev pub reset : List Name → Spans → Spans → Spans
reset xs rows spans = λ x. if is_in x xs then rows x else spans x

-- ---- loops

-- the most iterations of a FOR whose bounds lie in these ranges
abbrev pub most_iterations : Span → Span → ℤ → ℕ
most_iterations r s (pos n) = iteration_count r.low s.high (pos n)
most_iterations r s (negsuc n) = iteration_count r.high s.low (negsuc n)

abbrev pub is_single : Span → Bool
is_single r = int_le r.high r.low

-- the last of n values from a on in steps of k
abbrev pub last_value : ℤ → ℤ → ℕ → ℤ
last_value a k zero = a
last_value a k (suc n) = a +ℤ pos n *ℤ k

-- the values that a FOR's variable takes: between known ends the taken ones, else all between the farthest ends
abbrev pub taken : Span → Span → ℤ → ℕ → Span
taken r s k n =
    if is_single r && is_single s
    then joined (span r.low r.low) (span (last_value r.low k n) (last_value r.low k n))
    else if int_lt (pos 0) k then span r.low s.high else span s.low r.high

-- some bounds in these ranges give no iteration
abbrev pub may_skip : Span → Span → ℤ → Bool
may_skip r s k = if int_lt (pos 0) k then int_lt s.low r.high else int_lt r.low s.high

-- the range of a FOR's variable afterwards, from what it had before
abbrev pub left_with : Span → Span → ℤ → ℕ → Span → Span
left_with r s k n before =
    if is_single r && is_single s
    then span (last_value r.low k n) (last_value r.low k n)
    else if may_skip r s k then joined (taken r s k n) before else taken r s k n

-- a FOR of n iterations at most, whose body is examined by f and assigns these
abbrev pub looped : ℕ → List Name → Spans → (Spans → Found) → Name → Span → Span → ℤ → Spans → Found
looped zero xs rows f x r s k spans = Clear spans 1
looped (suc n) xs rows f x r s k spans =
    if are_kept xs rows spans
    then elim (f (changed x (λ b. taken r s k (suc n)) (reset xs rows spans))) [
      | Clear end m ↦ if are_kept xs rows end then Clear (changed x (left_with r s k (suc n)) (reset xs rows spans)) (1 + suc n * (1 + m)) else Leaves
      | Leaves ↦ Leaves
      | Traps ↦ Traps
    ]
    else Leaves

-- ---- examination

-- what a statement makes of ranges, under the rows of the variables
abbrev mutual
  pub examine_one : Spans → Command → Spans → Found
  examine_one rows (set x e) spans = with_range (range_of e spans) (λ r. Clear (changed x (λ b. r) spans) 1)
  examine_one rows (set_part x low high i e) spans =
      with_range (range_of i spans) (λ k. with_range (range_of e spans) (λ r. if within k (span low high) then (if within r (rows x) then Clear spans 1 else Leaves) else Traps))
  examine_one rows (choose choices other) spans = costing 1 (examine_choices rows choices (examine rows other) spans)
  examine_one rows (match_on e cases other) spans = with_range (range_of e spans) (λ r. costing 1 (examine_cases rows cases (examine rows other spans) spans))
  examine_one rows (count x a e g k plain body) spans =
      with_range (range_of e spans) (λ r. with_range (range_of g spans) (λ s. looped (most_iterations r s k) (assigned body) rows (examine rows body) x r s k spans))

  pub examine : Spans → Algorithm → Spans → Found
  examine rows done spans = Clear spans 0
  examine rows (then_do c cs) spans = onward (examine_one rows c spans) (examine rows cs)

  -- each condition where the earlier ones are false; other is what comes where all are
  pub examine_choices : Spans → Choices → (Spans → Found) → Spans → Found
  examine_choices rows no_choice other spans = other spans
  examine_choices rows (choice e body rest) other spans =
      with_range (range_of e spans) (λ r. either (examine rows body (narrowed e true spans)) (examine_choices rows rest other (narrowed e false spans)))

  -- a CASE narrows nothing
  pub examine_cases : Spans → Cases → Found → Spans → Found
  examine_cases rows no_case other spans = other
  examine_cases rows (a_case labels body rest) other spans = either (examine rows body spans) (examine_cases rows rest other spans)

-- at the end each assigned variable lies in its row
abbrev pub kept : Spans → List Name → Found → Found
kept rows xs (Clear spans n) = if are_kept xs rows spans then Clear spans n else Leaves
kept rows xs Leaves = Leaves
kept rows xs Traps = Traps

-- what an algorithm makes of the rows that it begins with
abbrev pub examined : Spans → Algorithm → Found
examined rows a = kept rows (assigned a) (examine rows a rows)

-- a guard is clear where its range is known
abbrev pub guard_range : Spans → Guard → Option Span
guard_range rows g = range_of g rows

-- what an algorithm costs under rows: the steps of its longest way, where it is clear
abbrev pub found_cost : Found → ℕ
found_cost (Clear spans n) = n
found_cost Leaves = 0
found_cost Traps = 0

abbrev pub cost : Spans → Algorithm → ℕ
cost rows a = found_cost (examined rows a)
