-- The values of chains of operations, one operation after another, and the slots of their operands.
use Rattle.std.proofs.Common.{◌≡◌, ℕ, ℤ, Bool, true, false, ◌&&◌, List, [], ◌∷◌, map, Option, Some, IsSome, refl, sym, ap, subst, ◌∙◌, rules, Vec, ◌==◌, string_bytes}
use Rattle.std.proofs.lemmas.Bool.{eqb-true}
use Rattle.std.specs.declared.alloc.Global.{Global}
use Rattle.std.specs.declared.string.String.{String}
use Rattle.std.specs.declared.boxed.Box.{Box}
use Rattle.fb_model.specs.Values.{Values, numbers_of}
use Rattle.fb_model.specs.TypedText.{Term, constant, part, double}
use Rattle.fb_model.specs.Language.{value_of, given, on_two, element_at}
use Rattle.st_types.specs.Views.{Tail, joined}
use Rattle.st_exec.specs.declared.code.Code.{Code, Element, Chain, the_lemmas}
use Rattle.st_exec.specs.declared.code.CodeLink.{CodeLink}
use Rattle.st_exec.specs.Forms.{Form, slot_in}
use Rattle.st_exec.specs.CodeViews.{code_term, code_tail}
use Rattle.st_exec.specs.Placed.{placed, placed_link, all_true}
use Rattle.st_exec.proofs.Chaining.{some_given}

-- ---- tests that hold together

pub and_first : (b c : Bool) → (b && c) ≡ true → b ≡ true
and_first true c h = refl
and_first false c h = h

pub and_second : (b c : Bool) → (b && c) ≡ true → c ≡ true
and_second true c h = h
and_second false c h = absurd (cc)

pub same_slot : (m n : ℕ) → (m == n) ≡ true → m ≡ n
same_slot m n h = eqb-true m n h

-- ---- views

chain_view : (b : Box Code Global) (v : Vec CodeLink Global) → code_term (Chain b v) ≡ joined (code_term b.value) (map code_tail v.items)
chain_view b v = search (rules, the_lemmas)

chain_slots : (fs : List Form) (b : Box Code Global) (v : Vec CodeLink Global) → placed fs (Chain b v) ≡ (placed fs b.value && all_true (map (placed_link fs) v.items))
chain_slots fs b v = search (rules, the_lemmas)

element_view : (x : String Global) (s : ℕ) (low high : ℤ) (b : Box Code Global) → code_term (Element x s low high b) ≡ part (string_bytes x) low high (code_term b.value)
element_view x s low high b = search (rules, the_lemmas)

element_slots : (fs : List Form) (x : String Global) (s : ℕ) (low high : ℤ) (b : Box Code Global) → placed fs (Element x s low high b) ≡ ((slot_in fs (string_bytes x) == s) && placed fs b.value)
element_slots fs x s low high b = search (rules, the_lemmas)

link_view : (l : CodeLink) → code_tail l ≡ (l.operation, l.of_type, code_term l.operand)
link_view l = search (rules, the_lemmas)

link_slots : (fs : List Form) (l : CodeLink) → placed_link fs l ≡ placed fs l.operand
link_slots fs l = search (rules, the_lemmas)

-- an element of an array
module _ (e : Code) (x : String Global) (s : ℕ) (low high : ℤ) (b : Box Code Global) (is : e ≡ Element x s low high b) where
  pub element_placed : (fs : List Form) → placed fs e ≡ true → slot_in fs (string_bytes x) ≡ s
  element_placed fs right = same_slot (slot_in fs (string_bytes x)) s (and_first (slot_in fs (string_bytes x) == s) (placed fs b.value) (sym (element_slots fs x s low high b) ∙ ap (placed fs) (sym is) ∙ right))

  pub element_whole : (values : Values) (index : Code) → index ≡ b.value → (k : ℤ) → value_of (code_term index) values ≡ Some k → value_of (code_term e) values ≡ element_at low high (numbers_of (values (string_bytes x))) k
  element_whole values index at k h =
      ap (λ c. value_of (code_term c) values) is ∙ ap (λ t. value_of t values) (element_view x s low high b) ∙ ap (λ c. given (value_of (code_term c) values) (element_at low high (numbers_of (values (string_bytes x))))) (sym at)
      ∙ ap (λ o. given o (element_at low high (numbers_of (values (string_bytes x))))) h

module _ (fs : List Form) (e : Code) (b : Box Code Global) (v : Vec CodeLink Global) (is : e ≡ Chain b v) (right : placed fs e ≡ true) where
  both : (placed fs b.value && all_true (map (placed_link fs) v.items)) ≡ true
  both = sym (chain_slots fs b v) ∙ ap (placed fs) (sym is) ∙ right

  pub first_placed : (first : Code) → first ≡ b.value → placed fs first ≡ true
  first_placed first at = ap (placed fs) at ∙ and_first (placed fs b.value) (all_true (map (placed_link fs) v.items)) both

  pub links_placed : (links : List CodeLink) → links ≡ v.items → all_true (map (placed_link fs) links) ≡ true
  links_placed links at = ap (λ l. all_true (map (placed_link fs) l)) at ∙ and_second (placed fs b.value) (all_true (map (placed_link fs) v.items)) both

-- one link of a chain, and those behind it
module _ (fs : List Form) (l : CodeLink) (ls : List CodeLink) (right : all_true (map (placed_link fs) (l ∷ ls)) ≡ true) where
  pub operand_placed : placed fs l.operand ≡ true
  operand_placed = sym (link_slots fs l) ∙ and_first (placed_link fs l) (all_true (map (placed_link fs) ls)) right

  pub rest_placed : all_true (map (placed_link fs) ls) ≡ true
  rest_placed = and_second (placed_link fs l) (all_true (map (placed_link fs) ls)) right

module _ (values : Values) where
  -- a chain goes on from the value of its first operand
  same_first : (x y : Term) (ls : List Tail) → value_of x values ≡ value_of y values → value_of (joined x ls) values ≡ value_of (joined y ls) values
  same_first x y [] e = e
  same_first x y (l ∷ ls) e = same_first (double l.0 l.1 x l.2) (double l.0 l.1 y l.2) ls (ap (λ o. given o (λ v. given (value_of l.2 values) (on_two l.0 l.1 v))) e)

  some_first : (x : Term) (ls : List Tail) → IsSome (value_of (joined x ls) values) → IsSome (value_of x values)
  some_first x [] h = h
  some_first x (l ∷ ls) h = some_given (value_of x values) (λ v. given (value_of l.2 values) (on_two l.0 l.1 v)) (some_first (double l.0 l.1 x l.2) ls h)

  module _ (e : Code) (b : Box Code Global) (v : Vec CodeLink Global) (is : e ≡ Chain b v) (first : Code) (at_first : first ≡ b.value) (links : List CodeLink) (at_links : links ≡ v.items) where
    chain_is : value_of (code_term e) values ≡ value_of (joined (code_term first) (map code_tail links)) values
    chain_is =
        ap (λ x. value_of (code_term x) values) is ∙ ap (λ x. value_of x values) (chain_view b v) ∙ ap (λ x. value_of (joined (code_term x) (map code_tail v.items)) values) (sym at_first)
        ∙ ap (λ ls. value_of (joined (code_term first) (map code_tail ls)) values) (sym at_links)

    pub chain_first : IsSome (value_of (code_term e) values) → IsSome (value_of (code_term first) values)
    chain_first h = some_first (code_term first) (map code_tail links) (subst IsSome chain_is h)

    pub chain_value : (k : ℤ) → value_of (code_term first) values ≡ Some k → value_of (code_term e) values ≡ value_of (joined (constant k) (map code_tail links)) values
    chain_value k h = chain_is ∙ same_first (code_term first) (constant k) (map code_tail links) h

  module _ (k : ℤ) (l : CodeLink) (ls : List Tail) (whole : Option ℤ) (left : value_of (joined (constant k) (code_tail l ∷ ls)) values ≡ whole) where
    here : value_of (joined (double l.operation l.of_type (constant k) (code_term l.operand)) ls) values ≡ whole
    here = ap (λ (t : Tail). value_of (joined (double t.0 t.1 (constant k) t.2) ls) values) (sym (link_view l)) ∙ left

    operation_some : IsSome whole → IsSome (given (value_of (code_term l.operand) values) (on_two l.operation l.of_type k))
    operation_some h = some_first (double l.operation l.of_type (constant k) (code_term l.operand)) ls (subst IsSome (sym here) h)

    pub operand_some : IsSome whole → IsSome (value_of (code_term l.operand) values)
    operand_some h = some_given (value_of (code_term l.operand) values) (on_two l.operation l.of_type k) (operation_some h)

    pub result_some : (y : ℤ) → value_of (code_term l.operand) values ≡ Some y → IsSome whole → IsSome (on_two l.operation l.of_type k y)
    result_some y e h = subst (λ o. IsSome (given o (on_two l.operation l.of_type k))) e (operation_some h)

    pub result_next : (y z : ℤ) → value_of (code_term l.operand) values ≡ Some y → on_two l.operation l.of_type k y ≡ Some z → value_of (joined (constant z) ls) values ≡ whole
    result_next y z e f =
        same_first (constant z) (double l.operation l.of_type (constant k) (code_term l.operand)) ls (sym (ap (λ o. given o (on_two l.operation l.of_type k)) e ∙ f)) ∙ here
