-- A statement that gives a variable or an element a number: its slot is there, and its run.
use Rattle.std.proofs.Common.{sym, ◌≡◌, ℕ, ◌+◌, ◌<◌, ℤ, ◌-ℤ◌, ◌≤ℤ◌, unsigned_abs, true, Some, ap, subst, ◌∙◌, refl, List, arith, rules, string_bytes}
use Rattle.std.specs.declared.alloc.Global.{Global}
use Rattle.std.specs.declared.string.String.{String}
use Rattle.std.specs.Option.{option_map}
use Rattle.fb_model.specs.Values.{Values}
use Rattle.fb_model.specs.TypedText.{set, set_part}
use Rattle.fb_model.specs.BlockTyping.{extent}
use Rattle.fb_model.specs.Language.{Done, more, value_of, with_value, setting_part, run_one}
use Rattle.st_exec.specs.declared.code.Code.{Code}
use Rattle.st_exec.specs.declared.command.CodeStmt.{CodeStmt, Set, SetElement, the_lemmas}
use Rattle.st_exec.specs.Forms.{Form, size_of, slot_in}
use Rattle.st_exec.specs.CodeViews.{code_term, code_command}
use Rattle.st_exec.specs.Placed.{placed_stmt}
use Rattle.st_exec.specs.Cells.{shape_in}
use Rattle.st_exec.specs.Runs.{EndsWithin, SupportsOne}
use Rattle.st_exec.proofs.Serving.{set_served, part_served}
use Rattle.st_exec.proofs.Runs.{index_within}
use Rattle.st_exec.proofs.Writing.{index_within as index_below}
use Rattle.st_exec.proofs.Slots.{plain_within, length_within}
use Rattle.st_exec.proofs.Placing.{set_slot, array_slot}

set_view : (x : String Global) (s : ℕ) (e : Code) → code_command (Set x s e) ≡ set (string_bytes x) (code_term e)
set_view x s e = search (rules, the_lemmas)

element_view : (x : String Global) (s : ℕ) (low high : ℤ) (i e : Code) → code_command (SetElement x s low high i e) ≡ set_part (string_bytes x) low high (code_term i) (code_term e)
element_view x s low high i e = search (rules, the_lemmas)

module _ (fs : List Form) (c : CodeStmt) (right : placed_stmt fs c ≡ true) where
  -- a variable that is set has a slot
  pub set_room : (x : String Global) (s : ℕ) (e : Code) → c ≡ Set x s e → SupportsOne fs (code_command c) → s < size_of fs
  set_room x s e is serves =
      let p = set_slot fs c right x s e is in
      let v = set_served fs (string_bytes x) (code_term e) (subst (SupportsOne fs) (ap code_command is ∙ set_view x s e) serves) in
      let w = plain_within fs (string_bytes x) v.0 v.1 in
      omega (arith, p, w)

  -- an element, whose lowest index, index and number are passed on as equal ones
  module _ (x : String Global) (s : ℕ) (low' high : ℤ) (i e : Code) (stands : c ≡ SetElement x s low' high i e) (serves : SupportsOne fs (code_command c)) (values : Values) (index' number' : ℤ)
      (found : value_of (code_term i) values ≡ Some index') (made : value_of (code_term e) values ≡ Some number') (low index number : ℤ) (same_low : low ≡ low') (same_index : index ≡ index') (same_number : number ≡ number') where
    is : c ≡ SetElement x s low high i e
    is = stands ∙ ap (λ z. SetElement x s z high i e) (sym same_low)

    at : value_of (code_term i) values ≡ Some index
    at = found ∙ ap Some (sym same_index)

    new : value_of (code_term e) values ≡ Some number
    new = made ∙ ap Some (sym same_number)

    command_is : code_command c ≡ set_part (string_bytes x) low high (code_term i) (code_term e)
    command_is = ap code_command is ∙ element_view x s low high i e

    runs : run_one (code_command c) values ≡ more 1 (setting_part values (string_bytes x) low high index number)
    runs =
        ap (λ d. run_one d values) command_is
        ∙ ap (λ o. with_value o (λ k. with_value (value_of (code_term e) values) (λ v. more 1 (setting_part values (string_bytes x) low high k v)))) at
        ∙ ap (λ o. with_value o (λ v. more 1 (setting_part values (string_bytes x) low high index v))) new

    -- as many elements as the bounds say
    pub element_count : option_map extent (shape_in fs (string_bytes x)) ≡ Some (extent (low, high))
    element_count = part_served fs (string_bytes x) low high (code_term i) (code_term e) (subst (SupportsOne fs) command_is serves)

    pub element_slot : slot_in fs (string_bytes x) ≡ s
    element_slot = array_slot fs c right x s low high i e is

    module _ (limit : ℕ) (small : EndsWithin limit (run_one (code_command c) values)) where
      pub element_within : (low ≤ℤ index) × (index ≤ℤ high)
      element_within = index_within limit 1 values (string_bytes x) low high index number (subst (EndsWithin limit) runs small)

      -- the element has a slot
      pub element_room : s + unsigned_abs (index -ℤ low) < size_of fs
      element_room =
          let j = index_below low high index (unsigned_abs (index -ℤ low)) element_within.0 element_within.1 refl in
          let w = length_within fs (string_bytes x) (extent (low, high)) (unsigned_abs (index -ℤ low)) element_count j in
          omega (arith, w, element_slot)

    pub element_runs : (after : Values) → setting_part values (string_bytes x) low high index number ≡ Done after 0 → run_one (code_command c) values ≡ Done after 1
    element_runs after h = runs ∙ ap (more 1) h
