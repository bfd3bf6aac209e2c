-- The slots of the parts of statements.
use Rattle.std.proofs.Common.{◌≡◌, ℕ, ◌+◌, ◌<◌, ℤ, Bool, true, ◌&&◌, ◌==◌, List, map, drop, length, get_or, sym, ap, ◌∙◌, rules, string_bytes, Vec}
use Rattle.std.specs.declared.alloc.Global.{Global}
use Rattle.std.specs.declared.string.String.{String}
use Rattle.st_types.proofs.Gathering.{drop_step}
use Rattle.st_exec.specs.declared.code.Code.{Code}
use Rattle.st_exec.specs.declared.command.CodeStmt.{CodeStmt, Set, SetElement, If, Case, the_lemmas}
use Rattle.st_exec.specs.declared.command.CodeArm.{CodeArm}
use Rattle.st_exec.specs.declared.command.CodeBranch.{CodeBranch}
use Rattle.st_exec.specs.Forms.{Form, slot_in, plain_slot}
use Rattle.st_exec.specs.Placed.{placed, placed_stmt, placed_arm, placed_branch, placed_all, all_true}
use Rattle.st_exec.proofs.Running.{and_first, and_second, same_slot}

-- ---- items of a list, one after another

module _ {X : Type 0} (p : X → Bool) (list : List X) (i : ℕ) (x : X) (before : i < length list) (at : x ≡ get_or list i x) where
  step : all_true (map p (drop i list)) ≡ (p x && all_true (map p (drop (i + 1) list)))
  step = ap (λ l. all_true (map p l)) (drop_step list i x before at)

  module _ (right : all_true (map p (drop i list)) ≡ true) where
    pub item_right : p x ≡ true
    item_right = and_first (p x) (all_true (map p (drop (i + 1) list))) (sym step ∙ right)

    pub items_right : all_true (map p (drop (i + 1) list)) ≡ true
    items_right = and_second (p x) (all_true (map p (drop (i + 1) list))) (sym step ∙ right)

  -- the same before what follows the list
  module _ (after : Bool) (right : (all_true (map p (drop i list)) && after) ≡ true) where
    pub item_before : p x ≡ true
    item_before = item_right (and_first (all_true (map p (drop i list))) after right)

    pub items_before : (all_true (map p (drop (i + 1) list)) && after) ≡ true
    items_before = ap (λ b. b && after) (items_right (and_first (all_true (map p (drop i list))) after right)) ∙ and_second (all_true (map p (drop i list))) after right

-- ---- parts of a statement

module _ (fs : List Form) where
  arm_slots : (a : CodeArm) → placed_arm fs a ≡ placed_all fs a.body.items
  arm_slots a = search (rules, the_lemmas)

  branch_slots : (b : CodeBranch) → placed_branch fs b ≡ (placed fs b.condition && placed_all fs b.body.items)
  branch_slots b = search (rules, the_lemmas)

  pub arm_placed : (a : CodeArm) (body : List CodeStmt) → body ≡ a.body.items → placed_arm fs a ≡ true → placed_all fs body ≡ true
  arm_placed a body at h = ap (placed_all fs) at ∙ sym (arm_slots a) ∙ h

  pub branch_placed : (b : CodeBranch) (body : List CodeStmt) → body ≡ b.body.items → placed_branch fs b ≡ true → placed_all fs body ≡ true
  branch_placed b body at h = ap (placed_all fs) at ∙ and_second (placed fs b.condition) (placed_all fs b.body.items) (sym (branch_slots b) ∙ h)

  module _ (c : CodeStmt) (right : placed_stmt fs c ≡ true) where
    pub set_slot : (x : String Global) (s : ℕ) (e : Code) → c ≡ Set x s e → plain_slot fs (string_bytes x) ≡ s
    set_slot x s e is =
        let view : placed_stmt fs (Set x s e) ≡ ((plain_slot fs (string_bytes x) == s) && placed fs e) = search (rules, the_lemmas) in
        same_slot (plain_slot fs (string_bytes x)) s (and_first (plain_slot fs (string_bytes x) == s) (placed fs e) (sym view ∙ ap (placed_stmt fs) (sym is) ∙ right))

    pub array_slot : (x : String Global) (s : ℕ) (low high : ℤ) (i e : Code) → c ≡ SetElement x s low high i e → slot_in fs (string_bytes x) ≡ s
    array_slot x s low high i e is =
        let view : placed_stmt fs (SetElement x s low high i e) ≡ ((slot_in fs (string_bytes x) == s) && (placed fs i && placed fs e)) = search (rules, the_lemmas) in
        same_slot (slot_in fs (string_bytes x)) s (and_first (slot_in fs (string_bytes x) == s) (placed fs i && placed fs e) (sym view ∙ ap (placed_stmt fs) (sym is) ∙ right))

    pub if_placed : (b : Vec CodeBranch Global) (v : Vec CodeStmt Global) → c ≡ If b v → (bs : List CodeBranch) (rest : List CodeStmt) → bs ≡ b.items → rest ≡ v.items → (all_true (map (placed_branch fs) bs) && placed_all fs rest) ≡ true
    if_placed b v is bs rest p q =
        let view : placed_stmt fs (If b v) ≡ (all_true (map (placed_branch fs) b.items) && placed_all fs v.items) = search (rules, the_lemmas) in
        ap (λ l. all_true (map (placed_branch fs) l) && placed_all fs rest) p ∙ ap (λ l. all_true (map (placed_branch fs) b.items) && placed_all fs l) q ∙ sym view ∙ ap (placed_stmt fs) (sym is) ∙ right

    module _ (e : Code) (a : Vec CodeArm Global) (v : Vec CodeStmt Global) (is : c ≡ Case e a v) where
      case_all : (placed fs e && (all_true (map (placed_arm fs) a.items) && placed_all fs v.items)) ≡ true
      case_all =
          let view : placed_stmt fs (Case e a v) ≡ (placed fs e && (all_true (map (placed_arm fs) a.items) && placed_all fs v.items)) = search (rules, the_lemmas) in
          sym view ∙ ap (placed_stmt fs) (sym is) ∙ right

      pub arms_placed : (arms : List CodeArm) (rest : List CodeStmt) → arms ≡ a.items → rest ≡ v.items → (all_true (map (placed_arm fs) arms) && placed_all fs rest) ≡ true
      arms_placed arms rest p q =
          ap (λ l. all_true (map (placed_arm fs) l) && placed_all fs rest) p ∙ ap (λ l. all_true (map (placed_arm fs) a.items) && placed_all fs l) q
          ∙ and_second (placed fs e) (all_true (map (placed_arm fs) a.items) && placed_all fs v.items) case_all
