use Rattle.std.proofs.Common.{arith, rules, ◌≡◌, ◌∷◌, None, sym, subst}
use Rattle.std.proofs.lemmas.Grind.{common_steps}
use Rattle.fb_lex.specs.Scanning.{find_word}
use Rattle.fb_lex.proofs.word.words_with.Goals.{in_default-via-in-65+in_default, in_default-via-in-66+in_default, in_default-via-in-67+in_default, in_default-via-in-68+in_default, in_default-via-in-70+in_default, in_default-via-in-73+in_default, in_default-via-in-76+in_default, in_default-via-in-77+in_default, in_default-via-in-78+in_default, in_default-via-in-79+in_default, in_default-via-in-82+in_default, in_default-via-in-83+in_default, in_default-via-in-84+in_default, in_default-via-in-85+in_default, in_default-via-in-86+in_default, in_default-via-in-87+in_default, in_default-via-in-88+in_default, in_default-via-in_default}
use Rattle.fb_lex.proofs.word.words_with.Goals as goal

pub returns-in_default : goal.returns-in_default
unfolding find_word
returns-in_default c =
    elim c.in_default.branch [
      | in_default-via-in-65+in_default w ↦ λ cs. subst (λ x. None ≡ find_word (x ∷ c.args.second ∷ cs)) (sym w.in_default.is-0) (grind (arith, common_steps, w.in_default.is-1.1))
      | in_default-via-in-66+in_default w ↦ λ cs. subst (λ x. None ≡ find_word (x ∷ c.args.second ∷ cs)) (sym w.in_default.is-0) (grind (arith, common_steps, w.in_default.is-1.1))
      | in_default-via-in-67+in_default w ↦ λ cs. subst (λ x. None ≡ find_word (x ∷ c.args.second ∷ cs)) (sym w.in_default.is-0) (grind (arith, common_steps, w.in_default.is-1.1))
      | in_default-via-in-68+in_default w ↦ λ cs. subst (λ x. None ≡ find_word (x ∷ c.args.second ∷ cs)) (sym w.in_default.is-0) (grind (arith, common_steps, w.in_default.is-1.1))
      | in_default-via-in-70+in_default w ↦ λ cs. subst (λ x. None ≡ find_word (x ∷ c.args.second ∷ cs)) (sym w.in_default.is-0) (grind (arith, common_steps, w.in_default.is-1.1))
      | in_default-via-in-73+in_default w ↦ λ cs. subst (λ x. None ≡ find_word (x ∷ c.args.second ∷ cs)) (sym w.in_default.is-0) (grind (arith, common_steps, w.in_default.is-1.1))
      | in_default-via-in-76+in_default w ↦ λ cs. subst (λ x. None ≡ find_word (x ∷ c.args.second ∷ cs)) (sym w.in_default.is-0) (grind (arith, common_steps, w.in_default.is-1.1))
      | in_default-via-in-77+in_default w ↦ λ cs. subst (λ x. None ≡ find_word (x ∷ c.args.second ∷ cs)) (sym w.in_default.is-0) (grind (arith, common_steps, w.in_default.is-1.1))
      | in_default-via-in-78+in_default w ↦ λ cs. subst (λ x. None ≡ find_word (x ∷ c.args.second ∷ cs)) (sym w.in_default.is-0) (grind (arith, common_steps, w.in_default.is-1.1))
      | in_default-via-in-79+in_default w ↦ λ cs. subst (λ x. None ≡ find_word (x ∷ c.args.second ∷ cs)) (sym w.in_default.is-0) (grind (arith, common_steps, w.in_default.is-1.1))
      | in_default-via-in-82+in_default w ↦ λ cs. subst (λ x. None ≡ find_word (x ∷ c.args.second ∷ cs)) (sym w.in_default.is-0) (grind (arith, common_steps, w.in_default.is-1.1))
      | in_default-via-in-83+in_default w ↦ λ cs. subst (λ x. None ≡ find_word (x ∷ c.args.second ∷ cs)) (sym w.in_default.is-0) (grind (arith, common_steps, w.in_default.is-1.1))
      | in_default-via-in-84+in_default w ↦ λ cs. subst (λ x. None ≡ find_word (x ∷ c.args.second ∷ cs)) (sym w.in_default.is-0) (grind (arith, common_steps, w.in_default.is-1.1))
      | in_default-via-in-85+in_default w ↦ λ cs. subst (λ x. None ≡ find_word (x ∷ c.args.second ∷ cs)) (sym w.in_default.is-0) (grind (arith, common_steps, w.in_default.is-1.1))
      | in_default-via-in-86+in_default w ↦ λ cs. subst (λ x. None ≡ find_word (x ∷ c.args.second ∷ cs)) (sym w.in_default.is-0) (grind (arith, common_steps, w.in_default.is-1.1))
      | in_default-via-in-87+in_default w ↦ λ cs. subst (λ x. None ≡ find_word (x ∷ c.args.second ∷ cs)) (sym w.in_default.is-0) (grind (arith, common_steps, w.in_default.is-1.1))
      | in_default-via-in-88+in_default w ↦ λ cs. subst (λ x. None ≡ find_word (x ∷ c.args.second ∷ cs)) (sym w.in_default.is-0) (grind (arith, common_steps, w.in_default.is-1.1))
      | in_default-via-in_default w ↦ λ cs. search rules
    ]
