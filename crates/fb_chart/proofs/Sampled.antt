-- A block whose inputs are sampled, by what was read at its numbers.
use Rattle.std.proofs.Common.{◌≡◌, ℕ, ℤ, List, sym, ap, subst, ◌∙◌}
use Rattle.st_exec.specs.Cells.{Cell, values_of, forms_of}
use Rattle.fb_chart.specs.declared.table.Point.{Point}
use Rattle.fb_chart.specs.declared.table.Take.{Take}
use Rattle.fb_chart.specs.declared.table.Block.{Block}
use Rattle.fb_chart.specs.Sampling.{sampled_by}
use Rattle.fb_chart.specs.declared.standing.Ports.{Ports}
use Rattle.fb_chart.specs.declared.memory.Condition.{Condition}
use Rattle.fb_chart.specs.declared.memory.Memory.{Memory}
use Rattle.fb_chart.specs.Dispatching.{CanRun, CanDispatch}

-- the same stores and inputs give the same values
pub sampled_same : (issued issued' : List (List Cell)) (own own' : List Cell) (ts ts' : List Take) → issued ≡ issued' → own ≡ own' → ts ≡ ts' → sampled_by issued (forms_of own) ts (values_of own) ≡ sampled_by issued' (forms_of own') ts' (values_of own')
sampled_same issued issued' own own' ts ts' ei eo et =
    ap (λ (xs : List (List Cell)). sampled_by xs (forms_of own) ts (values_of own)) ei ∙ ap (λ (o : List Cell). sampled_by issued' (forms_of o) ts (values_of o)) eo ∙ ap (λ (us : List Take). sampled_by issued' (forms_of own') us (values_of own')) et

module _ (blocks : List Block) (ports : List Ports) (m : Memory) (p : Point) (values : List ℤ) (room : ℕ) (can : CanDispatch blocks ports m p values room) (sampled : List Cell) where
  pub sampled_can : (x : Block) (slots : Ports) (own issued : List Cell) (d : Condition) (steps : ℕ) → x ≡ can.at.block → slots ≡ can.at.slots → own ≡ sampled → issued ≡ can.at.issued → d ≡ can.at.condition → steps ≡ can.at.event.steps
      → forms_of sampled ≡ forms_of can.at.own → values_of sampled ≡ sampled_by m.issued.items (forms_of can.at.own) can.at.event.takes.items (values_of can.at.own)
      → CanRun x slots own issued d p.event values steps room
  sampled_can x slots own issued d steps ex es eo ei ed en f v =
      subst (λ (y : Block). CanRun y slots own issued d p.event values steps room) (sym ex)
      (subst (λ (y : Ports). CanRun can.at.block y own issued d p.event values steps room) (sym es)
      (subst (λ (y : List Cell). CanRun can.at.block can.at.slots y issued d p.event values steps room) (sym eo)
      (subst (λ (y : List Cell). CanRun can.at.block can.at.slots sampled y d p.event values steps room) (sym ei)
      (subst (λ (y : Condition). CanRun can.at.block can.at.slots sampled can.at.issued y p.event values steps room) (sym ed)
      (subst (λ (y : ℕ). CanRun can.at.block can.at.slots sampled can.at.issued can.at.condition p.event values y room) (sym en) (can.runs sampled f v))))))
