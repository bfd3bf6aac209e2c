-- A refusal that is true of a system denies that its rows are clear.
use Rattle.std.proofs.Common.{true, ◌≡◌, ◌<◌, ◌⊎◌, ℕ, zero, suc, List, [], ◌∷◌, Option, None, Some, inl, inr, refl, sym, ap, subst, ◌∙◌, length, get_or, arith, string_bytes}
use Rattle.std.specs.List.{AllByRecursion, Any}
use Rattle.fb_model.specs.Names.{Name, Path}
use Rattle.fb_model.specs.Language.{Guard}
use Rattle.fb_model.specs.System.{Variable, Transition, Procedure, Block, Device, System, start_of}
use Rattle.fb_model.specs.Wires.{Source, Kind, Charted, Serviced, Leaf, leaves}
use Rattle.fb_model.specs.Store.{first_input}
use Rattle.fb_model.specs.Spans.{Span, whole, within}
use Rattle.fb_model.specs.Clear.{Spans, Found, Clear, Leaves, Traps, examined, guard_range}
use Rattle.fb_model.specs.Ranges.{Range, rows, row_at, HoldsIn, SourceFits, IsClearGuard, IsClearAlgorithm, ChartClears, LeafClears, KindClears}
use Rattle.fb_model.proofs.Lists.{all_both, all_append}
use Rattle.fb_model.proofs.Placed.{all_left, all_right}
use Rattle.fb_faults.specs.declared.unclear.Unclear.{Unclear}
use Rattle.fb_faults.specs.declared.unclear.Unclear.TheVariants as u
use Rattle.fb_model.specs.Misfits.{Reason, Starts, Links, Keeps, Divides}
use Rattle.fb_model.specs.Misfits.{Begins}
use Rattle.fb_model.specs.Misfits.{GuardFails}
use Rattle.fb_model.specs.Misfits.{ChartFails, KindFails, LeafFails, IsUnclear, AllClear}

-- what is so of all is so of the one at an index
at_index : {X : Type 0} (P : X → Type 0) (xs : List X) (i : ℕ) (x : X) → AllByRecursion P xs → i < length xs → get_or xs i x ≡ x → P x
at_index P [] i x h l e = absurd (omega arith)
at_index P (y ∷ xs) zero x h l e = subst P e h.0
at_index P (y ∷ xs) (suc i) x h l e = at_index P xs i x h.1 (omega arith) e

-- what all have, none lacks
none : {X : Type 0} (P Q : X → Type 0) (xs : List X) → ((x : X) → P x → Q x → ⊥) → AllByRecursion P xs → Any Q xs → ⊥
none P Q xs f a s = f s.1 (at_index P xs s.0 s.1 a s.2 s.3) s.4

-- rows in types, and values in rows
begin : (row : Variable → Span) (value : Variable → _) (vs : List Variable) → AllByRecursion (λ (v : Variable). within (row v) (whole v.type) ≡ true) vs → AllByRecursion (λ (v : Variable). HoldsIn (row v) (value v)) vs
    → AllByRecursion (λ (v : Variable). Begins (row v) v.type (value v)) vs
begin row value vs a b = all_both _ _ (λ (v : Variable). Begins (row v) v.type (value v)) vs (λ v x y. (x, y)) a b

lacks : (row : Variable → Span) (value : Variable → _) (x : Name) (vs : List Variable) → AllByRecursion (λ (v : Variable). within (row v) (whole v.type) ≡ true) vs → AllByRecursion (λ (v : Variable). HoldsIn (row v) (value v)) vs
    → Any (λ (v : Variable). (v.name ≡ x) × (Begins (row v) v.type (value v) → ⊥)) vs → ⊥
lacks row value x vs a b s = none (λ (v : Variable). Begins (row v) v.type (value v)) (λ (v : Variable). (v.name ≡ x) × (Begins (row v) v.type (value v) → ⊥)) vs (λ v p q. q.1 p) (begin row value vs a b) s

leaves_not : (f : Found) (end : Spans) (n : ℕ) → f ≡ Clear end n → f ≡ Leaves → ⊥
leaves_not f end n e g = absurd cc

traps_not : (f : Found) (end : Spans) (n : ℕ) → f ≡ Clear end n → f ≡ Traps → ⊥
traps_not f end n e g = absurd cc

guard_not : (spans : Spans) (g : Option Guard) → IsClearGuard spans g → GuardFails spans g Divides → ⊥
guard_not spans None c f = f
guard_not spans (Some g) c f = absurd (let e = c.1 in let d = f.1 in cc)

chart_denied : (ranges : List Range) (all : List Leaf) (path : Path) (source : Name → Source) (block : Block) (reason : Reason) (x : Name) → ChartFails ranges all path source block reason x → ChartClears ranges all path source block → ⊥
chart_denied ranges all path source block Starts x (inl s) c =
    lacks (row_at ranges path) (λ v. first_input (source v.name) (start_of v)) x block.inputs (all_left _ block.inputs _ c.rows_fit) c.inputs_begin s
chart_denied ranges all path source block Starts x (inr (inl s)) c =
    lacks (row_at ranges path) start_of x block.outputs (all_left _ block.outputs block.internals (all_right _ block.inputs _ c.rows_fit)) (all_left _ block.outputs block.internals c.others_begin) s
chart_denied ranges all path source block Starts x (inr (inr s)) c =
    lacks (row_at ranges path) start_of x block.internals (all_right _ block.outputs block.internals (all_right _ block.inputs _ c.rows_fit)) (all_right _ block.outputs block.internals c.others_begin) s
chart_denied ranges all path source block Links x s c =
    none (λ (v : Variable). SourceFits ranges all (row_at ranges path v) (source v.name)) (λ (v : Variable). (v.name ≡ x) × (SourceFits ranges all (row_at ranges path v) (source v.name) → ⊥)) block.inputs (λ v p q. q.1 p) c.links s
chart_denied ranges all path source block Keeps x s c =
    none (λ (p : Procedure). IsClearAlgorithm (rows ranges path (Charted block)) p.algorithm) (λ (p : Procedure). (p.name ≡ x) × (examined (rows ranges path (Charted block)) p.algorithm ≡ Leaves)) block.procedures
    (λ p k q. leaves_not (examined (rows ranges path (Charted block)) p.algorithm) k.0 k.1 k.2 q.1) c.algorithms s
chart_denied ranges all path source block Divides x (inl s) c =
    none (λ (p : Procedure). IsClearAlgorithm (rows ranges path (Charted block)) p.algorithm) (λ (p : Procedure). (p.name ≡ x) × (examined (rows ranges path (Charted block)) p.algorithm ≡ Traps)) block.procedures
    (λ p k q. traps_not (examined (rows ranges path (Charted block)) p.algorithm) k.0 k.1 k.2 q.1) c.algorithms s
chart_denied ranges all path source block Divides x (inr s) c =
    none (λ (t : Transition). IsClearGuard (rows ranges path (Charted block)) t.guard) (λ (t : Transition). (t.source ≡ x) × GuardFails (rows ranges path (Charted block)) t.guard Divides) block.transitions
    (λ t k q. guard_not (rows ranges path (Charted block)) t.guard k q.1) c.guards s

kind_denied : (ranges : List Range) (all : List Leaf) (path : Path) (source : Name → Source) (kind : Kind) (reason : Reason) (x : Name) → KindFails ranges all path source kind reason x → KindClears ranges all path source kind → ⊥
kind_denied ranges all path source (Charted block) reason x f c = chart_denied ranges all path source block reason x f c
kind_denied ranges all path source (Serviced service) reason x f c = f

system_denied : (ranges : List Range) (s : System) (reason : Reason) (path : List ℕ) → Any (λ (d : Device). Any (λ (leaf : Leaf). LeafFails ranges (leaves d) leaf reason path) (leaves d)) s.devices → AllClear ranges s → ⊥
system_denied ranges s reason path f c =
    none (λ (d : Device). AllByRecursion (LeafClears ranges (leaves d)) (leaves d)) (λ (d : Device). Any (λ (leaf : Leaf). LeafFails ranges (leaves d) leaf reason path) (leaves d)) s.devices
    (λ d a q. none (LeafClears ranges (leaves d)) (λ (leaf : Leaf). LeafFails ranges (leaves d) leaf reason path) (leaves d)
    (λ leaf k h. kind_denied ranges (leaves d) leaf.path leaf.source leaf.kind reason h.0 h.2 k) a q) c f

-- a true refusal denies that all is clear, unless memory ran out
pub denied : (ranges : List Range) (s : System) (f : Unclear) → IsUnclear ranges s f → AllClear ranges s → f ≡ u.OutOfMemory
denied ranges s u.OutOfMemory h c = refl
denied ranges s (u.Start path) h c = absurd (system_denied ranges s Starts (string_bytes path) h c)
denied ranges s (u.Link path) h c = absurd (system_denied ranges s Links (string_bytes path) h c)
denied ranges s (u.Kept path) h c = absurd (system_denied ranges s Keeps (string_bytes path) h c)
denied ranges s (u.IndexOrDivisor path) h c = absurd (system_denied ranges s Divides (string_bytes path) h c)
