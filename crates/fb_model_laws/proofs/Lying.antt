-- A leaf whose rows are kept lies in them.
use Rattle.std.proofs.Common.{◌≡◌, ℕ, ◌+◌, ℤ, pos, sym, ap, subst, refl, inl, inr, Bool, true, false, List, [], ◌∷◌, Option, None, Some, arith, ◌∙◌}
use Rattle.std.specs.Prelude.{if◌then◌else◌, int_le}
use Rattle.std.specs.List.{AllByRecursion}
use Rattle.std.specs.Option.{option_map}
use Rattle.std.specs.Str.{bytes_eq}
use Rattle.std.proofs.lemmas.Int.{ints}
use Rattle.fb_words.specs.declared.elem_type.ElemType.{ElemType}
use Rattle.fb_words.specs.declared.elem_type.ElemType.TheVariants as t
use Rattle.fb_model.specs.Names.{Name, Path, is_in}
use Rattle.fb_model.specs.Values.{Value, One, Many, Values, numbers_of, in_type, all_in}
use Rattle.fb_model.specs.System.{Variable, Transition, Procedure, Block, Service}
use Rattle.fb_model.specs.Language.{Guard, Algorithm, Outcome, Done, Trap, given, run}
use Rattle.fb_model.specs.Services.{qo, received, ports, service_outputs}
use Rattle.fb_model.specs.BlockTyping.{extent}
use Rattle.fb_model.specs.NetworkTyping.{variable_named}
use Rattle.fb_model.specs.Wires.{Kind, Charted, Serviced}
use Rattle.fb_model.specs.Store.{variable_names}
use Rattle.fb_model.specs.Charts.{named, algorithm_of, work, tested}
use Rattle.fb_model.specs.Serving.{bit, set_value, receive}
use Rattle.fb_model.specs.Spans.{Span, span, within, whole}
use Rattle.fb_model.specs.Clear.{Spans, examined, found_cost}
use Rattle.fb_model.specs.Shapes as shapes
use Rattle.fb_model.specs.Shapes.{IsIn, Shape, HasForm, AlgorithmFits, written}
use Rattle.fb_model.specs.Ranges.{Range, variables, HasLength, row_of, rows, Lies, AllLie, cost_of, Keeps, IsClear, types_of, WritesFit, HoldsIn, IsClearGuard, IsClearAlgorithm}
use Rattle.fb_model.proofs.Lists.{all_weaker, same_name}
use Rattle.fb_model.proofs.Sound.{algorithms_keep}
use Rattle.fb_model.proofs.Terms.{guard_answers}
use Rattle.fb_model_laws.specs.Leaves.{IsWider, AreFirst}
use Rattle.fb_model_laws.proofs.Typed.{both, in_range, bit_fits}
use Rattle.fb_model_laws.proofs.Ports.{qo_port, qo_named, receivers}
use Rattle.fb_model_laws.specs.Shaped.{GuardFits, IsShaped}

-- ---- ranges in ranges

le_of : (m n : ℤ) → int_le m n ≡ true → IsIn (span m n) m
le_of m n h = record { least = omega (arith, ints); most = omega (arith, ints, h) }

pub inside : (r s : Span) (n : ℤ) → within r s ≡ true → IsIn r n → IsIn s n
inside r s n w h =
    let k = both (int_le s.low r.low) (int_le r.high s.high) w in
    let a = le_of s.low r.low k.0 in
    let b = le_of r.high s.high k.1 in
    record { least = omega (arith, ints, a.most, h.least); most = omega (arith, ints, b.most, h.most) }

pub all_inside : (r s : Span) (ns : List ℤ) → ((n : ℤ) → IsIn r n → IsIn s n) → AllByRecursion (IsIn r) ns → AllByRecursion (IsIn s) ns
all_inside r s ns f h = all_weaker (IsIn r) (IsIn s) ns f h

pub wider_whole : (a b : ElemType) (n : ℤ) → IsWider a b → IsIn (whole a) n → IsIn (whole b) n
wider_whole a b n w h = record { least = omega (arith, ints, w.0, h.least); most = omega (arith, ints, w.1, h.most) }

-- ---- values of variables

-- what a value of the variable, if there is one, has to be
abbrev pub Suits : List Range → Path → Kind → Option Variable → Value → Type 0
Suits ranges path kind None value = value ≡ One (pos 0)
Suits ranges path kind (Some v) value = HasLength v.length value × HoldsIn (row_of ranges path kind v) value

zero_in : IsIn (whole t.Lint) (pos 0)
zero_in = in_range t.Lint (pos 0) refl

pub lies_by : (ranges : List Range) (path : Path) (kind : Kind) (x : Name) (value : Value) (o : Option Variable) → variable_named (variables kind) x ≡ o → Suits ranges path kind o value → Lies ranges path kind x value
lies_by ranges path kind x value None e s =
    let form : HasLength (given None (λ (v : Variable). v.length)) value = subst (HasLength None) (sym s) tt in
    let numbers : AllByRecursion (IsIn (whole t.Lint)) (numbers_of value) = subst (λ w. AllByRecursion (IsIn (whole t.Lint)) (numbers_of w)) (sym s) (zero_in, tt) in
    record {
      form = subst (λ o. HasLength (given o (λ (v : Variable). v.length)) value) (sym e) form;
      numbers = subst (λ o. AllByRecursion (IsIn (elim o [ None ↦ whole t.Lint | Some v ↦ row_of ranges path kind v ])) (numbers_of value)) (sym e) numbers;
    }
lies_by ranges path kind x value (Some v) e s =
    record {
      form = subst (λ o. HasLength (given o (λ (v : Variable). v.length)) value) (sym e) s.0;
      numbers = subst (λ o. AllByRecursion (IsIn (elim o [ None ↦ whole t.Lint | Some v ↦ row_of ranges path kind v ])) (numbers_of value)) (sym e) s.1;
    }

-- and what a value that lies is
pub lies_is : (ranges : List Range) (path : Path) (kind : Kind) (x : Name) (value : Value) (v : Variable) → variable_named (variables kind) x ≡ Some v → Lies ranges path kind x value → HasLength v.length value × HoldsIn (row_of ranges path kind v) value
lies_is ranges path kind x value v e l = (
  subst (λ o. HasLength (given o (λ (v : Variable). v.length)) value) e l.form,
  subst (λ o. AllByRecursion (IsIn (elim o [ None ↦ whole t.Lint | Some v ↦ row_of ranges path kind v ])) (numbers_of value)) e l.numbers,
)

-- ---- algorithms and guards

form_of : (o : Option (ℤ × ℤ)) (value : Value) → HasLength (option_map extent o) value → HasForm o value
form_of None (One n) h = tt
form_of None (Many ns) h = h
form_of (Some b) (One n) h = h
form_of (Some b) (Many ns) h = h

length_of : (o : Option (ℤ × ℤ)) (value : Value) → HasForm o value → HasLength (option_map extent o) value
length_of None (One n) h = tt
length_of None (Many ns) h = h
length_of (Some b) (One n) h = h
length_of (Some b) (Many ns) h = h

module _ (ranges : List Range) (path : Path) (block : Block) (shape : Shape) (shaped : IsShaped block shape) where
  rows_here : Spans
  rows_here = rows ranges path (Charted block)

  has_shape : (values : Values) → AllLie ranges path (Charted block) values → shapes.HasShape shape values
  has_shape values l x = form_of (shape x) (values x) (subst (λ n. HasLength n (values x)) (shaped.lengths x) (l x).form)

  lie : (values : Values) → AllLie ranges path (Charted block) values → shapes.Lies (rows ranges path (Charted block)) values
  lie values l x = (l x).numbers

  kept : (names : List Name) (n : ℕ) (before : Values) (r : Outcome) → shapes.Keeps (rows ranges path (Charted block)) shape names n before r → Keeps ranges path (Charted block) n r
  kept names n before (Done after m) h = (h.0, λ x. record { form = subst (λ k. HasLength k (after x)) (sym (shaped.lengths x)) (length_of (shape x) (after x) (h.2 x)); numbers = h.1 x })
  kept names n before Trap h = h

  named_so : (P : Algorithm → Type 0) (ps : List Procedure) (a : Name) (g : Algorithm) → AllByRecursion (λ (p : Procedure). P p.algorithm) ps → named ps a ≡ Some g → P g
  named_so P [] a g h e = absurd cc
  named_so P (p ∷ ps) a g h e = by (bytes_eq p.name a) e (named_so P ps a g h.1) where
    by : (b : Bool) → (if b then Some p.algorithm else named ps a) ≡ Some g → (named ps a ≡ Some g → P g) → P g
    by true f next = let same : p.algorithm ≡ g = cc in subst P same h.0
    by false f next = next f

  runs_clear : (g : Algorithm) (values : Values) → AlgorithmFits shape g → IsClearAlgorithm (rows ranges path (Charted block)) g → AllLie ranges path (Charted block) values
      → Keeps ranges path (Charted block) (cost_of (rows ranges path (Charted block)) (Some g)) (run g values)
  runs_clear g values f c l =
      let n_is : found_cost (examined (rows ranges path (Charted block)) g) ≡ c.1 = ap found_cost c.2 in
      subst (λ n. Keeps ranges path (Charted block) n (run g values)) (sym n_is)
      (kept (written g) c.1 values (run g values) (algorithms_keep (rows ranges path (Charted block)) shape g c.0 c.1 f c.2 values (has_shape values l) (lie values l)))

  works : AllByRecursion (λ (p : Procedure). IsClearAlgorithm (rows ranges path (Charted block)) p.algorithm) block.procedures → (o : Option Algorithm) (values : Values) → ((g : Algorithm) → o ≡ Some g → AlgorithmFits shape g × IsClearAlgorithm (rows ranges path (Charted block)) g)
      → AllLie ranges path (Charted block) values → Keeps ranges path (Charted block) (cost_of (rows ranges path (Charted block)) o) (work o values)
  works c None values h l = (omega arith, l)
  works c (Some g) values h l = let k = h g refl in runs_clear g values k.0 k.1 l

  algorithm_so : AllByRecursion (λ (p : Procedure). IsClearAlgorithm (rows ranges path (Charted block)) p.algorithm) block.procedures → (a : Option Name) (g : Algorithm) → algorithm_of block a ≡ Some g
      → AlgorithmFits shape g × IsClearAlgorithm (rows ranges path (Charted block)) g
  algorithm_so c None g e = absurd cc
  algorithm_so c (Some a) g e = (named_so (AlgorithmFits shape) block.procedures a g shaped.algorithms e, named_so (IsClearAlgorithm (rows ranges path (Charted block))) block.procedures a g c e)

  guard_so : (g : Option Guard) (values : Values) → GuardFits shape g → IsClearGuard (rows ranges path (Charted block)) g → AllLie ranges path (Charted block) values → tested g values ≡ None → ⊥
  guard_so None values f c l e = absurd cc
  guard_so (Some g) values f c l e = let k = guard_answers (rows ranges path (Charted block)) shape g c.0 values c.1 f (has_shape values l) (lie values l) in let t : Some k.0 ≡ None = sym k.1 ∙ e in absurd cc

  guards_so : (ts : List Transition) → AllByRecursion (λ (t : Transition). GuardFits shape t.guard) ts → AllByRecursion (λ (t : Transition). IsClearGuard (rows ranges path (Charted block)) t.guard) ts
      → AllByRecursion (λ (t : Transition). (values : Values) → AllLie ranges path (Charted block) values → tested t.guard values ≡ None → ⊥) ts
  guards_so [] f c = tt
  guards_so (t ∷ ts) f c = (λ values l e. guard_so t.guard values f.0 c.0 l e, guards_so ts f.1 c.1)

  pub block_clear : AllByRecursion (λ (p : Procedure). IsClearAlgorithm (rows ranges path (Charted block)) p.algorithm) block.procedures → AllByRecursion (λ (t : Transition). IsClearGuard (rows ranges path (Charted block)) t.guard) block.transitions → IsClear ranges path block
  block_clear c d = record { algorithms = λ a values l. works c (algorithm_of block a) values (λ g e. algorithm_so c a g e) l; guards = guards_so block.transitions shaped.guards d }

-- ---- services

module _ (ranges : List Range) (path : Path) (service : Service) where
  set_lies : (x : Name) (value : Value) (values : Values) → Lies ranges path (Serviced service) x value → AllLie ranges path (Serviced service) values → AllLie ranges path (Serviced service) (set_value x value values)
  set_lies x value values s h y = by (bytes_eq y x) refl where
    by : (b : Bool) → bytes_eq y x ≡ b → Lies ranges path (Serviced service) y (if b then value else values y)
    by true e = subst (λ z. Lies ranges path (Serviced service) z value) (sym (same_name y x e)) s
    by false e = h y

  receive_lies : (types : List ElemType) (n : ℕ) (ns : List ℤ) (values : Values) → AreFirst (variables (Serviced service)) (ports received n types) → all_in types ns ≡ true → AllLie ranges path (Serviced service) values → AllLie ranges path (Serviced service) (receive n ns values)
  receive_lies [] n [] values f e h = h
  receive_lies [] n (v ∷ ns) values f e h = absurd cc
  receive_lies (type ∷ types) n [] values f e h = absurd cc
  receive_lies (type ∷ types) n (v ∷ ns) values f e h =
      let k = both (in_type type v) (all_in types ns) e in
      receive_lies types (n + 1) ns (set_value (received n) (One v) values) f.1 k.1
      (set_lies (received n) (One v) values (lies_by ranges path (Serviced service) (received n) (One v) _ f.0 (tt, (in_range type v k.0, tt))) h)

  bit_in : (b : Bool) → HoldsIn (whole t.Bool) (bit b)
  bit_in true = (bit_fits true, tt)
  bit_in false = (bit_fits false, tt)

  bit_single : (b : Bool) → HasLength None (bit b)
  bit_single true = tt
  bit_single false = tt

  bits_lie : is_in qo (variable_names (service_outputs service)) ≡ true → (b : Bool) → Lies ranges path (Serviced service) qo (bit b)
  bits_lie i b = lies_by ranges path (Serviced service) qo (bit b) (Some qo_port) (qo_named service i) (bit_single b, bit_in b)

  pub writes_fit : WritesFit ranges path service
  writes_fit =
      record {
        bits = bits_lie;
        numbers = λ ns values m h. elim m [
          | inl e ↦ subst (λ xs. AllLie ranges path (Serviced service) (receive 1 xs values)) (sym e) h
          | inr each ↦ receive_lies (types_of (Serviced service)) 1 ns values (receivers service) each h
        ];
      }
