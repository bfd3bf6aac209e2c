-- Actions of states: what they run, issue and send, by numbers and by names.
use Rattle.std.proofs.Common.{◌≡◌, ℕ, zero, suc, ◌+◌, ◌^◌, ◌<◌, ◌≤◌, Bool, true, false, ◌||◌, List, [], ◌∷◌, ◌++◌, length, slice_get, Option, Some, None, refl, sym, ap, subst, ◌∙◌, arith, string_bytes}
use Rattle.std.specs.Prelude.{IfSome, if◌then◌else◌}
use Rattle.std.specs.Option.{option_map}
use Rattle.std.specs.List.{AllByRecursion}
use Rattle.std.specs.Str.{bytes_eq}
use Rattle.std.proofs.lemmas.Bool.{cond-true, cond-false}
use Rattle.std.proofs.lemmas.List.{append-nil, length-map}
use Rattle.fb_model.specs.Names.{Name, is_in}
use Rattle.fb_model.specs.Values.{Values}
use Rattle.fb_model.specs.Language.{Algorithm, Outcome, Done, Trap}
use Rattle.fb_model.specs.System as book
use Rattle.fb_model.specs.Typing.{AreDistinct}
use Rattle.fb_model.specs.Wires.{Kind, Charted}
use Rattle.fb_model.specs.Store as st
use Rattle.fb_model.specs.Store.{Cells, carried, variable_names, inputs, outputs, internals, where_in}
use Rattle.fb_model.specs.Shapes.{written, AlgorithmFits}
use Rattle.fb_model.specs.Certificates.{names}
use Rattle.fb_model.specs.Charts.{Moment, At, Acting, Reaches, then as and_then, acts, work, algorithm_of, emission, issue_all, actions_of}
use Rattle.fb_model.proofs.Lists.{all_both, at_listed}
use Rattle.fb_model.proofs.Placed.{Apart, apart, name_same}
use Rattle.fb_model_laws.specs.Shaped.{IsShapely, AreOwn}
use Rattle.st_exec.specs.declared.command.Procedure.{Procedure}
use Rattle.st_exec.specs.CodeViews.{code_commands}
use Rattle.st_exec.specs.Cells.{Form, names_in}
use Rattle.st_exec.specs.Runs.{EndsWithin, AreAmong, Supports}
use Rattle.fb_chart.specs.declared.table.State.{State}
use Rattle.fb_chart.specs.declared.table.Give.{Give}
use Rattle.fb_chart.specs.declared.table.Output.{Output}
use Rattle.fb_chart.specs.declared.table.Chart.{Chart}
use Rattle.fb_chart.specs.Views.{named, names_of, given_by}
use Rattle.fb_chart.specs.Tables.{Each, IsOptional, IsProcedure, IsAlgorithm, IsAction, IsState, IsPlacedOutput}
use Rattle.fb_chart.specs.Sending.{targets_of, sent_to}
use Rattle.fb_chart.specs.Sampling.{AreStores, IsPlacedGive, CanGive, CanGiveAll}
use Rattle.fb_chart.specs.Charting.{block_in, IsReady, CanWork, numbered, targets_at, sent_by, given_at, issued_by, CanGoOn, FineFrom, most_steps}
use Rattle.fb_lists.proofs.Lists.{all_got, within_got}
use Rattle.fb_chart.proofs.Lists.{all_mapped, each_length, each_other}
use Rattle.fb_chart.proofs.Naming.{named_stands}
use Rattle.fb_chart.proofs.Choosing.{names_length}

-- ---- actions of a state

-- the actions of the state of a name are those of its number
pub actions_stand : (forms : List Form) (events outputs : List Name) (block : book.Block) (states : List book.State) (xs : List State) (u : ℕ) (x : State) → Apart (names states) → Each (IsState forms events outputs block) states xs → slice_get xs u ≡ Some x → Each (IsAction block outputs) (actions_of states (named (names states) u)) x.actions.items
actions_stand forms events outputs block [] [] u x a h e = absurd cc
actions_stand forms events outputs block [] (y ∷ ys) u x a h e = absurd h
actions_stand forms events outputs block (s ∷ ss) [] u x a h e = absurd h
actions_stand forms events outputs block (s ∷ ss) (y ∷ ys) zero x a h e =
    let same : y ≡ x = cc in
    subst (λ (as' : List book.Action). Each (IsAction block outputs) as' x.actions.items) (sym (cond-true (bytes_eq s.name s.name) s.actions (actions_of ss s.name) (name_same s.name)))
    (subst (λ (z : State). Each (IsAction block outputs) s.actions z.actions.items) same h.0.actions)
actions_stand forms events outputs block (s ∷ ss) (y ∷ ys) (suc u) x a h e =
    let within : u < length (names ss) = omega (arith, within_got ys u x e, each_length (IsState forms events outputs block) ss ys h.1, names_length ss) in
    let other : bytes_eq s.name (named (names ss) u) ≡ false = all_got (λ (n : Name). bytes_eq s.name n ≡ false) (names ss) u (named (names ss) u) a.0 (named_stands (names ss) u within) in
    subst (λ (as' : List book.Action). Each (IsAction block outputs) as' x.actions.items) (sym (cond-false (bytes_eq s.name (named (names ss) u)) s.actions (actions_of ss (named (names ss) u)) other)) (actions_stand forms events outputs block ss ys u x a.1 h.1 e)

-- ---- algorithms

pub in_back : (x : Name) (vs ws : List book.Variable) → is_in x (variable_names ws) ≡ true → is_in x (variable_names (vs ++ ws)) ≡ true
in_back x [] ws h = h
in_back x (v ∷ vs) ws h = by (bytes_eq x v.name) (in_back x vs ws h) where
  by : (b : Bool) → is_in x (variable_names (vs ++ ws)) ≡ true → (b || is_in x (variable_names (vs ++ ws))) ≡ true
  by true again = refl
  by false again = again

pub in_front : (x : Name) (vs ws : List book.Variable) → is_in x (variable_names vs) ≡ true → is_in x (variable_names (vs ++ ws)) ≡ true
in_front x [] ws h = absurd cc
in_front x (v ∷ vs) ws h = by (bytes_eq x v.name) h (in_front x vs ws) where
  by : (b : Bool) → (b || is_in x (variable_names vs)) ≡ true → (is_in x (variable_names vs) ≡ true → is_in x (variable_names (vs ++ ws)) ≡ true) → (b || is_in x (variable_names (vs ++ ws))) ≡ true
  by true h again = refl
  by false h again = again h

pub algorithms_serve : (block : book.Block) (own issued : List Form) → IsShapely block → AreStores (Charted block) own issued → AllByRecursion (λ (p : book.Procedure). Supports own p.algorithm) block.procedures
algorithms_serve block own issued s stores =
    all_both (λ (p : book.Procedure). AlgorithmFits s.0 p.algorithm) (λ (p : book.Procedure). AreOwn block (written p.algorithm)) (λ (p : book.Procedure). Supports own p.algorithm) block.procedures
    (λ p fits writes. (s.0, (λ x. sym (stores.own_lengths x ∙ s.1.lengths x)), fits, among p.algorithm writes)) s.1.algorithms s.1.writes
  where
    among : (a : Algorithm) → AreOwn block (written a) → AreAmong (written a) (names_in own)
    among a h = λ x e. stores.own_names x ∙ in_back x block.inputs (block.outputs ++ block.internals) (at_listed (λ (y : Name). is_in y (variable_names (block.outputs ++ block.internals)) ≡ true) (written a) x h e)

-- the algorithms by slots run over the store of the working values
pub all_work : (forms : List Form) (ps : List book.Procedure) (xs : List Procedure) → Each (IsProcedure forms) ps xs → AllByRecursion (λ (p : book.Procedure). Supports forms p.algorithm) ps → AllByRecursion (CanWork forms) xs
all_work forms [] [] h k = tt
all_work forms [] (x ∷ xs) h k = absurd h
all_work forms (p ∷ ps) [] h k = absurd h
all_work forms (p ∷ ps) (x ∷ xs) h k = (record { placed = h.0.placed; serves = subst (Supports forms) (sym h.0.same) k.0 }, all_work forms ps xs h.1 k.1)

-- the algorithm of a number is the one that the book finds by the name
pub algorithm_is : (forms : List Form) (block : book.Block) (xs : List Procedure) (a : Option Name) (n : Option ℕ) → Each (IsProcedure forms) block.procedures xs → IsAlgorithm block a n → algorithm_of block a ≡ numbered xs n
algorithm_is forms block xs a None e h = h
algorithm_is forms block xs a (Some n) e h =
    let o = each_other (IsProcedure forms) block.procedures xs n h.0 e h.1 in
    h.2 ∙ ap Some (sym o.so.same) ∙ ap (option_map (λ (p : Procedure). code_commands p.statements.items)) (sym o.at)

pub algorithm_in : (forms : List Form) (block : book.Block) (xs : List Procedure) (a : Option Name) (n : Option ℕ) → Each (IsProcedure forms) block.procedures xs → IsAlgorithm block a n → IfSome n (λ k. k < length xs)
algorithm_in forms block xs a None e h = tt
algorithm_in forms block xs a (Some n) e h = let o = each_other (IsProcedure forms) block.procedures xs n h.0 e h.1 in within_got xs n o.y o.at

pub numbered_at : (xs : List Procedure) (n : ℕ) (x : Procedure) → slice_get xs n ≡ Some x → numbered xs (Some n) ≡ Some (code_commands x.statements.items)
numbered_at xs n x at = ap (option_map (λ (p : Procedure). code_commands p.statements.items)) at

-- ---- one action, at a moment where all is fine

module _ (block : book.Block) (outs : List Output) (most room : ℕ) (start : Moment) (fine : FineFrom block outs most room start) (s : Name) (c : Cells) (a : book.Action) (left : List book.Action) (n : ℕ) (out : List Name)
    (run : Reaches block start (At s c (Acting (a ∷ left)) n out)) (few : most ≤ most_steps) where
  pub small : EndsWithin (10 ^ 12) (work (algorithm_of block a.algorithm) c.own)
  small = by (work (algorithm_of block a.algorithm) c.own) refl where
    by : (o : Outcome) → work (algorithm_of block a.algorithm) c.own ≡ o → EndsWithin (10 ^ 12) o
    by (Done values m) e =
        let f = fine (At s (issue_all (Charted block) (emission a.output) (record { own = values; issued = c.issued })) (Acting left) (n + m) (out ++ emission a.output)) (and_then (At s c (Acting (a ∷ left)) n out) _ run (acts s a left c n m out values e)) in
        omega (arith, f.steps, few)
    by Trap e = absurd ((fine (At s c (Acting (a ∷ left)) n out) run).clear e)

  module _ (values : Values) (m : ℕ) (done : work (algorithm_of block a.algorithm) c.own ≡ Done values m) where
    pub next : Reaches block start (At s (issue_all (Charted block) (emission a.output) (record { own = values; issued = c.issued })) (Acting left) (n + m) (out ++ emission a.output))
    next = and_then (At s c (Acting (a ∷ left)) n out) _ run (acts s a left c n m out values done)

    pub next_fine : CanGoOn block outs most room (At s (issue_all (Charted block) (emission a.output) (record { own = values; issued = c.issued })) (Acting left) (n + m) (out ++ emission a.output))
    next_fine = fine _ next

-- ---- outputs

pub record Stands (os : List Output) (k : ℕ) (x : Name) : Type 0 where
  pub output : Output
  pub at : slice_get os k ≡ Some output
  pub named : string_bytes output.name ≡ x

pub output_at : (os : List Output) (k : ℕ) (x : Name) → slice_get (names_of os) k ≡ Some x → Stands os k x
output_at [] k x h = absurd cc
output_at (o ∷ os) zero x h = record { output = o; at = refl; named = cc }
output_at (o ∷ os) (suc k) x h = let s = output_at os k x h in record { output = s.output; at = s.at; named = s.named }

targets_found : (os : List Output) (k : ℕ) (x : Name) → Apart (names_of os) → slice_get (names_of os) k ≡ Some x → targets_of os x ≡ targets_at (slice_get os k)
targets_found [] k x a h = absurd cc
targets_found (o ∷ os) zero x a h =
    let e : string_bytes o.name ≡ x = cc in
    cond-true (bytes_eq (string_bytes o.name) x) o.targets.items (targets_of os x) (subst (λ y. bytes_eq (string_bytes o.name) y ≡ true) e (name_same (string_bytes o.name)))
targets_found (o ∷ os) (suc k) x a h =
    cond-false (bytes_eq (string_bytes o.name) x) o.targets.items (targets_of os x) (all_got (λ (y : Name). bytes_eq (string_bytes o.name) y ≡ false) (names_of os) k x a.0 h) ∙ targets_found os k x a.1 h

-- what the output of an action sends
pub sent_emission : (os : List Output) (o : Option Name) (k : Option ℕ) → AreDistinct (names_of os) → IsOptional (names_of os) o k → sent_to os (emission o) ≡ sent_by os k
sent_emission os None None d h = refl
sent_emission os (Some x) (Some k) d h = append-nil (targets_of os x) ∙ targets_found os k x (apart (names_of os) d) h
sent_emission os None (Some k) d h = absurd h
sent_emission os (Some x) None d h = absurd h

-- and what it issues
pub issued_emission : (kind : Kind) (os : List Output) (o : Option Name) (k : Option ℕ) (own issued : Values) → AllByRecursion (λ (y : Output). given_by y ≡ st.gives kind (string_bytes y.name)) os → IsOptional (names_of os) o k
    → issue_all kind (emission o) (record { own = own; issued = issued }) ≡ record { own = own; issued = issued_by os k own issued }
issued_emission kind os None None own issued g h = refl
issued_emission kind os (Some x) (Some k) own issued g h =
    let s = output_at os k x h in
    let e : given_at (slice_get os k) ≡ st.gives kind x = ap given_at s.at ∙ all_got (λ (y : Output). given_by y ≡ st.gives kind (string_bytes y.name)) os k s.output g s.at ∙ ap (st.gives kind) s.named in
    ap (λ (ns : List Name). record { own = own; issued = where_in ns own issued }) (sym e)
issued_emission kind os None (Some k) own issued g h = absurd h
issued_emission kind os (Some x) None own issued g h = absurd h

pub output_in : (os : List Output) (o : Option Name) (k : Option ℕ) → IsOptional (names_of os) o k → IfSome k (λ j. j < length os)
output_in os None None h = tt
output_in os (Some x) (Some k) h = omega (arith, within_got (names_of os) k x h, length-map os (λ (o : Output). string_bytes o.name))
output_in os None (Some k) h = absurd h
output_in os (Some x) None h = absurd h

-- ---- outputs are of both stores

gives_can : (kind : Kind) (own issued : List Form) (g : Give) → AreStores kind own issued → is_in (string_bytes g.output) (variable_names (outputs kind)) ≡ true → IsPlacedGive own issued g → CanGive own issued g
gives_can kind own issued g stores h placed =
    let x = string_bytes g.output in
    record {
      declared = stores.own_names x ∙ in_back x (inputs kind) (outputs kind ++ internals kind) (in_front x (outputs kind) (internals kind) h);
      like = record { declared = stores.issued_names x ∙ h; length = sym (stores.issued_lengths x h ∙ sym (stores.own_lengths x)) };
      placed = placed;
    }

carried_all : (P : Name → Type 0) (es : List book.Event) (n : Name) → AllByRecursion (λ (e : book.Event). AllByRecursion P e.carries) es → AllByRecursion P (carried es n)
carried_all P [] n h = tt
carried_all P (e ∷ es) n h = by (bytes_eq e.name n) (carried_all P es n h.1) where
  by : (b : Bool) → AllByRecursion P (carried es n) → AllByRecursion P (if b then e.carries else carried es n)
  by true again = h.0
  by false again = again

pub all_give : (c : Chart) (os : List Output) (own issued : List Form) → IsReady c os own issued → AllByRecursion (CanGiveAll own issued) os
all_give c os own issued r = all_both (λ (o : Output). given_by o ≡ st.gives (Charted (block_in c)) (string_bytes o.name)) (IsPlacedOutput own issued) (CanGiveAll own issued) os one r.gives r.placed where
  IsOut : Name → Type 0
  IsOut x = is_in x (variable_names (block_in c).outputs) ≡ true

  one : (o : Output) → given_by o ≡ st.gives (Charted (block_in c)) (string_bytes o.name) → IsPlacedOutput own issued o → CanGiveAll own issued o
  one o e p =
      all_both (λ (g : Give). IsOut (string_bytes g.output)) (IsPlacedGive own issued) (CanGive own issued) o.gives.items (λ g h q. gives_can (Charted (block_in c)) own issued g r.stores h q)
      (all_mapped IsOut (λ (g : Give). string_bytes g.output) o.gives.items (subst (AllByRecursion IsOut) (sym e) (carried_all IsOut (block_in c).event_outputs (string_bytes o.name) r.closed.gives))) p
