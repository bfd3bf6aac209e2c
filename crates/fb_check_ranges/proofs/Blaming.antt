-- Refusals and what they name.
use Rattle.std.proofs.Common.{◌≡◌, ◌↔◌, ℕ, ◌<◌, Bool, true, false, List, length, get_or, Result, Ok, Err, sym, inr, string_bytes}
use Rattle.std.specs.Prelude.{MatchResult, IsTrue, OnOk, IfErr}
use Rattle.std.specs.List.{AllByRecursion}
use Rattle.fb_model.specs.Names.{Name}
use Rattle.fb_flat.specs.Sites.{dotted}
use Rattle.fb_faults.specs.declared.unclear.Unclear.{Unclear}
use Rattle.fb_faults.specs.declared.unclear.Unclear.TheVariants as u
use Rattle.fb_model.specs.Wires as wires
use Rattle.fb_cert.specs.declared.certificate.Certificate.{Certificate}
use Rattle.fb_flat.specs.declared.flat.Leaf.{Leaf}
use Rattle.fb_types_blocks.specs.declared.typed.Block.{Block}
use Rattle.fb_check_ranges.specs.Reasons.{Blames, OneFails}
use Rattle.fb_model.specs.Misfits.{Reason, Starts, Links, Keeps, Divides, Refuses}
use Rattle.fb_check_ranges.specs.Beginning.{NamedVariable, shown, LinkLies}
use Rattle.fb_check_ranges.specs.Clearing.{VariablesBegin, RunsClear, RunFails, ChartLies, BlockFails}

pub refuses_weaker : (P Q : Reason → List ℕ → Type 0) (e : Unclear) → ((r : Reason) (row : List ℕ) → P r row → Q r row) → Refuses P e → Refuses Q e
refuses_weaker P Q u.OutOfMemory f h = tt
refuses_weaker P Q (u.Start path) f h = f Starts (string_bytes path) h
refuses_weaker P Q (u.Link path) f h = f Links (string_bytes path) h
refuses_weaker P Q (u.Kept path) f h = f Keeps (string_bytes path) h
refuses_weaker P Q (u.IndexOrDivisor path) f h = f Divides (string_bytes path) h

abbrev Named : Name → (Reason → Name → Type 0) → Reason → List ℕ → Type 0
Named path P reason row = (x : Name) × (row ≡ dotted path x) × P reason x

pub blames_weaker : (path : Name) (P Q : Reason → Name → Type 0) (e : Unclear) → ((r : Reason) (y : Name) → P r y → Q r y) → Blames path P e → Blames path Q e
blames_weaker path P Q e f h = refuses_weaker (Named path P) (Named path Q) e (λ r row k. (k.0, k.1, f r k.0 k.2)) h

-- the one at an index is blamed, so one of all is
pub one_named : {X : Type 0} (path : Name) (name : X → Name) (Fails : X → Reason → Type 0) (xs : List X) (i : ℕ) (x : X) (e : Unclear) → i < length xs → x ≡ get_or xs i x
    → Blames path (λ r y. (name x ≡ y) × Fails x r) e → Blames path (OneFails name Fails xs) e
one_named path name Fails xs i x e h g k = blames_weaker path (λ r y. (name x ≡ y) × Fails x r) (OneFails name Fails xs) e (λ r y p. (i, x, h, sym g, p)) k

-- what a test denies is not so
pub denied : (b : Bool) (P : Type 0) → IsTrue b ↔ P → b ≡ false → P → ⊥
denied b P h e p = let t = h.1 p in let f : true ≡ false = cc in absurd cc

pub accepted : (P : Type 0) (Q : Unclear → Type 0) (R : Type 0) (r : Result (Unit {0}) Unclear) → MatchResult r (λ u. P) Q → (P → R) → OnOk r R
accepted P Q R (Ok u) h f = f h
accepted P Q R (Err e) h f = tt

pub refused : (P : Type 0) (Q S : Unclear → Type 0) (r : Result (Unit {0}) Unclear) → MatchResult r (λ u. P) Q → ((e : Unclear) → Q e → S e) → IfErr r S
refused P Q S (Ok u) h f = tt
refused P Q S (Err e) h f = f e h

-- ---- parts of a block

pub chart_all : (cert : Certificate) (path : Name) (ls : List Leaf) (source : Name → wires.Source) (k : Block) (r : Result (Unit {0}) Unclear) → VariablesBegin cert path source k → AllByRecursion (λ (e : NamedVariable). LinkLies cert path ls source (shown e)) k.face.inputs.entries
    → MatchResult r (λ u. RunsClear cert path k) (Blames path (RunFails cert path k)) → MatchResult r (λ u. ChartLies cert path ls source k) (Blames path (BlockFails cert path ls source k))
chart_all cert path ls source k (Ok u) v l h = record { variables = v; links = l; runs = h }
chart_all cert path ls source k (Err e) v l h = blames_weaker path (RunFails cert path k) (BlockFails cert path ls source k) e (λ reason y q. inr (inr q)) h
