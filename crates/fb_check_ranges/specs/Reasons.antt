-- Why rows do not fit, and what a refusal names.
use Rattle.std.specs.Prelude.{◌≡◌, List, Result, MatchResult}
use Rattle.std.specs.List.{AllByRecursion, Any}
use Rattle.fb_model.specs.Names.{Name}
use Rattle.fb_flat.specs.Sites.{dotted}
use Rattle.fb_faults.specs.declared.unclear.Unclear.{Unclear}
use Rattle.fb_faults.specs.declared.unclear.Unclear.TheVariants as u
use Rattle.fb_model.specs.Misfits.{Reason, Refuses}

-- the path of a refusal is that of a leaf, and behind it a name
abbrev pub Blames : Name → (Reason → Name → Type 0) → Unclear → Type 0
Blames path P = Refuses (λ reason row. (x : Name) × (row ≡ dotted path x) × P reason x)

-- it lacks this, for that reason
abbrev pub Lacks : Reason → Type 0 → Reason → Type 0
Lacks reason P other = (other ≡ reason) × (P → ⊥)

-- accepted where this is so, and otherwise this name is blamed
abbrev pub Names : Name → Name → Type 0 → (Reason → Type 0) → Result (Unit {0}) Unclear → Type 0
Names path x P Fails r = MatchResult r (λ u. P) (Blames path (λ reason y. (x ≡ y) × Fails reason))

-- one of these fails, and it has this name
abbrev pub OneFails : {X : Type 0} → (X → Name) → (X → Reason → Type 0) → List X → Reason → Name → Type 0
OneFails name Fails xs reason y = Any (λ x. (name x ≡ y) × Fails x reason) xs

-- accepted where this is so of each, and otherwise one is blamed that fails
abbrev pub NamesOne : {X : Type 0} → Name → (X → Name) → (X → Type 0) → (X → Reason → Type 0) → List X → Result (Unit {0}) Unclear → Type 0
NamesOne path name P Fails xs r = MatchResult r (λ u. AllByRecursion P xs) (Blames path (OneFails name Fails xs))
