-- An operand, and then what stands behind it, level by level, is an expression below a level. Where no operator stands behind it, it is the whole.
use Rattle.std.proofs.Common.{◌≡◌, ℕ, zero, suc, List, [], ◌∷◌, length, Bool, true, false, Option, None, is_some, Result, Ok, Err, refl, sym, ap, ◌∙◌, subst}
use Rattle.fb_model.specs.Tokens.{Token, token, name, number, typed, duration, mark}
use Rattle.fb_model.specs.StructuredText.{Expression, Link, grouped}
use Rattle.fb_words.specs.declared.operator.Operator.{Operator}
use Rattle.fb_read.specs.declared.stop.Stop.{Stop}
use Rattle.fb_read.specs.declared.stop.Stop.TheVariants.{Memory, Syntax, TooDeep}
use Rattle.fb_read.specs.Answers.{Gives, Fails}
use Rattle.fb_read.specs.Reading.{Wrong, Read, Answer, ◌>>=◌, while_step, while_at}
use Rattle.st_parse.specs.declared.operator.Role.{Role}
use Rattle.st_parse.specs.declared.operator.Role.TheVariants.{Infix, Opener, Other}
use Rattle.st_parse.specs.ExpressionReading.{role, goes_on, continues, of_level, operator_at, begins_link, link_at, links_at, chain_at, level_at, chained_at}

-- ---- an operand first

-- the operators of one more level
abbrev linked : Read Expression → ℕ → Expression × List Token → Answer Expression
linked operand level y = links_at level (level_at operand level) y.1 >>= λ links. Ok (grouped y.0 links.0, links.1)

one_more : (operand : Read Expression) (level : ℕ) (r : Answer Expression) → (r >>= λ x. chained_at operand level x.0 x.1) >>= linked operand level ≡ (r >>= λ x. chained_at operand (suc level) x.0 x.1)
unfolding chained_at
one_more operand level (Ok x) = refl
one_more operand level (Err w) = refl

none_yet : (operand : Read Expression) (r : Answer Expression) → r ≡ (r >>= λ x. chained_at operand zero x.0 x.1)
unfolding chained_at
none_yet operand (Ok x) = refl
none_yet operand (Err w) = refl

pub operand_first : (operand : Read Expression) (level : ℕ) (ts : List Token) → level_at operand level ts ≡ (operand ts >>= λ x. chained_at operand level x.0 x.1)
unfolding level_at chain_at
operand_first operand zero ts = none_yet operand (operand ts)
operand_first operand (suc level) ts = ap (λ r. r >>= linked operand level) (operand_first operand level ts) ∙ one_more operand level (operand ts)

-- ---- an operand alone

no_operator : (level s : ℕ) (r : Role) → goes_on r ≡ false → of_level level s r ≡ None
no_operator level s (Infix l o) e = absurd cc
no_operator level s Opener e = absurd cc
no_operator level s Other e = refl

none_next : (level : ℕ) (ts : List Token) → continues ts ≡ false → operator_at level ts ≡ None
none_next level [] e = refl
none_next level (token (name x) s e' ∷ ts) e = refl
none_next level (token (number n) s e' ∷ ts) e = refl
none_next level (token (typed t b n) s e' ∷ ts) e = refl
none_next level (token (duration b n) s e' ∷ ts) e = refl
none_next level (token (mark k) s e' ∷ ts) e = no_operator level s (role k) e

no_links : (level : ℕ) (item : Read Link) (n : ℕ) (ts : List Token) → begins_link level ts ≡ false → while_at (begins_link level) item n ts ≡ Ok ([], ts)
unfolding while_at
no_links level item zero ts e = refl
no_links level item (suc n) ts e = ap (λ b. while_step item (while_at (begins_link level) item n) b ts) e

pub alone : (operand : Read Expression) (level : ℕ) (x : Expression) (ts : List Token) → continues ts ≡ false → chained_at operand level x ts ≡ Ok (x, ts)
unfolding chained_at
alone operand zero x ts e = refl
alone operand (suc level) x ts e =
    ap (λ r. r >>= linked operand level) (alone operand level x ts e)
    ∙ ap (λ r. r >>= λ links. Ok (grouped x links.0, links.1)) (no_links level (link_at level (level_at operand level)) (length ts) ts (ap is_some (none_next level ts e)))

-- ---- what the code gives

pub gives_as : {X Y : Type 0} (view : X → Y) (r : Result X Stop) (a b : Result Y Wrong) → a ≡ b → Gives view r b → Gives view r a
gives_as view r a b e h = subst (Gives view r) (sym e) h

-- where a step fails, so does what goes on with it
pub fails_then : {A B : Type 0} (f : A → Result B Wrong) (stop : Stop) (r : Result A Wrong) → Fails stop r → Fails stop (r >>= f)
fails_then f Memory r h = tt
fails_then f (Syntax left) r h = ap (λ x. x >>= f) h
fails_then f (TooDeep left) r h = ap (λ x. x >>= f) h

pub fails_as : {A : Type 0} (stop : Stop) (a b : Result A Wrong) → a ≡ b → Fails stop b → Fails stop a
fails_as stop a b e h = subst (Fails stop) (sym e) h

-- an operand cannot be read
pub first_fails : (operand : Read Expression) (level : ℕ) (ts : List Token) (stop : Stop) → Fails stop (operand ts) → Fails stop (level_at operand level ts)
first_fails operand level ts stop h = fails_as stop _ _ (operand_first operand level ts) (fails_then (λ x. chained_at operand level x.0 x.1) stop (operand ts) h)

-- an operand was read
pub first_read : (operand : Read Expression) (level : ℕ) (ts mid : List Token) (x : Expression) → operand ts ≡ Ok (x, mid) → level_at operand level ts ≡ chained_at operand level x mid
first_read operand level ts mid x e = operand_first operand level ts ∙ ap (λ r. r >>= λ y. chained_at operand level y.0 y.1) e

-- the operators of the level below a level, where those below it were read
pub level_read : (operand : Read Expression) (level n : ℕ) (x y : Expression) (ts mid : List Token) → level ≡ suc n → chained_at operand n x ts ≡ Ok (y, mid) → chained_at operand level x ts ≡ linked operand n (y, mid)
unfolding chained_at
level_read operand level n x y ts mid e f = ap (λ l. chained_at operand l x ts) e ∙ ap (λ r. r >>= linked operand n) f

-- none of them stands next
pub level_ends : (operand : Read Expression) (level n : ℕ) (x y : Expression) (ts mid : List Token) → level ≡ suc n → chained_at operand n x ts ≡ Ok (y, mid) → begins_link n mid ≡ false → chained_at operand level x ts ≡ Ok (y, mid)
level_ends operand level n x y ts mid e f g =
    level_read operand level n x y ts mid e f ∙ ap (λ r. r >>= λ links. Ok (grouped y links.0, links.1)) (no_links n (link_at n (level_at operand n)) (length mid) mid g)

-- they cannot be read
pub level_fails : (operand : Read Expression) (level n : ℕ) (x y : Expression) (ts mid : List Token) (stop : Stop) → level ≡ suc n → chained_at operand n x ts ≡ Ok (y, mid)
    → Fails stop (links_at n (level_at operand n) mid) → Fails stop (chained_at operand level x ts)
level_fails operand level n x y ts mid stop e f h =
    fails_as stop _ _ (level_read operand level n x y ts mid e f) (fails_then (λ links. Ok (grouped y links.0, links.1)) stop (links_at n (level_at operand n) mid) h)
