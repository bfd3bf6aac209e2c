use Rattle.std.proofs.Common.{◌≡◌, ◌≢◌, ℕ, ◌==◌, true, false, Bool, refl, sym, subst, ◌∙◌, if◌then◌else◌}
use Rattle.std.proofs.lemmas.Bool.{eqb-true, eq-eqb}
use Rattle.fb_words.specs.declared.format.Format.{Format}
use Rattle.fb_model.specs.Certificates as book
use Rattle.fb_find_demands.proofs.channel.admitted.Goals as goal

-- nothing comes of another channel
of_other : (own number times : ℕ) (b : Bool) → (own == number) ≡ b → own ≢ number → 0 ≡ (if b then times else 0)
of_other own number times true e d = absurd (d (eqb-true own number e))
of_other own number times false e d = refl

-- and all of the own one
of_own : (own number times : ℕ) (b : Bool) → (own == number) ≡ b → own ≡ number → times ≡ (if b then times else 0)
of_own own number times true e s = refl
of_own own number times false e s = absurd (let z : true ≡ false = sym (eq-eqb own number s) ∙ e in cc)

pub returns-then-own-number : goal.returns-then-own-number
returns-then-own-number c = of_other c.args.own c.args.number (book.admitted c.args.repeats (record { number = c.args.own; format = c.args.format })) (c.args.own == c.args.number) refl c.if-own-number.true

pub returns-in-First : goal.returns-in-First
returns-in-First c =
    subst (λ (f : Format). c.args.repeats ≡ (if c.args.own == c.args.number then book.admitted c.args.repeats (record { number = c.args.own; format = f }) else 0)) (sym c.in-First.is)
    (of_own c.args.own c.args.number c.args.repeats (c.args.own == c.args.number) refl c.if-own-number.false)

pub returns-in-Second : goal.returns-in-Second
returns-in-Second c =
    subst (λ (f : Format). 1 ≡ (if c.args.own == c.args.number then book.admitted c.args.repeats (record { number = c.args.own; format = f }) else 0)) (sym c.in-Second.is)
    (of_own c.args.own c.args.number 1 (c.args.own == c.args.number) refl c.if-own-number.false)
