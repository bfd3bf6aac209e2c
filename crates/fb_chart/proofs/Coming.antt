-- Moments of an invocation, one after another.
use Rattle.std.proofs.Common.{◌≡◌, ℕ, ◌+◌, ◌≤◌, Bool, true, false, List, [], ◌∷◌, ◌++◌, length, length-append, Option, Some, None, refl, sym, ap, subst, ◌∙◌, arith}
use Rattle.std.specs.Prelude.{if◌then◌else◌}
use Rattle.std.specs.Option.{option_map}
use Rattle.std.specs.List.{AllByRecursion}
use Rattle.std.specs.Str.{bytes_eq}
use Rattle.std.proofs.lemmas.List.{append_assoc, append-nil}
use Rattle.fb_model.specs.Names.{Name, is_in}
use Rattle.fb_model.specs.System as book
use Rattle.fb_model.specs.Wires.{Charted}
use Rattle.fb_model.specs.Store.{Cells}
use Rattle.fb_model.specs.Charts.{Cross, choice, Phase, Waiting, Acting, Settling, Moment, At, Moves, with_event, freely, acts, settles, Reaches, here, then as and_then, Traps, emission, issue_all, actions_of}
use Rattle.fb_model.proofs.Lists.{all_append}
use Rattle.fb_model_laws.specs.Leaves.{IsListed}
use Rattle.fb_chart.specs.declared.table.Output.{Output}
use Rattle.fb_chart.specs.Views.{named}
use Rattle.fb_chart.specs.Sending.{Points, targets_of, sent_to}
use Rattle.fb_chart.specs.Charting.{steps_at, CanGoOn, phase_of, FineFrom, HasCome}
use Rattle.fb_chart.proofs.Lists.{appended_on}

pub reaches_on : (block : book.Block) (a b c : Moment) → Reaches block a b → Reaches block b c → Reaches block a c
reaches_on block a b c r here = r
reaches_on block a b c r (and_then d e q m) = and_then d e (reaches_on block a b d r q) m

-- ---- with more emitted before

abbrev pub after_these : List Name → Moment → Moment
after_these o (At s c p n out) = At s c p n (o ++ out)

moves_after : (block : book.Block) (o : List Name) (a b : Moment) → Moves block a b → Moves block (after_these o a) (after_these o b)
moves_after block o a b (with_event s u e c n out h) = with_event s u e c n (o ++ out) h
moves_after block o a b (freely s u c n out h) = freely s u c n (o ++ out) h
moves_after block o a b (acts s x left c n m out values h) =
    subst (λ os. Moves block (At s c (Acting (x ∷ left)) n (o ++ out)) (At s (issue_all (Charted block) (emission x.output) (record { own = values; issued = c.issued })) (Acting left) (n + m) os)) (append_assoc o out (emission x.output)) (acts s x left c n m (o ++ out) values h)
moves_after block o a b (settles s c n out) = settles s c n (o ++ out)

pub reaches_after : (block : book.Block) (o : List Name) (a b : Moment) → Reaches block a b → Reaches block (after_these o a) (after_these o b)
reaches_after block o a b here = here
reaches_after block o a b (and_then c d r m) = and_then (after_these o c) (after_these o d) (reaches_after block o a c r) (moves_after block o c d m)

-- ---- steps

moves_grow : (block : book.Block) (a b : Moment) → Moves block a b → steps_at a ≤ steps_at b
moves_grow block a b (with_event s u e c n out h) = omega arith
moves_grow block a b (freely s u c n out h) = omega arith
moves_grow block a b (acts s x left c n m out values h) = omega arith
moves_grow block a b (settles s c n out) = omega arith

pub steps_grow : (block : book.Block) (a b : Moment) → Reaches block a b → steps_at a ≤ steps_at b
steps_grow block a b here = omega arith
steps_grow block a b (and_then c d r m) = omega (arith, steps_grow block a c r, moves_grow block c d m)

-- ---- what was sent

pub sent_append : (outputs : List Output) (xs ys : List Name) → sent_to outputs (xs ++ ys) ≡ sent_to outputs xs ++ sent_to outputs ys
sent_append outputs [] ys = refl
sent_append outputs (x ∷ xs) ys = ap (λ ps. targets_of outputs x ++ ps) (sent_append outputs xs ys) ∙ sym (append_assoc (targets_of outputs x) (sent_to outputs xs) (sent_to outputs ys))

pub sent_length : (outputs : List Output) (xs ys : List Name) → length (sent_to outputs (xs ++ ys)) ≡ length (sent_to outputs xs) + length (sent_to outputs ys)
sent_length outputs xs ys = ap length (sent_append outputs xs ys) ∙ length-append (sent_to outputs xs) (sent_to outputs ys)

-- what is fine after more was emitted is fine, with the room that is left
fine_after : (block : book.Block) (outputs : List Output) (most room left : ℕ) (o : List Name) (m : Moment) → room ≡ left + length (sent_to outputs o) → CanGoOn block outputs most room (after_these o m) → CanGoOn block outputs most left m
fine_after block outputs most room left o (At s c p n out) e h = record {
  clear = λ t. h.clear (same p t);
  steps = h.steps;
  enough = omega (arith, h.enough, sent_length outputs o out, e);
}
  where
    same : (p : Phase) → Traps block (At s c p n out) → Traps block (At s c p n (o ++ out))
    same (Waiting x) t = t
    same (Acting []) t = t
    same (Acting (x ∷ xs)) t = t
    same Settling t = t

-- from a moment that was reached with these emitted, all is fine as from one with nothing emitted
pub fine_on : (block : book.Block) (outputs : List Output) (most room left : ℕ) (start now : Moment) (o : List Name) → FineFrom block outputs most room start → Reaches block start (after_these o now) → room ≡ left + length (sent_to outputs o) → FineFrom block outputs most left now
fine_on block outputs most room left start now o f r e =
    λ m q. fine_after block outputs most room left o m e (f (after_these o m) (reaches_on block start (after_these o now) (after_these o m) r (reaches_after block o now m q)))

-- ---- crossing

pub enters : (block : book.Block) (events : List Name) (start : Moment) (s u : Name) (c : Cells) (w : Option ℕ) (n : ℕ) (out : List Name) → Reaches block start (At s c (phase_of events w) n out) → choice block.transitions s (option_map (named events) w) c.own ≡ Cross u
    → Reaches block start (At u c (Acting (actions_of block.states u)) (n + 1) out)
enters block events start s u c None n out r e = and_then _ _ r (freely s u c n out e)
enters block events start s u c (Some k) n out r e = and_then _ _ r (with_event s u (named events k) c n out e)

-- ---- all that is emitted is an output

abbrev Listed : List Name → Phase → Type 0
Listed names (Waiting e) = Unit {0}
Listed names (Acting left) = AllByRecursion (λ (a : book.Action). IsListed names a.output) left
Listed names Settling = Unit {0}

abbrev KnownAt : List Name → Moment → Type 0
KnownAt names (At s c p n out) = AllByRecursion (λ (o : Name). is_in o names ≡ true) out × Listed names p

abbrev AreListed : List Name → List book.State → Type 0
AreListed names ss = AllByRecursion (λ (s : book.State). AllByRecursion (λ (a : book.Action). IsListed names a.output) s.actions) ss

actions_listed : (names : List Name) (ss : List book.State) (u : Name) → AreListed names ss → AllByRecursion (λ (a : book.Action). IsListed names a.output) (actions_of ss u)
actions_listed names [] u h = tt
actions_listed names (s ∷ ss) u h = by (bytes_eq s.name u) (actions_listed names ss u h.1) where
  by : (b : Bool) → AllByRecursion (λ (a : book.Action). IsListed names a.output) (actions_of ss u) → AllByRecursion (λ (a : book.Action). IsListed names a.output) (if b then s.actions else actions_of ss u)
  by true again = h.0
  by false again = again

emission_known : (names : List Name) (o : Option Name) → IsListed names o → AllByRecursion (λ (x : Name). is_in x names ≡ true) (emission o)
emission_known names None h = tt
emission_known names (Some x) h = (h, tt)

moves_known : (block : book.Block) (names : List Name) (a b : Moment) → AreListed names block.states → Moves block a b → KnownAt names a → KnownAt names b
moves_known block names a b l (with_event s u e c n out h) k = (k.0, actions_listed names block.states u l)
moves_known block names a b l (freely s u c n out h) k = (k.0, actions_listed names block.states u l)
moves_known block names a b l (acts s x left c n m out values h) k = (all_append (λ (o : Name). is_in o names ≡ true) out (emission x.output) k.0 (emission_known names x.output k.1.0), k.1.1)
moves_known block names a b l (settles s c n out) k = (k.0, tt)

reaches_known : (block : book.Block) (names : List Name) (a b : Moment) → AreListed names block.states → Reaches block a b → KnownAt names a → KnownAt names b
reaches_known block names a b l here k = k
reaches_known block names a b l (and_then c d r m) k = moves_known block names c d l m (reaches_known block names a c l r k)

pub outs_known : (block : book.Block) (names : List Name) (s : Name) (c : Cells) (e : Name) (n : ℕ) (s' : Name) (c' : Cells) (p : Phase) (n' : ℕ) (out : List Name) → AreListed names block.states → Reaches block (At s c (Waiting e) n []) (At s' c' p n' out)
    → AllByRecursion (λ (o : Name). is_in o names ≡ true) out
outs_known block names s c e n s' c' p n' out l r = (reaches_known block names (At s c (Waiting e) n []) (At s' c' p n' out) l r (tt, tt)).0

-- ---- one after the other

pub come_on : (block : book.Block) (outputs : List Output) (start : Moment) (u s : Name) (c c' : Cells) (as' : List book.Action) (p : Phase) (n n' : ℕ) (outs : List Name) (old mid new : Points)
    → Reaches block start (At u c (Acting as') n outs) → mid ≡ old ++ sent_to outputs outs → HasCome block outputs (At u c (Acting as') n []) s c' p n' mid new → HasCome block outputs start s c' p n' old new
come_on block outputs start u s c c' as' p n n' outs old mid new r e h =
    let after : Reaches block (At u c (Acting as') n (outs ++ [])) (At s c' p n' (outs ++ h.outs)) = reaches_after block outs (At u c (Acting as') n []) (At s c' p n' h.outs) h.run in
    let same : Reaches block (At u c (Acting as') n outs) (At s c' p n' (outs ++ h.outs)) = subst (λ os. Reaches block (At u c (Acting as') n os) (At s c' p n' (outs ++ h.outs))) (append-nil outs) after in
    record {
      outs = outs ++ h.outs;
      run = reaches_on block start (At u c (Acting as') n outs) (At s c' p n' (outs ++ h.outs)) r same;
      sent = appended_on old mid new (sent_to outputs outs) (sent_to outputs h.outs) e h.sent ∙ ap (λ ps. old ++ ps) (sym (sent_append outputs outs h.outs));
    }
