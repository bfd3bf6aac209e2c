-- Data inputs that have a parameter.
use Rattle.std.proofs.Common.{◌≡◌, Bool, true, false, not, cond, ◌&&◌, ◌||◌, List, [], ◌∷◌, ◌++◌, map, Option, None, Some, refl, sym, ap, ◌∙◌}
use Rattle.std.specs.Str.{bytes_eq}
use Rattle.std.proofs.lemmas.Slice.Eq.{bytes_eq-Decides}
use Rattle.fb_model.specs.Names.{Name}
use Rattle.fb_model.specs.Trees.{ConnectionTree}
use Rattle.fb_model.specs.System.{Face, Instances, End, Connection, Parameter}
use Rattle.fb_model.specs.Wires.{is_own, is_end}
use Rattle.fb_model.specs.NetworkTyping.{is_taken, AreValueConnections, no_value, a_value}
use Rattle.fb_faults.specs.declared.typing.TypeFault.{TypeFault}
use Rattle.fb_model.specs.NetworkFaults.{IsValueFault, no_memory_for_value, faulty_origin, faulty_goal, passing_value, other_type, second_source, IsValuesFault, this_value, later_value}

or_assoc : (a b c : Bool) → (a || b) || c ≡ a || (b || c)
or_assoc true b c = refl
or_assoc false b c = refl

or_false : (a : Bool) → a || false ≡ a
or_false true = refl
or_false false = refl

-- ends of two lists, one behind the other
pub taken_both : (xs ys : List End) (e : End) → is_taken (xs ++ ys) e ≡ is_taken xs e || is_taken ys e
taken_both [] ys e = refl
taken_both (x ∷ xs) ys e = ap (λ b. is_end e.instance e.port x || b) (taken_both xs ys e) ∙ sym (or_assoc (is_end e.instance e.port x) (is_taken xs e) (is_taken ys e))

-- the same end is taken or not
same_own : (i j : Option Name) → is_own i j ≡ true → i ≡ j
same_own None None e = refl
same_own None (Some y) e = absurd cc
same_own (Some x) None e = absurd cc
same_own (Some x) (Some y) e = ap Some ((bytes_eq-Decides x y).0 e)

both : (a b : Bool) → a && b ≡ true → (a ≡ true) × (b ≡ true)
both true b e = (refl, e)
both false b e = absurd cc

pub same_end_is : (e x : End) → is_end e.instance e.port x ≡ true → e ≡ x
same_end_is e x h =
    let p = both (is_own e.instance x.instance) (bytes_eq e.port x.port) h in
    rw (same_own e.instance x.instance p.0, (bytes_eq-Decides e.port x.port).0 p.1) refl

-- an end that was there or is added
pub taken_more : (old new : List End) (x : End) (added : Bool) → added ≡ not (is_taken old x) → new ≡ cond added (old ++ x ∷ []) old → (e : End) → is_taken new e ≡ is_taken old e || is_end e.instance e.port x
taken_more old new x added a n e = by added (is_end e.instance e.port x) refl a n where
  by : (b s : Bool) → is_end e.instance e.port x ≡ s → b ≡ not (is_taken old x) → new ≡ cond b (old ++ x ∷ []) old → is_taken new e ≡ is_taken old e || s
  by true s is h k = ap (λ l. is_taken l e) k ∙ taken_both old (x ∷ []) e ∙ ap (λ b. is_taken old e || b) (or_false (is_end e.instance e.port x) ∙ is)
  by false false is h k = ap (λ l. is_taken l e) k ∙ sym (or_false (is_taken old e))
  by false true is h k =
      let there : is_taken old x ≡ true = not_not (is_taken old x) h in
      ap (λ l. is_taken l e) k ∙ ap (is_taken old) (same_end_is e x is) ∙ there ∙ sym (ap (λ b. b || true) (ap (is_taken old) (same_end_is e x is) ∙ there)) where
        not_not : (b : Bool) → false ≡ not b → b ≡ true
        not_not true f = refl
        not_not false f = absurd cc

-- ---- those of one instance

-- what is so of the parameters left is so of all
abbrev pub GivesSo : (given : List Parameter → List End) → List End → List Parameter → List End → List Parameter → Type 0
GivesSo given old all taken left = (e : End) → is_taken taken e || is_taken (given left) e ≡ is_taken old e || is_taken (given all) e

abbrev pub ends_at : Name → List Parameter → List End
ends_at name qs = map (λ (p : Parameter). record { instance = Some name; port = p.name }) qs

pub gives_more : (name : Name) (old taken new : List End) (all left : List Parameter) (q : Parameter) (added : Bool) → GivesSo (ends_at name) old all taken (q ∷ left)
    → added ≡ not (is_taken taken (record { instance = Some name; port = q.name })) → new ≡ cond added (taken ++ record { instance = Some name; port = q.name } ∷ []) taken → GivesSo (ends_at name) old all new left
gives_more name old taken new all left q added h a n e =
    ap (λ b. b || is_taken (ends_at name left) e) (taken_more taken new (record { instance = Some name; port = q.name }) added a n e)
    ∙ or_assoc (is_taken taken e) (is_end e.instance e.port (record { instance = Some name; port = q.name })) (is_taken (ends_at name left) e)
    ∙ h e

pub gives_done : (name : Name) (old taken : List End) (all : List Parameter) → GivesSo (ends_at name) old all taken [] → (e : End) → is_taken taken e ≡ is_taken old e || is_taken (ends_at name all) e
gives_done name old taken all h e = sym (or_false (is_taken taken e)) ∙ h e

-- ---- those of many

pub given_more : (taken new here rest : List End) (all : End → Bool) → ((e : End) → is_taken taken e || is_taken (here ++ rest) e ≡ all e) → ((e : End) → is_taken new e ≡ is_taken taken e || is_taken here e)
    → (e : End) → is_taken new e || is_taken rest e ≡ all e
given_more taken new here rest all h k e =
    ap (λ b. b || is_taken rest e) (k e)
    ∙ or_assoc (is_taken taken e) (is_taken here e) (is_taken rest e)
    ∙ ap (λ b. is_taken taken e || b) (sym (taken_both here rest e))
    ∙ h e

pub given_done : (taken : List End) (all : End → Bool) → ((e : End) → is_taken taken e || false ≡ all e) → (e : End) → is_taken taken e ≡ all e
given_done taken all h e = sym (or_false (is_taken taken e)) ∙ h e

-- ---- what matters is which ends are taken

abbrev pub AreSame : List End → List End → Type 0
AreSame xs ys = (e : End) → is_taken xs e ≡ is_taken ys e

same_more : (xs ys : List End) (x : End) → AreSame xs ys → AreSame (xs ++ x ∷ []) (ys ++ x ∷ [])
same_more xs ys x h e = taken_both xs (x ∷ []) e ∙ ap (λ b. b || is_taken (x ∷ []) e) (h e) ∙ sym (taken_both ys (x ∷ []) e)

pub values_same : (f : Face) (inner : Instances) (xs ys : List End) (cs : List ConnectionTree) (ds : List Connection) → AreSame xs ys → AreValueConnections f inner xs cs ds → AreValueConnections f inner ys cs ds
values_same f inner xs ys cs ds h no_value = no_value
values_same f inner xs ys cs ds h (a_value {cs = rest} {d = d} {ds = others} is new more) =
    a_value is (sym (h d.target) ∙ new) (values_same f inner (xs ++ d.target ∷ []) (ys ++ d.target ∷ []) rest others (same_more xs ys d.target h) more)

value_same : (f : Face) (inner : Instances) (xs ys : List End) (c : ConnectionTree) (w : TypeFault) → AreSame xs ys → IsValueFault f inner xs c w → IsValueFault f inner ys c w
value_same f inner xs ys c w h (no_memory_for_value e) = no_memory_for_value e
value_same f inner xs ys c w h (faulty_origin x) = faulty_origin x
value_same f inner xs ys c w h (faulty_goal x) = faulty_goal x
value_same f inner xs ys c w h (passing_value a b p e) = passing_value a b p e
value_same f inner xs ys c w h (other_type a b n e) = other_type a b n e
value_same f inner xs ys c w h (second_source {e = v} a t e) = second_source a (sym (h v) ∙ t) e

pub faults_same : (f : Face) (inner : Instances) (xs ys : List End) (cs : List ConnectionTree) (w : TypeFault) → AreSame xs ys → IsValuesFault f inner xs cs w → IsValuesFault f inner ys cs w
faults_same f inner xs ys cs w h (this_value {c = c} {cs = rest} x) = this_value (value_same f inner xs ys c w h x)
faults_same f inner xs ys cs w h (later_value {c = c} {cs = rest} {d = d} is new x) = later_value is (sym (h d.target) ∙ new) (faults_same f inner (xs ++ d.target ∷ []) (ys ++ d.target ∷ []) rest w (same_more xs ys d.target h) x)
