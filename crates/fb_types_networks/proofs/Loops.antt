-- Connections one after another.
use Rattle.std.proofs.Common.{◌≡◌, ◌⊎◌, inl, inr, ℕ, zero, suc, ◌+◌, ◌<◌, ◌≤◌, List, [], ◌∷◌, ◌++◌, map, drop, length, get_or, false, sym, ap, subst, ◌∙◌, arith}
use Rattle.std.proofs.Math.Seq.{drop-cons}
use Rattle.std.specs.List.{Any}
use Rattle.std.proofs.lemmas.List.{append-nil, append_assoc, drop_all, length-map, get_or-map}
use Rattle.fb_model.specs.Trees.{ConnectionTree}
use Rattle.fb_model.specs.System.{Face, Instances, End, Connection}
use Rattle.fb_model.specs.NetworkTyping.{IsEventConnection, AreEventConnections, no_event, an_event, IsValueConnection, AreValueConnections, no_value, a_value, is_taken}
use Rattle.fb_faults.specs.declared.typing.TypeFault.{TypeFault}
use Rattle.fb_model.specs.NetworkFaults.{IsValueFault, IsValuesFault, this_value, later_value}

-- what is so of the connections left, with the ends that have a value then, is so of all
pub record ValuesSo (f : Face) (inner : Instances) (before : List End) (all : List ConnectionTree) (made : List Connection) (taken : List End) (left : List ConnectionTree) : Type 0 where
  pub typed : (ds : List Connection) → AreValueConnections f inner taken left ds → AreValueConnections f inner before all (made ++ ds)
  pub faulty : (w : TypeFault) → IsValuesFault f inner taken left w → IsValuesFault f inner before all w

pub values_begun : (f : Face) (inner : Instances) (before : List End) (all : List ConnectionTree) → ValuesSo f inner before all [] before all
values_begun f inner before all = record { typed = λ ds h. h; faulty = λ w h. h }

module _ (f : Face) (inner : Instances) (before : List End) (all : List ConnectionTree) (made : List Connection) (taken : List End) where
  pub values_more : (c : ConnectionTree) (left : List ConnectionTree) (d : Connection) → ValuesSo f inner before all made taken (c ∷ left) → IsValueConnection f inner c d → is_taken taken d.target ≡ false
      → ValuesSo f inner before all (made ++ d ∷ []) (taken ++ d.target ∷ []) left
  values_more c left d h is new =
      record {
        typed = λ ds t. subst (λ xs. AreValueConnections f inner before all xs) (sym (append_assoc made (d ∷ []) ds)) (h.typed (d ∷ ds) (a_value is new t));
        faulty = λ w t. h.faulty w (later_value is new t);
      }

  pub values_done : ValuesSo f inner before all made taken [] → AreValueConnections f inner before all made
  values_done h = subst (λ xs. AreValueConnections f inner before all xs) (append-nil made) (h.typed [] no_value)

  pub values_wrong : (c : ConnectionTree) (left : List ConnectionTree) (w : TypeFault) → ValuesSo f inner before all made taken (c ∷ left) → IsValueFault f inner taken c w → IsValuesFault f inner before all w
  values_wrong c left w h is = h.faulty w (this_value is)

-- the next of what is left
pub next_left : {X Y : Type 0} (g : X → Y) (xs : List X) (i : ℕ) (x : X) → i < length xs → x ≡ get_or xs i x → map g (drop i xs) ≡ g x ∷ map g (drop (i + 1) xs)
next_left g xs i x l at =
    ap (map g) (drop-cons xs i x l) ∙ ap (λ y. g y ∷ map g (drop (suc i) xs)) (sym at) ∙ ap (λ n. g x ∷ map g (drop n xs)) (plus i) where
      plus : (i : ℕ) → suc i ≡ i + 1
      plus i = omega arith

pub none_left : {X Y : Type 0} (g : X → Y) (xs : List X) (i : ℕ) → length xs ≤ i → map g (drop i xs) ≡ []
none_left g xs i l = ap (map g) (drop_all i xs l)

-- ---- event connections

-- what is so of the connections left is so of all
abbrev pub EventsSo : Face → Instances → List ConnectionTree → List Connection → List ConnectionTree → Type 0
EventsSo f inner all made left = (ds : List Connection) → AreEventConnections f inner left ds → AreEventConnections f inner all (made ++ ds)

module _ (f : Face) (inner : Instances) (all : List ConnectionTree) (made : List Connection) where
  pub events_more : (c : ConnectionTree) (left : List ConnectionTree) (d : Connection) → EventsSo f inner all made (c ∷ left) → IsEventConnection f inner c d → EventsSo f inner all (made ++ d ∷ []) left
  events_more c left d h is = λ ds t. subst (λ xs. AreEventConnections f inner all xs) (sym (append_assoc made (d ∷ []) ds)) (h (d ∷ ds) (an_event is t))

  pub events_done : EventsSo f inner all made [] → AreEventConnections f inner all made
  events_done h = subst (λ xs. AreEventConnections f inner all xs) (append-nil made) (h [] no_event)

-- one of a list, by its place
pub any_at : {X Y : Type 0} (P : Y → Type 0) (f : X → Y) (xs : List X) (i : ℕ) (x : X) → i < length xs → x ≡ get_or xs i x → P (f x) → Any P (map f xs)
any_at P f xs i x l e p = (i, f x, subst (λ n. i < n) (sym (length-map xs f)) l, get_or-map f xs i x (f x) l ∙ ap f (sym e), p)

-- what stands nowhere in a list, and what stands at its head or behind it
pub any_nil : {X : Type 0} {P : X → Type 0} → Any P [] → ⊥
any_nil a = omega (arith, a.2)

pub any_cons : {X : Type 0} {P : X → Type 0} (x : X) (xs : List X) → Any P (x ∷ xs) → P x ⊎ Any P xs
any_cons {X} {P} x xs (zero, y, l, e, p) = inl (subst P (sym e) p)
any_cons {X} {P} x xs (suc k, y, l, e, p) = inr (k, y, omega (arith, l), e, p)
