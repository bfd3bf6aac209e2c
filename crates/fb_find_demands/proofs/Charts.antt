-- States and transitions of tables in the book.
use Rattle.std.proofs.Common.{◌≡◌, ℕ, ◌+◌, arith, Bool, true, false, cond, List, [], ◌∷◌, ◌++◌, map, Option, Some, None, refl, sym, ap, ◌∙◌, string_bytes}
use Rattle.std.specs.List.{AllZip}
use Rattle.std.specs.Map.{lookup}
use Rattle.std.specs.Str.{bytes_eq}
use Rattle.std.specs.declared.string.String.{String}
use Rattle.std.specs.declared.vec.Vec.{Vec}
use Rattle.std.specs.declared.alloc.Global.{Global}
use Rattle.std.proofs.lemmas.List.{append-nil, map-append}
use Rattle.fb_model.specs.Names.{Name}
use Rattle.fb_model.specs.System as book
use Rattle.fb_model.specs.Charts.{actions_of, emission}
use Rattle.fb_model.specs.Certificates.{reached}
use Rattle.fb_model.proofs.Names.{eq_turned}
use Rattle.fb_model.specs.Demands.{Node, event, Demand, Ground, emitted, free_demand, of_free}
use Rattle.fb_find_laws.specs.Nodes.{capped, by_number}
use Rattle.fb_types_blocks.specs.declared.typed.Action.{Action}
use Rattle.fb_types_blocks.specs.Views.{action_of}
use Rattle.fb_find_demands.specs.declared.numbered.Numbering.{Numbering}
use Rattle.fb_find_demands.specs.declared.right.Right.{Right}
use Rattle.fb_find_demands.specs.Grounds.{actions_in}
use Rattle.fb_find_demands.specs.Rights.{numbered, numbers_of, right_of, rights_of}
use Rattle.fb_find_demands.proofs.Entries.{state_of}

-- ---- the actions of a state

abbrev pub States : Type 0
States = List (String Global × Vec Action Global)

abbrev pub found : States → Name → Option (Vec Action Global)
found es x = lookup (λ y. bytes_eq x (string_bytes y)) es

pub actions_some : (es : States) (x : Name) (v : Vec Action Global) → Some v ≡ found es x → map action_of v.items ≡ actions_in es x
actions_some [] x v h = absurd cc
actions_some (e ∷ es) x v h = by (bytes_eq x (string_bytes e.0)) h (actions_some es x v) where
  by : (b : Bool) → Some v ≡ cond b (Some e.1) (found es x) → (Some v ≡ found es x → map action_of v.items ≡ actions_in es x) → map action_of v.items ≡ cond b (map action_of e.1.items) (actions_in es x)
  by true h k = let q : v ≡ e.1 = cc in ap (λ (w : Vec Action Global). map action_of w.items) q
  by false h k = k h

pub actions_none : (es : States) (x : Name) → None ≡ found es x → [] ≡ actions_in es x
actions_none [] x h = refl
actions_none (e ∷ es) x h = by (bytes_eq x (string_bytes e.0)) h (actions_none es x) where
  by : (b : Bool) → None ≡ cond b (Some e.1) (found es x) → (None ≡ found es x → [] ≡ actions_in es x) → [] ≡ cond b (map action_of e.1.items) (actions_in es x)
  by true h k = absurd cc
  by false h k = k h

-- the actions of the state of a name in the book
pub actions_are : (es : States) (x : Name) → actions_in es x ≡ actions_of (map state_of es) x
actions_are [] x = refl
actions_are (e ∷ es) x = ap (cond (bytes_eq x (string_bytes e.0)) (map action_of e.1.items)) (actions_are es x) ∙ ap (λ b. cond b (map action_of e.1.items) (actions_of (map state_of es) x)) (eq_turned x (string_bytes e.0))

-- ---- demands

-- an inequality says a demand by numbers
pub says : (f : Node → ℕ) (d : Demand) (r : Right) → r.node ≡ f d.node → r.constant ≡ capped d.constant → r.terms.items ≡ map f d.terms → right_of r ≡ by_number f d
says f d r a b c =
    ap (λ n. record { node = n; constant = r.constant; terms = r.terms.items }) a ∙ ap (λ n. record { node = f d.node; constant = n; terms = r.terms.items }) b ∙ ap (λ ns. record { node = f d.node; constant = capped d.constant; terms = ns }) c

-- one node more behind those that actions emit
pub emits_more : (f : Node → ℕ) (terms : List ℕ) (nodes : List Node) (t : ℕ) (node : Node) → terms ≡ map f nodes → t ≡ f node → terms ++ t ∷ [] ≡ map f (nodes ++ node ∷ [])
emits_more f terms nodes t node h e = ap (λ ts. ts ++ t ∷ []) h ∙ ap (λ x. map f nodes ++ x ∷ []) e ∙ sym (map-append f nodes (node ∷ []))

-- a copy of numbers
pub same_numbers : (xs ys : List ℕ) → AllZip (λ x y. y ≡ x) xs ys → ys ≡ xs
same_numbers [] [] h = refl
same_numbers [] (y ∷ ys) h = absurd h
same_numbers (x ∷ xs) [] h = absurd h
same_numbers (x ∷ xs) (y ∷ ys) h = ap (λ z. z ∷ ys) h.0 ∙ ap (λ zs. x ∷ zs) (same_numbers xs ys h.1)

-- a sum of what is told apart
pub sum_is : (a b u : ℕ) → a ≡ capped b → capped (a + u) ≡ capped (b + u)
sum_is a b u h = ap (λ k. capped (k + u)) h ∙ grind (arith)

pub pushed : (n : Numbering) (old new : List Right) (r : Right) (d : Demand) → new ≡ old ++ r ∷ [] → right_of r ≡ by_number (numbers_of n) d → rights_of new ≡ rights_of old ++ numbered n (d ∷ [])
pushed n old new r d e k = ap rights_of e ∙ map-append right_of old (r ∷ []) ∙ ap (λ q. rights_of old ++ q ∷ []) k

pub free_is : (g : Ground) (block : book.Block) (t : book.Transition) → t.event ≡ None → free_demand g (actions_of block.states t.source) t.source t.target ∷ [] ≡ of_free g block t
free_is g block t h = ap (λ e. elim e [ None ↦ free_demand g (actions_of block.states t.source) t.source t.target ∷ [] | Some x ↦ [] ]) (sym h)

-- ---- what is emitted

pub map_map : {X Y Z : Type 0} (g : Y → Z) (f : X → Y) (xs : List X) → map g (map f xs) ≡ map (λ x. g (f x)) xs
map_map g f [] = refl
map_map g f (x ∷ xs) = ap (λ ys. g (f x) ∷ ys) (map_map g f xs)

-- what an action emits, whatever it runs
pub emission_is : (f : Node → ℕ) (g : Ground) (algorithm : Option Name) (o : Name) → map (λ p. f (event p)) (g.targets o) ≡ map f (emitted g (record { algorithm = algorithm; output = Some o } ∷ []))
emission_is f g algorithm o =
    sym (map_map f event (g.targets o)) ∙ ap (λ ps. map f (map event ps)) (sym (append-nil (g.targets o))) ∙ ap (map f) (sym (append-nil (map event (reached g.targets (o ∷ [])))))

pub emitted_more : (f : Node → ℕ) (g : Ground) (a : book.Action) (rest : List book.Action) → map f (emitted g (a ∷ rest)) ≡ map f (emitted g (a ∷ [])) ++ map f (emitted g rest)
emitted_more f g a rest =
    let one = map event (reached g.targets (emission a.output)) in
    map-append f one (emitted g rest) ∙ ap (λ ns. map f ns ++ map f (emitted g rest)) (sym (append-nil one))
