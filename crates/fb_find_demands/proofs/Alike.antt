-- What leaves of the tables ask is what the leaves of the book ask, as far as numbers tell.
use Rattle.std.proofs.Common.{◌≡◌, ℕ, ◌+◌, Bool, true, false, List, [], ◌∷◌, ◌++◌, map, Option, Some, None, refl, sym, ap, ◌∙◌, arith, if◌then◌else◌}
use Rattle.std.specs.List.{AllByRecursion}
use Rattle.std.specs.Str.{bytes_eq}
use Rattle.std.proofs.lemmas.List.Sums.{sum_by-cons}
use Rattle.fb_model.specs.Names.{Name, Place, at_place, is_in}
use Rattle.fb_model.specs.System.{Event, Action, State, Service}
use Rattle.fb_model.specs.System as book
use Rattle.fb_model.specs.Typing.{names_of}
use Rattle.fb_model.specs.Services.{service_events, service_event_outputs, can_emit, init, rsp, expire, ind, inito, cnf, eo}
use Rattle.fb_model.specs.Wires as wires
use Rattle.fb_model.specs.Wires.{Kind, Charted, Serviced}
use Rattle.fb_model.specs.Charts.{emission}
use Rattle.fb_model.specs.Certificates.{reached, event_names}
use Rattle.fb_model_laws.specs.Leaves.{IsListed, IsClosed}
use Rattle.fb_model.specs.Demands.{Node, Demand, Ground, work, of_kind}
use Rattle.fb_model_laws.specs.Likeness.{AreLike, LeadAlike, KindLeadsAlike, AreGroundsAlike}
use Rattle.fb_model_laws.proofs.Likening.{kind_alike}
use Rattle.fb_find_laws.specs.Nodes.{capped, by_number}
use Rattle.fb_flat.specs.declared.flat.Leaf.{Leaf}
use Rattle.fb_flat.specs.Leaves.{outputs_of}
use Rattle.fb_flat.specs.Tables.{IsLeaf}
use Rattle.fb_find_demands.specs.declared.numbered.Numbering.{Numbering}
use Rattle.fb_find_demands.specs.Grounds.{algorithms_of, datagram_of, leaf_ground, priced}
use Rattle.fb_find_demands.specs.Rights.{numbered, numbers_of}
use Rattle.fb_find_demands.specs.Leaves.{leaf_rights}

-- ---- numbers as far as they are told apart

-- no difference is told
abbrev pub Same : ℕ → ℕ → Type 0
Same m n = capped m ≡ capped n

sum_same : (a b c d : ℕ) → Same a c → Same b d → Same (a + b) (c + d)
sum_same a b c d h k = grind arith

-- the same of demands is the same by numbers
by_numbers : (f : Node → ℕ) (ds es : List Demand) → AreLike Same ds es → map (by_number f) ds ≡ map (by_number f) es
by_numbers f [] [] h = refl
by_numbers f [] (e ∷ es) h = absurd h
by_numbers f (d ∷ ds) [] h = absurd h
by_numbers f (d ∷ ds) (e ∷ es) h =
    let one : by_number f d ≡ by_number f e =
    ap (λ x. record { node = f x; constant = capped d.constant; terms = map f d.terms }) h.0
    ∙ ap (λ xs. record { node = f e.node; constant = capped d.constant; terms = map f xs }) h.1
    ∙ ap (λ n. record { node = f e.node; constant = n; terms = map f e.terms }) h.2 in
    ap (λ r. r ∷ map (by_number f) ds) one ∙ ap (λ rs. by_number f e ∷ rs) (by_numbers f ds es h.3)

works_same : (g h : Ground) → ((a : Option Name) → Same (g.price a) (h.price a)) → (actions : List Action) → Same (work g actions) (work h actions)
works_same g h p [] = refl
works_same g h p (a ∷ as') =
    ap capped (sum_by-cons (λ (b : Action). g.price b.algorithm) a as')
    ∙ sum_same (g.price a.algorithm) (work g as') (h.price a.algorithm) (work h as') (p a.algorithm) (works_same g h p as')
    ∙ ap capped (sym (sum_by-cons (λ (b : Action). h.price b.algorithm) a as'))

-- ---- where outputs lead

-- two ways lead alike from all of these outputs
abbrev pub AgreeOn : List Name → (Name → List Place) → (Name → List Place) → Type 0
AgreeOn outs f g = (o : Name) → is_in o outs ≡ true → f o ≡ g o

emission_reached : (outs : List Name) (f g : Name → List Place) → AgreeOn outs f g → (o : Option Name) → IsListed outs o → reached f (emission o) ≡ reached g (emission o)
emission_reached outs f g a None h = refl
emission_reached outs f g a (Some o) h = ap (λ ps. ps ++ []) (a o h)

actions_lead : (outs : List Name) (g h : Ground) → AgreeOn outs g.targets h.targets → (actions : List Action) → AllByRecursion (λ (a : Action). IsListed outs a.output) actions → LeadAlike g h actions
actions_lead outs g h k [] l = tt
actions_lead outs g h k (a ∷ as') l = (emission_reached outs g.targets h.targets k a.output l.0, actions_lead outs g h k as' l.1)

states_lead : (outs : List Name) (g h : Ground) → AgreeOn outs g.targets h.targets → (states : List State) → AllByRecursion (λ (s : State). AllByRecursion (λ (a : Action). IsListed outs a.output) s.actions) states
    → AllByRecursion (λ (s : State). LeadAlike g h s.actions) states
states_lead outs g h k [] l = tt
states_lead outs g h k (s ∷ ss) l = (actions_lead outs g h k s.actions l.0, states_lead outs g h k ss l.1)

-- all of these outputs are the service's own
abbrev AreOwn : Service → List Name → Type 0
AreOwn s os = AllByRecursion (λ (o : Name). is_in o (service_event_outputs s) ≡ true) os

own_where : (s : Service) (b : Bool) (os ps : List Name) → AreOwn s os → AreOwn s ps → AreOwn s (if b then os else ps)
own_where s true os ps h k = h
own_where s false os ps h k = k

own_emitted : (s : Service) (e : Name) → AreOwn s (can_emit s e)
own_emitted (book.Input number types) e = (refl, tt)
own_emitted (book.Output number types) e = tt
own_emitted (book.Publish channel types) e = own_where (book.Publish channel types) (bytes_eq e init) (inito ∷ []) (cnf ∷ []) (refl, tt) (refl, tt)
own_emitted (book.Subscribe channel types) e =
    own_where (book.Subscribe channel types) (bytes_eq e init) (inito ∷ []) (if bytes_eq e rsp then [] else ind ∷ []) (refl, tt) (own_where (book.Subscribe channel types) (bytes_eq e rsp) [] (ind ∷ []) tt (refl, tt))
own_emitted book.Delay e = own_where book.Delay (bytes_eq e expire) (eo ∷ []) [] (refl, tt) tt
own_emitted book.Cycle e = own_where book.Cycle (bytes_eq e expire) (eo ∷ []) [] (refl, tt) tt
own_emitted book.Restart e = (refl, tt)

own_reached : (s : Service) (f g : Name → List Place) → AgreeOn (service_event_outputs s) f g → (os : List Name) → AreOwn s os → reached f os ≡ reached g os
own_reached s f g a [] h = refl
own_reached s f g a (o ∷ os) h = ap (λ ps. ps ++ reached f os) (a o h.0) ∙ ap (λ ps. g o ++ ps) (own_reached s f g a os h.1)

dispatches_lead : (s : Service) (g h : Ground) → AgreeOn (service_event_outputs s) g.targets h.targets → (es : List Name) → AllByRecursion (λ (e : Name). reached g.targets (can_emit s e) ≡ reached h.targets (can_emit s e)) es
dispatches_lead s g h a [] = tt
dispatches_lead s g h a (e ∷ es) = (own_reached s g.targets h.targets a (can_emit s e) (own_emitted s e), dispatches_lead s g h a es)

names_same : (es : List Event) → event_names es ≡ names_of es
names_same [] = refl
names_same (e ∷ es) = ap (λ ns. e.name ∷ ns) (names_same es)

kind_leads : (g h : Ground) (kind : Kind) → AgreeOn (outputs_of kind) g.targets h.targets → IsClosed kind → KindLeadsAlike g h kind
kind_leads g h (Charted block) a c = states_lead (event_names block.event_outputs) g h (λ o i. a o (ap (is_in o) (sym (names_same block.event_outputs)) ∙ i)) block.states c.actions
kind_leads g h (Serviced service) a c = dispatches_lead service g h a (service_events service)

-- ---- leaves

-- a leaf's ground in the book, where a dispatch or a crossing counts so much, datagrams are followed or not, and its algorithms have these prices
abbrev pub book_ground : ℕ → Bool → (Option Name → ℕ) → wires.Leaf → Ground
book_ground unit follows price leaf = record { unit = unit; price = price; own = at_place leaf.path; targets = leaf.targets; datagram = datagram_of follows }

-- what a leaf asks is what the book's leaf asks
pub leaf_same : (n : Numbering) (unit : ℕ) (follows : Bool) (prices : List ℕ) (price : Option Name → ℕ) (l : Leaf) (leaf : wires.Leaf) → IsLeaf l leaf → IsClosed leaf.kind → ((a : Option Name) → Same (priced (algorithms_of l.body) prices a) (price a))
    → leaf_rights n unit follows prices l ≡ numbered n (of_kind (book_ground unit follows price leaf) leaf.kind)
leaf_same n unit follows prices price l leaf is closed p =
    let g = leaf_ground unit follows prices l in
    let h = book_ground unit follows price leaf in
    let works = works_same g h p in
    let alike : AreGroundsAlike Same g h leaf.kind = record {
      unit = refl;
      own = λ x. ap (λ path. at_place path x) is.path;
      datagram = λ c. refl;
      leads = kind_leads g h leaf.kind is.targets closed;
      same = λ m. refl;
      works = works;
      crosses = λ actions. sum_same (work g actions) unit (work h actions) unit (works actions) refl;
    } in
    ap (λ k. numbered n (of_kind g k)) is.kind ∙ by_numbers (numbers_of n) (of_kind g leaf.kind) (of_kind h leaf.kind) (kind_alike Same g h leaf.kind alike)
