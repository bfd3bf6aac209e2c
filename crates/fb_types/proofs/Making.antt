-- Types, instances and paths while types are made.
use Rattle.std.proofs.Common.{◌≡◌, ◌⊎◌, inl, inr, ℕ, zero, suc, ◌+◌, ◌-◌, ◌<◌, ◌≤◌, max, Bool, true, false, List, [], ◌∷◌, ◌++◌, map, Some, None, refl, sym, ap, subst, ◌∙◌, arith, append_assoc, rules}
use Rattle.std.proofs.Math.Nat.{max-eq_left, max-eq_right, max-zero, zero-max, max-le, le-max_left, le-max_right}
use Rattle.std.proofs.lemmas.Bool.{cases_lt}
use Rattle.std.proofs.lemmas.List.{append-nil, map_push}
use Rattle.std.proofs.lemmas.List.Elements.{Contains-append_left, Contains-push_cases}
use Rattle.std.specs.List.{AllByRecursion, Contains, Any}
use Rattle.std.specs.Str.{bytes_eq}
use Rattle.std.proofs.lemmas.Slice.Eq.{bytes_eq-Decides}
use Rattle.fb_model.specs.Names.{Name}
use Rattle.fb_model.specs.Declarations.{InstanceTree, NetworkTree, Network, BlockTree}
use Rattle.fb_model.specs.System as book
use Rattle.fb_model.specs.BlockTyping.{Declared, face_names}
use Rattle.fb_model.specs.Typing.{AreNew}
use Rattle.fb_model.specs.NetworkTyping.{type_named, IsMade, a_basic, a_composite, IsInstance, of_type, of_service, AreInstances, no_instance, an_instance, IsServed, a_service, IsService, instance_texts}
use Rattle.fb_faults.specs.declared.typing.TypeFault.{TypeFault}
use Rattle.fb_faults.specs.declared.typing.TypeFault.TheVariants as faults
use Rattle.fb_types_blocks.proofs.Lists.{new_append}
use Rattle.fb_types_blocks.proofs.Refused.{either_of}
use Rattle.fb_types_networks.specs.declared.typed.Body.{Body, the_lemmas}
use Rattle.fb_types_networks.specs.declared.typed.Body.TheVariants as v
use Rattle.fb_types_networks.proofs.Instances.{view_instance}
use Rattle.fb_types_services.specs.declared.service.Service.{Service}
use Rattle.fb_types_services.specs.Views.{service_of}
use Rattle.fb_types_networks.specs.declared.typed.Instance.{Instance, out-Instance}
use Rattle.fb_types_networks.specs.declared.typed.Network.{Network as Wires, out-Network}
use Rattle.fb_types_networks.specs.Views.{placed_of, body_of, instances_of, wired_of}
use Rattle.fb_model.specs.NetworkFaults.{Placed, placed_in}
use Rattle.fb_types_networks.specs.Answers.{AreNamed, IsPlaced, IsServedAs, IsWired}
use denote.Ref.{Bor}
use Rattle.fb_tree.specs.declared.tree.BlockTree.{BlockTree as Tree}
use Rattle.fb_types.specs.declared.made.Made.{Made}
use Rattle.fb_types.specs.declared.made.Unmade.{Unmade}
use Rattle.fb_types.specs.declared.made.Unmade.TheVariants as u
use Rattle.fb_types.specs.Uses.{uses_of, uses_in}
use Rattle.fb_model.specs.Nesting.{Used}
use Rattle.fb_model.specs.Nesting.{deep, deepest, IsOf, Uses, Leads, itself, further, Nests, no_composite, innermost, outside, Provides, by_composite, InstanceProvides, by_type, by_service, AllProvide, by_none, by_each}
use Rattle.fb_model.specs.SourceFaults.{IsTypeFault, faulty_part, ring, IsInstanceFault, faulty_type}
use Rattle.fb_types.specs.Made.{tree_of, shape_of, shape_uses, body_uses, IsTyped, IsTypedBody, IsDone, IsNamed, IsOpen, IsPath, IsPart, AreParts, IsComposite, IsDeeper, IsUnmade, IsRing, IsHalted, HaltsAt, LeadsTo}
use Rattle.fb_types.proofs.Nested.{among_cons, among_nil, among_first, among_later, again, one_type, own_face}

-- ---- composites nest as deep as in the body

bigger : (a b : ℕ) → (max a b ≡ a) ⊎ (max a b ≡ b)
bigger a b = either_of (λ l. inr (max-eq_right (omega (arith, l)))) (λ l. inl (max-eq_left l)) (cases_lt a b)

abbrev Inside : List BlockTree → List InstanceTree → ℕ → Type 0
Inside bs is n = (i : InstanceTree) × (c : BlockTree) × Contains is i × IsOf bs i c × Nests bs c n

later_inside : (bs : List BlockTree) (i : InstanceTree) (is : List InstanceTree) (n : ℕ) → (n ≡ 0) ⊎ Inside bs is n → (n ≡ 0) ⊎ Inside bs (i ∷ is) n
later_inside bs i is n (inl e) = inl e
later_inside bs i is n (inr (j, c, a, o, k)) = inr (j, c, among_later i is j a, o, k)

around : (bs : List BlockTree) (b : BlockTree) (w : NetworkTree) (n : ℕ) → b.body ≡ Network w → (n ≡ 0) ⊎ Inside bs w.instances n → Nests bs b (suc n)
around bs b w n e (inl z) = subst (λ m. Nests bs b (suc m)) (sym z) (innermost e)
around bs b w n e (inr (i, c, a, o, k)) = outside {i = i} (record { network = w; composite = e; among = a; of_type = o }) k

mutual
  pub nests_deep : (bs : List BlockTree) (d : ℕ) (b : BlockTree) (x : book.Body) → IsMade bs d b x → Nests bs b (deep x)
  nests_deep bs d b x (a_basic e k) = no_composite
  nests_deep bs d b x (a_composite {d = e} {n = n} {inner = inner} c f names is es vs) = around bs b n (deepest inner) c (all_nest bs e n.instances inner is)

  instance_nests : (bs : List BlockTree) (d : ℕ) (i : InstanceTree) (is : List InstanceTree) (qs : List book.Parameter) (x : book.Body) → IsInstance bs d i qs x → (deep x ≡ 0) ⊎ Inside bs (i ∷ is) (deep x)
  instance_nests bs d i is qs x (of_type {b = b} s t n m ps) = inr (i, b, among_first i is, record { declared = s; named = t }, nests_deep bs d b x m)
  instance_nests bs d i is qs x (of_service s) = inl refl

  all_nest : (bs : List BlockTree) (d : ℕ) (is : List InstanceTree) (inner : book.Instances) → AreInstances bs d is inner → (deepest inner ≡ 0) ⊎ Inside bs is (deepest inner)
  all_nest bs d is inner no_instance = inl refl
  all_nest bs d is inner (an_instance {i = i} {is = js} {qs = qs} {body = body} {rest = rest} h t) =
      either_of (λ e. subst (λ n. (n ≡ 0) ⊎ Inside bs (i ∷ js) n) (sym e) (instance_nests bs d i js qs body h)) (λ e. subst (λ n. (n ≡ 0) ⊎ Inside bs (i ∷ js) n) (sym e) (later_inside bs i js (deepest rest) (all_nest bs d js rest t)))
      (bigger (deep body) (deepest rest))

-- ---- what is remembered

pub deeper_again : (bs : List BlockTree) (room : ℕ) (b : BlockTree) (x : Name) (m : Made) → IsDone bs x m → x ≡ b.name.text → IsNamed bs b → room < m.deep → IsDeeper bs room b
deeper_again bs room b x m h e named l =
    let same : h.tree ≡ b = one_type bs b.name.text h.tree b (subst (λ n. type_named bs n ≡ Some h.tree) e h.named) named in
    record { count = m.deep; more = l; nests = subst (λ n. Nests bs b n) (sym h.typed.deep_is) (subst (λ a. Nests bs a (deep (shape_of m.shape))) same (nests_deep bs h.d h.tree (shape_of m.shape) h.typed.made)) }

pub typed_again : (bs : List BlockTree) (room : ℕ) (b : BlockTree) (x : Name) (m : Made) → IsDone bs x m → x ≡ b.name.text → IsNamed bs b → m.deep ≤ room → IsTyped bs room b m
typed_again bs room b x m h e named l =
    let same : h.tree ≡ b = one_type bs b.name.text h.tree b (subst (λ n. type_named bs n ≡ Some h.tree) e h.named) named in
    record {
      made = subst (λ a. IsMade bs room a (shape_of m.shape)) same (again bs h.d room h.tree (shape_of m.shape) h.typed.made (subst (λ n. n ≤ room) h.typed.deep_is l));
      deep_is = h.typed.deep_is;
      uses = subst (λ a. Provides bs a (shape_uses m.shape)) same h.typed.uses;
    }

pub typed_body : (bs : List BlockTree) (room : ℕ) (b : BlockTree) (m : Made) (y : Body) → IsTyped bs room b m → body_of y ≡ shape_of m.shape → ((at : ℕ) → body_uses y at ≡ shape_uses m.shape) → IsTypedBody bs room b y m.deep
typed_body bs room b m y h e f =
    record {
      made = subst (λ x. IsMade bs room b x) (sym e) h.made;
      deep_is = h.deep_is ∙ ap deep (sym e);
      uses = λ at. subst (λ us. Provides bs b us) (sym (f at)) h.uses;
    }

pub done_now : (bs : List BlockTree) (room : ℕ) (b : BlockTree) (m : Made) → IsTyped bs room b m → IsNamed bs b → IsDone bs b.name.text m
done_now bs room b m h named = record { tree = b; named = named; d = room; typed = h }

-- ---- paths

pub all_member : {X : Type 0} (P : X → Type 0) (xs : List X) (x : X) → AllByRecursion P xs → Contains xs x → P x
all_member P [] x h a = absurd (among_nil a)
all_member P (y ∷ ys) x h a = either_of (λ e. subst P e h.0) (λ m. all_member P ys x h.1 m) (among_cons y ys x a)

pub all_later : {X : Type 0} {P Q : X → Type 0} (xs : List X) (y : X) → ((x : X) → P x → Q x) → AllByRecursion P xs → Q y → AllByRecursion Q (xs ++ y ∷ [])
all_later [] y f h q = (q, tt)
all_later (x ∷ xs) y f h q = (f x h.0, all_later xs y f h.1 q)

pub any_none : {X : Type 0} {P : X → Type 0} → Any P [] → ⊥
any_none (k, x, l, e, p) = among_nil (k, l, e)

pub any_front : {X : Type 0} (P : X → Type 0) (xs : List X) (y : X) → Any P xs → Any P (xs ++ y ∷ [])
any_front P xs y (k, x, l, e, p) = let m = Contains-append_left xs (y ∷ []) x (k, l, e) in (m.0, x, m.1, m.2, p)

pub any_last : {X : Type 0} (P : X → Type 0) (xs : List X) (y : X) → Any P (xs ++ y ∷ []) → Any P xs ⊎ P y
any_last P xs y (k, x, l, e, p) = either_of (λ m. inl (m.0, x, m.1, m.2, p)) (λ s. inr (subst P (sym s) p)) (Contains-push_cases xs y x (k, l, e))

abbrev OnPath : List BlockTree → BlockTree → BlockTree → Type 0
OnPath bs b p = (type_named bs p.name.text ≡ Some p) × Leads bs p b

-- the path with a composite on it leads to the types of its instances
pub leads_more : (bs : List BlockTree) (path : List BlockTree) (b : BlockTree) (w : NetworkTree) → IsOpen bs path b → b.body ≡ Network w → LeadsTo bs (path ++ b ∷ []) w.instances
leads_more bs path b w opened e = λ i c a o.
    let used : Uses bs b i c = record { network = w; composite = e; among = a; of_type = o } in
    all_later path b (λ p h. (h.0, further {i = i} h.1 used)) opened.leads (opened.named, further {i = i} itself used)

open_more : (bs : List BlockTree) (path : List BlockTree) (b : BlockTree) → IsOpen bs path b → IsPath bs (path ++ b ∷ []) b
open_more bs path b opened = all_later path b (λ p h. h) opened.leads (opened.named, itself)

-- a composite is not made where one of its instances is not
pub halted : (bs : List BlockTree) (path : List BlockTree) (room d : ℕ) (b : BlockTree) (w : NetworkTree) (t : Bor Tree) (x y : Unmade) → IsOpen bs path b → b.body ≡ Network w → room ≡ suc d → tree_of t ≡ b
    → HaltsAt bs (path ++ b ∷ []) d w.instances x → ((f : TypeFault) → x ≡ u.Fault f → y ≡ u.Fault f) → ((n : Bor Tree) → x ≡ u.TooDeep n → y ≡ u.TooDeep t) → IsUnmade bs room b y
halted bs path room d b w t x y opened e more same h fault deeper = by x refl h.halted where
  ringed : (f : TypeFault) → IsInstanceFault bs h.part f ⊎ IsRing bs (path ++ b ∷ []) h.part f → IsTypeFault bs b f
  ringed f (inl k) = faulty_part e h.among k
  ringed f (inr r) = ring {i = h.part} (record { network = w; composite = e; among = h.among; of_type = r.of_type }) (all_member (OnPath bs b) (path ++ b ∷ []) r.tree (open_more bs path b opened) r.among).1 r.fault_is

  by : (z : Unmade) → x ≡ z → IsHalted bs (path ++ b ∷ []) d h.part z → IsUnmade bs room b y
  by (u.Fault f) s k = subst (IsUnmade bs room b) (sym (fault f s)) (ringed f k)
  by (u.TooDeep n) s (o, k) =
      subst (IsUnmade bs room b) (sym (deeper n s)) (same, opened.named, record { count = suc k.count; more = let l = k.more in omega (arith, l, more); nests = outside {i = h.part} (record { network = w; composite = e; among = h.among; of_type = o }) k.nests })

some_is : {X : Type 0} {x : X} → None ≡ Some x → ⊥
some_is e = cc

-- a type that is found for a name has it
pub has_name : (bs : List BlockTree) (x : Name) (b : BlockTree) → type_named bs x ≡ Some b → x ≡ b.name.text
has_name [] x b h = absurd (some_is h)
has_name (c ∷ cs) x b h = by (bytes_eq x c.name.text) refl h (has_name cs x b) where
  same_some : {y z : BlockTree} → Some y ≡ Some z → y ≡ z
  same_some e = cc

  by : (t : Bool) → bytes_eq x c.name.text ≡ t → Rattle.std.proofs.Common.cond t (Some c) (type_named cs x) ≡ Some b → (type_named cs x ≡ Some b → x ≡ b.name.text) → x ≡ b.name.text
  by true s h k = (bytes_eq-Decides x c.name.text).0 s ∙ ap (λ (z : BlockTree). z.name.text) (same_some h)
  by false s h k = k h

-- a name's type is found by its own name
pub named_self : (bs : List BlockTree) (x : Name) (b : BlockTree) → type_named bs x ≡ Some b → IsNamed bs b
named_self bs x b h = subst (λ n. type_named bs n ≡ Some b) (has_name bs x b h) h

-- a type of a name on a path
pub on_path : (bs : List BlockTree) (path : List BlockTree) (i : InstanceTree) (c : BlockTree) (at : ℕ) → Any (λ (b : BlockTree). b.name.text ≡ i.type.text) path → ((d : BlockTree) → IsOf bs i d → IsPath bs path d) → IsOf bs i c
    → at ≡ i.type.at → IsRing bs path i (faults.RecursiveComposite at)
on_path bs path i c at (k, b, l, e, named) leads o offset =
    let inside : Contains path b = (k, l, e) in
    let p = (all_member (OnPath bs c) path b (leads c o) inside).0 in
    let same : b ≡ c = one_type bs i.type.text b c (subst (λ n. type_named bs n ≡ Some b) named p) o.named in
    record { tree = c; of_type = o; among = subst (Contains path) same inside; fault_is = ap faults.RecursiveComposite offset }

-- ---- instances

pub used_as : (x : Instance) → uses_of x ≡ body_uses (out-Instance x).body (out-Instance x).at
used_as x = search (rules, the_lemmas)

pub typed_part : (bs : List BlockTree) (room : ℕ) (i : InstanceTree) (c : BlockTree) (x : Instance) (y : Body) (n : ℕ) → IsOf bs i c → IsTypedBody bs room c y n → IsPlaced i (body_of y) (placed_of x) → (out-Instance x).body ≡ y → (out-Instance x).at ≡ i.name.at
    → IsPart bs room i x n
typed_part bs room i c x y n o h p e offset =
    record {
      name = p.name;
      typed = subst (λ z. IsInstance bs room i ((placed_of x).1) z) (sym p.body_is) (of_type o.declared o.named p.bare h.made p.parameters);
      deep_is = h.deep_is ∙ ap deep (sym p.body_is);
      uses = subst (λ us. InstanceProvides bs i us) (sym (used_as x)) (subst (λ z. InstanceProvides bs i (body_uses z (out-Instance x).at)) (sym e) (by_type o (h.uses ((out-Instance x).at))));
      offset = offset;
    }

served_body : (s : Service) → body_of (v.Served s) ≡ book.Served (service_of s)
served_body s = search (rules, the_lemmas)

served_uses : (s : Service) (at : ℕ) → body_uses (v.Served s) at ≡ (at, service_of s) ∷ []
served_uses s at = search (rules, the_lemmas)

placed_body : (x : Instance) → (placed_of x).2 ≡ body_of (out-Instance x).body
placed_body x = ap (λ (p : Placed). p.2) (view_instance x)

same_service : {s k : book.Service} → book.Served s ≡ book.Served k → s ≡ k
same_service e = cc

pub served_part : (bs : List BlockTree) (room : ℕ) (i : InstanceTree) (x : Instance) (s : Service) → IsServedAs i (placed_of x) → (out-Instance x).body ≡ v.Served s → (out-Instance x).at ≡ i.name.at → IsPart bs room i x 0
served_part bs room i x s p e offset =
    let same : service_of s ≡ p.service = same_service (sym (served_body s) ∙ ap body_of (sym e) ∙ sym (placed_body x) ∙ p.body_is) in
    let used : uses_of x ≡ (i.name.at, p.service) ∷ []
    = used_as x ∙ ap (λ z. body_uses z (out-Instance x).at) e ∙ served_uses s (out-Instance x).at ∙ ap (λ n. (n, service_of s) ∷ []) offset ∙ ap (λ z. (i.name.at, z) ∷ []) same in
    record {
      name = p.name;
      typed = subst (λ z. IsInstance bs room i ((placed_of x).1) z) (sym p.body_is) (of_service p.served);
      deep_is = ap deep (sym p.body_is);
      uses = subst (λ us. InstanceProvides bs i us) (sym used) (by_service (is_service i p.service ((placed_of x).1) p.served));
      offset = offset;
    }
  where
    is_service : (i : InstanceTree) (s : book.Service) (qs : List book.Parameter) → IsServed i s qs → IsService i s
    is_service i s qs (a_service a b) = a

-- why an instance is not made where its type is not
pub halted_type : (bs : List BlockTree) (path : List BlockTree) (room : ℕ) (i : InstanceTree) (c : BlockTree) (x : Unmade) → IsOf bs i c → IsUnmade bs room c x → IsHalted bs path room i x
halted_type bs path room i c (u.Fault f) o h = inl (faulty_type o h)
halted_type bs path room i c (u.TooDeep x) o h = (subst (IsOf bs i) (sym h.0) o, subst (IsDeeper bs room) (sym h.0) h.2)

-- ---- instances one after another

abbrev behind : book.Instances → book.Instances → book.Instances
behind book.nothing others = others
behind (book.instance x qs body rest) others = book.instance x qs body (behind rest others)

placed_behind : (ps : List Placed) (p : Placed) → placed_in (ps ++ p ∷ []) ≡ behind (placed_in ps) (book.instance p.0 p.1 p.2 book.nothing)
placed_behind [] p = refl
placed_behind (q ∷ ps) p = ap (λ r. book.instance q.0 q.1 q.2 r) (placed_behind ps p)

made_behind : (bs : List BlockTree) (d : ℕ) (is : List InstanceTree) (inner : book.Instances) (i : InstanceTree) (x : Name) (qs : List book.Parameter) (body : book.Body) → AreInstances bs d is inner → x ≡ i.name.text → IsInstance bs d i qs body
    → AreInstances bs d (is ++ i ∷ []) (behind inner (book.instance x qs body book.nothing))
made_behind bs d is inner i x qs body no_instance e h = subst (λ y. AreInstances bs d (i ∷ []) (book.instance y qs body book.nothing)) (sym e) (an_instance h no_instance)
made_behind bs d is inner i x qs body (an_instance {is = js} {rest = rest} k t) e h = an_instance k (made_behind bs d js rest i x qs body t e h)

triple : (a b c : ℕ) → max a (max b c) ≡ max (max a b) c
triple a b c =
    let ab : max a b ≤ max (max a b) c = le-max_left (max a b) c in
    let al = le-max_left a b in
    let bl = le-max_right a b in
    let bc : max b c ≤ max a (max b c) = le-max_right a (max b c) in
    let br = le-max_left b c in
    let cr = le-max_right b c in
    let l : max a (max b c) ≤ max (max a b) c = max-le (omega (arith, ab, al)) (max-le (omega (arith, ab, bl)) (le-max_right (max a b) c)) in
    let r : max (max a b) c ≤ max a (max b c) = max-le (max-le (le-max_left a (max b c)) (omega (arith, bc, br))) (omega (arith, bc, cr)) in
    omega (arith, l, r)

deepest_behind : (inner : book.Instances) (x : Name) (qs : List book.Parameter) (body : book.Body) → deepest (behind inner (book.instance x qs body book.nothing)) ≡ max (deepest inner) (deep body)
deepest_behind book.nothing x qs body = max-zero (deep body) ∙ sym (zero-max (deep body))
deepest_behind (book.instance y rs other rest) x qs body = ap (max (deep other)) (deepest_behind rest x qs body) ∙ triple (deep other) (deepest rest) (deep body)

provide_behind : (bs : List BlockTree) (is : List InstanceTree) (us : List Used) (i : InstanceTree) (vs : List Used) → AllProvide bs is us → InstanceProvides bs i vs → AllProvide bs (is ++ i ∷ []) (us ++ vs)
provide_behind bs is us i vs by_none h = subst (λ ws. AllProvide bs (i ∷ []) ws) (append-nil vs) (by_each h by_none)
provide_behind bs is us i vs (by_each {i = j} {is = js} {us = xs} {vs = ys} k t) h = subst (λ ws. AllProvide bs (j ∷ js ++ i ∷ []) ws) (sym (append_assoc xs ys vs)) (by_each k (provide_behind bs js ys i vs t h))

used_behind : (xs : List Instance) (x : Instance) → uses_in (xs ++ x ∷ []) ≡ uses_in xs ++ uses_of x
used_behind [] x = append-nil (uses_of x)
used_behind (y ∷ ys) x = ap (λ l. uses_of y ++ l) (used_behind ys x) ∙ sym (append_assoc (uses_of y) (uses_in ys) (uses_of x))

pub parts_begun : (bs : List BlockTree) (d : ℕ) → AreParts bs d [] [] 0
parts_begun bs d = record { typed = no_instance; deepest_is = refl; uses = by_none; offsets = refl }

pub parts_more : (bs : List BlockTree) (d : ℕ) (is : List InstanceTree) (i : InstanceTree) (xs : List Instance) (x : Instance) (n m : ℕ) → AreParts bs d is xs n → IsPart bs d i x m → AreParts bs d (is ++ i ∷ []) (xs ++ x ∷ []) (max n m)
parts_more bs d is i xs x n m h k =
    let p = placed_of x in
    let seen : instances_of (xs ++ x ∷ []) ≡ behind (instances_of xs) (book.instance (p.0) (p.1) (p.2) book.nothing) = ap placed_in (map_push placed_of xs x) ∙ placed_behind (map placed_of xs) p in
    record {
      typed = subst (λ r. AreInstances bs d (is ++ i ∷ []) r) (sym seen) (made_behind bs d is (instances_of xs) i (p.0) (p.1) (p.2) h.typed k.name k.typed);
      deepest_is = ap (λ a. max a m) h.deepest_is ∙ ap (max (deepest (instances_of xs))) k.deep_is ∙ sym (deepest_behind (instances_of xs) (p.0) (p.1) (p.2)) ∙ ap deepest (sym seen);
      uses = subst (λ us. AllProvide bs (is ++ i ∷ []) us) (sym (used_behind xs x)) (provide_behind bs is (uses_in xs) i (uses_of x) h.uses k.uses);
      offsets = map_push (λ y. (out-Instance y).at) xs x ∙ ap (λ l. l ++ (out-Instance x).at ∷ []) h.offsets ∙ ap (λ a. map (λ j. j.name.at) is ++ a ∷ []) k.offset ∙ sym (map_push (λ j. j.name.at) is i);
    }

-- ---- composites

abbrev labels : book.Instances → List Name
labels book.nothing = []
labels (book.instance x qs body rest) = x ∷ labels rest

labels_placed : (ps : List Placed) → labels (placed_in ps) ≡ map (λ p. p.0) ps
labels_placed [] = refl
labels_placed (p ∷ ps) = ap (λ l. p.0 ∷ l) (labels_placed ps)

labels_made : (bs : List BlockTree) (d : ℕ) (is : List InstanceTree) (inner : book.Instances) → AreInstances bs d is inner → labels inner ≡ instance_texts is
labels_made bs d is inner no_instance = refl
labels_made bs d is inner (an_instance {i = i} {is = js} {rest = rest} h t) = ap (λ l. i.name.text ∷ l) (labels_made bs d js rest t)

pub named_parts : (bs : List BlockTree) (d : ℕ) (w : NetworkTree) (ps : List Placed) → AreInstances bs d w.instances (placed_in ps) → AreNamed w ps
named_parts bs d w ps h = record { names_are = sym (labels_placed ps) ∙ labels_made bs d w.instances (placed_in ps) h }

pub composite_typed : (bs : List BlockTree) (b : BlockTree) (ins outs : List Declared) (f : book.Face) (w : NetworkTree) (d n : ℕ) (xs : List Instance) (x : Wires) (m : Made) → IsComposite bs b ins outs f w d xs n → m.deep ≡ suc n
    → IsWired f w (map placed_of xs) (wired_of x) → (out-Network x).instances.items ≡ xs → shape_of m.shape ≡ book.Composite f (placed_in ((wired_of x).0)) ((wired_of x).1) ((wired_of x).2) → shape_uses m.shape ≡ uses_in (out-Network x).instances.items
    → IsTyped bs (suc d) b m
composite_typed bs b ins outs f w d n xs x m h e wired same shaped used =
    let ps = map placed_of xs in
    let seen : shape_of m.shape ≡ book.Composite f (placed_in ps) ((wired_of x).1) ((wired_of x).2) = shaped ∙ ap (λ qs. book.Composite f (placed_in qs) ((wired_of x).1) ((wired_of x).2)) wired.instances in
    let new : AreNew (face_names b ins outs) (instance_texts w.instances) = subst (λ l. AreNew l (instance_texts w.instances)) (own_face b ins outs f h.face) wired.names in
    record {
      made = subst (λ z. IsMade bs (suc d) b z) (sym seen) (a_composite h.composite h.face (new_append [] (face_names b ins outs) (instance_texts w.instances) h.distinct new) h.parts.typed wired.events wired.values);
      deep_is = e ∙ ap suc h.parts.deepest_is ∙ ap deep (sym seen);
      uses = subst (λ us. Provides bs b us) (sym (used ∙ ap uses_in same)) (by_composite h.composite h.parts.uses);
    }
