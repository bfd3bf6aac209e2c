-- The search for a ring: what it keeps, and what it finds.
use Rattle.std.proofs.Common.{◌≡◌, ◌⊎◌, inl, inr, ℕ, Bool, true, false, cond, List, [], ◌∷◌, ◌++◌, length, arith, Option, Some, None, refl, sym, ap, subst, ◌∙◌}
use Rattle.std.specs.List.{AllByRecursion, Contains}
use Rattle.std.specs.Str.{bytes_eq}
use Rattle.std.proofs.lemmas.Slice.Eq.{bytes_eq-Decides}
use Rattle.std.proofs.lemmas.List.Elements.{Contains-append_left, Contains-push, Contains-push_cases}
use Rattle.fb_model.specs.Names.{Name}
use Rattle.fb_model.specs.Declarations.{InstanceTree, Chart, Network, BodyTree, BlockTree}
use Rattle.fb_model.specs.NetworkTyping.{type_named}
use Rattle.fb_faults.specs.declared.typing.TypeFault.{TypeFault}
use Rattle.fb_faults.specs.declared.typing.TypeFault.TheVariants as faults
use Rattle.fb_types_blocks.proofs.Refused.{either_of}
use Rattle.fb_model.specs.Nesting.{IsOf, Uses, Leads, itself, further, LeadsToNoRing}
use Rattle.fb_model.specs.SourceFaults.{IsTypeFault, faulty_part, ring, faulty_type}
use Rattle.fb_types.specs.Made.{IsNamed, IsPath}
use Rattle.fb_types.specs.Rings.{parts_of, IsOnPath, IsPassed, IsClosing, IsMet, Ends, all_end, IsRingBelow, IsLine, IsSearching}
use Rattle.fb_types.proofs.Nested.{among_cons, among_nil, among_first, one_type}
use Rattle.fb_types.proofs.Making.{all_member, has_name, named_self}

-- ---- chains that end

ends_inside : (bs : List BlockTree) (b c : BlockTree) (i : InstanceTree) → Ends bs b → Uses bs b i c → Ends bs c
ends_inside bs b c i (all_end f) u = f i c u

ends_led : (bs : List BlockTree) (b c : BlockTree) → Ends bs b → Leads bs b c → Ends bs c
ends_led bs b c h itself = h
ends_led bs b c h (further {c = a} {i = i} l u) = ends_inside bs a c i (ends_led bs b a h l) u

-- the first use on the way
first_use : (bs : List BlockTree) (d c : BlockTree) → Leads bs d c → (d ≡ c) ⊎ ((j : InstanceTree) × (e : BlockTree) × Uses bs d j e × Leads bs e c)
first_use bs d c itself = inl refl
first_use bs d c (further {c = a} {i = i} l u) =
    either_of (λ e. inr (i, c, subst (λ x. Uses bs x i c) (sym e) u, itself)) (λ p. inr (p.0, p.1, p.2, further {i = i} p.3 u)) (first_use bs d a l)

no_ring_at : (bs : List BlockTree) (c : BlockTree) (i : InstanceTree) (d : BlockTree) → Ends bs c → Uses bs c i d → Leads bs d c → ⊥
no_ring_at bs c i d (all_end f) u l =
    either_of (λ e. no_ring_at bs d i d (f i d u) (subst (λ x. Uses bs x i d) (sym e) u) itself) (λ p. no_ring_at bs d p.0 p.1 (f i d u) p.2 (further {i = i} p.3 u)) (first_use bs d c l)

-- where all chains end there is no ring
pub no_ring_below : (bs : List BlockTree) (b : BlockTree) → Ends bs b → LeadsToNoRing bs b
no_ring_below bs b h = λ c d i l u m. no_ring_at bs c i d (ends_led bs b c h l) u m

-- what is at fault in a type is so in each that leads to it
fault_led : (bs : List BlockTree) (b c : BlockTree) (f : TypeFault) → Leads bs b c → IsTypeFault bs c f → IsTypeFault bs b f
fault_led bs b c f itself h = h
fault_led bs b c f (further {c = a} {i = i} l u) h = fault_led bs b a f l (faulty_part {i = i} u.composite u.among (faulty_type u.of_type h))

pub ring_fault : (bs : List BlockTree) (b : BlockTree) (at : ℕ) → IsRingBelow bs b at → IsTypeFault bs b (faults.RecursiveComposite at)
ring_fault bs b at h = fault_led bs b h.outer (faults.RecursiveComposite at) h.leads (ring {i = h.part} h.uses h.back (ap faults.RecursiveComposite h.offset))

-- ---- paths

all_front : {X : Type 0} (P : X → Type 0) (xs ys : List X) → AllByRecursion P (xs ++ ys) → AllByRecursion P xs
all_front P [] ys h = tt
all_front P (x ∷ xs) ys h = (h.0, all_front P xs ys h.1)

all_last : {X : Type 0} (P : X → Type 0) (xs : List X) (y : X) → AllByRecursion P (xs ++ y ∷ []) → P y
all_last P [] y h = h.0
all_last P (x ∷ xs) y h = all_last P xs y h.1

all_more : {X : Type 0} (P : X → Type 0) (xs : List X) (y : X) → AllByRecursion P xs → P y → AllByRecursion P (xs ++ y ∷ [])
all_more P [] y h p = (p, tt)
all_more P (x ∷ xs) y h p = (h.0, all_more P xs y h.1 p)

line_front : (bs xs ys : List BlockTree) → IsLine bs (xs ++ ys) → IsLine bs xs
line_front bs [] ys h = tt
line_front bs (p ∷ xs) ys h = (h.0, all_front (Leads bs p) xs ys h.1, line_front bs xs ys h.2)

line_path : (bs xs : List BlockTree) (y : BlockTree) → IsLine bs (xs ++ y ∷ []) → IsPath bs (xs ++ y ∷ []) y
line_path bs [] y h = ((h.0, itself), tt)
line_path bs (p ∷ xs) y h = ((h.0, all_last (Leads bs p) xs y h.1), line_path bs xs y h.2)

line_more : (bs xs : List BlockTree) (y c : BlockTree) (i : InstanceTree) → IsLine bs (xs ++ y ∷ []) → Uses bs y i c → IsNamed bs c → IsLine bs ((xs ++ y ∷ []) ++ c ∷ [])
line_more bs [] y c i h u n = (h.0, (further {i = i} itself u, tt), (n, tt, tt))
line_more bs (p ∷ xs) y c i h u n = (h.0, all_more (Leads bs p) (xs ++ y ∷ []) c h.1 (further {i = i} (all_last (Leads bs p) xs y h.1) u), line_more bs xs y c i h.2 u n)

-- ---- one step

none_some : {X : Type 0} {x : X} → None ≡ Some x → ⊥
none_some e = cc

true_false : true ≡ false → ⊥
true_false e = cc

same_name : (x y : Name) → bytes_eq x y ≡ true → x ≡ y
same_name x y e = (bytes_eq-Decides x y).0 e

some_before : {X : Type 0} (t : Bool) (o : Option X) (x : X) → cond t None o ≡ Some x → o ≡ Some x
some_before true o x e = absurd (none_some e)
some_before false o x e = e

none_after : {X : Type 0} (t : Bool) (o : Option X) → o ≡ None → cond t None o ≡ None
none_after true o e = refl
none_after false o e = e

-- an instance of a declared type, in a type
used_by : (bs : List BlockTree) (b : BlockTree) (i : InstanceTree) (c : BlockTree) → Contains (parts_of b.body) i → IsOf bs i c → Uses bs b i c
used_by bs b i c a o = by b.body refl a where
  by : (x : BodyTree) → b.body ≡ x → Contains (parts_of x) i → Uses bs b i c
  by (Chart k) e a = absurd (among_nil a)
  by (Network n) e a = record { network = n; composite = e; among = a; of_type = o }

-- the search begins, with the type on the path
pub search_begun : (bs : List BlockTree) (b : BlockTree) (left : Name → Option BlockTree) → IsNamed bs b → ((x : Name) → left x ≡ cond (bytes_eq b.name.text x) None (type_named bs x)) → IsSearching bs b left (b ∷ [])
search_begun bs b left n h =
    record {
      line = (n, tt, tt);
      led = (itself, tt);
      named = λ x c e. some_before (bytes_eq b.name.text x) (type_named bs x) c (sym (h x) ∙ e);
      begun = h b.name.text ∙ ap (λ t. cond t None (type_named bs b.name.text)) ((bytes_eq-Decides b.name.text b.name.text).1 refl);
      met = λ c k e. inl (by c k (bytes_eq b.name.text c.name.text) refl (sym (h c.name.text) ∙ e));
    }
  where
    by : (c : BlockTree) → type_named bs c.name.text ≡ Some c → (t : Bool) → bytes_eq b.name.text c.name.text ≡ t → cond t None (type_named bs c.name.text) ≡ None → Contains (b ∷ []) c
    by c k true s e = subst (Contains (b ∷ [])) (one_type bs c.name.text b c (subst (λ x. type_named bs x ≡ Some b) (same_name b.name.text c.name.text s) n) k) (among_first b [])
    by c k false s e = absurd (none_some (sym e ∙ k))

-- it goes on in a type that is met
pub search_inside : (bs : List BlockTree) (b : BlockTree) (left later : Name → Option BlockTree) (xs : List BlockTree) (top : BlockTree) (i : InstanceTree) (c : BlockTree) → IsSearching bs b left (xs ++ top ∷ []) → Contains (parts_of top.body) i → IsMet left later i c
    → IsSearching bs b later ((xs ++ top ∷ []) ++ c ∷ [])
search_inside bs b left later xs top i c h a m =
    record {
      line = line_more bs xs top c i h.line used (named_self bs i.type.text c n);
      led = all_more (Leads bs b) (xs ++ top ∷ []) c h.led (further {i = i} (all_last (Leads bs b) xs top h.led) used);
      named = λ x d e. h.named x d (some_before (bytes_eq i.type.text x) (left x) d (sym (m.met x) ∙ e));
      begun = m.met b.name.text ∙ none_after (bytes_eq i.type.text b.name.text) (left b.name.text) h.begun;
      met = λ d k e. by d k (bytes_eq i.type.text d.name.text) refl (sym (m.met d.name.text) ∙ e);
    }
  where
    n : type_named bs i.type.text ≡ Some c
    n = h.named i.type.text c m.found

    used : Uses bs top i c
    used = used_by bs top i c a (record { declared = m.declared; named = n })

    path : List BlockTree
    path = xs ++ top ∷ []

    by : (d : BlockTree) → type_named bs d.name.text ≡ Some d → (t : Bool) → bytes_eq i.type.text d.name.text ≡ t → cond t None (left d.name.text) ≡ None → Contains (path ++ c ∷ []) d ⊎ Ends bs d
    by d k true s e = inl (subst (Contains (path ++ c ∷ [])) (one_type bs d.name.text c d (subst (λ x. type_named bs x ≡ Some c) (same_name i.type.text d.name.text s) n) k) (Contains-push path c))
    by d k false s e = either_of (λ p. inl (Contains-append_left path (c ∷ []) d p)) (λ w. inr w) (h.met d k e)

-- all is searched in the last type of the path: all chains from it end
last_ends : (bs : List BlockTree) (b : BlockTree) (left : Name → Option BlockTree) (xs : List BlockTree) (top : BlockTree) → IsSearching bs b left (xs ++ top ∷ []) → AllByRecursion (IsPassed left (xs ++ top ∷ [])) (parts_of top.body) → Ends bs top
last_ends bs b left xs top h all = all_end (λ i c u. by i c u (all_member (IsPassed left path) (parts_of top.body) i all (subst (λ x. Contains (parts_of x) i) (sym u.composite) u.among))) where
  path : List BlockTree
  path = xs ++ top ∷ []

  on : (i : InstanceTree) (c : BlockTree) → c.name.text ≡ i.type.text → Contains path c → IsOnPath path i
  on i c e (k, l, is) = (k, c, l, is, e)

  by : (i : InstanceTree) (c : BlockTree) → Uses bs top i c → IsPassed left path i → Ends bs c
  by i c u (inl s) = absurd (true_false (sym s ∙ u.of_type.declared))
  by i c u (inr (off, none)) =
      let e : i.type.text ≡ c.name.text = has_name bs i.type.text c u.of_type.named in
      either_of (λ p. absurd (off (on i c (sym e) p))) (λ w. w) (h.met c (named_self bs i.type.text c u.of_type.named) (subst (λ x. left x ≡ None) e none))

-- it goes back to the type above
pub search_passed : (bs : List BlockTree) (b : BlockTree) (left later : Name → Option BlockTree) (xs : List BlockTree) (top : BlockTree) → IsSearching bs b left (xs ++ top ∷ []) → AllByRecursion (IsPassed left (xs ++ top ∷ [])) (parts_of top.body) → ((x : Name) → later x ≡ left x)
    → IsSearching bs b later xs
search_passed bs b left later xs top h all same =
    let done = last_ends bs b left xs top h all in
    record {
      line = line_front bs xs (top ∷ []) h.line;
      led = all_front (Leads bs b) xs (top ∷ []) h.led;
      named = λ x c e. h.named x c (sym (same x) ∙ e);
      begun = same b.name.text ∙ h.begun;
      met = λ c k e. either_of (λ p. either_of (λ m. inl m) (λ s. inr (subst (Ends bs) s done)) (Contains-push_cases xs top c p)) (λ w. inr w) (h.met c k (sym (same c.name.text) ∙ e));
    }

-- a ring closes
pub search_closing : (bs : List BlockTree) (b : BlockTree) (left : Name → Option BlockTree) (xs : List BlockTree) (top : BlockTree) (i : InstanceTree) (at : ℕ) → IsSearching bs b left (xs ++ top ∷ []) → Contains (parts_of top.body) i → IsClosing (xs ++ top ∷ []) i at
    → IsRingBelow bs b at
search_closing bs b left xs top i at h a m = by m.on where
  by : IsOnPath (xs ++ top ∷ []) i → IsRingBelow bs b at
  by (k, p, l, e, name) =
      let q = all_member (λ z. (type_named bs z.name.text ≡ Some z) × Leads bs z top) (xs ++ top ∷ []) p (line_path bs xs top h.line) (k, l, e) in
      let o : IsOf bs i p = record { declared = m.declared; named = subst (λ n. type_named bs n ≡ Some p) name q.0 } in
      record { outer = top; inner = p; part = i; leads = all_last (Leads bs b) xs top h.led; uses = used_by bs top i p a o; back = q.1; offset = m.offset }

-- nothing is left on the path
pub search_ended : (bs : List BlockTree) (b : BlockTree) (left : Name → Option BlockTree) → IsNamed bs b → IsSearching bs b left [] → Ends bs b
search_ended bs b left n h = either_of (λ p. absurd (among_nil p)) (λ w. w) (h.met b n h.begun)

-- ---- instances one after another

among_one : (i : InstanceTree) (is : List InstanceTree) (j : InstanceTree) → Contains is i → Contains (i ∷ []) j → Contains is j
among_one i is j a b = either_of (λ e. subst (Contains is) e a) (λ n. absurd (among_nil n)) (among_cons i [] j b)

pub passed_same : (f g : Name → Option BlockTree) (path : List BlockTree) (i : InstanceTree) → ((x : Name) → f x ≡ g x) → IsPassed f path i → IsPassed g path i
passed_same f g path i same (inl s) = inl s
passed_same f g path i same (inr (off, none)) = inr (off, sym (same i.type.text) ∙ none)

pub passed_more : (f : Name → Option BlockTree) (path : List BlockTree) (is : List InstanceTree) (i : InstanceTree) → AllByRecursion (IsPassed f path) is → IsPassed f path i → AllByRecursion (IsPassed f path) (is ++ i ∷ [])
passed_more f path is i h p = all_more (IsPassed f path) is i h p

pub closing_among : (path : List BlockTree) (i : InstanceTree) (is : List InstanceTree) (at : ℕ) → Contains is i → (j : InstanceTree) × Contains (i ∷ []) j × IsClosing path j at → (j : InstanceTree) × Contains is j × IsClosing path j at
closing_among path i is at a h = (h.0, among_one i is h.0 a h.1, h.2)

pub met_among : (f g later : Name → Option BlockTree) (i : InstanceTree) (is : List InstanceTree) (c : BlockTree) → ((x : Name) → f x ≡ g x) → Contains is i → (j : InstanceTree) × Contains (i ∷ []) j × IsMet f later j c → (j : InstanceTree) × Contains is j × IsMet g later j c
met_among f g later i is c same a h =
    (h.0, among_one i is h.0 a h.1, record { declared = h.2.declared; found = sym (same h.0.type.text) ∙ h.2.found; met = λ x. h.2.met x ∙ ap (cond (bytes_eq h.0.type.text x) None) (same x) })

pub none_there : {X : Type 0} (xs : List X) → length xs ≡ 0 → xs ≡ []
none_there [] e = refl
none_there (x ∷ xs) e = absurd (omega (arith, e))
