-- Which variables a table has, and where their slots begin.
use Rattle.std.proofs.Common.{◌≡◌, ℕ, ◌+◌, ℤ, Bool, true, false, ◌||◌, List, [], ◌∷◌, ◌++◌, Option, None, Some, refl, sym, ap, ◌∙◌, arith, string_bytes}
use Rattle.std.specs.Prelude.{is_some, if◌then◌else◌, MatchOption}
use Rattle.std.specs.String.{string_eq}
use Rattle.std.specs.declared.string.String.{String}
use Rattle.std.specs.declared.alloc.Global.{Global}
use Rattle.std.specs.Str.{bytes_eq}
use Rattle.std.specs.Map.{lookup}
use Rattle.indexmap.specs.IndexMap.{insert_entry}
use Rattle.fb_model.specs.Names.{Name, is_in}
use Rattle.st_exec.specs.declared.location.Location.{Location}
use Rattle.st_exec.specs.Forms.{Form, slot_count, size_of, slot_in, names_in, bounds_in, plain_slot, IsDeclaredIn}
use Rattle.st_exec.specs.Laid.{Table, found, forms_in, IsLaid}

pub found_by : (t : Table) (x : Name) → lookup (λ k. bytes_eq x (string_bytes k)) t ≡ found t x
found_by [] x = refl
found_by (e ∷ es) x = ap (λ r. if bytes_eq x (string_bytes e.0) then Some e.1 else r) (found_by es x)

abbrev pub bounds_at : Option Location → Option (ℤ × ℤ)
bounds_at None = None
bounds_at (Some p) = p.bounds

abbrev pub slot_at : ℕ → Option Location → ℕ
slot_at end None = end
slot_at end (Some p) = p.first

pub bounds_found : (t : Table) (x : Name) → bounds_in (forms_in t) x ≡ bounds_at (found t x)
bounds_found [] x = refl
bounds_found (e ∷ es) x = by (bytes_eq x (string_bytes e.0)) (bounds_found es x) where
  by : (b : Bool) → bounds_in (forms_in es) x ≡ bounds_at (found es x) → (if b then e.1.bounds else bounds_in (forms_in es) x) ≡ bounds_at (if b then Some e.1 else found es x)
  by true again = refl
  by false again = again

pub names_found : (t : Table) (x : Name) → is_in x (names_in (forms_in t)) ≡ is_some (found t x)
names_found [] x = refl
names_found (e ∷ es) x = by (bytes_eq x (string_bytes e.0)) (names_found es x) where
  by : (b : Bool) → is_in x (names_in (forms_in es)) ≡ is_some (found es x) → (b || is_in x (names_in (forms_in es))) ≡ is_some (if b then Some e.1 else found es x)
  by true again = refl
  by false again = again

pub slot_found : (from end : ℕ) (t : Table) (x : Name) → IsLaid from t end → from + slot_in (forms_in t) x ≡ slot_at end (found t x)
slot_found from end [] x h = omega (arith, h)
slot_found from end (e ∷ es) x h = by (bytes_eq x (string_bytes e.0)) (slot_found (from + slot_count e.1.bounds) end es x h.1) where
  by : (b : Bool) → (from + slot_count e.1.bounds) + slot_in (forms_in es) x ≡ slot_at end (found es x)
      → from + (if b then 0 else slot_count e.1.bounds + slot_in (forms_in es) x) ≡ slot_at end (if b then Some e.1 else found es x)
  by true again = omega (arith, h.0)
  by false again = omega (arith, again)

pub size_found : (from end : ℕ) (t : Table) → IsLaid from t end → from + size_of (forms_in t) ≡ end
size_found from end [] h = omega (arith, h)
size_found from end (e ∷ es) h = omega (arith, size_found (from + slot_count e.1.bounds) end es h.1)

-- ---- one more variable

pub laid_more : (from end : ℕ) (t : Table) (e : String Global × Location) (more : ℕ) → IsLaid from t end → e.1.first ≡ end → more ≡ end + slot_count e.1.bounds → IsLaid from (t ++ e ∷ []) more
laid_more from end [] e more h f m = (omega (arith, h, f), omega (arith, h, m))
laid_more from end (d ∷ ds) e more h f m = (h.0, laid_more (from + slot_count d.1.bounds) end ds e more h.1 f m)

-- a key that is not there goes last
pub insert_new : (t : Table) (key : String Global) (p : Location) → found t (string_bytes key) ≡ None → insert_entry string_eq t key p ≡ t ++ (key, p) ∷ []
insert_new [] key p h = refl
insert_new (e ∷ es) key p h = by (bytes_eq (string_bytes key) (string_bytes e.0)) h (insert_new es key p) where
  by : (b : Bool) → (if b then Some e.1 else found es (string_bytes key)) ≡ None → (found es (string_bytes key) ≡ None → insert_entry string_eq es key p ≡ es ++ (key, p) ∷ [])
      → (if b then (e.0, p) ∷ es else e ∷ insert_entry string_eq es key p) ≡ e ∷ (es ++ (key, p) ∷ [])
  by true h again = absurd (cc)
  by false h again = ap (λ l. e ∷ l) (again h)

-- ---- what contracts see

-- the slot of one number, else the end
abbrev pub one_slot : Option (ℤ × ℤ) → ℕ → ℕ → ℕ
one_slot None first end = first
one_slot (Some b) first end = end

one_plain : (b : Option (ℤ × ℤ)) (first end : ℕ) → one_slot b first end ≡ (elim b [ None ↦ first | Some c ↦ end ])
one_plain None first end = refl
one_plain (Some b) first end = refl

module _ (forms : List Form) (t : Table) (size : ℕ) (is : forms_in t ≡ forms) (laid : IsLaid 0 t size) where
  pub size_is : size ≡ size_of forms
  size_is =
      let s = size_found 0 size t laid in
      let e = ap size_of is in
      omega (arith, s, e)

  module _ (x : Name) (o : Option Location) (here : found t x ≡ o) where
    pub slot_is : slot_at size o ≡ slot_in forms x
    slot_is =
        let s = slot_found 0 size t x laid in
        let e = ap (λ fs. slot_in fs x) is in
        let f = ap (slot_at size) here in
        omega (arith, s, e, f)

    pub bounds_are : bounds_at o ≡ bounds_in forms x
    bounds_are = ap bounds_at (sym here) ∙ sym (bounds_found t x) ∙ ap (λ fs. bounds_in fs x) is

    pub is_declared : is_in x (names_in forms) ≡ is_some o
    is_declared = ap (λ fs. is_in x (names_in fs)) (sym is) ∙ names_found t x ∙ ap is_some here

    pub place_is : MatchOption o (is_in x (names_in forms) ≡ false) (λ p. (p.first ≡ slot_in forms x) × (p.bounds ≡ bounds_in forms x) × IsDeclaredIn forms x)
    place_is = by o slot_is bounds_are is_declared where
      by : (q : Option Location) → slot_at size q ≡ slot_in forms x → bounds_at q ≡ bounds_in forms x → is_in x (names_in forms) ≡ is_some q
          → MatchOption q (is_in x (names_in forms) ≡ false) (λ p. (p.first ≡ slot_in forms x) × (p.bounds ≡ bounds_in forms x) × IsDeclaredIn forms x)
      by None s b d = d
      by (Some p) s b d = (s, b, d)

    pub plain_is : one_slot (bounds_at o) (slot_at size o) size ≡ plain_slot forms x
    plain_is =
        ap (λ b. one_slot b (slot_at size o) size) bounds_are ∙ ap (λ s. one_slot (bounds_in forms x) s size) slot_is ∙ ap (λ e. one_slot (bounds_in forms x) (slot_in forms x) e) size_is
        ∙ one_plain (bounds_in forms x) (slot_in forms x) (size_of forms)
