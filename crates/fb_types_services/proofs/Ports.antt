-- Names of numbered ports.
use Rattle.std.proofs.Common.{◌≡◌, ℕ, suc, ◌+◌, ◌<◌, ◌≤◌, Bool, true, false, cond, List, [], ◌∷◌, ◌++◌, Option, Some, None, get_or, drop, length, refl, sym, ap, subst, ◌∙◌, arith}
use Rattle.std.specs.Option.{option_map}
use Rattle.std.specs.Str.{bytes_eq}
use Rattle.std.proofs.lemmas.Slice.Eq.{bytes_eq-Decides}
use Rattle.std.proofs.lemmas.List.{drop_all}
use Rattle.std.proofs.Math.Seq.{drop-cons}
use Rattle.fb_words.specs.declared.elem_type.ElemType.{ElemType}
use Rattle.fb_model.specs.Names.{Name}
use Rattle.fb_model.specs.System.{Variable}
use Rattle.fb_model.specs.NetworkTyping.{variable_named}
use Rattle.fb_model.specs.Services.{digits, ports}
use Rattle.fb_types_services.specs.Views.{typed_as}

same_bool : (a b : Bool) → (a ≡ true → b ≡ true) → (b ≡ true → a ≡ true) → a ≡ b
same_bool true b f g = sym (f refl)
same_bool false true f g = g refl
same_bool false false f g = refl

cancel : (prefix xs ys : List ℕ) → prefix ++ xs ≡ prefix ++ ys → xs ≡ ys
cancel [] xs ys e = e
cancel (c ∷ prefix) xs ys e = let h : prefix ++ xs ≡ prefix ++ ys = cc in cancel prefix xs ys h

-- names that begin alike are alike where the rest is
pub prefixed : (prefix xs ys : List ℕ) → bytes_eq (prefix ++ xs) (prefix ++ ys) ≡ bytes_eq xs ys
prefixed prefix xs ys =
    same_bool (bytes_eq (prefix ++ xs) (prefix ++ ys)) (bytes_eq xs ys)
    (λ e. (bytes_eq-Decides xs ys).1 (cancel prefix xs ys ((bytes_eq-Decides (prefix ++ xs) (prefix ++ ys)).0 e)))
    (λ e. (bytes_eq-Decides (prefix ++ xs) (prefix ++ ys)).1 (ap (λ l. prefix ++ l) ((bytes_eq-Decides xs ys).0 e)))

abbrev pub named_by : List ℕ → ℕ → Name
named_by prefix n = prefix ++ digits n

-- what stands behind the first i ports
abbrev pub Rest : List ElemType → List ℕ → Name → ℕ → Type 0
Rest types prefix x i = variable_named (ports (named_by prefix) (i + 1) (drop i types)) x ≡ variable_named (ports (named_by prefix) 1 types) x

module _ (types : List ElemType) (prefix x rest : List ℕ) (is : x ≡ prefix ++ rest) where
  alike : (n : ℕ) (b : Bool) → bytes_eq rest (digits n) ≡ b → bytes_eq x (named_by prefix n) ≡ b
  alike n b e = subst (λ y. bytes_eq y (named_by prefix n) ≡ b) (sym is) (prefixed prefix rest (digits n) ∙ e)

  split : (i : ℕ) (d : ElemType) → i < length types → drop i types ≡ get_or types i d ∷ drop (i + 1) types
  split i d l = drop-cons types i d l ∙ ap (λ n. get_or types i d ∷ drop n types) (next i) where
    next : (i : ℕ) → suc i ≡ i + 1
    next i = omega arith

  abbrev variable : (i : ℕ) (d : ElemType) → Variable
  variable i d = record { name = named_by prefix (i + 1); type = get_or types i d; length = None; start = None }

  abbrev beyond : (i : ℕ) → Option Variable
  beyond i = variable_named (ports (named_by prefix) (i + 1 + 1) (drop (i + 1) types)) x

  shown : (i : ℕ) (d : ElemType) → i < length types → Rest types prefix x i → (b : Bool) → bytes_eq rest (digits (i + 1)) ≡ b
      → cond b (Some (variable i d)) (beyond i) ≡ variable_named (ports (named_by prefix) 1 types) x
  shown i d l h b e =
      sym (ap (λ b. cond b (Some (variable i d)) (beyond i)) (alike (i + 1) b e))
      ∙ (ap (λ l. variable_named (ports (named_by prefix) (i + 1) l) x) (sym (split i d l)) ∙ h)

  -- it is the next port
  pub port_here : (i : ℕ) (d : ElemType) → i < length types → bytes_eq rest (digits (i + 1)) ≡ true → Rest types prefix x i
      → typed_as (Some (get_or types i d)) (variable_named (ports (named_by prefix) 1 types) x)
  port_here i d l e h = ap (option_map (λ v. v.type)) (shown i d l h true e)

  -- it is another
  pub port_past : (i : ℕ) (d : ElemType) → i < length types → bytes_eq rest (digits (i + 1)) ≡ false → Rest types prefix x i → Rest types prefix x (i + 1)
  port_past i d l e h = shown i d l h false e

  -- there is none
  pub port_none : (i : ℕ) → length types ≤ i → Rest types prefix x i → typed_as None (variable_named (ports (named_by prefix) 1 types) x)
  port_none i l h = ap (option_map (λ v. v.type)) (sym (ap (λ l. variable_named (ports (named_by prefix) (i + 1) l) x) (drop_all i types l)) ∙ h)

-- a name that does not begin so is no port's
pub not_prefixed : (types : List ElemType) (prefix x : List ℕ) (n : ℕ) → ((rest : List ℕ) → x ≡ prefix ++ rest → ⊥) → variable_named (ports (named_by prefix) n types) x ≡ None
not_prefixed [] prefix x n never = refl
not_prefixed (of ∷ types) prefix x n never = by (bytes_eq x (named_by prefix n)) refl (not_prefixed types prefix x (n + 1) never) where
  by : (b : Bool) → bytes_eq x (named_by prefix n) ≡ b → variable_named (ports (named_by prefix) (n + 1) types) x ≡ None
      → cond b (Some (record { name = named_by prefix n; type = of; length = None; start = None })) (variable_named (ports (named_by prefix) (n + 1) types) x) ≡ None
  by true e h = absurd (never (digits n) ((bytes_eq-Decides x (named_by prefix n)).0 e))
  by false e h = h
