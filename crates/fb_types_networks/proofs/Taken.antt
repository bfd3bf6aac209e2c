-- Sets of ends.
use Rattle.std.proofs.Common.{◌≡◌, Bool, true, false, not, cond, ◌&&◌, ◌||◌, List, [], ◌∷◌, ◌++◌, map, Option, None, Some, refl, sym, ap, ◌∙◌, string_bytes}
use Rattle.std.specs.List.{list_any}
use Rattle.std.specs.Str.{bytes_eq}
use Rattle.std.specs.Option.{option_eq, option_map}
use Rattle.std.specs.declared.string.String.{String}
use Rattle.std.specs.declared.alloc.Global.{Global}
use Rattle.fb_types_networks.specs.contracts.typed.EndPartialEq.TheImpl.{eq-value}
use Rattle.std.proofs.lemmas.List.{map_push}
use Rattle.fb_model.specs.System.{End}
use Rattle.fb_model.specs.Wires.{is_own, is_end}
use Rattle.fb_model.specs.NetworkTyping.{is_taken}
use Rattle.fb_types_networks.specs.declared.typed.End.{End as Made}
use Rattle.fb_types_networks.specs.Views.{end_of}

module _ (eq : Made → Made → Bool) (same : (x y : Made) → eq x y ≡ is_end (end_of x).instance (end_of x).port (end_of y)) where
  any_same : (k : Made) (ks : List Made) → list_any (eq k) ks ≡ is_taken (map end_of ks) (end_of k)
  any_same k [] = refl
  any_same k (x ∷ ks) = ap (λ a. a || list_any (eq k) ks) (same k x) ∙ ap (λ b. is_end (end_of k).instance (end_of k).port (end_of x) || b) (any_same k ks)

  pub taken_added : (ks : List Made) (k : Made) (e : End) (said : Bool) → end_of k ≡ e → said ≡ not (list_any (eq k) ks) → said ≡ not (is_taken (map end_of ks) e)
  taken_added ks k e said is added = added ∙ ap not (any_same k ks ∙ ap (is_taken (map end_of ks)) is)

  pub taken_ends : (ks new : List Made) (k : Made) (e : End) (said : Bool) → end_of k ≡ e → said ≡ not (list_any (eq k) ks) → new ≡ cond (list_any (eq k) ks) ks (ks ++ k ∷ [])
      → map end_of new ≡ cond said (map end_of ks ++ e ∷ []) (map end_of ks)
  taken_ends ks new k e said is added keys = by (list_any (eq k) ks) added keys where
    by : (b : Bool) → said ≡ not b → new ≡ cond b ks (ks ++ k ∷ []) → map end_of new ≡ cond said (map end_of ks ++ e ∷ []) (map end_of ks)
    by true s n = rw (s, n) refl
    by false s n = rw (s, n, ← is) (map_push end_of ks k)

same_names : (a b : Option (String Global)) → option_eq (λ x y. bytes_eq (string_bytes x) (string_bytes y)) a b ≡ is_own (option_map string_bytes a) (option_map string_bytes b)
same_names None None = refl
same_names None (Some y) = refl
same_names (Some x) None = refl
same_names (Some x) (Some y) = refl

pub same_end : (x y : Made) → eq-value.it x y ≡ is_end (end_of x).instance (end_of x).port (end_of y)
same_end x y = ap (λ b. b && bytes_eq (string_bytes x.port) (string_bytes y.port)) (same_names x.instance y.instance)

pub taken_already : (b said : Bool) → said ≡ not b → said ≡ false → b ≡ true
taken_already true said e f = refl
taken_already false said e f = let h : false ≡ true = sym f ∙ e in absurd cc

pub newly : (b said : Bool) → said ≡ not b → said ≡ true → b ≡ false
newly false said e f = refl
newly true said e f = let h : true ≡ false = sym f ∙ e in absurd cc
