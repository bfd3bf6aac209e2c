-- What words say has come, word by word.
use Rattle.std.proofs.Common.{◌≡◌, ℕ, ◌+◌, ◌-◌, ◌<◌, ◌==◌, ◌&&◌, Bool, true, false, List, [], ◌∷◌, ◌++◌, map, length, drop, Option, Some, None, refl, sym, ap, subst, ◌∙◌, arith, append_assoc, Bor}
use Rattle.std.specs.Prelude.{codes, slice_index_or}
use Rattle.std.specs.Option.{option_map}
use Rattle.std.specs.Str.{bytes_eq}
use Rattle.std.proofs.lemmas.List.{drop_more, length-map, length-drop}
use Rattle.fb_record.specs.Records.{Came, after, came_in, datagram_in, nothing_came, with_first}

-- a word that is not the last `down` says a datagram, or nothing
pub came_more : (w : List ℕ) (ws : List (List ℕ)) → (bytes_eq w (codes "down") && (length ws == 0)) ≡ false → came_in (w ∷ ws) ≡ with_first (datagram_in w) (came_in ws)
came_more w ws h = rw h refl

pub came_down : (w : List ℕ) (ws : List (List ℕ)) → (bytes_eq w (codes "down") && (length ws == 0)) ≡ true → came_in (w ∷ ws) ≡ Some (nothing_came true)
came_down w ws h = rw h refl

twice : (ds : List (List ℕ)) (d : List ℕ) (o : Option Came) → option_map (after ds) (option_map (after (d ∷ [])) o) ≡ option_map (after (ds ++ d ∷ [])) o
twice ds d (Some came) = ap (λ all. Some (record { datagrams = all; down = came.down })) (sym (append_assoc ds (d ∷ []) came.datagrams))
twice ds d None = refl

-- one datagram more
pub said_more : (all : Option Came) (ds : List (List ℕ)) (w : List ℕ) (ws : List (List ℕ)) (d : List ℕ) → all ≡ option_map (after ds) (came_in (w ∷ ws)) → (bytes_eq w (codes "down") && (length ws == 0)) ≡ false → Some d ≡ datagram_in w
    → all ≡ option_map (after (ds ++ d ∷ [])) (came_in ws)
said_more all ds w ws d h other e = h ∙ ap (option_map (after ds)) (came_more w ws other ∙ ap (λ o. with_first o (came_in ws)) (sym e)) ∙ twice ds d (came_in ws)

-- a word that says nothing
pub said_none : (all : Option Came) (ds : List (List ℕ)) (w : List ℕ) (ws : List (List ℕ)) → all ≡ option_map (after ds) (came_in (w ∷ ws)) → (bytes_eq w (codes "down") && (length ws == 0)) ≡ false → None ≡ datagram_in w → None ≡ all
said_none all ds w ws h other e = sym (h ∙ ap (option_map (after ds)) (came_more w ws other ∙ ap (λ o. with_first o (came_in ws)) (sym e)))

module _ (ws : List (Bor (List ℕ))) (k : ℕ) (none : Bor (List ℕ)) (here : k < length ws) where
  abbrev word : List ℕ
  word = (slice_index_or ws k none).now

  abbrev behind : List (List ℕ)
  behind = map (λ w. w.now) (drop (k + 1) ws)

  apart : map (λ w. w.now) (drop k ws) ≡ word ∷ behind
  apart = ap (map (λ (w : Bor (List ℕ)). w.now)) (drop_more ws k none here)

  is_left : (left : ℕ) → left + k ≡ length ws → length behind ≡ left - 1
  is_left left e = omega (arith, length-map (drop (k + 1) ws) (λ (w : Bor (List ℕ)). w.now), length-drop (k + 1) ws, here)

  no_end : (left : ℕ) (is : Bool) → left + k ≡ length ws → is ≡ (bytes_eq word (codes "down") && (left - 1 == 0)) → is ≡ false → (bytes_eq word (codes "down") && (length behind == 0)) ≡ false
  no_end left is e said other = ap (λ n. bytes_eq word (codes "down") && (n == 0)) (is_left left e) ∙ sym said ∙ other

  -- one word more of a slice says a datagram
  pub more_at : (all : Option Came) (ds : List (List ℕ)) (left : ℕ) (is : Bool) (d : List ℕ) → all ≡ option_map (after ds) (came_in (map (λ w. w.now) (drop k ws))) → left + k ≡ length ws
      → is ≡ (bytes_eq word (codes "down") && (left - 1 == 0)) → is ≡ false → Some d ≡ datagram_in word → all ≡ option_map (after (ds ++ d ∷ [])) (came_in behind)
  more_at all ds left is d h e said other at = said_more all ds word behind d (h ∙ ap (λ l. option_map (after ds) (came_in l)) apart) (no_end left is e said other) at

  -- or nothing
  pub none_at : (all : Option Came) (ds : List (List ℕ)) (left : ℕ) (is : Bool) → all ≡ option_map (after ds) (came_in (map (λ w. w.now) (drop k ws))) → left + k ≡ length ws
      → is ≡ (bytes_eq word (codes "down") && (left - 1 == 0)) → is ≡ false → None ≡ datagram_in word → None ≡ all
  none_at all ds left is h e said other at = said_none all ds word behind (h ∙ ap (λ l. option_map (after ds) (came_in l)) apart) (no_end left is e said other) at
