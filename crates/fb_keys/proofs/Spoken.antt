-- Lines of a file of keys, one after another.
use Rattle.std.proofs.Common.{◌≡◌, ℕ, ◌+◌, ◌<◌, List, [], ◌∷◌, map, length, drop, Result, Ok, Err, refl, sym, ap, ◌∙◌, Bor}
use Rattle.std.specs.Prelude.{slice_index_or}
use Rattle.std.proofs.lemmas.List.{drop_more}
use Rattle.fb_model.specs.CertificateText.{words}
use Rattle.fb_keys.specs.declared.keys.KeysFault.{KeysFault}
use Rattle.fb_keys.specs.declared.keys.KeysFault.TheVariants.{Memory, BadLine, Again, TooMany, NoOwn}
use Rattle.fb_keys.specs.Keys.{Gives, Read, line_in, lines_from, with_line}

module _ (ls : List (Bor (List ℕ))) (k : ℕ) (none : Bor (List ℕ)) (here : k < length ls) where
  abbrev line : List ℕ
  line = (slice_index_or ls k none).now

  abbrev behind : List (List ℕ)
  behind = map (λ w. w.now) (drop (k + 1) ls)

  apart : map (λ w. w.now) (drop k ls) ≡ line ∷ behind
  apart = ap (map (λ (w : Bor (List ℕ)). w.now)) (drop_more ls k none here)

  -- what is left goes on behind one line more
  pub goes_on : (n : ℕ) (r : Read) (all : Result Read KeysFault) → lines_from n (Ok r) (map (λ w. w.now) (drop k ls)) ≡ all
      → lines_from (n + 1) (with_line n r (line_in (words line))) behind ≡ all
  goes_on n r all h = sym (ap (lines_from n (Ok r)) apart) ∙ h

faulty : (n : ℕ) (f : KeysFault) (ls : List (List ℕ)) → lines_from n (Err f) ls ≡ Err f
faulty n f [] = refl
faulty n f (l ∷ ls) = refl

-- a line that is at fault is the fault of all
pub ends_with : (made : Read) (n : ℕ) (ls : List (List ℕ)) (one all : Result Read KeysFault) (f : KeysFault) → lines_from n one ls ≡ all
    → Gives {A = Unit {0}} (λ _. made) (Err f) one → Gives {A = Unit {0}} (λ _. made) (Err f) all
ends_with made n ls one all Memory h e = tt
ends_with made n ls one all (BadLine i) h e = sym h ∙ ap (λ r. lines_from n r ls) e ∙ faulty n (BadLine i) ls
ends_with made n ls one all (Again i) h e = sym h ∙ ap (λ r. lines_from n r ls) e ∙ faulty n (Again i) ls
ends_with made n ls one all (TooMany i) h e = sym h ∙ ap (λ r. lines_from n r ls) e ∙ faulty n (TooMany i) ls
ends_with made n ls one all NoOwn h e = sym h ∙ ap (λ r. lines_from n r ls) e ∙ faulty n NoOwn ls
