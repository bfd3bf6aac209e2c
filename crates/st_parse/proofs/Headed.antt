-- The laws of a first item and those behind it, once for all kinds of items.
use Rattle.std.proofs.Common.{◌≡◌, true, false, Bool, List, ◌∷◌, length, refl, arith, inl}
use Rattle.fb_model.specs.Tokens.{Token}
use Rattle.fb_model.specs.Productions.{Gram, IsMany}
use Rattle.fb_read.specs.Reading.{Read, all_at}
use Rattle.fb_read.proofs.Readers.{Meets, Sound, Gets, Complete, Shorter, meets_then, gets_then}
use Rattle.fb_read.proofs.Repetitions.{while_sound, while_complete}
use Rattle.fb_read.proofs.Steady.{Steady, SeesFirst, steady_then, steady_done}
use Rattle.fb_read.proofs.SteadyLists.{Shrinks, steady_all}
use Rattle.st_parse.specs.Reading.{headed}

-- a first item, and those behind it
pub data IsHeaded {A : Type 0} (x : A) (G : Gram A) : List Token → List A → List Token → Type 0 where
  a_head : {ts rest : List Token} {xs : List A} → IsMany G ts xs rest → IsHeaded x G ts (x ∷ xs) rest

pub headed_sound : {A : Type 0} (G : Gram A) (item : Read A) → Sound G item → (begins : List Token → Bool) (x : A) (ts : List Token) → Meets (IsHeaded x G ts) (headed x (all_at begins item ts))
headed_sound G item sound begins x ts = meets_then _ _ (all_at begins item ts) (while_sound G item sound begins (length ts) ts) (λ xs rest p. a_head p)

module _ {A : Type 0} (Deep : Type 0) (G : Gram A) (item : Read A) (short : Shorter G) (begins goes_on : List Token → Bool) (whole : Complete Deep goes_on G item)
    (first : (ts : List Token) (x : A) (rest : List Token) → G ts x rest → begins ts ≡ true) (apart : (ts : List Token) → begins ts ≡ true → goes_on ts ≡ false) where
  pub headed_complete : (x : A) (ts rest : List Token) (xs : List A) → IsMany G ts xs rest → begins rest ≡ false → goes_on rest ≡ false → Gets Deep (headed x (all_at begins item ts)) (x ∷ xs, rest)
  headed_complete x ts rest xs h e st = gets_then _ _ (all_at begins item ts) (xs, rest) (while_complete Deep G item short begins goes_on whole first apart (length ts) ts rest xs (omega arith) h e st) (inl refl)

pub steady_headed : {A : Type 0} (begins : List Token → Bool) → SeesFirst begins → (item : Read A) → Steady item → Shrinks item → (x : A) → Steady (λ ts. headed x (all_at begins item ts))
steady_headed begins sees item steady shrinks x = steady_then (all_at begins item) _ (steady_all item steady shrinks begins sees) (λ xs. steady_done (x ∷ xs))
