-- A line says no more than a turn takes.
use Rattle.std.proofs.Common.{◌≡◌, ◌==◌, ◌≤◌, ◌&&◌, ℕ, Bool, true, false, if◌then◌else◌, nat_le, List, [], ◌∷◌, ◌++◌, length, Option, None, Some, Result, Ok, Err, codes, refl, sym, ap, subst, ◌∙◌, arith}
use Rattle.std.specs.List.{AllByRecursion}
use Rattle.std.specs.Option.{option_and_then, option_map}
use Rattle.std.specs.Str.{bytes_eq}
use Rattle.std.proofs.lemmas.Bool.{leb-true}
use Rattle.hex.specs.Hex.{decode_of}
use Rattle.hex.specs.declared.error.FromHexError.{FromHexError}
use Rattle.fb_numbers.specs.Numbers.{wide_number_in}
use Rattle.fb_record.specs.Records.{Came, Entry, IsPlayable, after, came_in, datagram_in, entry_in, entry_with, few_in, is_few, is_within, nothing_came, short_in, turn_in, with_first}

abbrev IsShort : List (List ℕ) → Type 0
IsShort ds = AllByRecursion (λ d. length d ≤ 160) ds

short : (r : Result (List ℕ) FromHexError) (d : List ℕ) → short_in r ≡ Some d → length d ≤ 160
short (Ok bytes) d e = by (nat_le (length bytes) 160) refl e
  where
    by : (b : Bool) → nat_le (length bytes) 160 ≡ b → (if b then Some bytes else None) ≡ Some d → length d ≤ 160
    by true s k = subst (λ x. length x ≤ 160) (let i : bytes ≡ d = cc in i) (leb-true (length bytes) 160 s)
    by false s k = absurd cc
short (Err f) d e = absurd cc

short_datagram : (word d : List ℕ) → datagram_in word ≡ Some d → length d ≤ 160
short_datagram word d e = by (bytes_eq word (codes "-")) e
  where
    by : (b : Bool) → (if b then Some [] else short_in (decode_of word)) ≡ Some d → length d ≤ 160
    by true k = subst (λ x. length x ≤ 160) (let i : [] ≡ d = cc in i) (omega arith)
    by false k = short (decode_of word) d k

first_short : (d : Option (List ℕ)) (rest : Option Came) (c : Came) → ((x : List ℕ) → d ≡ Some x → length x ≤ 160) → ((x : Came) → rest ≡ Some x → IsShort x.datagrams) → with_first d rest ≡ Some c → IsShort c.datagrams
first_short None rest c one others e = absurd cc
first_short (Some d) None c one others e = absurd cc
first_short (Some d) (Some rest) c one others e = subst (λ x. IsShort x.datagrams) (let i : after (d ∷ []) rest ≡ c = cc in i) (one d refl, others rest refl)

by_word : (b : Bool) (word : List ℕ) (words : List (List ℕ)) (c : Came) → ((x : Came) → came_in words ≡ Some x → IsShort x.datagrams)
    → (if b then Some (nothing_came true) else with_first (datagram_in word) (came_in words)) ≡ Some c → IsShort c.datagrams
by_word true word words c others k = subst (λ x. IsShort x.datagrams) (let i : nothing_came true ≡ c = cc in i) tt
by_word false word words c others k = first_short (datagram_in word) (came_in words) c (short_datagram word) others k

all_short : (words : List (List ℕ)) (c : Came) → came_in words ≡ Some c → IsShort c.datagrams
all_short [] c e = subst (λ x. IsShort x.datagrams) (let i : nothing_came false ≡ c = cc in i) tt
all_short (word ∷ words) c e = by_word (bytes_eq word (codes "down") && (length words == 0)) word words c (all_short words) e

few : (came : Option Came) (c : Came) → option_and_then few_in came ≡ Some c → (came ≡ Some c) × (is_few c ≡ true)
few None c e = absurd cc
few (Some x) c e = by (is_few x) refl e
  where
    by : (b : Bool) → is_few x ≡ b → (if b then Some x else None) ≡ Some c → (Some x ≡ Some c) × (is_few c ≡ true)
    by true s k = (k, subst (λ y. is_few y ≡ true) (let i : x ≡ c = cc in i) s)
    by false s k = absurd cc

with_both : (now : Option ℕ) (came : Option Came) (e : Entry) → entry_with now came ≡ Some e → ((c : Came) → came ≡ Some c → IsShort c.datagrams × (is_few c ≡ true)) → IsPlayable e
with_both None came e k h = absurd cc
with_both (Some n) None e k h = absurd cc
with_both (Some n) (Some c) e k h =
    let p = h c refl in
    subst IsPlayable (let i : record { now = n; datagrams = c.datagrams; down = c.down } ≡ e = cc in i) (record { few = p.1; short = p.0 })

-- a turn that a line says
pub playable : (words : List (List ℕ)) (e : Entry) → entry_in words ≡ Some e → IsPlayable e
playable [] e k = absurd cc
playable (verb ∷ []) e k = absurd cc
playable (verb ∷ now ∷ words) e k = by (bytes_eq verb (codes "turn")) k
  where
    by : (b : Bool) → (if b then turn_in now words else None) ≡ Some e → IsPlayable e
    by true t = with_both (wide_number_in now) (option_and_then few_in (came_in words)) e t (λ c h. let f = few (came_in words) c h in (all_short words c f.0, f.1))
    by false t = absurd cc
