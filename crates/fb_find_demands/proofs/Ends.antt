-- The channels of tables, and their ends, are those of the book's leaves.
use Rattle.std.proofs.Common.{◌≡◌, ℕ, ◌+◌, ◌-◌, ◌<◌, ◌≤◌, ◌==◌, nat_lt, Bool, true, false, List, [], ◌∷◌, ◌++◌, append_assoc, length, map, drop, slice_index, Option, None, Some, refl, sym, ap, ap₂, ◌∙◌, arith, get_or, string_bytes, Bor, if◌then◌else◌}
use Rattle.std.proofs.lemmas.List.{drop-map}
use Rattle.fb_model.specs.Names.{Name}
use Rattle.fb_model.specs.CertificateText.{names_in}
use Rattle.fb_model.specs.Wires as wires
use Rattle.fb_model.specs.Certificates.{channel_in, with_number, channels_of}
use Rattle.fb_flat.specs.declared.flat.Leaf.{Leaf}
use Rattle.fb_flat.specs.Leaves.{kind_of}
use Rattle.fb_flat.specs.Tables.{AreLeaves}
use Rattle.fb_find_demands.proofs.Loops.{rest_got, rest_of, drop_all}
use Rattle.fb_find_demands.specs.Ends.{names_channel, end_of, with_channel, channels_in, end_in}

pub channels_are : (ls : List Leaf) (bs : List wires.Leaf) → AreLeaves ls bs → channels_in ls ≡ channels_of bs
channels_are [] [] a = refl
channels_are [] (b ∷ bs) a = absurd a
channels_are (l ∷ ls) [] a = absurd a
channels_are (l ∷ ls) (b ∷ bs) a = ap₂ with_channel (ap channel_in a.0.kind) (channels_are ls bs a.1) ∙ by (channel_in b.kind) where
  by : (o : Option ℕ) → with_channel o (channels_of bs) ≡ elim o [ None ↦ channels_of bs | Some c ↦ with_number c (channels_of bs) ]
  by None = refl
  by (Some c) = refl

end_same : (c : ℕ) (ls : List Leaf) (bs : List wires.Leaf) → AreLeaves ls bs → names_in (end_in ls c) ≡ end_of bs c
end_same c [] [] a = refl
end_same c [] (b ∷ bs) a = absurd a
end_same c (l ∷ ls) [] a = absurd a
end_same c (l ∷ ls) (b ∷ bs) a = by (names_channel c (channel_in (kind_of l.body))) (end_same c ls bs a.1) ∙ ap (λ k. if names_channel c (channel_in k) then b.path else end_of bs c) a.0.kind where
  by : (w : Bool) → names_in (end_in ls c) ≡ end_of bs c → names_in (if w then string_bytes l.path else end_in ls c) ≡ (if w then b.path else end_of bs c)
  by true h = a.0.path
  by false h = h

pub ends_are : (ls : List Leaf) (bs : List wires.Leaf) → AreLeaves ls bs → (ends : List Name) (cs : List ℕ) → ends ≡ map (end_in ls) cs → map names_in ends ≡ map (end_of bs) cs
ends_are ls bs a ends cs e = ap (map names_in) e ∙ each cs where
  each : (cs : List ℕ) → map names_in (map (end_in ls) cs) ≡ map (end_of bs) cs
  each [] = refl
  each (c ∷ cs) = ap₂ (λ p ps. p ∷ ps) (end_same c ls bs a) (each cs)

-- ---- a number at its place

numbered_at : (n m : ℕ) (ms : List ℕ) (b c : Bool) → (n == m) ≡ b → nat_lt n m ≡ c → with_number n (m ∷ ms) ≡ (if b then m ∷ ms else if c then n ∷ m ∷ ms else m ∷ with_number n ms)
numbered_at n m ms b c e f = ap₂ (λ x y. if x then m ∷ ms else if y then n ∷ m ∷ ms else m ∷ with_number n ms) e f

pub stands_at : (n : ℕ) (xs : List ℕ) (i : ℕ) → i < length xs → (n == slice_index xs i) ≡ true → drop i xs ≡ with_number n (drop i xs)
stands_at n xs i l t = let e = rest_got xs i 0 l in let m = slice_index xs i in e ∙ sym (ap (with_number n) e ∙ numbered_at n m (drop (i + 1) xs) true (nat_lt n m) t refl)

pub stands_before : (n : ℕ) (xs : List ℕ) (i : ℕ) → i < length xs → (n == slice_index xs i) ≡ false → nat_lt n (slice_index xs i) ≡ true → n ∷ drop i xs ≡ with_number n (drop i xs)
stands_before n xs i l t b = let e = rest_got xs i 0 l in let m = slice_index xs i in ap (λ ys. n ∷ ys) e ∙ sym (ap (with_number n) e ∙ numbered_at n m (drop (i + 1) xs) false true t b)

pub stands_behind : (n : ℕ) (xs : List ℕ) (i : ℕ) → i < length xs → (n == slice_index xs i) ≡ false → nat_lt n (slice_index xs i) ≡ false → with_number n (drop i xs) ≡ slice_index xs i ∷ with_number n (drop (i + 1) xs)
stands_behind n xs i l t b = let e = rest_got xs i 0 l in ap (with_number n) e ∙ numbered_at n (slice_index xs i) (drop (i + 1) xs) false false t b

-- a smaller number is passed
pub goes_on : (n : ℕ) (xs all new : List ℕ) (i : ℕ) → i < length xs → (n == slice_index xs i) ≡ false → nat_lt n (slice_index xs i) ≡ false → new ≡ all ++ slice_index xs i ∷ [] → all ++ with_number n (drop i xs) ≡ with_number n xs
    → new ++ with_number n (drop (i + 1) xs) ≡ with_number n xs
goes_on n xs all new i l t b p inv =
    let rest = with_number n (drop (i + 1) xs) in
    ap (λ ys. ys ++ rest) p ∙ (append_assoc all (slice_index xs i ∷ []) rest ∙ (ap (λ ys. all ++ ys) (sym (stands_behind n xs i l t b)) ∙ inv))

-- ---- the first end

pub end_here : (xs : List (Bor Leaf)) (i : ℕ) (x : Bor Leaf) (c : ℕ) → drop i xs ≡ x ∷ drop (i + 1) xs → names_channel c (channel_in (kind_of x.now.body)) ≡ true → end_in (map (λ l. l.now) (drop i xs)) c ≡ end_in (map (λ l. l.now) xs) c → string_bytes x.now.path ≡ end_in (map (λ l. l.now) xs) c
end_here xs i x c e t inv = ap (λ b. if b then string_bytes x.now.path else end_in (map (λ (l : Bor Leaf). l.now) (drop (i + 1) xs)) c) (sym t) ∙ (ap (λ ys. end_in (map (λ (l : Bor Leaf). l.now) ys) c) (sym e) ∙ inv)

pub end_later : (xs : List (Bor Leaf)) (i : ℕ) (x : Bor Leaf) (c : ℕ) → drop i xs ≡ x ∷ drop (i + 1) xs → names_channel c (channel_in (kind_of x.now.body)) ≡ false → end_in (map (λ l. l.now) (drop i xs)) c ≡ end_in (map (λ l. l.now) xs) c
    → end_in (map (λ l. l.now) (drop (i + 1) xs)) c ≡ end_in (map (λ l. l.now) xs) c
end_later xs i x c e t inv = ap (λ b. if b then string_bytes x.now.path else end_in (map (λ (l : Bor Leaf). l.now) (drop (i + 1) xs)) c) (sym t) ∙ (ap (λ ys. end_in (map (λ (l : Bor Leaf). l.now) ys) c) (sym e) ∙ inv)

pub end_none : (xs : List (Bor Leaf)) (i c : ℕ) → length xs ≤ i → end_in (map (λ l. l.now) (drop i xs)) c ≡ end_in (map (λ l. l.now) xs) c → [] ≡ end_in (map (λ l. l.now) xs) c
end_none xs i c l inv = ap (λ ys. end_in (map (λ (l : Bor Leaf). l.now) ys) c) (sym (drop_all xs i l)) ∙ inv

-- ---- from the end

-- the leaf so far from the end stands before those behind it
pub before_last : (xs : List (Bor Leaf)) (back j : ℕ) (x : Bor Leaf) → back < length xs → j ≡ length xs - 1 - back → x ≡ get_or xs j x → drop (length xs - (back + 1)) (map (λ l. l.now) xs) ≡ x.now ∷ drop (length xs - back) (map (λ l. l.now) xs)
before_last xs back j x l e is =
    let here : length xs - (back + 1) ≡ j = omega (arith, e, l) in
    let behind : length xs - back ≡ j + 1 = omega (arith, e, l) in
    ap (λ k. drop k (map (λ (l : Bor Leaf). l.now) xs)) here
    ∙ (drop-map (λ (l : Bor Leaf). l.now) j xs
    ∙ (ap (map (λ (l : Bor Leaf). l.now)) (rest_of xs j x (omega (arith, e, l)) is)
    ∙ (ap (λ ys. x.now ∷ ys) (sym (drop-map (λ (l : Bor Leaf). l.now) (j + 1) xs)) ∙ ap (λ k. x.now ∷ drop k (map (λ (l : Bor Leaf). l.now) xs)) (sym behind))))
