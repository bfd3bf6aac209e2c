-- Names between dots, read back from a path in one text.
use Rattle.std.proofs.Common.{◌≡◌, ℕ, Bool, true, false, List, [], ◌∷◌, ◌++◌, append_assoc, sym, refl, ap, subst, ◌∙◌, cond}
use Rattle.std.specs.Prelude.{◌==◌}
use Rattle.std.specs.List.{onto_first}
use Rattle.std.proofs.lemmas.Bool.{eqb-true}
use Rattle.std.proofs.lemmas.List.{append-nil}
use Rattle.fb_model.specs.Names.{Name, Path, at_place}
use Rattle.fb_model.specs.Spelling.{is_part, is_start, IsParts, part, IsWord, word, AreWords}
use Rattle.fb_model.specs.CertificateText.{names_in, place_of, all_but_last, last_name}
use Rattle.fb_flat.specs.Sites.{dotted, dotted_on, text_of}

-- a part has no dot
no_dot : (c : ℕ) → is_part c ≡ true → (c == 46) ≡ false
no_dot c h = by (c == 46) refl where
  by : (b : Bool) → (c == 46) ≡ b → b ≡ false
  by false e = refl
  by true e = absurd (let dot : c ≡ 46 = eqb-true c 46 e in let f : is_part 46 ≡ true = subst (λ x. is_part x ≡ true) dot h in let g : false ≡ true = f in cc)

start_is_part : (c : ℕ) → is_start c ≡ true → is_part c ≡ true
start_is_part c h = rw h refl

parts_alone : (cs : List ℕ) → IsParts cs → names_in cs ≡ cs ∷ []
parts_alone [] h = refl
parts_alone (c ∷ cs) (part e h) = ap (λ b. cond b ([] ∷ names_in cs) (onto_first c (names_in cs))) (no_dot c e) ∙ ap (onto_first c) (parts_alone cs h)

-- a word is one name
pub word_alone : (cs : List ℕ) → IsWord cs → names_in cs ≡ cs ∷ []
word_alone [] h = elim h [ ]
word_alone (c ∷ cs) (word e h) = parts_alone (c ∷ cs) (part (start_is_part c e) h)

-- a text has one name at least
pub data HasSome : Path → Type 0 where
  has_some : {n : Name} {ns : Path} → HasSome (n ∷ ns)

names_some : (cs : List ℕ) → HasSome (names_in cs)
names_some [] = has_some
names_some (c ∷ cs) = by (c == 46) (names_in cs) (names_some cs) where
  by : (b : Bool) (ns : Path) → HasSome ns → HasSome (cond b ([] ∷ ns) (onto_first c ns))
  by true ns h = has_some
  by false [] h = elim h [ ]
  by false (n ∷ ns) h = has_some

onto_both : (c : ℕ) (ns ms : Path) → HasSome ns → onto_first c (ns ++ ms) ≡ onto_first c ns ++ ms
onto_both c [] ms h = elim h [ ]
onto_both c (n ∷ ns) ms h = refl

-- behind a dot other names begin
pub split_at_dot : (p n : List ℕ) → names_in (dotted p n) ≡ names_in p ++ names_in n
split_at_dot [] n = refl
split_at_dot (c ∷ p) n = ap (λ ns. cond (c == 46) ([] ∷ ns) (onto_first c ns)) (split_at_dot p n) ∙ by (c == 46) where
  by : (b : Bool) → cond b ([] ∷ (names_in p ++ names_in n)) (onto_first c (names_in p ++ names_in n)) ≡ cond b ([] ∷ names_in p) (onto_first c (names_in p)) ++ names_in n
  by true = refl
  by false = onto_both c (names_in p) (names_in n) (names_some p)

-- a word behind a dot is one more name
pub names_dotted : (p n : List ℕ) → IsWord n → names_in (dotted p n) ≡ names_in p ++ n ∷ []
names_dotted p n h = split_at_dot p n ∙ ap (λ ns. names_in p ++ ns) (word_alone n h)

-- words behind dots are as many names more
pub names_on : (text : Name) (ns : List Name) → AreWords ns → names_in (dotted_on text ns) ≡ names_in text ++ ns
names_on text [] h = sym (append-nil (names_in text))
names_on text (n ∷ ns) h = names_on (dotted text n) ns h.1 ∙ ap (λ p. p ++ ns) (names_dotted text n h.0) ∙ append_assoc (names_in text) (n ∷ []) ns

-- a path of words is read back from its text
pub names_back : (n : Name) (ns : List Name) → IsWord n → AreWords ns → names_in (text_of (n ∷ ns)) ≡ n ∷ ns
names_back n ns w h = names_on n ns h ∙ ap (λ p. p ++ ns) (word_alone n w)

-- ---- places

front : (ns : Path) (n : Name) → all_but_last (ns ++ n ∷ []) ≡ ns
front [] n = refl
front (m ∷ []) n = refl
front (m ∷ o ∷ ns) n = ap (λ z. m ∷ z) (front (o ∷ ns) n)

back : (ns : Path) (n : Name) → last_name (ns ++ n ∷ []) ≡ n
back [] n = refl
back (m ∷ []) n = refl
back (m ∷ o ∷ ns) n = back (o ∷ ns) n

-- the place of a word behind a path
pub placed_at : (p n : Name) → IsWord n → place_of (dotted p n) ≡ at_place (names_in p) n
placed_at p n h =
    let e = names_dotted p n h in
    ap (λ ns. at_place (all_but_last ns) (last_name ns)) e ∙ ap (λ ns. at_place ns (last_name (names_in p ++ n ∷ []))) (front (names_in p) n) ∙ ap (at_place (names_in p)) (back (names_in p) n)
