-- Lines that are put over lines of the same names: nothing of these stays.
use Rattle.std.proofs.Common.{◌≡◌, ℕ, Bool, true, false, ◌||◌, List, [], ◌∷◌, map, refl, sym, ap, ◌∙◌, if◌then◌else◌}
use Rattle.std.proofs.Math.Path.{fun_ext}
use Rattle.std.specs.Str.{bytes_eq}
use Rattle.fb_model.specs.Names.{Name, is_in}
use Rattle.fb_model.specs.Clear.{Spans, changed}
use Rattle.fb_model.proofs.Names.{eq_turned}
use Rattle.fb_find_ranges.specs.Lines.{Line, Tabled, line_names, next_line, put}

abbrev with_line : Line → Spans → Spans
with_line l spans = changed l.name (λ r. l.range) spans

-- where two tables agree on a name, they still do
put_same : (ls : List Line) (x : Name) (one other : Spans) → one x ≡ other x → put ls one x ≡ put ls other x
put_same [] x one other e = e
put_same (l ∷ ls) x one other e = put_same ls x (with_line l one) (with_line l other) (by (bytes_eq l.name x)) where
  by : (b : Bool) → (if b then l.range else one x) ≡ (if b then l.range else other x)
  by true = refl
  by false = e

-- whatever a name that is put had before
put_named : (ls : List Line) (x : Name) (one other : Spans) → is_in x (line_names ls) ≡ true → put ls one x ≡ put ls other x
put_named [] x one other h = absurd cc
put_named (l ∷ ls) x one other h = by (bytes_eq x l.name) refl h (put_named ls x (with_line l one) (with_line l other)) where
  here : (b : Bool) → b ≡ true → (if b then l.range else one x) ≡ (if b then l.range else other x)
  here true d = refl
  here false d = absurd cc

  by : (b : Bool) → bytes_eq x l.name ≡ b → (b || is_in x (line_names ls)) ≡ true → (is_in x (line_names ls) ≡ true → put ls (with_line l one) x ≡ put ls (with_line l other) x) → put ls (with_line l one) x ≡ put ls (with_line l other) x
  by true d h next = put_same ls x (with_line l one) (with_line l other) (here (bytes_eq l.name x) (eq_turned l.name x ∙ d))
  by false d h next = next h

-- another name keeps what it had
put_elsewhere : (ls : List Line) (x : Name) (base : Spans) → is_in x (line_names ls) ≡ false → put ls base x ≡ base x
put_elsewhere [] x base h = refl
put_elsewhere (l ∷ ls) x base h = by (bytes_eq x l.name) refl h (put_elsewhere ls x (with_line l base)) where
  here : (b : Bool) → b ≡ false → (if b then l.range else base x) ≡ base x
  here true d = absurd cc
  here false d = refl

  by : (b : Bool) → bytes_eq x l.name ≡ b → (b || is_in x (line_names ls)) ≡ false → (is_in x (line_names ls) ≡ false → put ls (with_line l base) x ≡ with_line l base x) → put ls (with_line l base) x ≡ base x
  by true d h next = absurd cc
  by false d h next = next h ∙ here (bytes_eq l.name x) (eq_turned l.name x ∙ d)

-- over lines of the same names it is as if these had not been put
pub put_again : (ls ms : List Line) (base before : Spans) → line_names ms ≡ line_names ls → before ≡ put ls base → put ms before ≡ put ms base
put_again ls ms base before names is = fun_ext (λ x. by x (is_in x (line_names ms)) refl) where
  by : (x : Name) (b : Bool) → is_in x (line_names ms) ≡ b → put ms before x ≡ put ms base x
  by x true h = put_named ms x before base h
  by x false h = put_elsewhere ms x before h ∙ ap (λ (s : Spans). s x) is ∙ put_elsewhere ls x base (sym (ap (is_in x) names) ∙ h) ∙ sym (put_elsewhere ms x base h)

names_stay : (n : ℕ) (ts : List Tabled) (t : Tabled) (ls : List Line) → line_names (map (next_line n ts t) ls) ≡ line_names ls
names_stay n ts t [] = refl
names_stay n ts t (l ∷ ls) = ap (λ xs. l.name ∷ xs) (names_stay n ts t ls)

-- the rows after a round have the names of those before
pub next_names : (n : ℕ) (ts : List Tabled) (t : Tabled) (ls ms : List Line) → ms ≡ map (next_line n ts t) ls → line_names ms ≡ line_names ls
next_names n ts t ls ms is = ap line_names is ∙ names_stay n ts t ls
