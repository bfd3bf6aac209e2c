-- The lists of the statements' code, as gathered ones.
use Rattle.std.proofs.Common.{◌≡◌, ℤ, List, [], ◌∷◌, ◌++◌, Ok, refl, sym, ap, ◌∙◌}
use Rattle.fb_words.specs.declared.elem_type.ElemType.{ElemType}
use Rattle.fb_model.specs.Names.{Name}
use Rattle.fb_model.specs.StructuredText.{Label, Statement, statements, Branch, branches, Arm, arms}
use Rattle.fb_model.specs.TypedText.{Command, done, then_do, Choices, no_choice, choice, Cases, no_case, a_case}
use Rattle.fb_model.specs.TextTyping.{Symbol}
use Rattle.st_types.specs.Elaborating.{◌>>=◌, condition}
use Rattle.st_types.specs.Commanding.{label_of, labels_of, commanded, all_commanded, chosen, cased, one_chosen, one_cased}
use Rattle.st_types.specs.CommandViews.{Chosen, Cased, then_all, all_choices, all_cases}
use Rattle.st_types.proofs.Steps.{bind_again, bind_same}
use Rattle.st_types.proofs.Gathering.{gathered, Left}

-- ---- labels

abbrev pub put_label : ℤ × ℤ → List (ℤ × ℤ) → List (ℤ × ℤ)
put_label r rs = r ∷ rs

abbrev pub lay_labels : List (ℤ × ℤ) → List (ℤ × ℤ) → List (ℤ × ℤ)
lay_labels xs ys = xs ++ ys

pub labels_gathered : (a : ElemType) (ls : List Label) → labels_of a ls ≡ gathered (label_of a) [] put_label ls
labels_gathered a [] = refl
labels_gathered a (l ∷ ls) = bind_same (label_of a l) (λ r. labels_of a ls >>= λ rs. Ok (r ∷ rs)) (λ r. gathered (label_of a) [] put_label ls >>= λ rs. Ok (r ∷ rs)) (λ r. ap (λ q. q >>= λ rs. Ok (r ∷ rs)) (labels_gathered a ls))

abbrev pub LabelsLeft : ElemType → List Label → List (ℤ × ℤ) → List Label → Type 0
LabelsLeft a = Left (label_of a) [] put_label lay_labels (λ r. refl) (λ c cs r. refl)

-- ---- statements

pub commands_gathered : (env : List Symbol) (busy : List Name) (xs : List Statement) → all_commanded env busy (statements xs) ≡ gathered (commanded env busy) done then_do xs
commands_gathered env busy [] = refl
commands_gathered env busy (x ∷ xs) =
    bind_same (commanded env busy x) (λ c. all_commanded env busy (statements xs) >>= λ cs. Ok (then_do c cs)) (λ c. gathered (commanded env busy) done then_do xs >>= λ cs. Ok (then_do c cs))
    (λ c. ap (λ q. q >>= λ cs. Ok (then_do c cs)) (commands_gathered env busy xs))

abbrev pub CommandsLeft : List Symbol → List Name → List Statement → List Command → List Statement → Type 0
CommandsLeft env busy = Left (commanded env busy) done then_do then_all (λ r. refl) (λ c cs r. refl)

-- ---- branches

abbrev pub put_choice : Chosen → Choices → Choices
put_choice c cs = choice c.0 c.1 cs

pub choices_gathered : (env : List Symbol) (busy : List Name) (bs : List Branch) → chosen env busy (branches bs) ≡ gathered (one_chosen env busy) no_choice put_choice bs
choices_gathered env busy [] = refl
choices_gathered env busy (b ∷ bs) =
    let rest = gathered (one_chosen env busy) no_choice put_choice bs in
    bind_same (condition env b.0 b.1) (λ y. all_commanded env busy b.2 >>= λ c. chosen env busy (branches bs) >>= λ cs. Ok (choice y c cs)) (λ y. all_commanded env busy b.2 >>= λ c. rest >>= λ cs. Ok (choice y c cs))
    (λ y. ap (λ q. all_commanded env busy b.2 >>= λ c. q >>= λ cs. Ok (choice y c cs)) (choices_gathered env busy bs))
    ∙ sym (bind_again (condition env b.0 b.1) (λ y. all_commanded env busy b.2 >>= λ c. Ok (y, c)) (λ (c : Chosen). rest >>= λ cs. Ok (put_choice c cs))
    ∙ bind_same (condition env b.0 b.1) (λ y. (all_commanded env busy b.2 >>= λ c. Ok (y, c)) >>= λ (c : Chosen). rest >>= λ cs. Ok (put_choice c cs)) (λ y. all_commanded env busy b.2 >>= λ c. rest >>= λ cs. Ok (choice y c cs))
    (λ y. bind_again (all_commanded env busy b.2) (λ c. Ok (y, c)) (λ (c : Chosen). rest >>= λ cs. Ok (put_choice c cs))))

abbrev pub ChoicesLeft : List Symbol → List Name → List Branch → List Chosen → List Branch → Type 0
ChoicesLeft env busy = Left (one_chosen env busy) no_choice put_choice all_choices (λ r. refl) (λ c cs r. refl)

-- ---- arms

abbrev pub put_case : Cased → Cases → Cases
put_case c cs = a_case c.0 c.1 cs

pub cases_gathered : (env : List Symbol) (busy : List Name) (a : ElemType) (bs : List Arm) → cased env busy a (arms bs) ≡ gathered (one_cased env busy a) no_case put_case bs
cases_gathered env busy a [] = refl
cases_gathered env busy a (b ∷ bs) =
    let rest = gathered (one_cased env busy a) no_case put_case bs in
    bind_same (labels_of a b.0) (λ y. all_commanded env busy b.1 >>= λ c. cased env busy a (arms bs) >>= λ cs. Ok (a_case y c cs)) (λ y. all_commanded env busy b.1 >>= λ c. rest >>= λ cs. Ok (a_case y c cs))
    (λ y. ap (λ q. all_commanded env busy b.1 >>= λ c. q >>= λ cs. Ok (a_case y c cs)) (cases_gathered env busy a bs))
    ∙ sym (bind_again (labels_of a b.0) (λ y. all_commanded env busy b.1 >>= λ c. Ok (y, c)) (λ (c : Cased). rest >>= λ cs. Ok (put_case c cs))
    ∙ bind_same (labels_of a b.0) (λ y. (all_commanded env busy b.1 >>= λ c. Ok (y, c)) >>= λ (c : Cased). rest >>= λ cs. Ok (put_case c cs)) (λ y. all_commanded env busy b.1 >>= λ c. rest >>= λ cs. Ok (a_case y c cs))
    (λ y. bind_again (all_commanded env busy b.1) (λ c. Ok (y, c)) (λ (c : Cased). rest >>= λ cs. Ok (put_case c cs))))

abbrev pub CasesLeft : List Symbol → List Name → ElemType → List Arm → List Cased → List Arm → Type 0
CasesLeft env busy a = Left (one_cased env busy a) no_case put_case all_cases (λ r. refl) (λ c cs r. refl)
