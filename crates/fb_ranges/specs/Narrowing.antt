-- What a relation says of the ranges, by what stands on its sides.
use Rattle.std.specs.Prelude.{ℤ, Bool, true, false, List, [], ◌∷◌, ◌++◌, Option, None, Some}
use Rattle.fb_words.specs.declared.operator.Operator.TheVariants as o
use Rattle.fb_words.specs.declared.operator.Operation.{Operation}
use Rattle.fb_words.specs.declared.operator.Operation.TheVariants.{Infix}
use Rattle.fb_model.specs.Names.{Name}
use Rattle.fb_model.specs.TypedText.{Term, constant, read, part, single, double}
use Rattle.st_types.specs.Views.{Tail}

-- the number that a term is
abbrev pub number_in : Term → Option ℤ
number_in (constant k) = Some k
number_in e = None

-- the variable that a term is
abbrev pub variable_in : Term → Option Name
variable_in (read x) = Some x
variable_in e = None

-- both operands of AND hold where it is true, and neither of OR where it is false
abbrev pub splits : Bool → Operation → Bool
splits true (Infix o.And) = true
splits false (Infix o.Or) = true
splits b f = false

-- the variables that a term reads, but for arrays and their indices
abbrev pub read_in : Term → List Name
read_in (constant k) = []
read_in (read x) = x ∷ []
read_in (part x low high i) = []
read_in (single f a e) = read_in e
read_in (double f a e g) = read_in e ++ read_in g

-- those that the second operands of a chain read
abbrev pub read_behind : List Tail → List Name
read_behind [] = []
read_behind (l ∷ ls) = read_in l.2 ++ read_behind ls
