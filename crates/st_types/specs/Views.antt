-- What typed trees are in the book, without where they lie in memory.
use Rattle.std.specs.Prelude.{ℕ, List, [], ◌∷◌, map, string_bytes}
use Rattle.std.specs.declared.string.String.{String}
use Rattle.std.specs.declared.alloc.Global.{Global}
use Rattle.indexmap.specs.IndexMap.{IndexMap}
use Rattle.fb_words.specs.declared.elem_type.ElemType.{ElemType}
use Rattle.fb_words.specs.declared.operator.Operation.{Operation}
use Rattle.fb_model.specs.Names.{Name}
use Rattle.fb_model.specs.TypedText.{Term, constant, read, part, single, double}
use Rattle.fb_model.specs.TextTyping as typing
use Rattle.st_types.specs.declared.scope.Variable.{Variable}
use Rattle.st_types.specs.declared.term.TypedExpr.{TypedExpr, fold-TypedExpr}
use Rattle.st_types.specs.declared.term.TypedExpr.TheOpen.{TypedExpr-F, TypedLink-F}
use Rattle.st_types.specs.declared.term.TypedLink.{TypedLink, fold-TypedLink}
use Rattle.st_types.specs.declared.term.Loose.{Loose, fold-Loose}
use Rattle.st_types.specs.declared.term.Loose.TheOpen.{Loose-F, LooseLink-F}
use Rattle.st_types.specs.declared.term.LooseLink.{LooseLink, fold-LooseLink}
use Rattle.st_types.specs.declared.operand.Operand.{Operand}
use Rattle.st_types.specs.declared.operand.Operand.TheVariants as o

-- ---- variables

abbrev pub symbol_of : Name → Variable → typing.Symbol
symbol_of name v = record { name = name; type = v.of_type; bounds = v.bounds; writable = v.writable }

abbrev pub entries : {S : Type 0} → IndexMap (String Global) Variable S → List typing.Symbol
entries m = map (λ p. symbol_of (string_bytes p.0) p.1) m.entries

-- ---- typed expressions

-- an operation, the type of its operands, and the second of them
abbrev pub Tail : Type 0
Tail = Operation × ElemType × Term

-- operations group to the left
abbrev pub joined : Term → List Tail → Term
joined x [] = x
joined x (l ∷ ls) = joined (double l.0 l.1 x l.2) ls

abbrev pub term_step : TypedExpr-F Term Tail → Term
term_step (TypedExpr-F.Constant n) = constant n
term_step (TypedExpr-F.Read x) = read (string_bytes x.name)
term_step (TypedExpr-F.Element x low high b) = part (string_bytes x.name) low high b.value
term_step (TypedExpr-F.Unary f a b) = single f a b.value
term_step (TypedExpr-F.Chain b v) = joined b.value v.items

abbrev pub tail_step : TypedLink-F Term Tail → Tail
tail_step l = (l.operation, l.of_type, l.operand)

abbrev pub term_of : TypedExpr → Term
term_of = fold-TypedExpr Term Tail term_step tail_step

abbrev pub tail_of : TypedLink → Tail
tail_of = fold-TypedLink Term Tail term_step tail_step

-- ---- free expressions

abbrev pub LooseTail : Type 0
LooseTail = Operation × ℕ × typing.Loose

abbrev pub joined_loose : typing.Loose → List LooseTail → typing.Loose
joined_loose x [] = x
joined_loose x (l ∷ ls) = joined_loose (typing.loose_double l.0 l.1 x l.2) ls

abbrev pub loose_step : Loose-F typing.Loose LooseTail → typing.Loose
loose_step (Loose-F.Number n s) = typing.loose_number n s
loose_step (Loose-F.Unary f s b) = typing.loose_single f s b.value
loose_step (Loose-F.Chain b v) = joined_loose b.value v.items

abbrev pub loose_tail_step : LooseLink-F typing.Loose LooseTail → LooseTail
loose_tail_step l = (l.operation, l.at, l.operand)

abbrev pub loose_of : Loose → typing.Loose
loose_of = fold-Loose typing.Loose LooseTail loose_step loose_tail_step

abbrev pub loose_tail_of : LooseLink → LooseTail
loose_tail_of = fold-LooseLink typing.Loose LooseTail loose_step loose_tail_step

-- ---- operands

abbrev pub operand_of : Operand → typing.Operand
operand_of (o.Fixed a x) = typing.fixed a (term_of x)
operand_of (o.Free l) = typing.free (loose_of l)
operand_of o.Whole = typing.whole

abbrev pub operands_of : List Operand → List typing.Operand
operands_of ps = map operand_of ps
