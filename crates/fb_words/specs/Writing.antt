-- How signs and reserved words are written, and which words name a type: IEC 61131-3 edition 3, 6.1, this project's profile.
use Rattle.std.specs.Prelude.{ℕ, List, [], codes, Option, Some, None}
use Rattle.fb_words.specs.declared.mark.Mark.{Mark}
use Rattle.fb_words.specs.declared.mark.Mark.TheVariants as m
use Rattle.fb_words.specs.declared.elem_type.ElemType.{ElemType}
use Rattle.fb_words.specs.declared.elem_type.ElemType.TheVariants as t

-- how a sign is written; a word is no sign
abbrev pub sign_text : Mark → List ℕ
sign_text m.Assign = codes ":="
sign_text m.Arrow = codes "->"
sign_text m.DotDot = codes ".."
sign_text m.LessEqual = codes "<="
sign_text m.GreaterEqual = codes ">="
sign_text m.NotEqual = codes "<>"
sign_text m.LParen = codes "("
sign_text m.RParen = codes ")"
sign_text m.LBracket = codes "["
sign_text m.RBracket = codes "]"
sign_text m.Comma = codes ","
sign_text m.Semicolon = codes ";"
sign_text m.Colon = codes ":"
sign_text m.Dot = codes "."
sign_text m.Equal = codes "="
sign_text m.Less = codes "<"
sign_text m.Greater = codes ">"
sign_text m.Plus = codes "+"
sign_text m.Minus = codes "-"
sign_text m.Star = codes "*"
sign_text m.Slash = codes "/"
sign_text m.Ampersand = codes "&"
sign_text k = []

-- how a reserved word is written; a sign is no word
abbrev pub word_text : Mark → List ℕ
word_text m.FunctionBlock = codes "FUNCTION_BLOCK"
word_text m.EventInput = codes "EVENT_INPUT"
word_text m.EventOutput = codes "EVENT_OUTPUT"
word_text m.VarInput = codes "VAR_INPUT"
word_text m.VarOutput = codes "VAR_OUTPUT"
word_text m.Var = codes "VAR"
word_text m.EcStates = codes "EC_STATES"
word_text m.EcTransitions = codes "EC_TRANSITIONS"
word_text m.Algorithm = codes "ALGORITHM"
word_text m.Fbs = codes "FBS"
word_text m.EventConnections = codes "EVENT_CONNECTIONS"
word_text m.DataConnections = codes "DATA_CONNECTIONS"
word_text m.System = codes "SYSTEM"
word_text m.Device = codes "DEVICE"
word_text m.Resource = codes "RESOURCE"
word_text m.EndFunctionBlock = codes "END_FUNCTION_BLOCK"
word_text m.EndEvent = codes "END_EVENT"
word_text m.EndVar = codes "END_VAR"
word_text m.EndStates = codes "END_STATES"
word_text m.EndTransitions = codes "END_TRANSITIONS"
word_text m.EndAlgorithm = codes "END_ALGORITHM"
word_text m.EndFbs = codes "END_FBS"
word_text m.EndConnections = codes "END_CONNECTIONS"
word_text m.EndSystem = codes "END_SYSTEM"
word_text m.EndDevice = codes "END_DEVICE"
word_text m.EndResource = codes "END_RESOURCE"
word_text m.EndIf = codes "END_IF"
word_text m.EndCase = codes "END_CASE"
word_text m.EndFor = codes "END_FOR"
word_text m.With = codes "WITH"
word_text m.To = codes "TO"
word_text m.Array = codes "ARRAY"
word_text m.Of = codes "OF"
word_text m.If = codes "IF"
word_text m.Then = codes "THEN"
word_text m.Elsif = codes "ELSIF"
word_text m.Else = codes "ELSE"
word_text m.Case = codes "CASE"
word_text m.For = codes "FOR"
word_text m.By = codes "BY"
word_text m.Do = codes "DO"
word_text m.And = codes "AND"
word_text m.Or = codes "OR"
word_text m.Xor = codes "XOR"
word_text m.Not = codes "NOT"
word_text m.Mod = codes "MOD"
word_text m.True = codes "TRUE"
word_text m.False = codes "FALSE"
word_text m.Bool = codes "BOOL"
word_text m.Sint = codes "SINT"
word_text m.Int = codes "INT"
word_text m.Dint = codes "DINT"
word_text m.Lint = codes "LINT"
word_text m.Usint = codes "USINT"
word_text m.Uint = codes "UINT"
word_text m.Udint = codes "UDINT"
word_text m.Time = codes "TIME"
word_text k = []

-- the element type that a word names
abbrev pub type_of : Mark → Option ElemType
type_of m.Bool = Some t.Bool
type_of m.Sint = Some t.Sint
type_of m.Int = Some t.Int
type_of m.Dint = Some t.Dint
type_of m.Lint = Some t.Lint
type_of m.Usint = Some t.Usint
type_of m.Uint = Some t.Uint
type_of m.Udint = Some t.Udint
type_of m.Time = Some t.Time
type_of k = None

-- the name of a type
abbrev pub type_name : ElemType → List ℕ
type_name t.Bool = codes "BOOL"
type_name t.Sint = codes "SINT"
type_name t.Int = codes "INT"
type_name t.Dint = codes "DINT"
type_name t.Lint = codes "LINT"
type_name t.Usint = codes "USINT"
type_name t.Uint = codes "UINT"
type_name t.Udint = codes "UDINT"
type_name t.Time = codes "TIME"
