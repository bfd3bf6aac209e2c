-- The numbers and words of primitives, and lists of their prices.
-- This project's profile.
use Rattle.std.specs.Prelude.{ℕ, List, codes, slice_index}
use Rattle.fb_prices.specs.declared.primitive.Primitive.{Primitive}
use Rattle.fb_prices.specs.declared.primitive.Primitive.TheVariants as p
use Rattle.fb_prices.specs.declared.prices.Prices.{Prices}

-- its place in the list of all
abbrev pub number_of : Primitive → ℕ
number_of p.Dispatch = 0
number_of p.Sample = 1
number_of p.Scan = 2
number_of p.Skip = 3
number_of p.Open = 4
number_of p.Guard = 5
number_of p.Cross = 6
number_of p.Act = 7
number_of p.Call = 8
number_of p.Issue = 9
number_of p.Give = 10
number_of p.Put = 11
number_of p.Constant = 12
number_of p.Variable = 13
number_of p.Element = 14
number_of p.Add = 15
number_of p.Multiply = 16
number_of p.Divide = 17
number_of p.Modulo = 18
number_of p.Compare = 19
number_of p.Logic = 20
number_of p.Extreme = 21
number_of p.Negate = 22
number_of p.Not = 23
number_of p.Absolute = 24
number_of p.Convert = 25
number_of p.Assign = 26
number_of p.AssignElement = 27
number_of p.If = 28
number_of p.Branch = 29
number_of p.Case = 30
number_of p.Arm = 31
number_of p.Label = 32
number_of p.For = 33
number_of p.Iteration = 34
number_of p.Receive = 35
number_of p.Write = 36
number_of p.Send = 37
number_of p.Take = 38
number_of p.Initialize = 39
number_of p.Respond = 40
number_of p.Begin = 41
number_of p.Start = 42
number_of p.Stop = 43
number_of p.Expire = 44
number_of p.Value = 45

-- how lists of prices write it
abbrev pub word_of : Primitive → List ℕ
word_of p.Dispatch = codes "DISPATCH"
word_of p.Sample = codes "SAMPLE"
word_of p.Scan = codes "SCAN"
word_of p.Skip = codes "SKIP"
word_of p.Open = codes "OPEN"
word_of p.Guard = codes "GUARD"
word_of p.Cross = codes "CROSS"
word_of p.Act = codes "ACT"
word_of p.Call = codes "CALL"
word_of p.Issue = codes "ISSUE"
word_of p.Give = codes "GIVE"
word_of p.Put = codes "PUT"
word_of p.Constant = codes "CONSTANT"
word_of p.Variable = codes "VARIABLE"
word_of p.Element = codes "ELEMENT"
word_of p.Add = codes "ADD"
word_of p.Multiply = codes "MULTIPLY"
word_of p.Divide = codes "DIVIDE"
word_of p.Modulo = codes "MODULO"
word_of p.Compare = codes "COMPARE"
word_of p.Logic = codes "LOGIC"
word_of p.Extreme = codes "EXTREME"
word_of p.Negate = codes "NEGATE"
word_of p.Not = codes "NOT"
word_of p.Absolute = codes "ABSOLUTE"
word_of p.Convert = codes "CONVERT"
word_of p.Assign = codes "ASSIGN"
word_of p.AssignElement = codes "ASSIGN_ELEMENT"
word_of p.If = codes "IF"
word_of p.Branch = codes "BRANCH"
word_of p.Case = codes "CASE"
word_of p.Arm = codes "ARM"
word_of p.Label = codes "LABEL"
word_of p.For = codes "FOR"
word_of p.Iteration = codes "ITERATION"
word_of p.Receive = codes "RECEIVE"
word_of p.Write = codes "WRITE"
word_of p.Send = codes "SEND"
word_of p.Take = codes "TAKE"
word_of p.Initialize = codes "INITIALIZE"
word_of p.Respond = codes "RESPOND"
word_of p.Begin = codes "BEGIN"
word_of p.Start = codes "START"
word_of p.Stop = codes "STOP"
word_of p.Expire = codes "EXPIRE"
word_of p.Value = codes "VALUE"

-- the price at its number, 0 where the list is shorter
abbrev pub prices_of : Prices → Primitive → ℕ
prices_of prices x = slice_index prices.numbers.items (number_of x)
