-- What the code's answers are in the words of the definitions.
use Rattle.std.specs.Prelude.{◌≡◌, Result, Ok, Err}
use Rattle.fb_model.specs.TextFaults.{Fault, unknown_name, type_mismatch, bad_literal, not_writable}
use Rattle.fb_faults.specs.declared.statement.TypingFault.{TypingFault}
use Rattle.fb_faults.specs.declared.statement.TypingFault.TheVariants.{OutOfMemory, UnknownName, TypeMismatch, BadLiteral, NotWritable}

-- a fault is the one that is defined, unless memory ran out
abbrev pub Fails : {Y : Type 0} → TypingFault → Result Y Fault → Type 0
Fails OutOfMemory said = Unit {0}
Fails (UnknownName at) said = said ≡ Err (unknown_name at)
Fails (TypeMismatch at) said = said ≡ Err (type_mismatch at)
Fails (BadLiteral at) said = said ≡ Err (bad_literal at)
Fails (NotWritable at) said = said ≡ Err (not_writable at)

-- what a function returned, seen by view, is what is defined, unless memory ran out
abbrev pub Gives : {X Y : Type 0} → (X → Y) → Result X TypingFault → Result Y Fault → Type 0
Gives view (Ok x) said = said ≡ Ok (view x)
Gives view (Err e) said = Fails e said

-- it is found, unless memory ran out
abbrev pub Finds : {X Y : Type 0} → (X → Y) → Result X TypingFault → Y → Type 0
Finds view (Ok x) y = view x ≡ y
Finds view (Err OutOfMemory) y = Unit {0}
Finds view (Err other) y = ⊥

-- what a refusal says holds
abbrev pub Refuses : {X : Type 0} → (Fault → Type 0) → Result X TypingFault → Type 0
Refuses P (Ok x) = Unit {0}
Refuses P (Err OutOfMemory) = Unit {0}
Refuses P (Err (UnknownName at)) = P (unknown_name at)
Refuses P (Err (TypeMismatch at)) = P (type_mismatch at)
Refuses P (Err (BadLiteral at)) = P (bad_literal at)
Refuses P (Err (NotWritable at)) = P (not_writable at)
