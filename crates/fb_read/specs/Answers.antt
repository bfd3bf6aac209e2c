-- What the code's answers are in the words of the readers.
use Rattle.std.specs.Prelude.{◌≡◌, Result, Ok, Err}
use Rattle.fb_read.specs.declared.stop.Stop.{Stop}
use Rattle.fb_read.specs.declared.stop.Stop.TheVariants.{Memory, Syntax, TooDeep}
use Rattle.fb_read.specs.Reading.{Wrong, syntax, too_deep}

abbrev pub Fails : {Y : Type 0} → Stop → Result Y Wrong → Type 0
Fails Memory read = Unit {0}
Fails (Syntax left) read = read ≡ Err (syntax left)
Fails (TooDeep left) read = read ≡ Err (too_deep left)

-- What a function returned, seen by view, is what reading gives, unless memory ran out.
abbrev pub Gives : {X Y : Type 0} → (X → Y) → Result X Stop → Result Y Wrong → Type 0
Gives view (Ok x) read = read ≡ Ok (view x)
Gives view (Err e) read = Fails e read
