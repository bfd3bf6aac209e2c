-- What lines are in the book.
use Rattle.std.specs.Prelude.{◌≡◌, ◌≢◌, ℕ, List, [], map, Option, Some, None, Result, Ok, Err, ℤ, Vec}
use Rattle.std.specs.declared.alloc.Global.{Global}
use denote.Ref.{Bor}
use Rattle.fb_script.specs.Lines.{Command, command_in, values_in}
use Rattle.fb_script.specs.Lines as book
use Rattle.fb_script.specs.declared.line.Line.{Line}
use Rattle.fb_script.specs.declared.line.Line.TheVariants.{Offer, Deliver, Tick, Dispatch, Root}
use Rattle.fb_script.specs.declared.line.LineFault.{LineFault}
use Rattle.fb_script.specs.declared.line.LineFault.TheVariants.{OutOfMemory, Form}

abbrev pub texts : List (Bor (List ℕ)) → List (List ℕ)
texts ws = map (λ w. w.now) ws

abbrev pub command_of : Line → Command
command_of (Offer device number values) = book.Offer device.now number values.items
command_of (Deliver number device) = book.Deliver number device.now
command_of (Tick device now) = book.Tick device.now now
command_of (Dispatch device resource) = book.Dispatch device.now resource.now
command_of (Root number) = book.Root number

-- each of the words is a value, or one is none
abbrev pub AreValues : List (List ℕ) → Result (Vec ℤ Global) LineFault → Type 0
AreValues ws (Ok values) = values_in ws ≡ Some values.items
AreValues ws (Err (Form misread)) = values_in ws ≡ None
AreValues ws (Err OutOfMemory) = Unit {0}

-- the words are this command, or none
abbrev pub IsRead : List (List ℕ) → Result Line LineFault → Type 0
IsRead ws (Ok line) = command_in ws ≡ Some (command_of line)
IsRead ws (Err (Form misread)) = command_in ws ≡ None
IsRead ws (Err OutOfMemory) = Unit {0}

-- there are no words, or they are this command, or none
abbrev pub IsLine : List (List ℕ) → Result (Option Line) LineFault → Type 0
IsLine ws (Ok None) = ws ≡ []
IsLine ws (Ok (Some line)) = command_in ws ≡ Some (command_of line)
IsLine ws (Err (Form misread)) = (ws ≢ []) × (command_in ws ≡ None)
IsLine ws (Err OutOfMemory) = Unit {0}
