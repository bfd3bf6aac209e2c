-- What texts are together: this project's profile.
use Rattle.std.specs.Prelude.{◌≡◌, ℕ, List, length, Option, None, Some}
use Rattle.fb_lex.specs.Lexing.{Refuses}
use Rattle.fb_faults.specs.declared.text.TextFault.{TextFault}
use Rattle.fb_faults.specs.declared.text.TextFault.TheVariants.{OutOfMemory, BadCharacter, Syntax, TooDeep, TooLong, BigNumber}
use Rattle.fbr_texts.specs.declared.front.Place.{Place}
use Rattle.fbr_texts.specs.declared.front.Place.TheVariants.{Between, Within, Opened, Named, Closed, Past}
use Rattle.fbr_texts.specs.Fronts.{Front, IsFrontOf}
use Rattle.fbr_texts.specs.Once.{Written, begun, ended, put_text}

-- the name of a file, and its text
abbrev pub Pair : Type 0
Pair = List ℕ × List ℕ

-- where the block types of a text end that holds nothing else, but perhaps a system of no devices behind them
abbrev pub end_in : List ℕ → Place → Option ℕ
end_in text Between = Some (length text)
end_in text (Within from) = None
end_in text (Opened at) = None
end_in text (Named at) = None
end_in text (Closed at) = Some at
end_in text (Past at) = None

-- a file that holds block types alone is added
abbrev pub IsAdded : Pair → Written → Written → Type 0
IsAdded p w v = (f : Front) × (end : ℕ) × IsFrontOf p.1 f × (end_in p.1 f.place ≡ Some end) × (v ≡ ended (put_text p.1 end 0 f.spans (begun p.0 w)))

-- and an application, at whose front block types may stand
abbrev pub IsApplication : Pair → Written → Written → Type 0
IsApplication p w v = (f : Front) × IsFrontOf p.1 f × (v ≡ put_text p.1 (length p.1) 0 f.spans (begun p.0 w))

-- where a text stops that is to hold block types alone: at what is none, or at its end, where it ends too soon
abbrev pub stop_in : List ℕ → Place → ℕ
stop_in text Between = length text
stop_in text (Within from) = length text
stop_in text (Opened at) = length text
stop_in text (Named at) = length text
stop_in text (Closed at) = length text
stop_in text (Past at) = at

-- why it does not hold them
abbrev pub IsTypesFault : List ℕ → TextFault → Type 0
IsTypesFault text (Syntax at) = (f : Front) × IsFrontOf text f × (end_in text f.place ≡ None) × (at ≡ stop_in text f.place)
IsTypesFault text OutOfMemory = Refuses OutOfMemory text
IsTypesFault text (BadCharacter at) = Refuses (BadCharacter at) text
IsTypesFault text (TooDeep at) = Refuses (TooDeep at) text
IsTypesFault text TooLong = Refuses TooLong text
IsTypesFault text (BigNumber at) = Refuses (BigNumber at) text
