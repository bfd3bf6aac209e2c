-- The line of a fault of a text that several files are together: this project's profile.
use Rattle.std.specs.Prelude.{ℕ, ◌-◌, List, [], ◌∷◌, ◌++◌, Option, Some, None, codes, option_map, if◌then◌else◌}
use Rattle.std.specs.Str.{bytes_eq}
use Rattle.std.specs.Fmt.{decimal}
use Rattle.fb_faults.specs.declared.text.TextFault.{TextFault}
use Rattle.fb_faults.specs.declared.text.TextFault.TheVariants as texts
use Rattle.fb_faults.specs.declared.typing.TypeFault.{TypeFault}
use Rattle.fb_faults.specs.declared.typing.TypeFault.TheVariants as types
use Rattle.fb_faults.specs.declared.refusal.Refusal.{Refusal}
use Rattle.fb_faults.specs.declared.refusal.Refusal.TheVariants.{Text, Typing}
use Rattle.fbr_files.specs.declared.fault.Fault.{Fault}
use Rattle.fbr_files.specs.declared.fault.Fault.TheVariants.{Refused}
use Rattle.fbr_files.specs.Outcomes.{Outcome, code_of, line_of, status_of}
use Rattle.fbr_texts.specs.Parts.{Start, part_in}

-- the byte of a text that a fault names, where it names one
abbrev pub text_offset : TextFault → Option ℕ
text_offset texts.OutOfMemory = None
text_offset (texts.BadCharacter at) = Some at
text_offset (texts.Syntax at) = Some at
text_offset (texts.TooDeep at) = Some at
text_offset texts.TooLong = None
text_offset (texts.BigNumber at) = Some at

abbrev pub type_offset : TypeFault → Option ℕ
type_offset types.OutOfMemory = None
type_offset (types.UnknownName at) = Some at
type_offset (types.DuplicateName at) = Some at
type_offset (types.TypeMismatch at) = Some at
type_offset (types.BadLiteral at) = Some at
type_offset (types.NotWritable at) = Some at
type_offset (types.BadConnection at) = Some at
type_offset (types.TwoSources at) = Some at
type_offset (types.BadService at) = Some at
type_offset (types.RecursiveComposite at) = Some at
type_offset (types.Limit at) = Some at
type_offset (types.ChannelShape at) = Some at

abbrev pub refusal_offset : Refusal → Option ℕ
refusal_offset (Text fault) = text_offset fault
refusal_offset (Typing fault) = type_offset fault
refusal_offset other = None

abbrev pub offset_of : Fault → Option ℕ
offset_of (Refused refusal) = refusal_offset refusal
offset_of other = None

-- the words of a fault at a byte of a file, with its name, where that is not the application's
abbrev pub line_at : ℕ → ℕ → List ℕ → List ℕ → List ℕ
line_at code at name app =
    if bytes_eq name app then codes "refused " ++ decimal code ++ codes " " ++ decimal at
    else codes "refused " ++ decimal code ++ codes " " ++ decimal at ++ codes " " ++ name

-- where a byte of a text of several files is in its own, and the name of that
abbrev pub place_from : ℕ → Option Start → Option (ℕ × List ℕ)
place_from at None = None
place_from at (Some s) = Some (at - s.1, s.0)

abbrev pub place_at : List Start → ℕ → Option (ℕ × List ℕ)
place_at parts at = place_from at (part_in None at parts)

abbrev pub place_by : List Start → Option ℕ → Option (ℕ × List ℕ)
place_by parts None = None
place_by parts (Some at) = place_at parts at

-- the same of a fault, where it names a byte
abbrev pub place_in : List Start → Fault → Option (ℕ × List ℕ)
place_in parts f = place_by parts (offset_of f)

abbrev pub line_by : List ℕ → Fault → Option (ℕ × List ℕ) → List ℕ
line_by app f None = line_of f
line_by app f (Some p) = line_at (code_of f) p.0 p.1 app

-- the words of a fault of a text that these files are together, of which the application's has this name
abbrev pub line_in : List ℕ → List Start → Fault → List ℕ
line_in app parts f = line_by app f (place_in parts f)

abbrev pub outcome_at : List ℕ → List Start → Fault → Outcome
outcome_at app parts f = record { line = line_in app parts f; status = status_of f }
