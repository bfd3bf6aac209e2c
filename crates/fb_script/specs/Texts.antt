-- How an answer is printed: this project's profile.
use denote.Ref.{Bor}
use Rattle.std.specs.Prelude.{ℕ, ℤ, flat_map, List, [], ◌++◌, codes, Option, None, Some}
use Rattle.std.specs.Fmt.{decimal, signed_decimal}
use Rattle.std.specs.List.{join_with_byte}
use Rattle.fb_model.specs.Names.{Place}
use Rattle.fb_model.specs.Serving.{Effect, Write, Send}
use Rattle.fb_model.specs.Devices.{Ended as End, Denial, UnknownInput, BadCount, BadValue, NoCredit, Spent, NotAMessage, NoSubscriber, Shape, NotReady, Stale, Answer, Admitted, Denied, Expired, Idle, Ran}
use Rattle.fb_model.specs.World.{RootSteps}
use Rattle.fb_model.specs.Fields.{Fault, Short, Magic, Version, Kind, Count, TypeCode, Value, Trailing}
use Rattle.fb_wire.specs.Faults.{line_of}
use Rattle.fb_device_arrivals.specs.declared.denied.Denied.{Denied as RustDenied}
use Rattle.fb_device_arrivals.specs.declared.denied.Denied.TheVariants as d
use Rattle.fb_device_dispatch.specs.declared.answer.Ended.{Ended}
use Rattle.fb_chart.specs.declared.standing.Effect.{Effect as Outside}
use Rattle.fb_chart.specs.declared.standing.Effect.TheVariants as outside
use Rattle.fb_script.specs.declared.told.Told.{Told}
use Rattle.fb_script.specs.declared.told.Told.TheVariants as told

-- ---- answers of the book

-- what is at fault with bytes that are no message
abbrev pub fault_text : Fault → List ℕ
fault_text Short = codes "55 Short"
fault_text Magic = codes "55 Magic"
fault_text Version = codes "55 Version"
fault_text Kind = codes "55 Kind"
fault_text Count = codes "55 Count"
fault_text TypeCode = codes "55 TypeCode"
fault_text Value = codes "55 Value"
fault_text Trailing = codes "55 Trailing"

-- why an offer or a message is denied
abbrev pub denial_text : Denial → List ℕ
denial_text UnknownInput = codes "50"
denial_text BadCount = codes "51"
denial_text (BadValue number) = codes "52 " ++ decimal number
denial_text (NoCredit needs free) = codes "53 needs " ++ decimal needs ++ codes " free " ++ decimal free
denial_text Spent = codes "54"
denial_text (NotAMessage fault) = fault_text fault
denial_text NoSubscriber = codes "56"
denial_text Shape = codes "57"
denial_text NotReady = codes "58"
denial_text (Stale boot sequence) = codes "64 " ++ decimal boot ++ codes " " ++ decimal sequence

-- a path and its event, joined by dots
abbrev pub place_text : Place → List ℕ
place_text place = join_with_byte 46 place.path ++ codes "." ++ place.event

-- values, each behind a space
abbrev pub values_text : List ℤ → List ℕ
values_text values = flat_map (λ v. codes " " ++ signed_decimal v) values

-- what an OUTPUT has written, by its number
abbrev pub write_text : ℕ → List ℤ → List ℕ
write_text number values = codes "write " ++ decimal number ++ values_text values

-- the number of a datagram that was sent
abbrev pub sent_text : Option ℕ → List ℕ
sent_text None = []
sent_text (Some number) = codes " send " ++ decimal number

-- what a service has done; what it sent has a number
abbrev pub effect_text : Option ℕ → Option Effect → List ℕ
effect_text sent None = []
effect_text sent (Some (Write number values)) = codes " " ++ write_text number values
effect_text sent (Some (Send message)) = sent_text sent

-- a cause that has ended: its total, and the bound on it
abbrev pub end_text : Option End → List ℕ
end_text None = []
end_text (Some e) = codes " ended " ++ decimal e.cause ++ codes " " ++ decimal e.total ++ codes " of " ++ decimal e.bound

-- an answer, where the datagram that was sent has this number
abbrev pub answer_text : Option ℕ → Answer → List ℕ
answer_text sent (Admitted cause) = codes "cause " ++ decimal cause
answer_text sent (Denied why) = codes "denied " ++ denial_text why
answer_text sent (Expired count) = codes "fired " ++ decimal count
answer_text sent Idle = codes "idle"
answer_text sent (Ran cause place steps effect ended) = codes "ran " ++ place_text place ++ codes " steps " ++ decimal steps ++ effect_text sent effect ++ end_text ended

-- the FAR of a root, where there is one
abbrev pub far_text : Option ℕ → List ℕ
far_text None = []
far_text (Some far) = codes " of " ++ decimal far

-- the steps of a root of this number
abbrev pub root_text : ℕ → RootSteps → List ℕ
root_text number told = codes "root " ++ decimal number ++ codes " steps " ++ decimal told.steps ++ far_text told.far

-- ---- answers of the program

abbrev pub why_text : RustDenied → List ℕ
why_text d.UnknownInput = codes "50"
why_text d.BadCount = codes "51"
why_text (d.BadValue number) = codes "52 " ++ decimal number
why_text (d.NoCredit needs free) = codes "53 needs " ++ decimal needs ++ codes " free " ++ decimal free
why_text d.Spent = codes "54"
why_text (d.Wire fault) = line_of fault
why_text d.NoSubscriber = codes "56"
why_text d.Shape = codes "57"
why_text d.Closed = codes "58"
why_text (d.Stale boot sequence) = codes "64 " ++ decimal boot ++ codes " " ++ decimal sequence

abbrev pub ended_text : Option Ended → List ℕ
ended_text None = []
ended_text (Some e) = codes " ended " ++ decimal e.cause ++ codes " " ++ decimal e.total ++ codes " of " ++ decimal e.bound

abbrev pub outside_text : Option ℕ → Outside → List ℕ
outside_text sent (outside.Send message) = sent_text sent
outside_text sent (outside.Write number values) = codes " " ++ write_text number values.items

abbrev pub done_text : Option (Bor Outside) → Option ℕ → List ℕ
done_text None sent = []
done_text (Some e) sent = outside_text sent e.now

abbrev pub told_text : Told → List ℕ
told_text (told.Admitted cause) = codes "cause " ++ decimal cause
told_text (told.Denied why) = codes "denied " ++ why_text why
told_text (told.Fired count) = codes "fired " ++ decimal count
told_text told.Idle = codes "idle"
told_text (told.Ran cause path event steps effect sent ended) = codes "ran " ++ (path.now ++ codes "." ++ event.now) ++ codes " steps " ++ decimal steps ++ done_text effect sent ++ ended_text ended
told_text (told.Root number steps far) = root_text number (record { steps = steps; far = far })
