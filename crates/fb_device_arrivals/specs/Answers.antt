-- What an offer or a datagram answers, in the book, and the numbers of denials: this project's profile.
use Rattle.std.specs.Prelude.{ℕ, Result, Ok, Err}
use Rattle.fb_model.specs.Devices as book
use Rattle.fb_wire.specs.Views.{fault_of}
use Rattle.fb_device_arrivals.specs.declared.denied.Denied.{Denied}
use Rattle.fb_device_arrivals.specs.declared.denied.Denied.TheVariants.{UnknownInput, BadCount, BadValue, NoCredit, Spent, Wire, NoSubscriber, Shape, Closed, Stale}

abbrev pub denial_of : Denied → book.Denial
denial_of UnknownInput = book.UnknownInput
denial_of BadCount = book.BadCount
denial_of (BadValue number) = book.BadValue number
denial_of (NoCredit needs free) = book.NoCredit needs free
denial_of Spent = book.Spent
denial_of (Wire fault) = book.NotAMessage (fault_of fault)
denial_of NoSubscriber = book.NoSubscriber
denial_of Shape = book.Shape
denial_of Closed = book.NotReady
denial_of (Stale boot sequence) = book.Stale boot sequence

abbrev pub admission_of : Result ℕ Denied → book.Answer
admission_of (Ok cause) = book.Admitted cause
admission_of (Err why) = book.Denied (denial_of why)

abbrev pub denied_code : Denied → ℕ
denied_code UnknownInput = 50
denied_code BadCount = 51
denied_code (BadValue number) = 52
denied_code (NoCredit needs free) = 53
denied_code Spent = 54
denied_code (Wire fault) = 55
denied_code NoSubscriber = 56
denied_code Shape = 57
denied_code Closed = 58
denied_code (Stale boot sequence) = 64
