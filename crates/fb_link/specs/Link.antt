-- What calls of links do. This project's profile.
use Rattle.std.specs.Prelude.{ℕ, ◌≤◌, List, ◌++◌, take, codes}
use Rattle.std.specs.Fmt.{decimal}
use Rattle.fb_link.specs.declared.udp.SocketFault.{SocketFault}
use Rattle.fb_link.specs.declared.link.Received.{Received}
use Rattle.fb_link.specs.declared.link.Received.TheVariants.{Nothing, Got, Failed}
use Rattle.fb_words.specs.Links.{Broken, Handed, LinkCall, Silent}

-- the receive that gave this answer and left these bytes in the buffer
abbrev pub receipt : Received → List ℕ → ℕ → LinkCall
receipt Nothing buffer room = Silent
receipt (Got n) buffer room = Handed room (take n buffer)
receipt Failed buffer room = Broken

-- what a receive answers fits the buffer
abbrev pub FitsRoom : Received → ℕ → Type 0
FitsRoom (Got n) room = n ≤ room
FitsRoom _ room = Unit {0}

-- by how much an answer raises the count of failures
abbrev pub failures_of : Received → ℕ
failures_of Failed = 1
failures_of _ = 0

-- the code, and the port
abbrev pub socket_line : SocketFault → List ℕ
socket_line fault = codes "62 " ++ decimal fault.0
