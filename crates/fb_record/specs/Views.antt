-- What is read, in the terms of the book of records.
use Rattle.std.specs.Prelude.{List, map}
use Rattle.fb_record.specs.declared.entry.Entry.{Entry}
use Rattle.fb_record.specs.declared.head.Head.{Head}
use Rattle.fb_record.specs.Records as records

abbrev pub came_of : Entry → records.Came
came_of e = record { datagrams = map (λ d. d.items) e.datagrams.items; down = e.is_down }

abbrev pub entry_of : Entry → records.Entry
entry_of e = record { now = e.now; datagrams = map (λ d. d.items) e.datagrams.items; down = e.is_down }

abbrev pub head_of : Head → records.Head
head_of h = record { device = h.device.now; boot = h.boot; app = h.app.now; cert = h.cert.now }
