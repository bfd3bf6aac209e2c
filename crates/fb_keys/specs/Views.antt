-- What is read, in the terms of the book of keys.
use Rattle.std.specs.Prelude.{map, option_map}
use Rattle.fb_addresses.specs.Addresses.{endpoint_of}
use Rattle.fb_keys.specs.declared.keys.Keys.{Keys}
use Rattle.fb_keys.specs.declared.keys.Reader.{Reader}
use Rattle.fb_keys.specs.declared.line.Extras.{Extras}
use Rattle.fb_keys.specs.declared.line.Key.{Key}
use Rattle.fb_keys.specs.declared.line.Key.TheVariants.{Digits, File}
use Rattle.fb_keys.specs.declared.line.Line.{Line}
use Rattle.fb_keys.specs.declared.line.Line.TheVariants as lines
use Rattle.fb_keys.specs.declared.line.PeerLine.{PeerLine}
use Rattle.fb_keys.specs.declared.state.State.{State}
use Rattle.fb_keys.specs.Keys as book
use Rattle.fb_keys.specs.State as states

abbrev pub key_of : Key → book.Key
key_of (Digits bytes) = book.digits bytes
key_of (File name) = book.in_file name.now

abbrev pub extras_of : Extras → book.Extras
extras_of e = record { second = option_map key_of e.second; rate = e.rate }

abbrev pub peer_of : PeerLine → book.PeerLine
peer_of p =
    record { number = p.number; address = option_map endpoint_of p.address; key = key_of p.key; second = option_map key_of p.second; rate = p.rate }

abbrev pub line_of : Line → book.Line
line_of lines.Blank = book.Blank
line_of (lines.Own number) = book.Own number
line_of (lines.Peer peer) = book.Peer (peer_of peer)

abbrev pub read_of : Reader → book.Read
read_of r = record { own = r.own; peers = map peer_of r.peers.items }

abbrev pub keys_of : Keys → book.Keys
keys_of k = record { own = k.own; peers = map peer_of k.peers.items }

abbrev pub state_of : State → states.State
state_of s = record { own = s.own; entries = s.entries.items }
