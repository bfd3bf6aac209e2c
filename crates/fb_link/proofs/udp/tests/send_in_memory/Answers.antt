use Rattle.fb_link.proofs.Sending.{peers_in_order}
use Rattle.fb_link.specs.Fake.{MemorySocketStep}
use Rattle.fb_link.proofs.udp.tests.send_in_memory.Goals as goal

pub returns : goal.returns
returns c = λ few room.
    peers_in_order MemorySocketStep (λ s. s.sent) (λ s peer bytes ok t call less. call.1 less) c.args.bytes.now c.args.link.now.peers c.args.link.now.socket c.send.result c.send.new.self.socket (c.send.ensures.told.0.asks few).0 room
