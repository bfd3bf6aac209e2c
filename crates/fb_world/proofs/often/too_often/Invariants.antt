use Rattle.std.proofs.Common.{drop, map}
use Rattle.fb_model.specs.World.{AreWithin}
use Rattle.fb_world_course.specs.Scenes.{datagram_of}
use Rattle.fb_world.proofs.often.too_often.Given as goal

-- no datagram so far was admitted more often
abbrev pub invariant-loop-at : goal.invariant-loop-at
invariant-loop-at l = AreWithin l.most l.root (map datagram_of (drop l.at l.datagrams)) → AreWithin l.most l.root (map datagram_of l.datagrams)
