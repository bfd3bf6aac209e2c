use Rattle.std.proofs.Common.{◌+◌, ◌≤◌, map}
use Rattle.fb_world_course.specs.Scenes.{datagram_of}
use Rattle.fb_world.specs.Laws.{AreSeldom}
use Rattle.fb_world.proofs.often.next_too_often.Given as goal

-- none of those behind so many, and so far, was admitted more often
abbrev pub invariant-loop-at : goal.invariant-loop-at
invariant-loop-at l = (l.behind ≤ l.at) × AreSeldom l.most l.behind (l.at + 1) (map datagram_of l.datagrams)
