use Rattle.std.proofs.Common.{drop, map, List, ℕ}
use Rattle.fbr_files.specs.declared.fault.Fault.{Fault}
use Rattle.fbr_texts.specs.Once.{Written, written_of}
use Rattle.fbr.specs.Together.{AreFilesAdded, IsFaultAmong}
use Rattle.fbr.proofs.together.add_files.Given as goal

-- what is added behind the files so far is added behind none, and a fault of those that are left is one of all
abbrev pub invariant-loop-name : goal.invariant-loop-name
invariant-loop-name g l =
    ((v : Written) → AreFilesAdded (g.S.Sources.contents l.files) (map (λ name. name.now) (drop l.name-index l.names)) (written_of l.joining) v
    → AreFilesAdded (g.S.Sources.contents l.files) (map (λ name. name.now) l.names) (written_of l.initial.joining) v)
    × ((f : Fault) (own : List ℕ) → IsFaultAmong (g.S.Sources.contents l.files) (map (λ name. name.now) (drop l.name-index l.names)) f own
    → IsFaultAmong (g.S.Sources.contents l.files) (map (λ name. name.now) l.names) f own)
