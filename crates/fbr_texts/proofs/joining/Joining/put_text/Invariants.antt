use Rattle.std.proofs.Common.{◌≡◌, drop, map}
use Rattle.fbr_texts.specs.Fronts.{span_of}
use Rattle.fbr_texts.specs.Once.{put_text, written_of}
use Rattle.fbr_texts.proofs.joining.Joining.put_text.Given as goal

-- what is written so far, with the declarations that are left
abbrev pub invariant-loop-span : goal.invariant-loop-span
invariant-loop-span l = put_text l.text l.end l.at (map span_of (drop l.span-index l.spans)) (written_of l.self) ≡ put_text l.text l.end 0 (map span_of l.spans) (written_of l.initial.self)
