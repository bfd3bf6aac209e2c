use Rattle.std.proofs.Common.{◌≡◌, ℕ, ◌<◌, ◌≤◌, ◌-◌, true, false, get_or}
use Rattle.st_types.specs.declared.term.TypedLink.{TypedLink}
use Rattle.st_types.specs.Views.{tail_of}
use Rattle.fb_ranges.specs.Narrowing.{splits}
use Rattle.fb_ranges.proofs.narrowed.parts_from.Given as goal

abbrev pub invariant-loop-i : goal.invariant-loop-i
invariant-loop-i l =
    record {
      within : l.begin ≤ l.i;
      parts : (k : ℕ) (d : TypedLink) → l.begin ≤ k → k < l.i → splits l.holds (tail_of (get_or l.links k d)).0 ≡ true;
      front : (d : TypedLink) → 0 < l.begin → splits l.holds (tail_of (get_or l.links (l.begin - 1) d)).0 ≡ false;
    }
