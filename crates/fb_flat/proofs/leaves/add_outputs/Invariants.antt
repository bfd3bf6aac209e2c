use Rattle.std.proofs.Common.{◌≡◌, ◌+◌, ◌++◌, map, drop}
use Rattle.fb_model.specs.Wires.{sum_by}
use Rattle.fb_flat.specs.Sites.{left_by, left_count}
use Rattle.fb_flat.specs.Leaves.{output_of, led}
use Rattle.fb_flat.proofs.leaves.add_outputs.Given as goal

-- the outputs so far, with those left, are all; and the budget pays for those so far
abbrev pub invariant-loop-name : goal.invariant-loop-name
invariant-loop-name l =
    record {
      gives : map output_of l.outputs.items ++ led (left_by l.around) (map (λ s. s.now) (drop l.name-index l.names)) ≡ led (left_by l.around) (map (λ s. s.now) l.names);
      left : l.left + sum_by (left_count l.around) (map (λ s. s.now) l.names) ≡ l.initial.left + sum_by (left_count l.around) (map (λ s. s.now) (drop l.name-index l.names));
    }
