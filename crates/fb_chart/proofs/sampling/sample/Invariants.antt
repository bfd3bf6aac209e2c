use Rattle.std.proofs.Common.{◌≡◌, drop}
use Rattle.std.specs.List.{AllByRecursion}
use Rattle.st_exec.specs.Cells.{values_of, forms_of}
use Rattle.fb_chart.specs.Sampling.{CanTake, sampled_by}
use Rattle.fb_chart.proofs.sampling.sample.Given as goal

-- the inputs that are left are still to come
abbrev pub invariant-loop-taken : goal.invariant-loop-taken
invariant-loop-taken l = record {
  values : sampled_by l.issued (forms_of l.fn.own) (drop l.taken-index l.takes) (values_of l.own) ≡ sampled_by l.issued (forms_of l.fn.own) l.takes (values_of l.fn.own);
  forms : forms_of l.own ≡ forms_of l.fn.own;
  can : AllByRecursion (CanTake l.issued (forms_of l.fn.own)) (drop l.taken-index l.takes);
}
