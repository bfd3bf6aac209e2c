use Rattle.std.proofs.Common.{◌≡◌, ◌++◌}
use Rattle.fb_find_demands.specs.Rights.{rights_of}
use Rattle.fb_work.specs.Demands.{charged}
use Rattle.fb_work.proofs.Lists.{charged_from}
use Rattle.fb_work.proofs.charged.charged.Given as goal

-- what is there, and what comes of those that are left, is the whole
abbrev pub invariant-loop-index : goal.invariant-loop-index
invariant-loop-index l = rights_of l.all.items ++ charged_from l.index l.works l.rights ≡ charged l.works (rights_of l.rights)
