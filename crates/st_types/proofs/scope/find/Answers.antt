use Rattle.std.proofs.Common.{ap, ◌∙◌}
use Rattle.std.specs.Option.{option_map}
use Rattle.st_types.specs.Views.{symbol_of}
use Rattle.st_types.proofs.Scopes.{found_by}
use Rattle.st_types.proofs.scope.find.Goals as goal

pub returns : goal.returns
returns c = ap (λ v. option_map (symbol_of c.args.name.now) v) (c.copied.ensures ∙ c.get.ensures.value) ∙ found_by c.args.name.now c.args.scope.now.entries
