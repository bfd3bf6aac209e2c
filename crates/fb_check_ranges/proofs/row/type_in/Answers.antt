use Rattle.std.proofs.Common.{sym, ap, ◌∙◌}
use Rattle.std.specs.Option.{option_map}
use Rattle.fb_types_networks.proofs.Tables.{type_found}
use Rattle.fb_check_ranges.proofs.row.type_in.Goals as goal

pub returns-in_err-variable : goal.returns-in_err-variable
returns-in_err-variable c = c.from_residual.ensures ∙ ap (option_map (λ v. v.of_type)) (sym c.in_err-variable.was ∙ (c.copied.ensures ∙ c.get.ensures.value)) ∙ type_found c.args.name.now c.args.variables.now.entries

pub returns : goal.returns
returns c = ap (option_map (λ v. v.of_type)) (sym c.in_ok-variable.was ∙ (c.copied.ensures ∙ c.get.ensures.value)) ∙ type_found c.args.name.now c.args.variables.now.entries
