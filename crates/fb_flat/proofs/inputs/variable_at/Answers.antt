use Rattle.std.proofs.Common.{Some, ap, ◌∙◌, string_bytes}
use Rattle.std.specs.Option.{option_map}
use Rattle.fb_flat.proofs.Sources.{variable_at}
use Rattle.fb_flat.proofs.inputs.variable_at.Goals as goal

pub returns-in_err-name : goal.returns-in_err-name
returns-in_err-name c = ap (option_map (λ s. s.now)) c.from_residual.ensures ∙ ap (option_map (λ p. string_bytes p.0)) c.in_err-name.ensures.entry ∙ variable_at c.args.variables.now.entries c.args.index

pub returns : goal.returns
returns c = ap Some c.as_str.ensures.value ∙ ap (option_map (λ p. string_bytes p.0)) c.in_ok-name.ensures.entry ∙ variable_at c.args.variables.now.entries c.args.index
