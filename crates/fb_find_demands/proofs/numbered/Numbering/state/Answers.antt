use Rattle.std.proofs.Common.{sym, ap, ◌∙◌}
use Rattle.fb_types_blocks.specs.Views.{names_of}
use Rattle.fb_find_laws.specs.Nodes.{index_in}
use Rattle.fb_find_demands.proofs.Numbers.{written_dotted}
use Rattle.fb_find_demands.proofs.numbered.Numbering.state.Goals as goal

pub returns : goal.returns
returns c = c.index.ensures.place ∙ ap (index_in (names_of c.args.self.now.states)) (c.as_str.ensures.value ∙ c.in_ok-text.ensures ∙ sym (written_dotted c.args.path.now c.args.name.now))
