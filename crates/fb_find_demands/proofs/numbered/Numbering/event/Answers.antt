use Rattle.std.proofs.Common.{◌≡◌, ◌+◌, length, string_bytes, sym, ap, ◌∙◌}
use Rattle.std.proofs.lemmas.List.{length-map}
use Rattle.fb_types_blocks.specs.Views.{names_of}
use Rattle.fb_find_laws.specs.Nodes.{index_in}
use Rattle.fb_find_demands.proofs.Numbers.{written_dotted}
use Rattle.fb_find_demands.proofs.numbered.Numbering.event.Goals as goal

pub returns : goal.returns
returns c =
    let events = names_of c.args.self.now.events in
    let before : c.len.result ≡ length (names_of c.args.self.now.states) = c.len.ensures.len ∙ sym (length-map c.args.self.now.states.keys string_bytes) in
    let here = c.index.ensures.place ∙ ap (index_in events) (c.as_str.ensures.value ∙ c.in_ok-text.ensures ∙ sym (written_dotted c.args.path.now c.args.name.now)) in
    ap (λ n. n + c.index.result) before ∙ ap (λ n. length (names_of c.args.self.now.states) + n) here
