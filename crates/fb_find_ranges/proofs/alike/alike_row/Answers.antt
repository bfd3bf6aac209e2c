use Rattle.std.proofs.Common.{◌≡◌, sym, ap, ap₂, ◌∙◌}
use denote.Enum.Bare.{sameb, same_true}
use Rattle.std.proofs.lemmas.Bool.{not-false}
use Rattle.std.proofs.lemmas.Slice.Eq.{bytes_eq-Decides}
use Rattle.fb_words.specs.contracts.elem_type.ElemType.{the_type}
use Rattle.fb_words.specs.declared.elem_type.ElemType.{ElemType}
use Rattle.fb_model.specs.Names.{Name}
use Rattle.fb_model.specs.Spans.{Span}
use Rattle.fb_ranges_intervals.specs.Views.{span_of}
use Rattle.fb_ranges.proofs.Likening.{spans_like}
use Rattle.fb_find_ranges.specs.Lines.{line}
use Rattle.fb_find_ranges.proofs.alike.alike_row.Goals as goal

pub returns : goal.returns
returns c t =
    let r : span_of c.args.one.now.range ≡ span_of c.args.other.now.range = spans_like c.args.one.now.range c.args.other.now.range (sym c.if-not-is_same.ensures) in
    let a : c.args.one.now.of_type ≡ c.args.other.now.of_type = same_true the_type tt c.args.one.now.of_type c.args.other.now.of_type (not-false (sameb the_type c.args.one.now.of_type c.args.other.now.of_type) (sym c.if-ne.ensures)) in
    let x : c.args.one.now.name.now ≡ c.args.other.now.name.now = (bytes_eq-Decides c.args.one.now.name.now c.args.other.now.name.now).0 (sym c.eq.ensures ∙ t) in
    ap₂ (λ (y : Name) (s : Span). line y c.args.one.now.of_type s) x r ∙ ap (λ (b : ElemType). line c.args.other.now.name.now b (span_of c.args.other.now.range)) a
