use denote.Ref.{Bor}
use Rattle.std.proofs.Common.{pos, Option, sym, subst}
use Rattle.std.specs.Option.{option_map}
use Rattle.fb_model.specs.Values.{One}
use Rattle.fb_model.specs.Spans.{Span}
use Rattle.fb_model.specs.System.{start_of}
use Rattle.fb_model.specs.Store.{first_input}
use Rattle.fb_model.specs.BlockTyping.{variable_of}
use Rattle.fb_flat.specs.declared.flat.Source.{Source}
use Rattle.fb_types_blocks.specs.Views.{declared_of}
use Rattle.fb_ranges_intervals.specs.Views.{span_of}
use Rattle.fb_check_ranges.specs.Places.{held}
use Rattle.fb_check_ranges.specs.Beginning.{IsRange}
use Rattle.fb_check_ranges.proofs.Starting.{only_one}
use Rattle.fb_check_ranges.proofs.begin.first_range.Goals as goal

pub returns-in-Some : goal.returns-in-Some
returns-in-Some c =
    λ x. subst (λ (o : Option (Bor Source)). IsRange (span_of c.constant_range.result) (first_input (held (option_map (λ (s : Bor Source). s.now) o)) (start_of (variable_of (declared_of x c.args.variable.now))))) (sym c.in-Some.is) (c.constant_range.ensures x)

pub returns-in-None : goal.returns-in-None
returns-in-None c =
    λ x. subst (λ (o : Option (Bor Source)). IsRange (span_of c.only.result) (first_input (held (option_map (λ (s : Bor Source). s.now) o)) (start_of (variable_of (declared_of x c.args.variable.now))))) (sym c.in-None.is)
    (subst (λ (q : Span). IsRange q (One (pos 0))) (sym c.only.ensures) (only_one (pos 0)))
