use Rattle.std.proofs.Common.{suc, pos, replicate, sym, subst}
use Rattle.std.specs.Prelude.{unsigned_abs, ◌-ℤ◌}
use Rattle.fb_model.specs.Values.{One, Many}
use Rattle.fb_model.specs.Spans.{Span}
use Rattle.fb_model.specs.System.{start_of}
use Rattle.fb_model.specs.Store.{first_input}
use Rattle.fb_model.specs.BlockTyping.{variable_of}
use Rattle.fb_flat.specs.declared.flat.Source.{Source}
use Rattle.fb_flat.specs.Tables.{book_source}
use Rattle.fb_types_blocks.specs.Views.{declared_of}
use Rattle.fb_ranges_intervals.specs.Views.{span_of}
use Rattle.fb_check_ranges.specs.Beginning.{IsRange}
use Rattle.fb_check_ranges.proofs.Starting.{only_one, only_many}
use Rattle.fb_check_ranges.proofs.begin.constant_range.Goals as goal

pub returns-in-Output : goal.returns-in-Output
returns-in-Output c = λ x. subst (λ (s : Source). IsRange (span_of c.start_range.result) (first_input (book_source s) (start_of (variable_of (declared_of x c.args.variable.now))))) (sym {A = Source} c.in-Output.is) (c.start_range.ensures x)

pub returns-in-Number : goal.returns-in-Number
returns-in-Number c =
    λ x. subst (λ (s : Source). IsRange (span_of c.only.result) (first_input (book_source s) (start_of (variable_of (declared_of x c.args.variable.now))))) (sym {A = Source} c.in-Number.is)
    (subst (λ (q : Span). IsRange q (One c.in-Number.number)) (sym c.only.ensures) (only_one c.in-Number.number))

pub returns-in-Zeros : goal.returns-in-Zeros
returns-in-Zeros c =
    λ x. subst (λ (s : Source). IsRange (span_of c.only-in-Zeros.result) (first_input (book_source s) (start_of (variable_of (declared_of x c.args.variable.now))))) (sym {A = Source} c.in-Zeros.is)
    (subst (λ (q : Span). IsRange q (Many (replicate (suc (unsigned_abs (c.in-Zeros.field-1 -ℤ c.in-Zeros.field-0))) (pos 0)))) (sym c.only-in-Zeros.ensures) (only_many (pos 0) (unsigned_abs (c.in-Zeros.field-1 -ℤ c.in-Zeros.field-0))))
