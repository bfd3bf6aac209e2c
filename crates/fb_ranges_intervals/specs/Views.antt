-- What the code's ranges are in the book.
use Rattle.fb_model.specs.Spans.{Span, span}
use Rattle.fb_ranges_intervals.specs.declared.interval.Interval.{Interval}

abbrev pub span_of : Interval → Span
span_of i = span i.low i.high
