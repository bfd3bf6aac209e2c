-- Labels and steps do not nest.
use Rattle.std.proofs.Common.{true, false, None, Some, Ok}
use Rattle.fb_words.specs.declared.mark.Mark.{Mark}
use Rattle.fb_words.specs.declared.mark.Mark.TheVariants as m
use Rattle.fb_read.specs.Reading.{◌>>=◌, next_is, after}
use Rattle.fb_read.proofs.Readers.{Shallow, shallow_then, shallow_if}
use Rattle.st_parse.specs.ConstantReading.{number_at}
use Rattle.st_parse.proofs.Literals.{number_shallow}
use Rattle.st_parse.specs.Reading.{integer_at, optional_at, label_at}

pub integer_shallow : Shallow integer_at
unfolding integer_at
integer_shallow ts = shallow_if (next_is m.Minus ts) (number_at true (after ts)) (number_at false ts) (number_shallow true (after ts)) (number_shallow false ts)

pub option_shallow : (k : Mark) → Shallow (optional_at k)
unfolding optional_at
option_shallow k ts = shallow_if (next_is k ts) (integer_at (after ts) >>= λ c. Ok (Some c.0, c.1)) (Ok (None, ts)) (shallow_then _ (integer_at (after ts)) (integer_shallow (after ts)) (λ c. tt)) tt

pub label_shallow : Shallow label_at
unfolding label_at
label_shallow ts = shallow_then _ (integer_at ts) (integer_shallow ts) (λ c. shallow_then _ (optional_at m.DotDot c.1) (option_shallow m.DotDot c.1) (λ d. tt))
