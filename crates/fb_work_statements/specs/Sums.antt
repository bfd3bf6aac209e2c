-- Sums of prices, as the code makes them.
use Rattle.std.specs.Prelude.{ℕ, ◌+◌, ◌*◌, List, [], ◌∷◌}
use Rattle.fb_prices.specs.declared.primitive.Primitive.TheVariants as p
use Rattle.st_types.specs.Views.{Tail}
use Rattle.st_types.specs.Commanding.{Counted}
use Rattle.fb_model.specs.TypedText.{Commands}
use Rattle.fb_model.specs.Spans.{Span}
use Rattle.fb_model.specs.Clear.{Spans, changed, reset, assigned, range_of, most_iterations, taken}
use Rattle.fb_model_work.specs.Spending.{Prices, in_term, of_operation, where_some}
use Rattle.fb_model_work.specs.Most.{most_all}

-- what a first operand costs, behind which operations stand, each with its second
abbrev pub linked_work : Prices → List Tail → ℕ → ℕ
linked_work prices [] n = n
linked_work prices (l ∷ ls) n = linked_work prices ls (prices (of_operation l.0) + (n + in_term prices l.2))

-- the iterations of a FOR, which counts so from a number in the one range to a number in the other
abbrev pub most_iterated : Prices → Spans → Counted → Commands → Spans → Span → Span → ℕ
most_iterated prices rows k body spans r s =
    let n = most_iterations r s k.step in
    n * (prices p.Iteration + most_all prices rows body (changed k.variable (λ b. taken r s k.step n) (reset (assigned body) rows spans)))

-- and with its bounds
abbrev pub most_repeated : Prices → Spans → Counted → Commands → Spans → ℕ
most_repeated prices rows k body spans =
    where_some (range_of k.first spans) (λ r. where_some (range_of k.last spans) (most_iterated prices rows k body spans r))
