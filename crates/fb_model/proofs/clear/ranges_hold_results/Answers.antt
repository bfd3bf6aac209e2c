use Rattle.fb_model.proofs.Results.{negated_lies, sizes_lie, sum_lies, difference_lies, product_lies, least_lies, greatest_lies}
use Rattle.fb_model.proofs.Ends.{quotients_lie, rests_lie}
use Rattle.fb_model.proofs.clear.ranges_hold_results.Goals as goal

pub returns : goal.returns
returns c =
    record {
      opposites = negated_lies;
      sizes = sizes_lie;
      sums = sum_lies;
      differences = difference_lies;
      products = product_lies;
      quotients = quotients_lie;
      rests = rests_lie;
      minima = least_lies;
      maxima = greatest_lies;
    }
