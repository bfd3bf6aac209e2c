use Rattle.std.specs.Prelude.{◌*ℤ◌}
use Rattle.fb_model.proofs.Ends.{opposites_reached, sizes_reached, sums_reached, differences_reached, corners_reached, quotients_reached, minima_reached, maxima_reached}
use Rattle.fb_model.proofs.clear.ends_are_reached.Goals as goal

pub returns : goal.returns
returns c =
    record {
      opposites = opposites_reached;
      sizes = sizes_reached;
      sums = sums_reached;
      differences = differences_reached;
      products = corners_reached ◌*ℤ◌;
      quotients = quotients_reached;
      minima = minima_reached;
      maxima = maxima_reached;
    }
