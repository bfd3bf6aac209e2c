-- What places are in the book.
use Rattle.std.specs.Prelude.{ℕ, List, ◌++◌, map, slice_index_or, [], string_bytes}
use Rattle.std.specs.declared.string.String.{String}
use Rattle.std.specs.declared.alloc.Global.{Global}
use Rattle.indexmap.specs.IndexSet.{IndexSet}
use Rattle.fb_model.specs.Names.{Name}

-- the texts of a set, in order
abbrev pub texts_of : {S : Type 0} → IndexSet (String Global) S → List Name
texts_of s = map string_bytes s.keys

-- the text of a number, where states, behind them events, and behind these channels by these paths of their ends have numbers
abbrev pub text_at : List Name → List Name → List Name → ℕ → Name
text_at states events ends p = slice_index_or (states ++ (events ++ ends)) p []
