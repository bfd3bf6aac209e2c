-- Calls of a link, which takes datagrams and hands them on.
use Rattle.std.specs.Prelude.{ℕ, List, Bool}

-- one call of a link, with what it answered
pub data LinkCall : Type 0 where
  -- a receive into this much room gave these bytes
  Handed : (room : ℕ) → (bytes : List ℕ) → LinkCall
  -- a receive gave nothing
  Silent : LinkCall
  -- a receive failed
  Broken : LinkCall
  -- a send of these bytes, and whether it was done
  Sent : (bytes : List ℕ) → (ok : Bool) → LinkCall
