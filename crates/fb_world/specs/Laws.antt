-- What the laws of worlds say of a call.
use Rattle.std.specs.Prelude.{ℕ, ◌≡◌, ◌<◌, ◌≤◌, List, Some, None}
use Rattle.fb_model.specs.World.{Datagram, datagram_numbered}
use Rattle.fb_world.specs.declared.answer.TooOften.{TooOften}

-- ---- admissions that are not paid for

-- a datagram of a root has no stamp, and a device admitted it more than so often
pub record IsOften (most root : ℕ) (g : Datagram) (device : ℕ) : Type 0 where
  pub root_is : g.root ≡ root
  pub unstamped : g.message.stamp ≡ None
  pub more : most < g.admissions device

-- no device did, if it is of the root and has no stamp
abbrev pub IsSeldom : ℕ → ℕ → Datagram → Type 0
IsSeldom most root g = g.root ≡ root → g.message.stamp ≡ None → (d : ℕ) → g.admissions d ≤ most

-- it is the datagram of this number, and a device that did
pub record IsTooOften (most root : ℕ) (gs : List Datagram) (told : TooOften) : Type 0 where
  pub root_is : told.root ≡ root
  pub datagram : Datagram
  pub numbered : datagram_numbered gs told.datagram ≡ Some datagram
  pub often : IsOften most root datagram told.device

-- of the datagrams behind so many, and before the one of this number, none was admitted more often, if it has no stamp
abbrev pub AreSeldom : (most behind upto : ℕ) → List Datagram → Type 0
AreSeldom most behind upto gs = (k : ℕ) (g : Datagram) → behind < k → k < upto → datagram_numbered gs k ≡ Some g → IsSeldom most g.root g

-- the first one behind so many that was
pub record IsNextOften (most behind : ℕ) (gs : List Datagram) (told : TooOften) : Type 0 where
  pub later : behind < told.datagram
  pub first : AreSeldom most behind told.datagram gs
  pub often : IsTooOften most told.root gs told
