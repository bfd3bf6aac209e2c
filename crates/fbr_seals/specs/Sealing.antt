-- State files, and what is written down in them: this project's profile.
use Rattle.std.specs.Prelude.{◌≡◌, ◌⊎◌, ℕ, ◌+◌, List, Bool, true, false, Option, None, Some, slice_get}
use Rattle.fb_seal.specs.Ledger.{Note, Permits, Reserves}
use Rattle.fb_keys.specs.State.{State, raised, state_text}
use Rattle.fb_keys.specs.Views.{state_of}
use Rattle.fbr_files.specs.Outcomes.{IsContents}
use Rattle.fbr_seals.specs.declared.keep.Mark.{Mark}
use Rattle.fbr_seals.specs.declared.keep.StateFile.{StateFile}

-- a device takes a state out of a file: it may use 65,536 own counters from the first one on, which the file has written down then
pub record TakesState (before after : Option (List ℕ)) (state : State) : Type 0 where
  pub held : State
  pub was : IsContents before (state_text held)
  pub next : state ≡ record held { own = held.own + 65536 }
  pub is : IsContents after (state_text state)

-- a state file while a device runs: what it holds, where that is known; the state; and the number and the mark of the key of each peer
pub record Book : Type 0 where
  pub held : Option (List ℕ)
  pub state : State
  pub marks : List Mark

abbrev pub book_of : {K : Type 0} → (K → Option (List ℕ)) → StateFile K → Book
book_of held f = record { held = held f.keeper; state = state_of f.state; marks = f.marks.items }

-- the state with this written down
abbrev pub IsNoted : Note → Book → State → Type 0
IsNoted (Reserves upto) b s = s ≡ record { own = upto; entries = b.state.entries }
IsNoted (Permits place upto) b s =
    (mark : Mark) × (slice_get b.marks place ≡ Some mark) × (s ≡ record { own = b.state.own; entries = raised mark.number mark.mark upto b.state.entries })

-- it is written down, and the file holds the text of that state; or that failed, and the file holds what it held
abbrev pub WritesDown : Book → Note → Bool → Book → Type 0
WritesDown b note true c = (c.marks ≡ b.marks) × IsNoted note b c.state × IsContents c.held (state_text c.state)
WritesDown b note false c = (c.marks ≡ b.marks) × (c.held ≡ b.held) × ((c.state ≡ b.state) ⊎ IsNoted note b c.state)
