-- Links in memory: what each call does. This project's profile.
use Rattle.std.specs.Prelude.{◌≡◌, ℕ, ◌+◌, List, [], ◌∷◌, ◌++◌, length, take, Bool, true, if◌then◌else◌, ◌==◌, nat_lt, nat_le, ◌&&◌, not}
use Rattle.std.specs.List.{list_any}
use Rattle.fb_words.specs.Links.{LinkCall, Handed, Silent, Broken, Sent}

-- a link in memory: the datagrams still to come, those that it took, and the calls that are to fail
pub record Memory : Type 0 where
  pub waiting : List (List ℕ)
  pub taken : List (List ℕ)
  pub room : ℕ
  pub failing_receives : List ℕ
  pub failing_sends : List ℕ
  pub receives : ℕ
  pub sends : ℕ
  pub failures : ℕ

abbrev pub is_spent : Memory → Bool
is_spent m = m.failures == 18446744073709551615

-- the number of the next call
abbrev pub next_number : ℕ → ℕ
next_number n = if nat_lt n 18446744073709551615 then n + 1 else n

abbrev pub is_among : List ℕ → ℕ → Bool
is_among all k = list_any (λ x. x == k) all

abbrev pub fails_receive : Memory → Bool
fails_receive m = is_among m.failing_receives (next_number m.receives)

-- a send fails where it is planned to, where no room is left, and where it is too long
abbrev pub takes_send : Memory → List ℕ → Bool
takes_send m bytes = not (is_among m.failing_sends (next_number m.sends)) && (nat_lt (length m.taken) m.room && nat_le (length bytes) 160)

abbrev pub first_of : List (List ℕ) → ℕ → LinkCall
first_of [] room = Silent
first_of (d ∷ ds) room = Handed room (take room d)

abbrev pub rest_of : List (List ℕ) → List (List ℕ)
rest_of [] = []
rest_of (d ∷ ds) = ds

-- what a receive does
abbrev pub receive_of : Memory → ℕ → LinkCall
receive_of m room = if is_spent m then Silent else (if fails_receive m then Broken else first_of m.waiting room)

abbrev pub after_receive : Memory → Memory
after_receive m =
    if is_spent m then m
    else (if fails_receive m then record m { receives = next_number m.receives; failures = m.failures + 1 }
    else record m { receives = next_number m.receives; waiting = rest_of m.waiting })

-- what a send does
abbrev pub send_of : Memory → List ℕ → Bool
send_of m bytes = if is_spent m then true else takes_send m bytes

abbrev pub after_send : Memory → List ℕ → Memory
after_send m bytes =
    if is_spent m then m
    else (if takes_send m bytes then record m { sends = next_number m.sends; taken = m.taken ++ bytes ∷ [] }
    else record m { sends = next_number m.sends; failures = m.failures + 1 })

abbrev pub MemorySteps : Memory → LinkCall → Memory → Type 0
MemorySteps m (Sent bytes ok) n = (ok ≡ send_of m bytes) × (n ≡ after_send m bytes)
MemorySteps m (Handed room bytes) n = (Handed room bytes ≡ receive_of m room) × (n ≡ after_receive m)
MemorySteps m Silent n = (Silent ≡ receive_of m 0) × (n ≡ after_receive m)
MemorySteps m Broken n = (Broken ≡ receive_of m 0) × (n ≡ after_receive m)
