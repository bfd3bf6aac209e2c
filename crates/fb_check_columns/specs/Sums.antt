-- Sums that may be more than any row can pay.
use Rattle.std.specs.Prelude.{◌≡◌, ℕ, ◌<◌, max, Option, None, Some}
use Rattle.fb_model.specs.CertificateText.{most_steps}

-- the number; nothing stands for one that is more than the most steps of a row
abbrev pub IsSum : Option ℕ → ℕ → Type 0
IsSum None v = most_steps < v
IsSum (Some n) v = n ≡ v

-- the greater of two numbers, where there are any
abbrev pub greater : Option ℕ → Option ℕ → Option ℕ
greater None b = b
greater (Some a) None = Some a
greater (Some a) (Some b) = Some (max a b)
