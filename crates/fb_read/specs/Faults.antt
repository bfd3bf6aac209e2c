-- Which fault of a text a stop is.
use Rattle.std.specs.Prelude.{◌≡◌, ℕ, ◌-◌, List, [], ◌∷◌, length, drop}
use Rattle.fb_model.specs.Tokens.{Token, token}
use Rattle.fb_read.specs.declared.stop.Stop.{Stop}
use Rattle.fb_read.specs.declared.stop.Stop.TheVariants.{Memory, Syntax, TooDeep}
use Rattle.fb_faults.specs.declared.text.TextFault.{TextFault}
use Rattle.fb_faults.specs.declared.text.TextFault.TheVariants as faults

-- where the tokens begin, or the end where there are none
abbrev pub start_or : ℕ → List Token → ℕ
start_or end [] = end
start_or end (token k s e ∷ ts) = s

-- where the last tokens of a text begin, which are so many, or its end where there are none
abbrev pub offset_of : ℕ → List Token → ℕ → ℕ
offset_of end ts left = start_or end (drop (length ts - left) ts)

-- where a token begins
abbrev pub start_of : Token → ℕ
start_of (token k s e) = s

-- where the last token ends, or this where there is none
abbrev pub end_or : ℕ → List Token → ℕ
end_or end [] = end
end_or end (token k s e ∷ ts) = end_or e ts

-- where the tokens end, or 0 where there are none
abbrev pub end_of : List Token → ℕ
end_of ts = end_or 0 ts

-- the fault is of the stop's kind, and at its place
abbrev pub Says : ℕ → List Token → Stop → TextFault → Type 0
Says end ts Memory faults.OutOfMemory = Unit {0}
Says end ts (Syntax left) (faults.Syntax offset) = offset ≡ offset_of end ts left
Says end ts (TooDeep left) (faults.TooDeep offset) = offset ≡ offset_of end ts left
Says end ts stop fault = ⊥
