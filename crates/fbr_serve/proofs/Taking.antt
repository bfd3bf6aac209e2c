-- Turns that are taken of the lines of a record.
use Rattle.std.proofs.Common.{◌≡◌, ◌⊎◌, inl, inr, ℕ, true, false, if◌then◌else◌, List, [], ◌∷◌, ◌++◌, Option, None, Some, Err, sym, ap, ap₂, subst, ◌∙◌}
use Rattle.std.specs.Str.{is_utf8}
use Rattle.fb_model.specs.CertificateText.{words}
use Rattle.fb_model.specs.System.{Device}
use Rattle.fb_model.specs.Certificates.{Certificate}
use Rattle.fb_model.specs.Devices.{Machine}
use Rattle.fbr_lines.specs.Reading.{IsNext, TakesLine}
use Rattle.fbr_lines.specs.declared.reading.Next.{Next}
use Rattle.fbr_lines.specs.declared.reading.Next.TheVariants.{Last, End}
use Rattle.fb_record.specs.Records.{Entry, entry_in}
use Rattle.fb_turn.specs.Turns.{report_of}
use Rattle.fb_model.specs.Turning.{Turn}
use Rattle.fb_turn.specs.declared.turning.Report.{Report}
use Rattle.fbr_notices.specs.declared.stop.Stop.{Stop}
use Rattle.fbr_notices.specs.declared.stop.Stop.TheVariants as stops
use Rattle.fbr_notices.specs.declared.sums.Sums.{Sums}
use Rattle.fbr_notices.specs.Sums.{TurnAt, sums_of, with_report}
use Rattle.fbr_serve.specs.Serving.{EndsTurn, IsCutOff}
use Rattle.fbr_serve.specs.Recording.{IsOver, Retaken, more, Retakes, entry_said}
use Rattle.fbr_serve.proofs.Served.{more_sums}

-- what a line says, and what it does not
pub said : (line text : List ℕ) (e : Entry) → is_utf8 line ≡ true → text ≡ line → entry_in (words text) ≡ Some e → entry_said line ≡ Some e
said line text e good same is = ap (λ b. if b then entry_in (words line) else None) good ∙ subst (λ l. entry_in (words l) ≡ Some e) same is

pub unsaid : (line : List ℕ) → is_utf8 line ≡ false → entry_said line ≡ None
unsaid line bad = ap (λ b. if b then entry_in (words line) else None) bad

-- one turn more
pub one_more : (cert : Certificate) (device : Device) (held rest end : Option (List ℕ)) (s m t : Machine) (all : List TurnAt) (x : TurnAt) (line read : List ℕ) (e : Entry)
    → Retaken cert device held s all rest m → TakesLine rest end line → read ≡ line → entry_said read ≡ Some e → Retakes cert device m e x t → Retaken cert device held s (all ++ x ∷ []) end t
one_more cert device held rest end s m t all x line read e h takes same is taken = more h takes (subst (λ l. entry_said l ≡ Some e) same is) taken

pub summed : (all : List TurnAt) (x : TurnAt) (before after : Sums) (report : Report) → before ≡ sums_of all → after ≡ with_report before report → report ≡ report_of x.turn → after ≡ sums_of (all ++ x ∷ [])
summed all x before after report h e r = e ∙ ap₂ with_report h r ∙ sym (more_sums all x)

-- a turn that stops is one in which a receive failed
pub stopped : (device : Device) (turn : Turn) (stop : Stop) → EndsTurn device turn (Err stop) → IsCutOff turn
stopped device turn stops.LinkDown h = h
stopped device turn stops.Output h = absurd h
stopped device turn stops.Clock h = absurd h

-- nothing is left to be read, or a line that was cut
pub over : (old new : Option (List ℕ)) (line : List ℕ) (n : Next) → IsNext 8192 old new line n → (n ≡ Last) ⊎ (n ≡ End) → IsOver old
over old new line n h (inl e) = (new, inr (line, subst (IsNext 8192 old new line) e h))
over old new line n h (inr e) = (new, inl (subst (IsNext 8192 old new line) e h))
