-- What a script does: its lines are run in order, each as it comes, and none is run after one that is bad.
use Rattle.std.specs.Prelude.{◌≡◌, ◌⊎◌, ℕ, ◌+◌, List, [], ◌∷◌, ◌++◌, Option}
use Rattle.std.specs.Io.KnownBytes.{Appends, IsAtEnd}
use Rattle.std.specs.Str.Lines.{StripsCarriageReturn}
use Rattle.fbr_lines.specs.Reading.{TakesLine, TakesLast}
use Rattle.fb_model.specs.System.{System}
use Rattle.fb_model.specs.Certificates.{Certificate}
use Rattle.fb_model.specs.World.{World}
use Rattle.fb_model.specs.CertificateText.{words}
use Rattle.fb_world_course.specs.Scenes.{Scene, system_of, cert_of, world_of}
use Rattle.fb_script.specs.Playing.{Answers, IsBad}
use Rattle.fb_script.specs.declared.run.End.{End}
use Rattle.fb_script.specs.declared.run.End.TheVariants.{Done, Line, Unreadable, OutOfMemory}

-- the next line of what a stream holds, and what is left behind it. A carriage return before a line feed belongs to it.
abbrev pub IsLine : Option (List ℕ) → List ℕ → Option (List ℕ) → Type 0
IsLine held line rest = ((bytes : List ℕ) × TakesLine held rest bytes × StripsCarriageReturn bytes line) ⊎ TakesLast held rest line

-- a script that is at its end is done; or it cannot be read on, or there is no memory
abbrev pub HaltsAt : Option (List ℕ) → End → Type 0
HaltsAt held Done = IsAtEnd held
HaltsAt held (Line n) = ⊥
HaltsAt held Unreadable = Unit {0}
HaltsAt held OutOfMemory = Unit {0}

-- the lines of a stream, the first of which has this number: the text that they print, how they end, and where the world comes to
pub data Runs (system : System) (cert : Certificate) : ℕ → Option (List ℕ) → World → List ℕ → End → World → Type 0 where
  done : {n : ℕ} {held : Option (List ℕ)} {w : World} → IsAtEnd held → Runs system cert n held w [] Done w
  memory : {n : ℕ} {held : Option (List ℕ)} {w : World} → Runs system cert n held w [] OutOfMemory w
  unreadable : {n : ℕ} {held : Option (List ℕ)} {w : World} → Runs system cert n held w [] Unreadable w
  bad : {n : ℕ} {line : List ℕ} {held rest : Option (List ℕ)} {w : World} → IsLine held line rest → IsBad system cert w line → Runs system cert n held w [] (Line n) w
  blank : {n : ℕ} {line : List ℕ} {held rest : Option (List ℕ)} {old new : World} {text : List ℕ} {end : End}
      → IsLine held line rest → words line ≡ [] → Runs system cert (n + 1) rest old text end new → Runs system cert n held old text end new
  answered : {n : ℕ} {line : List ℕ} {held rest : Option (List ℕ)} {old mid new : World} {told text : List ℕ} {end : End}
      → IsLine held line rest → Answers system cert line old told mid → Runs system cert (n + 1) rest mid text end new → Runs system cert n held old (told ++ 10 ∷ text) end new

-- a world runs the script that a stream holds: the writer grows by what the lines print
pub record IsRun (old : Scene) (held before after : Option (List ℕ)) (end : End) (new : Scene) : Type 0 where
  pub text : List ℕ
  pub runs : Runs (system_of old) (cert_of old) 1 held (world_of old) text end (world_of new)
  pub printed : Appends before after text
