-- Lines, one after another.
use Rattle.std.proofs.Common.{◌≡◌, ℕ, ◌+◌, List, [], ◌∷◌, ◌++◌, Option, Some, None, inl, inr, ◌⊎◌, refl, sym, ap, subst, ◌∙◌, append_assoc, append-nil}
use Rattle.std.specs.Io.KnownBytes.{Appends, Keeps}
use Rattle.fb_model.specs.System.{System}
use Rattle.fb_model.specs.Certificates.{Certificate}
use Rattle.fb_model.specs.World.{World}
use Rattle.fb_verified.specs.Checked.{system_in, certificate_in}
use Rattle.fb_world_course.specs.Scenes.{Scene, system_of, cert_of, world_of}
use Rattle.fb_script.specs.Playing.{Answers, IsBad}
use Rattle.fb_script.specs.Runs.{HaltsAt, IsLine, Runs, done, memory, unreadable, bad, blank, answered, IsRun}
use Rattle.fb_script.specs.Steps.{IsStep}
use Rattle.fb_script.specs.declared.run.End.{End}
use Rattle.fb_script.specs.declared.run.End.TheVariants as ends

-- ---- writers that grow

pub appends_none : (o : Option (List ℕ)) → Appends o o []
appends_none None = tt
appends_none (Some xs) = sym (append-nil xs)

appends_both : (a b c : Option (List ℕ)) (x y : List ℕ) → Appends a b x → Appends b c y → Appends a c (x ++ y)
appends_both None b c x y h k = tt
appends_both (Some xs) None c x y h k = absurd h
appends_both (Some xs) (Some ys) None x y h k = absurd k
appends_both (Some xs) (Some ys) (Some zs) x y h k = k ∙ (ap (λ t. t ++ y) h ∙ append_assoc xs x y)

appends_kept : (a b c : Option (List ℕ)) (x : List ℕ) → Appends a b x → Keeps b c → Appends a c x
appends_kept None b c x h k = tt
appends_kept (Some xs) None c x h k = absurd h
appends_kept (Some xs) (Some ys) None x h k = absurd k
appends_kept (Some xs) (Some ys) (Some zs) x h k = k ∙ h

-- ---- what is left to run, and how far the world and the writer have come

abbrev Continues : ℕ → Scene → Scene → Option (List ℕ) → List ℕ → Option (List ℕ) → Type 0
Continues number first now held text left =
    (more : List ℕ) (end : End) (w : World) → Runs (system_of first) (cert_of first) number left (world_of now) more end w → Runs (system_of first) (cert_of first) 1 held (world_of first) (text ++ more) end w

-- the line of this number is the next one
pub record Ahead (number : ℕ) (first now : Scene) (held left before after : Option (List ℕ)) : Type 0 where
  pub text : List ℕ
  pub printed : Appends before after text
  pub verified : now.verified ≡ first.verified
  pub on : Continues number first now held text left

-- nothing is run
pub start : (first : Scene) (held before : Option (List ℕ)) → Ahead 1 first first held held before before
start first held before = record { text = []; printed = appends_none before; verified = refl; on = λ more end w r. r }

-- the run ends here
pub halted : {number : ℕ} {first now : Scene} {held left before after : Option (List ℕ)} (end : End)
    → Ahead number first now held left before after → Runs (system_of first) (cert_of first) number left (world_of now) [] end (world_of now) → IsRun first held before after end now
halted {number} {first} {now} {held} {left} {before} {after} end a r =
    record {
      text = a.text;
      runs = subst (λ t. Runs (system_of first) (cert_of first) 1 held (world_of first) t end (world_of now)) (append-nil a.text) (a.on [] end (world_of now) r);
      printed = a.printed;
    }

pub halts : {number : ℕ} {system : System} {cert : Certificate} {held : Option (List ℕ)} {w : World} (end : End) → HaltsAt held end → Runs system cert number held w [] end w
halts ends.Done h = done h
halts (ends.Line n) h = absurd h
halts ends.Unreadable h = unreadable
halts ends.OutOfMemory h = memory

-- a line is run, and the next one is ahead
pub next : {number : ℕ} {x : List ℕ} {first now later : Scene} {held left rest before after wider : Option (List ℕ)}
    → Ahead number first now held left before after → IsLine left x rest → IsStep now x number after wider None later → later.verified ≡ now.verified
    → Ahead (number + 1) first later held rest before wider
next {number} {x} {first} {now} {later} {held} {left} {rest} {before} {after} {wider} a line s v = by s
  where
    with_text : (told : List ℕ) → Appends after wider told
        → ((more : List ℕ) (end : End) (w : World) → Runs (system_of first) (cert_of first) (number + 1) rest (world_of later) more end w → Runs (system_of first) (cert_of first) number left (world_of now) (told ++ more) end w)
        → Ahead (number + 1) first later held rest before wider
    with_text told h go =
        record {
          text = a.text ++ told;
          printed = appends_both before after wider a.text told a.printed h;
          verified = v ∙ a.verified;
          on = λ more end w r. subst (λ y. Runs (system_of first) (cert_of first) 1 held (world_of first) y end w) (sym (append_assoc a.text told more)) (a.on (told ++ more) end w (go more end w r));
        }

    by : IsStep now x number after wider None later → Ahead (number + 1) first later held rest before wider
    by (inl h) = with_text [] h.1.0 (λ more end w r. blank line h.0 (subst (λ o. Runs (system_of first) (cert_of first) (number + 1) rest o more end w) h.1.1 r))
    by (inr h) =
        with_text (h.0 ++ 10 ∷ []) h.2
        (λ more end w r. subst (λ y. Runs (system_of first) (cert_of first) number left (world_of now) y end w) (sym (append_assoc h.0 (10 ∷ []) more))
        (answered line (subst (λ k. Answers (system_in k) (certificate_in k) x (world_of now) h.0 (world_of later)) a.verified h.1) r))

-- what was printed is shown
pub shown : {number : ℕ} {first now : Scene} {held left before after later : Option (List ℕ)} → Ahead number first now held left before after → Keeps after later → Ahead number first now held left before later
shown {number} {first} {now} {held} {left} {before} {after} {later} a k = record { text = a.text; printed = appends_kept before after later a.text a.printed k; verified = a.verified; on = a.on }

-- a script ends at a line
pub stopped : {number : ℕ} {x : List ℕ} {first now later : Scene} {held left rest before after wider : Option (List ℕ)} (end : End)
    → Ahead number first now held left before after → IsLine left x rest → IsStep now x number after wider (Some end) later → IsRun first held before wider end later
stopped {number} {x} {first} {now} {later} {held} {left} {rest} {before} {after} {wider} end a line s = by s.0
  where
    runs_so : Runs (system_of first) (cert_of first) number left (world_of now) [] end (world_of now) → IsRun first held before wider end later
    runs_so r =
        record {
          text = a.text ++ [];
          runs = subst (λ w. Runs (system_of first) (cert_of first) 1 held (world_of first) (a.text ++ []) end w) (sym s.1.1) (a.on [] end (world_of now) r);
          printed = appends_both before after wider a.text [] a.printed s.1.0;
        }

    by : (end ≡ ends.OutOfMemory) ⊎ (IsBad (system_of now) (cert_of now) (world_of now) x × (end ≡ ends.Line number)) → IsRun first held before wider end later
    by (inl e) = runs_so (subst (λ k. Runs (system_of first) (cert_of first) number left (world_of now) [] k (world_of now)) (sym e) memory)
    by (inr h) =
        runs_so (subst (λ k. Runs (system_of first) (cert_of first) number left (world_of now) [] k (world_of now)) (sym h.1)
        (bad line (subst (λ k. IsBad (system_in k) (certificate_in k) (world_of now) x) a.verified h.0)))
