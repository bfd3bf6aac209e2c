use Rattle.std.proofs.Common.{◌≡◌, map, sym, subst, None}
use Rattle.fb_verified.specs.Checked.{system_in, certificate_in}
use Rattle.fb_flat.specs.declared.flat.Flat.{Flat}
use Rattle.fb_flat.specs.Leaves.{flat_device, written_device}
use Rattle.fb_find.specs.Given.{IsGiven}
use Rattle.fb_find.proofs.Given.{given, has_numbering}
use Rattle.fb_model_texts.proofs.Small.{small}
use Rattle.fb_turns.specs.Counting.{HasFit}
use Rattle.fb_turns.proofs.turns.count_turns.Goals as goal

pub counted-requires : goal.counted-requires
counted-requires c =
    let v = c.args.verified.now in
    let s = system_in v in
    let fs = c.flat-flat.result.now.devices.items in
    let tables : map flat_device fs ≡ map written_device s.devices = subst (λ (f : Flat). map flat_device f.devices.items ≡ map written_device s.devices) (sym c.flat-flat.ensures) c.fits.ensures.tables in
    let known : IsGiven fs s = given s fs c.fits.ensures.written tables c.fits.ensures.fits.followed in
    let numbered = (has_numbering None fs c.in-Ok.numbering s known (c.in-Ok.ensures.rows s known.tables known.words) (c.in-Ok.ensures.ends s known.tables) c.in-Ok.ensures.texts.0 c.in-Ok.ensures.texts.1).numbered in
    let told = c.fits.ensures.told in
    let has : HasFit s (certificate_in v) = record { fits = c.fits.ensures.fits; small = small told.0 (certificate_in v) told.1 } in
    (s, certificate_in v, numbered, has)

pub returns : goal.returns
returns c =
    let v = c.args.verified.now in
    let s = system_in v in
    let fs = c.flat-flat.result.now.devices.items in
    let tables : map flat_device fs ≡ map written_device s.devices = subst (λ (f : Flat). map flat_device f.devices.items ≡ map written_device s.devices) (sym c.flat-flat.ensures) c.fits.ensures.tables in
    let known : IsGiven fs s = given s fs c.fits.ensures.written tables c.fits.ensures.fits.followed in
    let numbered = (has_numbering None fs c.in-Ok.numbering s known (c.in-Ok.ensures.rows s known.tables known.words) (c.in-Ok.ensures.ends s known.tables) c.in-Ok.ensures.texts.0 c.in-Ok.ensures.texts.1).numbered in
    let told = c.fits.ensures.told in
    let has : HasFit s (certificate_in v) = record { fits = c.fits.ensures.fits; small = small told.0 (certificate_in v) told.1 } in
    c.counted.ensures s (certificate_in v) numbered has
