use Rattle.std.proofs.Common.{IfErr, IfOk, None, subst}
use Rattle.fb_cert.specs.Rows.{Rows}
use Rattle.fb_cert.specs.Views.{certificate_of}
use Rattle.fb_verified.specs.Checked.{certificate_in, system_in}
use Rattle.fb_find.proofs.Given.{has_numbering}
use Rattle.fb_prices.specs.Words.{prices_of}
use Rattle.fb_work.specs.Algorithms.{OrMemory}
use Rattle.fb_work.specs.Counting.{BoundsAllWork, IsLeastWork, IsTooMuch, work_in}
use Rattle.fb_work.proofs.Bounding.{bounds}
use Rattle.fb_work.proofs.Ready.{countable}
use Rattle.fb_check_rows.proofs.Loops.{ok_weaker}
use Rattle.fb_work.proofs.work.count_work.Goals as goal

pub counted-requires : goal.counted-requires
counted-requires c =
    let v = c.args.verified.now in
    let s = system_in v in (
      s,
      countable v c.flat-flat.result.now c.certificate.result.now c.in-Ok.numbering c.fits.ensures c.flat-flat.ensures c.certificate.ensures
          (λ known. has_numbering None c.flat-flat.result.now.devices.items c.in-Ok.numbering s known (c.in-Ok.ensures.rows s known.tables known.words) (c.in-Ok.ensures.ends s known.tables) c.in-Ok.ensures.texts.0 c.in-Ok.ensures.texts.1),
    )

pub returns-clause-least : goal.returns-clause-least
returns-clause-least c =
    let v = c.args.verified.now in
    let s = system_in v in
    let has = countable v c.flat-flat.result.now c.certificate.result.now c.in-Ok.numbering c.fits.ensures c.flat-flat.ensures c.certificate.ensures
    (λ known. has_numbering None c.flat-flat.result.now.devices.items c.in-Ok.numbering s known (c.in-Ok.ensures.rows s known.tables known.words) (c.in-Ok.ensures.ends s known.tables) c.in-Ok.ensures.texts.0 c.in-Ok.ensures.texts.1) in
    subst (λ (r : Rows). IfOk c.counted.result (λ w. IsLeastWork (prices_of c.args.prices.now) (certificate_of r).ranges s (work_in w))) c.certificate.ensures (c.counted.ensures.least s has)

pub returns-clause-bounds : goal.returns-clause-bounds
returns-clause-bounds c =
    let v = c.args.verified.now in
    let s = system_in v in
    let prices = prices_of c.args.prices.now in
    let has = countable v c.flat-flat.result.now c.certificate.result.now c.in-Ok.numbering c.fits.ensures c.flat-flat.ensures c.certificate.ensures
    (λ known. has_numbering None c.flat-flat.result.now.devices.items c.in-Ok.numbering s known (c.in-Ok.ensures.rows s known.tables known.words) (c.in-Ok.ensures.ends s known.tables) c.in-Ok.ensures.texts.0 c.in-Ok.ensures.texts.1) in
    let least = subst (λ (r : Rows). IfOk c.counted.result (λ w. IsLeastWork prices (certificate_of r).ranges s (work_in w))) c.certificate.ensures (c.counted.ensures.least s has) in
    ok_weaker (λ w. IsLeastWork prices (certificate_in v).ranges s (work_in w)) (λ w. BoundsAllWork prices (certificate_in v) s (work_in w))
    (λ w k. bounds c.work_is_bounded.ensures s (certificate_in v) c.fits.ensures.written c.fits.ensures.fits prices (work_in w) k.fits) c.counted.result least

pub returns-clause-refused : goal.returns-clause-refused
returns-clause-refused c =
    let v = c.args.verified.now in
    let s = system_in v in
    let has = countable v c.flat-flat.result.now c.certificate.result.now c.in-Ok.numbering c.fits.ensures c.flat-flat.ensures c.certificate.ensures
    (λ known. has_numbering None c.flat-flat.result.now.devices.items c.in-Ok.numbering s known (c.in-Ok.ensures.rows s known.tables known.words) (c.in-Ok.ensures.ends s known.tables) c.in-Ok.ensures.texts.0 c.in-Ok.ensures.texts.1) in
    subst (λ (r : Rows). IfErr c.counted.result (OrMemory (IsTooMuch (prices_of c.args.prices.now) (certificate_of r).ranges s))) c.certificate.ensures (c.counted.ensures.refused s has)
