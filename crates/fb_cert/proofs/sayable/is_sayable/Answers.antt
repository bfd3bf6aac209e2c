use Rattle.std.proofs.Common.{sym, ◌∙◌, rules}
use Rattle.fb_model.specs.CertificateText.{most_repeats, most_channel, most_places, most_steps}
use Rattle.fb_cert.proofs.Sayables.{int_le_true, path_said, amount_said, within_said}
use Rattle.fb_cert.proofs.sayable.is_sayable.Goals as goal

pub returns-in-Range-clause-said : goal.returns-in-Range-clause-said
returns-in-Range-clause-said c = rw c.in-Range.is (λ t. (path_said c.in-Range.path.now (sym c.is_upper_path.ensures ∙ t), record { low_fits = search rules; high_fits = search rules; ordered = int_le_true c.in-Range.interval.low c.in-Range.interval.high c.in-Range.interval.ordered }))

pub returns-then-is_upper_path-clause-said : goal.returns-then-is_upper_path-clause-said
returns-then-is_upper_path-clause-said c =
    rw c.in-Charge.is (λ t. (path_said c.in-Charge.path.now (sym c.is_upper_path-in-Charge.ensures ∙ c.if-is_upper_path.true), amount_said c.in-Charge.amount.steps c.in-Charge.amount.places (sym c.is_amount.ensures ∙ t)))

pub returns-then-is_upper_path-2-clause-said : goal.returns-then-is_upper_path-2-clause-said
returns-then-is_upper_path-2-clause-said c =
    rw c.in-Weight.is (λ t. (path_said c.in-Weight.path.now (sym c.is_upper_path-in-Weight.ensures ∙ c.if-is_upper_path-2.true), amount_said c.in-Weight.amount.steps c.in-Weight.amount.places (sym c.is_amount-then-is_upper_path-2.ensures ∙ t)))

pub returns-then-is_upper_path-3-clause-said : goal.returns-then-is_upper_path-3-clause-said
returns-then-is_upper_path-3-clause-said c =
    rw c.in-Depth.is (λ t. (path_said c.in-Depth.path.now (sym c.is_upper_path-in-Depth.ensures ∙ c.if-is_upper_path-3.true), within_said 1 most_places c.in-Depth.depth (sym c.is_within-then-is_upper_path-3.ensures ∙ t)))

pub returns-then-is_upper_path-4-clause-said : goal.returns-then-is_upper_path-4-clause-said
returns-then-is_upper_path-4-clause-said c =
    rw c.in-Far.is (λ t. (path_said c.in-Far.path.now (sym c.is_upper_path-in-Far.ensures ∙ c.if-is_upper_path-4.true), within_said 0 most_steps c.in-Far.steps (sym c.is_within-then-is_upper_path-4.ensures ∙ t)))

pub returns-then-is_upper_path-5-clause-said : goal.returns-then-is_upper_path-5-clause-said
returns-then-is_upper_path-5-clause-said c =
    rw c.in-FarState.is (λ t. (path_said c.in-FarState.path.now (sym c.is_upper_path-in-FarState.ensures ∙ c.if-is_upper_path-5.true), within_said 0 most_steps c.in-FarState.steps (sym c.is_within-then-is_upper_path-5.ensures ∙ t)))

pub returns-in-Repeats-clause-said : goal.returns-in-Repeats-clause-said
returns-in-Repeats-clause-said c = rw c.in-Repeats.is (λ t. within_said 1 most_repeats c.in-Repeats.number (sym c.is_within.ensures ∙ t))

pub returns-then-is_within-clause-said : goal.returns-then-is_within-clause-said
returns-then-is_within-clause-said c =
    rw c.in-Channel.is (λ t. (within_said 0 most_channel c.in-Channel.number (sym c.is_within-in-Channel.ensures ∙ c.if-is_within.true), within_said 0 most_steps c.in-Channel.steps (sym c.is_within-then-is_within.ensures ∙ t)))
