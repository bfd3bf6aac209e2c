use Rattle.std.proofs.Common.{None, subst, sym}
use Rattle.fb_find.specs.Columns.{FulfilsAll}
use Rattle.fb_turns.proofs.turns.counted.Goals as goal

pub all_counts-requires : goal.all_counts-requires
all_counts-requires c =
    let s = c.requires.0 in
    let numbered = c.requires.2 in
    (s, c.requires.1, record { numbered = numbered; serves = subst (FulfilsAll None c.args.numbering s) (sym c.as_slice.ensures.value) (c.in_ok-order.ensures s numbered); has = c.requires.3 })

pub chain_counts-requires : goal.chain_counts-requires
chain_counts-requires c =
    let s = c.requires.0 in
    let numbered = c.requires.2 in
    (s, c.requires.1, record { numbered = numbered; serves = subst (FulfilsAll None c.args.numbering s) (sym c.as_slice-2.ensures.value) (c.in_ok-order.ensures s numbered); has = c.requires.3 })

pub returns : goal.returns
returns c = λ s cert numbered has.
    let n = c.args.numbering in
    let served = c.in_ok-order.ensures s numbered in
    record {
      all = c.in_ok-all.ensures s cert (record { numbered = numbered; serves = subst (FulfilsAll None n s) (sym c.as_slice.ensures.value) served; has = has });
      longest = c.in_ok-longest.ensures s cert (record { numbered = numbered; serves = subst (FulfilsAll None n s) (sym c.as_slice-2.ensures.value) served; has = has });
    }
