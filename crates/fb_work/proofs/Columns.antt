-- The column of work is ready to be found, and what is found is the least work.
use Rattle.std.proofs.Common.{◌≡◌, ◌<◌, ℕ, zero, suc, List, [], ◌∷◌, map, slice_index, None, inl, inr, refl, sym, ◌∙◌, ap, subst, arith, Contains}
use Rattle.std.specs.Prelude.{◌⊎◌}
use Rattle.fb_model.specs.Names.{Place}
use Rattle.fb_model.specs.System.{System}
use Rattle.fb_model.specs.Ranges.{Range}
use Rattle.fb_model.specs.Certificates.{all_leaves, event_places}
use Rattle.fb_model.specs.CertificateText.{most_steps}
use Rattle.fb_model.specs.Demands.{Node, state, event, channel, Demand, bare_demands}
use Rattle.fb_model_laws.proofs.Closed.{all_charts_closed}
use Rattle.fb_model_turns.specs.Turns.{Counts}
use Rattle.fb_model_work.specs.Spending.{Prices}
use Rattle.fb_types_blocks.specs.Views.{names_of}
use Rattle.fb_flat.specs.declared.flat.FlatDevice.{FlatDevice}
use Rattle.fb_find_laws.specs.Numbered.{AreOf}
use Rattle.fb_find_laws.specs.Nodes.{Numbered, AskForAll, by_number, capped}
use Rattle.fb_find_demands.specs.declared.numbered.Numbering.{Numbering}
use Rattle.fb_find_demands.specs.Leaves.{AreClosed}
use Rattle.fb_find_demands.specs.Rights.{numbers_of, numbered}
use Rattle.fb_find.specs.Columns.{AreSmallest, FulfilsAll, IsColumn}
use Rattle.fb_find.specs.Given.{IsNumbered, nodes_in}
use Rattle.fb_find.proofs.Nodes.{numbers_stand, asked_of}
use Rattle.fb_turns.specs.Counting.{counts_in}
use Rattle.fb_turns.proofs.Counted.{number_by, in_nodes}
use Rattle.fb_work_charts.specs.Reckoning.{all_capped}
use Rattle.fb_work.specs.Demands.{all_works, charged, with_works, work_demands}
use Rattle.fb_work.specs.Counting.{IsLeastWork, IsPastLimit, IsTooMuch}
use Rattle.fb_work.proofs.Paying.{fits_meets, meets_fits}

-- ---- demands with works

-- they are of the same nodes, and ask for no others
from_bare : (ns : List ℕ) (ds : List Demand) (e : Demand) → Contains (with_works ns ds) e
    → (d : Demand) × Contains ds d × (d.node ≡ e.node) × (d.terms ≡ e.terms)
from_bare [] ds e (k, l, i) = absurd (omega (arith, l))
from_bare (n ∷ ns) [] e (k, l, i) = absurd (omega (arith, l))
from_bare (n ∷ ns) (d ∷ ds) e (zero, l, i) = (d, (zero, omega arith, refl), ap (λ (x : Demand). x.node) i, ap (λ (x : Demand). x.terms) i)
from_bare (n ∷ ns) (d ∷ ds) e (suc k, l, i) = let r = from_bare ns ds e (k, omega (arith, l), i) in (r.0, (suc r.1.0, omega (arith, r.1.1), r.1.2), r.2, r.3)

works_of : (nodes : List Node) (ns : List ℕ) (ds : List Demand) → AreOf nodes ds → AreOf nodes (with_works ns ds)
works_of nodes ns ds h = record {
  node = λ e c. let r = from_bare ns ds e c in subst (Contains nodes) r.2 (h.node r.0 r.1);
  terms = λ e x c t. let r = from_bare ns ds e c in h.terms r.0 x r.1 (subst (λ xs. Contains xs x) (sym r.3) t);
}

works_ask : (ns : List ℕ) (ds : List Demand) → AskForAll ds (with_works ns ds)
works_ask ns ds = λ e x c t. let r = from_bare ns ds e c in (r.0, r.1, r.2, subst (λ xs. Contains xs x) (sym r.3) t)

-- by numbers
pub charged_numbered : (f : Node → ℕ) (ns : List ℕ) (ds : List Demand) → charged (all_capped ns) (map (by_number f) ds) ≡ map (by_number f) (with_works ns ds)
charged_numbered f [] ds = refl
charged_numbered f (n ∷ ns) [] = refl
charged_numbered f (n ∷ ns) (d ∷ ds) = ap (λ rs. record { node = f d.node; constant = capped n; terms = map f d.terms } ∷ rs) (charged_numbered f ns ds)

-- ---- nodes

-- ---- the column

module _ (devices : List FlatDevice) (n : Numbering) (s : System) (i : IsNumbered None devices n s) where
  pub closed : AreClosed s.devices
  closed = all_charts_closed i.given.library i.given.source s i.given.typed

  event_known : (p : Place) → Contains (event_places (all_leaves s.devices)) p → Contains (nodes_in n) (event p)
  event_known p h = in_nodes (names_of n.states) (names_of n.events) n.channels.items p (subst (λ ps. Contains ps p) (sym i.ordered.events_are) h)

  module _ (prices : Prices) (ranges : List Range) where
    -- what the code makes of the demands
    pub rights_are : (works : List ℕ) (asked : List Numbered) → works ≡ all_capped (all_works prices ranges (all_leaves s.devices))
        → asked ≡ numbered n (bare_demands (all_leaves s.devices))
        → charged works asked ≡ numbered n (work_demands prices ranges (all_leaves s.devices))
    rights_are works asked e h =
        ap (λ ns. charged ns asked) e ∙ ap (charged (all_capped (all_works prices ranges (all_leaves s.devices)))) h
        ∙ charged_numbered (numbers_of n) (all_works prices ranges (all_leaves s.devices)) (bare_demands (all_leaves s.devices))

    pub column : (order : List ℕ) (rights : List Numbered) → FulfilsAll None n s order
        → rights ≡ numbered n (work_demands prices ranges (all_leaves s.devices))
        → IsColumn n order rights (work_demands prices ranges (all_leaves s.devices))
    column order rights serves e = record {
      are = e;
      nodes_have = numbers_stand None devices n s i;
      of_nodes = works_of (nodes_in n) (all_works prices ranges (all_leaves s.devices)) (bare_demands (all_leaves s.devices)) (asked_of None devices n s i);
      serves = serves (work_demands prices ranges (all_leaves s.devices)) (works_ask (all_works prices ranges (all_leaves s.devices)) (bare_demands (all_leaves s.devices)));
    }

    -- the least numbers that meet them are the least work
    pub least_work : (numbers : List ℕ) → AreSmallest n (work_demands prices ranges (all_leaves s.devices)) most_steps numbers
        → IsLeastWork prices ranges s (counts_in n numbers)
    least_work numbers k = record {
      fits = meets_fits prices ranges (λ v. slice_index numbers (numbers_of n v)) s k.least.meets;
      least = λ others h p has. k.least.least (number_by others) (fits_meets prices ranges (number_by others) s h) (event p) (event_known p has);
    }

-- ---- a number above the limit

node_past : (c : Counts) (x : Node) → most_steps < number_by c x → (p : Place) × ((most_steps < c.weight p) ⊎ (most_steps < c.charge p))
node_past c (state p) h = (p, inr h)
node_past c (event p) h = (p, inl h)
node_past c (channel n) h = absurd (omega (arith, h))

pub too_much : (prices : Prices) (ranges : List Range) (s : System) → IsPastLimit (work_demands prices ranges (all_leaves s.devices))
    → IsTooMuch prices ranges s
too_much prices ranges s (x, above) = inr (λ others h. node_past others x (above (number_by others) (fits_meets prices ranges (number_by others) s h)))
