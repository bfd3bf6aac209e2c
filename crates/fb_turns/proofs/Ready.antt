-- The columns of dispatches are ready to be found, and nothing stands in their way.
use Rattle.std.proofs.Common.{ℕ, ◌≡◌, ◌≤◌, List, map, length, refl, None, sym, subst, ◌∙◌, arith, Contains}
use Rattle.std.specs.List.{flat_map}
use Rattle.fb_model.specs.Names.{Place}
use Rattle.fb_model.specs.System.{System}
use Rattle.fb_model.specs.Certificates.{Certificate, Fits, all_leaves, event_places, steps_of}
use Rattle.fb_model.specs.CertificateText.{most_steps}
use Rattle.fb_model.specs.Demands.{Node, event, Demand, bare_demands}
use Rattle.fb_model.specs.Columns.{number_of, MeetAll}
use Rattle.fb_model.specs.Finding.{node_of}
use Rattle.fb_model_laws.proofs.Closed.{all_charts_closed}
use Rattle.fb_model_laws.proofs.Walks.{walks_exclude}
use Rattle.fb_faults.specs.declared.no_bound.NoBound.{NoBound}
use Rattle.fb_faults.specs.declared.no_bound.NoBound.TheVariants.{OutOfMemory, Cycle, NoRange, Limit}
use Rattle.fb_flat.specs.declared.flat.FlatDevice.{FlatDevice}
use Rattle.fb_find_laws.specs.Numbered.{AreNumbers, AreOf}
use Rattle.fb_find_laws.specs.Nodes.{Numbered}
use Rattle.fb_types_blocks.specs.Views.{names_of}
use Rattle.fb_find_demands.specs.declared.numbered.Numbering.{Numbering}
use Rattle.fb_find_demands.specs.Leaves.{AreClosed}
use Rattle.fb_find_demands.specs.Rights.{numbers_of, numbered}
use Rattle.fb_find.specs.Given.{nodes_in}
use Rattle.fb_find.specs.Columns.{AreSmallest, IsColumn, IsCycle, IsPastFault}
use Rattle.fb_find.proofs.Nodes.{numbers_stand, asked_of}
use Rattle.fb_model_turns.specs.Turns.{added, largest}
use Rattle.fb_turns.specs.Counting.{all_right, chain_rights, counts_in, AreLeastCounts, IsCountable}
use Rattle.fb_turns.proofs.Owning.{bare_owned}
use Rattle.fb_turns.proofs.Counted.{counted, chained, all_numbered, chains_numbered, all_of, all_ask, chains_of, chains_ask, all_met, chains_met, all_fit, chains_fit, number_by, fitting_all, fitting_chains, in_nodes}
use Rattle.fb_turns.proofs.Paid.{steps_meet, steps_small}

module _ (devices : List FlatDevice) (n : Numbering) (order : List ℕ) (s : System) (cert : Certificate) (i : IsCountable devices n order s cert) where
  abbrev bare_of : List Demand
  bare_of = bare_demands (all_leaves s.devices)

  pub closed : AreClosed s.devices
  closed = all_charts_closed i.numbered.given.library i.numbered.given.source s i.numbered.given.typed

  pub stand : AreNumbers (nodes_in n) (numbers_of n)
  stand = numbers_stand None devices n s i.numbered

  known : AreOf (nodes_in n) bare_of
  known = asked_of None devices n s i.numbered

  -- all dispatches together

  pub all_column : (rights counted_rights : List Numbered) → rights ≡ numbered n bare_of → counted_rights ≡ map (all_right (length (names_of n.states))) rights → IsColumn n order counted_rights (map (counted n) bare_of)
  all_column rights counted_rights e f = record {
    are = f ∙ all_numbered n rights bare_of e;
    nodes_have = stand;
    of_nodes = all_of n bare_of known;
    serves = i.serves (map (counted n) bare_of) (all_ask n bare_of);
  }

  pub all_meet : MeetAll (number_of (steps_of cert)) (map (counted n) bare_of)
  all_meet = all_met n stand (number_of (steps_of cert)) bare_of known.node (bare_owned (all_leaves s.devices)) (steps_meet s cert i.has.fits)

  -- those of the longest chain

  pub chain_column : (rights chain_of : List Numbered) → rights ≡ numbered n bare_of → chain_of ≡ flat_map (chain_rights (length (names_of n.states))) rights → IsColumn n order chain_of (flat_map (chained n) bare_of)
  chain_column rights chain_of e f = record {
    are = f ∙ chains_numbered n rights bare_of e;
    nodes_have = stand;
    of_nodes = chains_of n bare_of known;
    serves = i.serves (flat_map (chained n) bare_of) (chains_ask n bare_of);
  }

  pub chains_meet : MeetAll (number_of (steps_of cert)) (flat_map (chained n) bare_of)
  chains_meet = chains_met n stand (number_of (steps_of cert)) bare_of all_meet

  -- the least numbers that meet them are the least counts

  event_known : (p : Place) → Contains (event_places (all_leaves s.devices)) p → Contains (nodes_in n) (event p)
  event_known p h = in_nodes (names_of n.states) (names_of n.events) n.channels.items p (subst (λ ps. Contains ps p) (sym i.numbered.ordered.events_are) h)

  pub all_least : (numbers : List ℕ) → AreSmallest n (map (counted n) bare_of) most_steps numbers → AreLeastCounts added s (counts_in n numbers)
  all_least numbers k = record {
    fit = all_fit n stand numbers s k.least.meets;
    least = λ others h p has. k.least.least (number_by others) (fitting_all n stand s known.node others h) (event p) (event_known p has);
  }

  pub chains_least : (numbers : List ℕ) → AreSmallest n (flat_map (chained n) bare_of) most_steps numbers → AreLeastCounts largest s (counts_in n numbers)
  chains_least numbers k = record {
    fit = chains_fit n stand numbers s k.least.meets;
    least = λ others h p has. k.least.least (number_by others) (fitting_chains n stand s known.node others h) (event p) (event_known p has);
  }

  pub small : (x : Node) → number_of (steps_of cert) x ≤ most_steps
  small = steps_small cert i.has.small

-- ---- only memory can be wanting

-- where a certificate fits, demands go in no circle
pub no_cycle : (s : System) (cert : Certificate) (f : NoBound) → IsCycle None s f → Fits s cert → f ≡ OutOfMemory
no_cycle s cert OutOfMemory h fits = refl
no_cycle s cert (Cycle places) h fits = absurd (walks_exclude s cert (map node_of places.items) h.closed fits)
no_cycle s cert (NoRange path) h fits = absurd h
no_cycle s cert (Limit resource) h fits = absurd h

-- where numbers within the limit meet demands, the least ones are not above it
pub not_past : (n : Numbering) (ds : List Demand) (y : Node → ℕ) (f : NoBound) → IsPastFault n ds most_steps f → MeetAll y ds → ((x : Node) → y x ≤ most_steps) → f ≡ OutOfMemory
not_past n ds y OutOfMemory h m small = refl
not_past n ds y (Cycle places) h m small = absurd h
not_past n ds y (NoRange path) h m small = absurd h
not_past n ds y (Limit resource) h m small = absurd (omega (arith, h.above y m, small h.node))
