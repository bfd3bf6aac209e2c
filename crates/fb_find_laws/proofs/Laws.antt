-- The laws put together.
use Rattle.std.specs.Prelude.{◌&&◌}
use Rattle.std.specs.Str.{bytes_eq}
use Rattle.std.proofs.Common.{ℕ, ◌≡◌, ◌<◌, ◌≤◌, List, Option, Some, length, map, refl, ap, ◌∙◌, Contains}
use Rattle.std.specs.List.{AllByRecursion}
use Rattle.fb_model.specs.Declarations.{BlockTree, SourceTree}
use Rattle.fb_model.specs.NetworkTyping.{ElaboratesWith}
use Rattle.fb_model.specs.System as book
use Rattle.fb_model.specs.Names.{Name, Place, path_eq, place_eq}
use Rattle.fb_model.proofs.Names.{eq_turned}
use Rattle.fb_model_laws.proofs.Looking.{path_turned}
use Rattle.fb_find_laws.specs.Finding.{IsMade, IsMadeWith}
use Rattle.fb_model.specs.Finding.{IsFound, IsFoundWith}
use Rattle.fb_model.specs.FinderRanges.{AreFound}
use Rattle.fb_find_laws.proofs.Fitting.{made_found}
use Rattle.fb_model.specs.Ranges.{Range}
use Rattle.fb_model.specs.Certificates.{all_leaves, Certificate}
use Rattle.fb_model_laws.proofs.Wired.{all_wired}
use Rattle.fb_model_laws.proofs.Closed.{all_charts_closed}
use Rattle.fb_model.specs.Demands.{bare, bare_demands, bare_network, Demand, IsMet, Node}
use Rattle.fb_model.specs.Columns.{ground_of, demands, network_demands}
use Rattle.fb_find_graph.specs.Systems.{IsLeast, System}
use Rattle.fb_find_laws.specs.Numbered.{AreLeast, AreNumbers, AreOf}
use Rattle.fb_find_laws.proofs.Numbering.{least_nodes}
use Rattle.fb_find_laws.specs.Nodes.{by_number, capped_demand, nodes_of, AreGrouped, AreRowsOf}
use Rattle.fb_find_laws.proofs.Members.{all_of, network_of}
use Rattle.fb_find_laws.proofs.Same.{says_same, capped_of, least_whole, above_all}

pub of_nodes : (library : List BlockTree) (source : SourceTree) (system : book.System) (repeats : Option ℕ) (states events : List Name) (channels : List ℕ) → ElaboratesWith library source system → AreRowsOf repeats (all_leaves system.devices) states events channels
    → AreOf (nodes_of states events channels) (bare_demands (all_leaves system.devices)) × ((unit : ℕ) (ranges : List Range) → AreOf (nodes_of states events channels) (demands unit ranges (all_leaves system.devices)))
of_nodes library source system repeats states events channels e r =
    let all = all_leaves system.devices in
    let w = all_wired library source system e in
    let c = all_charts_closed library source system e in (
      all_of repeats all states events channels r bare (λ leaf. (λ s. refl, λ o. refl)) (λ leaf k. refl) system.devices refl w c,
      λ unit ranges. all_of repeats all states events channels r (ground_of unit ranges) (λ leaf. (λ s. refl, λ o. refl)) (λ leaf k. refl) system.devices refl w c,
    )

pub network_nodes : (library : List BlockTree) (source : SourceTree) (system : book.System) (repeats : ℕ) (states events : List Name) (channels : List ℕ) → ElaboratesWith library source system → AreRowsOf (Some repeats) (all_leaves system.devices) states events channels
    → AreOf (nodes_of states events channels) (bare_network (all_leaves system.devices)) × ((ranges : List Range) → AreOf (nodes_of states events channels) (network_demands repeats ranges (all_leaves system.devices)))
network_nodes library source system repeats states events channels e r =
    let all = all_leaves system.devices in
    let w = all_wired library source system e in
    let c = all_charts_closed library source system e in (
      network_of (Some repeats) all states events channels r bare (λ leaf. (λ s. refl, λ o. refl)) 1 repeats refl system.devices refl w c,
      λ ranges. network_of (Some repeats) all states events channels r (ground_of 1 ranges) (λ leaf. (λ s. refl, λ o. refl)) repeats repeats refl system.devices refl w c,
    )

pub capped_least : (nodes : List Node) (ds : List Demand) (number : Node → ℕ) (system : System) (y : ℕ → ℕ) → AreNumbers nodes number → AreOf nodes ds → AreGrouped (length nodes) (map (by_number number) ds) system → IsLeast system y
    → AreLeast nodes (map capped_demand ds) (λ v. y (number v))
capped_least nodes ds number system y n o g l = least_nodes nodes (map capped_demand ds) number system y n (capped_of nodes ds o) (says_same nodes ds number system n o g) l

pub small_least : (nodes : List Node) (ds : List Demand) (number : Node → ℕ) (system : System) (y : ℕ → ℕ) → AreNumbers nodes number → AreOf nodes ds → AreGrouped (length nodes) (map (by_number number) ds) system → IsLeast system y
    → ((p : ℕ) → p < length nodes → y p ≤ 1000000000000) → AreLeast nodes ds (λ v. y (number v))
small_least nodes ds number system y n o g l s = least_whole nodes ds (λ v. y (number v)) o (capped_least nodes ds number system y n o g l) (λ v c. s (number v) (n.at v c).0)

pub great_needed : (nodes : List Node) (ds : List Demand) (number : Node → ℕ) (system : System) (y : ℕ → ℕ) (v : Node) (limit : ℕ) → AreNumbers nodes number → AreOf nodes ds → AreGrouped (length nodes) (map (by_number number) ds) system → IsLeast system y
    → Contains nodes v → limit < y (number v) → (x : Node → ℕ) → AllByRecursion (IsMet x) ds → limit < x v
great_needed nodes ds number system y v limit n o g l c a x m = above_all nodes ds (λ v. y (number v)) x v limit (capped_least nodes ds number system y n o g l) c a m

pub place_turned : (p q : Place) → place_eq q p ≡ place_eq p q
place_turned p q = ap (λ b. b && bytes_eq q.event p.event) (path_turned q.path p.path) ∙ ap (λ b. path_eq p.path q.path && b) (eq_turned q.event p.event)

pub made_with : (Are : List Range → Type 0) (repeats : Option ℕ) (system : book.System) (states events : List Name) (channels : List ℕ) (cert : Certificate) → AreRowsOf repeats (all_leaves system.devices) states events channels → IsMadeWith Are repeats system states events channels cert
    → IsFoundWith Are repeats system cert
made_with Are repeats system states events channels cert are made = made_found Are repeats system states events channels cert place_turned are made

pub made_is : (repeats : Option ℕ) (system : book.System) (states events : List Name) (channels : List ℕ) (cert : Certificate) → AreRowsOf repeats (all_leaves system.devices) states events channels → IsMade repeats system states events channels cert → IsFound repeats system cert
made_is repeats system states events channels cert are made = made_with (AreFound system.devices) repeats system states events channels cert are made
