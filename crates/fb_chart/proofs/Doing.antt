-- The loops of an invocation: actions of a state, and crossings from state to state.
use Rattle.std.proofs.Common.{◌≡◌, ℕ, ◌+◌, ◌^◌, ◌<◌, ◌≤◌, List, [], ◌∷◌, ◌++◌, length, length-append, slice_get, Option, Some, sym, ap, subst, ◌∙◌, arith}
use Rattle.std.specs.Prelude.{IfSome}
use Rattle.std.specs.Option.{option_map}
use Rattle.std.specs.List.{AllByRecursion}
use Rattle.std.proofs.lemmas.List.{append-nil}
use Rattle.fb_model.specs.Names.{Name}
use Rattle.fb_model.specs.Values.{Values}
use Rattle.fb_model.specs.Language.{Algorithm, Done}
use Rattle.fb_model.specs.System as book
use Rattle.fb_model.specs.Typing.{AreDistinct}
use Rattle.fb_model.specs.Wires.{Charted}
use Rattle.fb_model.specs.Store.{Cells}
use Rattle.fb_model.specs.Charts.{Cross, choice, Phase, At, Acting, Settling, settles, Reaches, here, then as and_then, work, algorithm_of, emission, issue_all, actions_of}
use Rattle.fb_model.proofs.Placed.{apart}
use Rattle.st_exec.specs.Cells.{Cell, Form, values_of, forms_of}
use Rattle.st_exec.specs.Runs.{EndsWithin}
use Rattle.fb_chart.specs.declared.table.Action.{Action}
use Rattle.fb_chart.specs.declared.table.State.{State}
use Rattle.fb_chart.specs.declared.table.Output.{Output}
use Rattle.fb_chart.specs.declared.table.Chart.{Chart}
use Rattle.fb_chart.specs.Views.{named, names_of}
use Rattle.fb_chart.specs.Tables.{Each, IsOptional, IsAction}
use Rattle.fb_chart.specs.Sending.{Points, sent_to}
use Rattle.fb_chart.specs.Sampling.{CanGiveAll}
use Rattle.fb_chart.specs.Charting.{block_in, states_in, events_in, outputs_in, most_steps, IsReady, CanWork, numbered, phase_of, sent_by, issued_by, cells_of, entered, begun, CanGoOn, FineFrom, HasCome}
use Rattle.fb_chart.proofs.Lists.{First, each_first, each_none, appended_on}
use Rattle.fb_chart.proofs.Coming.{sent_append, sent_length, enters, fine_on, come_on, steps_grow}
use Rattle.fb_chart.proofs.Acting.{actions_stand, algorithms_serve, all_work, algorithm_is, algorithm_in, small, next, next_fine, sent_emission, issued_emission, output_in, all_give}

-- nothing was sent yet
pub not_gone : (block : book.Block) (outs : List Output) (s : Name) (c : Cells) (p : Phase) (n : ℕ) (old : Points) → HasCome block outs (At s c p n []) s c p n old old
not_gone block outs s c p n old = record { outs = []; run = here; sent = sym (append-nil old) }

-- the room that is left
pub room_left : (outs : List Output) (room room' : ℕ) (old new : Points) (os : List Name) → new ≡ old ++ sent_to outs os → room + length old ≡ room' + length new → room ≡ room' + length (sent_to outs os)
room_left outs room room' old new os e h = let l = ap length e ∙ length-append old (sent_to outs os) in omega (arith, h, l)

-- room falls by as many as are sent
pub room_kept : (room mid left : ℕ) (old now new ps : Points) → room + length old ≡ mid + length now → new ≡ now ++ ps → mid ≡ left + length ps → room + length old ≡ left + length new
room_kept room mid left old now new ps e f g = let l = ap length f ∙ length-append now ps in omega (arith, e, l, g)

module _ (c : Chart) (outs : List Output) (own0 issued0 : List Cell) (ready : IsReady c outs (forms_of own0) (forms_of issued0)) (state before most room : ℕ) (few : most ≤ most_steps)
    (fine : FineFrom (block_in c) outs most room (entered c state (cells_of own0 issued0) before)) (old : Points) where
  abbrev pub s : Name
  s = named (states_in c) state

  abbrev pub Come : List Cell → List Cell → List book.Action → ℕ → Points → Type 0
  Come own issued left steps sent = HasCome (block_in c) outs (entered c state (cells_of own0 issued0) before) s (cells_of own issued) (Acting left) steps old sent

  pub first_actions : (x : State) (items : List Action) → slice_get c.code.value.states.items state ≡ Some x → items ≡ x.actions.items → Each (IsAction (block_in c) (outputs_in c)) (actions_of (block_in c).states s) items
  first_actions x items at e =
      subst (Each (IsAction (block_in c) (outputs_in c)) (actions_of (block_in c).states s)) (sym e)
      (actions_stand (forms_of own0) (events_in c) (outputs_in c) (block_in c) (block_in c).states c.code.value.states.items state x (apart (states_in c) ready.chart.apart) ready.chart.states at)

  -- at an action
  module _ (own issued : List Cell) (left : List book.Action) (steps : ℕ) (sent : Points) (come : Come own issued left steps sent) (own_forms : forms_of own ≡ forms_of own0) (issued_forms : forms_of issued ≡ forms_of issued0)
      (x : Action) (xs : List Action) (each : Each (IsAction (block_in c) (outputs_in c)) left (x ∷ xs)) where
    pub it : First (IsAction (block_in c) (outputs_in c)) left x xs
    it = each_first (IsAction (block_in c) (outputs_in c)) left x xs each

    run : Reaches (block_in c) (entered c state (cells_of own0 issued0) before) (At s (cells_of own issued) (Acting (it.x ∷ it.left)) steps come.outs)
    run = subst (λ (l : List book.Action). Reaches (block_in c) (entered c state (cells_of own0 issued0) before) (At s (cells_of own issued) (Acting l) steps come.outs)) it.is come.run

    algorithm : algorithm_of (block_in c) it.x.algorithm ≡ numbered c.code.value.procedures.items x.algorithm
    algorithm = algorithm_is (forms_of own0) (block_in c) c.code.value.procedures.items it.x.algorithm x.algorithm ready.chart.procedures it.so.algorithm

    pub within_now : IfSome x.algorithm (λ n. n < length c.code.value.procedures.items)
    within_now = algorithm_in (forms_of own0) (block_in c) c.code.value.procedures.items it.x.algorithm x.algorithm ready.chart.procedures it.so.algorithm

    pub works_now : AllByRecursion (CanWork (forms_of own)) c.code.value.procedures.items
    works_now =
        subst (λ (fs : List Form). AllByRecursion (CanWork fs) c.code.value.procedures.items) (sym own_forms)
        (all_work (forms_of own0) (block_in c).procedures c.code.value.procedures.items ready.chart.procedures (algorithms_serve (block_in c) (forms_of own0) (forms_of issued0) ready.shaped ready.stores))

    pub small_now : EndsWithin (10 ^ 12) (work (numbered c.code.value.procedures.items x.algorithm) (values_of own))
    small_now =
        subst (λ (a : Option Algorithm). EndsWithin (10 ^ 12) (work a (values_of own))) algorithm
        (small (block_in c) outs most room (entered c state (cells_of own0 issued0) before) fine s (cells_of own issued) it.x it.left steps come.outs run few)

    optional : IsOptional (names_of outs) it.x.output x.output
    optional = subst (λ (ns : List Name). IsOptional ns it.x.output x.output) (sym ready.names) it.so.output

    pub output_now : IfSome x.output (λ k. k < length outs)
    output_now = output_in outs it.x.output x.output optional

    -- after its algorithm was run
    module _ (own' : List Cell) (m : ℕ) (done : work (numbered c.code.value.procedures.items x.algorithm) (values_of own) ≡ Done (values_of own') m) where
      ran : work (algorithm_of (block_in c) it.x.algorithm) (values_of own) ≡ Done (values_of own') m
      ran = ap (λ (a : Option Algorithm). work a (values_of own)) algorithm ∙ done

      moment_fine : CanGoOn (block_in c) outs most room (At s (issue_all (Charted (block_in c)) (emission it.x.output) (record { own = values_of own'; issued = values_of issued })) (Acting it.left) (steps + m) (come.outs ++ emission it.x.output))
      moment_fine = next_fine (block_in c) outs most room (entered c state (cells_of own0 issued0) before) fine s (cells_of own issued) it.x it.left steps come.outs run few (values_of own') m ran

      pub steps_now : steps + m ≤ most
      steps_now = moment_fine.steps

      sent_is : sent_to outs (emission it.x.output) ≡ sent_by outs x.output
      sent_is = sent_emission outs it.x.output x.output (subst AreDistinct (sym ready.names) ready.outputs_apart) optional

      pub room_now : (now : ℕ) → room + length old ≡ now + length sent → length (sent_by outs x.output) ≤ now
      room_now now e =
          omega (arith, moment_fine.enough, sent_length outs come.outs (emission it.x.output), ap length sent_is, room_left outs room now old sent come.outs come.sent e)

      pub gives_now : forms_of own' ≡ forms_of own → AllByRecursion (CanGiveAll (forms_of own') (forms_of issued)) outs
      gives_now e =
          subst (λ (fs : List Form). AllByRecursion (CanGiveAll fs (forms_of issued)) outs) (sym (e ∙ own_forms))
          (subst (λ (fs : List Form). AllByRecursion (CanGiveAll (forms_of own0) fs) outs) (sym issued_forms) (all_give c outs (forms_of own0) (forms_of issued0) ready))

      -- and its output was sent
      pub come_next : (issued' : List Cell) (sent' : Points) → values_of issued' ≡ issued_by outs x.output (values_of own') (values_of issued) → sent' ≡ sent ++ sent_by outs x.output → Come own' issued' it.left (steps + m) sent'
      come_next issued' sent' e f =
          let cells : issue_all (Charted (block_in c)) (emission it.x.output) (record { own = values_of own'; issued = values_of issued }) ≡ cells_of own' issued' =
          issued_emission (Charted (block_in c)) outs it.x.output x.output (values_of own') (values_of issued) ready.gives optional ∙ ap (λ (v : Values). record { own = values_of own'; issued = v }) (sym e) in
          record {
            outs = come.outs ++ emission it.x.output;
            run =
                subst (λ (k : Cells). Reaches (block_in c) (entered c state (cells_of own0 issued0) before) (At s k (Acting it.left) (steps + m) (come.outs ++ emission it.x.output))) cells
                (next (block_in c) outs most room (entered c state (cells_of own0 issued0) before) fine s (cells_of own issued) it.x it.left steps come.outs run few (values_of own') m ran);
            sent = appended_on old sent sent' (sent_to outs come.outs) (sent_by outs x.output) come.sent f ∙ ap (λ ps. old ++ ps) (ap (λ ps. sent_to outs come.outs ++ ps) (sym sent_is) ∙ sym (sent_append outs come.outs (emission it.x.output)));
          }

  -- all actions are done
  pub come_done : (own issued : List Cell) (left : List book.Action) (steps : ℕ) (sent : Points) → Come own issued left steps sent → Each (IsAction (block_in c) (outputs_in c)) left [] → HasCome (block_in c) outs (entered c state (cells_of own0 issued0) before) s (cells_of own issued) Settling steps old sent
  come_done own issued left steps sent come each =
      let none = each_none (IsAction (block_in c) (outputs_in c)) left each in
      let run : Reaches (block_in c) (entered c state (cells_of own0 issued0) before) (At s (cells_of own issued) (Acting []) steps come.outs) =
      subst (λ (l : List book.Action). Reaches (block_in c) (entered c state (cells_of own0 issued0) before) (At s (cells_of own issued) (Acting l) steps come.outs)) none come.run in
      record { outs = come.outs; run = and_then (At s (cells_of own issued) (Acting []) steps come.outs) _ run (settles s (cells_of own issued) steps come.outs); sent = come.sent }

-- ---- crossings

module _ (c : Chart) (outs : List Output) (own0 issued0 : List Cell) (before event most room : ℕ) (fine : FineFrom (block_in c) outs most room (begun c before (cells_of own0 issued0) event)) (old : Points)
    (own issued : List Cell) (state steps : ℕ) (w : Option ℕ) (sent : Points) (come : HasCome (block_in c) outs (begun c before (cells_of own0 issued0) event) (named (states_in c) state) (cells_of own issued) (phase_of (events_in c) w) steps old sent)
    (target : ℕ) (crosses : choice (block_in c).transitions (named (states_in c) state) (option_map (named (events_in c)) w) (values_of own) ≡ Cross (named (states_in c) target)) where
  crossed : Reaches (block_in c) (begun c before (cells_of own0 issued0) event) (At (named (states_in c) target) (cells_of own issued) (Acting (actions_of (block_in c).states (named (states_in c) target))) (steps + 1) come.outs)
  crossed = enters (block_in c) (events_in c) (begun c before (cells_of own0 issued0) event) (named (states_in c) state) (named (states_in c) target) (cells_of own issued) w steps come.outs come.run crosses

  pub crossing_steps : steps + 1 ≤ most
  crossing_steps = (fine _ crossed).steps

  pub crossing_fine : (now : ℕ) → room + length old ≡ now + length sent → FineFrom (block_in c) outs most now (entered c target (cells_of own issued) (steps + 1))
  crossing_fine now e =
      let r = subst (λ (os : List Name). Reaches (block_in c) (begun c before (cells_of own0 issued0) event) (At (named (states_in c) target) (cells_of own issued) (Acting (actions_of (block_in c).states (named (states_in c) target))) (steps + 1) os)) (sym (append-nil come.outs)) crossed in
      fine_on (block_in c) outs most room now (begun c before (cells_of own0 issued0) event) (entered c target (cells_of own issued) (steps + 1)) come.outs fine r (room_left outs room now old sent come.outs come.sent e)

  module _ (own' issued' : List Cell) (steps' : ℕ) (sent' : Points) (acted : HasCome (block_in c) outs (entered c target (cells_of own issued) (steps + 1)) (named (states_in c) target) (cells_of own' issued') Settling steps' sent sent') where
    pub steps_more : steps + 1 ≤ steps'
    steps_more = steps_grow (block_in c) (entered c target (cells_of own issued) (steps + 1)) (At (named (states_in c) target) (cells_of own' issued') Settling steps' acted.outs) acted.run

    pub come_further : HasCome (block_in c) outs (begun c before (cells_of own0 issued0) event) (named (states_in c) target) (cells_of own' issued') Settling steps' old sent'
    come_further =
        come_on (block_in c) outs (begun c before (cells_of own0 issued0) event) (named (states_in c) target) (named (states_in c) target) (cells_of own issued) (cells_of own' issued') (actions_of (block_in c).states (named (states_in c) target)) Settling (steps + 1) steps' come.outs old sent sent'
        crossed come.sent acted
