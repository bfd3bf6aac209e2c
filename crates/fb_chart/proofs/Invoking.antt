-- The table of a chart's block: what an invocation of the chart asks for.
use Rattle.std.proofs.Common.{◌≡◌, ℕ, ◌<◌, List, length, ap, subst, ◌∙◌, arith, string_bytes}
use Rattle.std.specs.List.{AllByRecursion}
use Rattle.std.proofs.lemmas.List.{length-map}
use Rattle.fb_model.specs.Names.{Name}
use Rattle.fb_model.specs.Wires.{Kind, Charted}
use Rattle.fb_model.specs.Store as st
use Rattle.fb_model.specs.Certificates.{events_of}
use Rattle.fb_model.specs.Typing.{AreDistinct}
use Rattle.fb_model_laws.specs.Leaves.{OnChart, IsClosed}
use Rattle.fb_model_laws.specs.Shaped.{IsShapely}
use Rattle.st_exec.specs.Cells.{Form}
use Rattle.fb_chart.specs.declared.table.Event.{Event}
use Rattle.fb_chart.specs.declared.table.Output.{Output}
use Rattle.fb_chart.specs.declared.table.Chart.{Chart}
use Rattle.fb_chart.specs.declared.table.Body.{Body}
use Rattle.fb_chart.specs.declared.table.Body.TheVariants as b
use Rattle.fb_chart.specs.declared.table.Block.{Block}
use Rattle.fb_chart.specs.Views.{event_names, output_names, given_by, body_kind, kind_of, outputs_of}
use Rattle.fb_chart.specs.Tables.{IsBody, IsChart, IsTable}
use Rattle.fb_chart.specs.Sampling.{AreStores}
use Rattle.fb_chart.specs.Charting.{block_in, events_in, outputs_in, IsReady}

module _ (own issued : List Form) (x : Block) (table : IsTable own issued x) (closed : IsClosed (kind_of x)) (shaped : OnChart IsShapely (kind_of x)) (stores : AreStores (kind_of x) own issued) (c : Chart) (body : x.body ≡ b.Chart c) where
  kind : kind_of x ≡ Charted (block_in c)
  kind = ap body_kind body

  events_are : event_names x ≡ events_in c
  events_are = table.events ∙ ap events_of kind

  outputs_are : output_names x ≡ outputs_in c
  outputs_are = table.outputs ∙ ap outputs_of kind

  chart_is : IsChart own (events_in c) (outputs_in c) (block_in c) c
  chart_is =
      subst (λ (es : List Name). IsChart own es (outputs_in c) (block_in c) c) events_are
      (subst (λ (os : List Name). IsChart own (event_names x) os (block_in c) c) outputs_are (subst (λ (y : Body). IsBody own (event_names x) (output_names x) y) body table.body))

  pub chart_ready : IsReady c x.outputs.items own issued
  chart_ready = record {
    chart = chart_is;
    closed = subst IsClosed kind closed;
    shaped = subst (OnChart IsShapely) kind shaped;
    stores = subst (λ (k : Kind). AreStores k own issued) kind stores;
    events_apart = subst AreDistinct events_are table.events_apart;
    outputs_apart = subst AreDistinct outputs_are table.outputs_apart;
    names = outputs_are;
    gives = subst (λ (k : Kind). AllByRecursion (λ (o : Output). given_by o ≡ st.gives k (string_bytes o.name)) x.outputs.items) kind table.gives;
    placed = table.placed;
  }

  pub chart_event : (event : ℕ) → event < length x.events.items → event < length (events_in c)
  chart_event event h = omega (arith, h, ap length events_are, length-map x.events.items (λ (e : Event). string_bytes e.name))
