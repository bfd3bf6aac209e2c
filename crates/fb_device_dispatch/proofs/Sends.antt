-- What a leaf sends lies in its types.
use Rattle.std.proofs.Common.{List}
use Rattle.fb_model.specs.Names.{Path}
use Rattle.fb_model.specs.Values.{Values}
use Rattle.fb_model.specs.System.{Input, Output, Publish, Subscribe, Delay, Cycle, Restart}
use Rattle.fb_model.specs.Wires.{Kind, Charted, Serviced}
use Rattle.fb_model.specs.Ranges.{Range, AllLie}
use Rattle.fb_model.proofs.Sending.{sent_lie}
use Rattle.fb_chart.specs.Dispatching.{SendsWell}

pub sends_well : (ranges : List Range) (path : Path) (kind : Kind) (own : Values) → AllLie ranges path kind own → SendsWell kind own
sends_well ranges path (Charted block) own lie = tt
sends_well ranges path (Serviced (Publish channel types)) own lie = sent_lie ranges path channel types own lie
sends_well ranges path (Serviced (Input number types)) own lie = tt
sends_well ranges path (Serviced (Output number types)) own lie = tt
sends_well ranges path (Serviced (Subscribe channel types)) own lie = tt
sends_well ranges path (Serviced Delay) own lie = tt
sends_well ranges path (Serviced Cycle) own lie = tt
sends_well ranges path (Serviced Restart) own lie = tt
