use Rattle.std.proofs.Common.{◌++◌, arith}
use Rattle.fb_model.specs.Services.{digits}
use Rattle.fb_types_services.proofs.Named.{named_more}
use Rattle.fb_types_services.proofs.names.add_ports.Goals as goal

pub loop-index-preserved : goal.loop-index-preserved
loop-index-preserved c =
    λ few.
    named_more (λ n. c.args.prefix.now ++ digits n) c.args.types.now c.loop-index.index _ c.in_ok-name.field-0 c.loop-index.names.items c.push.new.self.items c.loop-index-test.true
    (c.in_ok-name.ensures (let l = c.loop-index-test.true in omega (arith, l, few))) c.in_ok-push.ensures.items (c.loop-index.invariant few)
