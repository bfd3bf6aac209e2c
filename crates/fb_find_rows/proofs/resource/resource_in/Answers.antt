use Rattle.std.proofs.Common.{ap, ◌∙◌}
use Rattle.fb_model.specs.CertificateText.{names_in}
use Rattle.fb_find_rows.proofs.Names.{none_from, some_from, one, two, more, if_ok}
use Rattle.fb_find_rows.proofs.resource.resource_in.Goals as goal

pub returns-in-None : goal.returns-in-None
returns-in-None c =
    let path = c.args.path.now in
    if_ok (λ s e. ap names_in e ∙ one path (none_from path c.split_once.result c.split_once.ensures.cases c.in-None.is)) c.from_str.result c.from_str.ensures.ok

pub returns-in-None-split_once : goal.returns-in-None-split_once
returns-in-None-split_once c =
    let path = c.args.path.now in
    let first = some_from path c.split_once.result (c.in-Some.device, c.in-Some.rest) c.split_once.ensures.cases c.in-Some.is in
    let second = none_from c.in-Some.rest.now c.split_once-in-Some.result c.split_once-in-Some.ensures.cases c.in-None-split_once.is in
    if_ok (λ s e. ap names_in e ∙ two path c.in-Some.device.now c.in-Some.rest.now first.0 second) c.from_str-in-None-split_once.result c.from_str-in-None-split_once.ensures.ok

pub returns-in-Some-split_once : goal.returns-in-Some-split_once
returns-in-Some-split_once c =
    let path = c.args.path.now in
    let first = some_from path c.split_once.result (c.in-Some.device, c.in-Some.rest) c.split_once.ensures.cases c.in-Some.is in
    let second = some_from c.in-Some.rest.now c.split_once-in-Some.result (c.in-Some-split_once.resource, c.in-Some-split_once.field-0-1) c.split_once-in-Some.ensures.cases c.in-Some-split_once.is in
    if_ok (λ s e. ap names_in e ∙ more path c.in-Some.device.now c.in-Some.rest.now c.in-Some-split_once.resource.now c.in-Some-split_once.field-0-1.now first.1 second.1 first.0 second.0) c.joined.result c.joined.ensures
