use Rattle.fb_seal.proofs.Spelling.{written}
use Rattle.fb_seal.proofs.form.seal.Goals as goal

pub returns : goal.returns
returns c =
    written c.args.key.now c.args.sender c.args.counter c.args.datagram.now c.new-bytes.result.items c.put.new.bytes.items c.to_be_bytes.result
    c.put-2.new.bytes.items c.to_be_bytes-2.result c.put-3.new.bytes.items c.put-4.new.bytes.items c.as_slice.result.now c.tag-tag.result
    c.put-5.new.bytes.items c.new-bytes.ensures c.put.ensures c.to_be_bytes.ensures c.put-2.ensures c.to_be_bytes-2.ensures c.put-3.ensures c.put-4.ensures
    c.as_slice.ensures.value c.tag-tag.ensures c.put-5.ensures
