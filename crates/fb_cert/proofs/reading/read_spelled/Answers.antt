use Rattle.fb_cert.proofs.Answered as answered
use Rattle.fb_cert.proofs.reading.read_spelled.Goals as goal

pub returns : goal.returns
returns c =
    let text = c.args.text.now in
    let r = c.read_text.result in
    record {
      found = answered.found text r c.read_text.ensures.read;
      sayable = answered.sayable text r c.read_text.ensures.read;
      within = answered.within text r c.read_text.ensures.read;
      long = c.read_text.ensures.long;
      only = answered.only text r c.read_text.ensures.read;
      refused = answered.refused text r c.read_text.ensures.read;
      told = answered.told text r c.read_text.ensures.read;
    }
