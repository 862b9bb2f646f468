use Rattle.bsonraw_c.proofs.Enough.{counted, fault_few}
use Rattle.bsonraw_c.proofs.TextRooms.{puts_front}
use Rattle.bsonraw_c.proofs.fault_texts.bsonraw_fault_text.Goals as goal

pub returns : goal.returns
returns c =
    let (text, told, grows) = c.put_fault-count.ensures.text in
    let sizes = c.put_fault-count.ensures.sizes in
    let puts = puts_front grows c.end_text.ensures in
    record { text = (text, told, puts); enough = counted text c.args.text.now _ _ 150 puts (fault_few c.args.fault.now.why text sizes.0 sizes.1 told) }
