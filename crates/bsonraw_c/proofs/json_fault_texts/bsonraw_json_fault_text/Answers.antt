use Rattle.bsonraw_c.proofs.Enough.{counted, json_fault_few}
use Rattle.bsonraw_c.proofs.TextRooms.{puts_front}
use Rattle.bsonraw_c.proofs.json_fault_texts.bsonraw_json_fault_text.Goals as goal

pub returns : goal.returns
returns c =
    let text = c.words.result.now in
    let puts = puts_front c.put_words-count.ensures c.end_text.ensures in
    record { text = (text, c.words.ensures, puts); enough = counted text c.args.text.now _ _ 100 puts (json_fault_few c.args.report.now text c.words.ensures) }
