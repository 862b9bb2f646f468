use Rattle.bsonraw_c.proofs.TextRooms.{grows_both}
use Rattle.bsonraw_c.proofs.fault_texts.put_both.Goals as goal

pub returns : goal.returns
returns c = grows_both (grows_both (grows_both c.put_first-begun.ensures c.put_words-between.ensures) c.put_number-numbered.ensures) c.put_words.ensures
