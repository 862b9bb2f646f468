use Rattle.std.specs.Option.{option_map}
use Rattle.raw_bson.specs.Document.{bytes_of}
use Rattle.bsonraw_c.proofs.PathTexts.{HasShown}
use Rattle.bsonraw_c.proofs.path_texts.put_steps.Given as goal

-- the steps so far are put
abbrev pub invariant-loop-index : goal.invariant-loop-index
invariant-loop-index l = HasShown (bytes_of l.document) l.path l.initial.room l.index (option_map bytes_of l.level) l.room l.count
