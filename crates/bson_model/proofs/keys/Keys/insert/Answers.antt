use Rattle.std.proofs.Common.{◌∙◌}
use Rattle.bson_model.proofs.keys.Keys.insert.Goals as goal
use Rattle.bson_model.proofs.keys.Keys.insert.Goals.{in-Few, in-Many+in_ok-insert_full-in-Many}

pub returns-clause-index : goal.returns-clause-index
returns-clause-index c =
    let same = c.self.view_is ∙ c.hash_if_full.ensures.same in
    elim c.match-self.branch [
      | in-Few w ↦ rw (w.result-is, ← same, w.in-Few.is) w.insert_among.ensures.index
      | in-Many+in_ok-insert_full-in-Many w ↦ rw (w.result-is, ← same, w.in-Many.is) w.in_ok-insert_full-in-Many.ensures.index
    ]

pub returns-clause-is_new : goal.returns-clause-is_new
returns-clause-is_new c =
    let same = c.self.view_is ∙ c.hash_if_full.ensures.same in
    elim c.match-self.branch [
      | in-Few w ↦ rw (w.result-is, ← same, w.in-Few.is) w.insert_among.ensures.is_new
      | in-Many+in_ok-insert_full-in-Many w ↦ rw (w.result-is, ← same, w.in-Many.is) w.in_ok-insert_full-in-Many.ensures.added
    ]
