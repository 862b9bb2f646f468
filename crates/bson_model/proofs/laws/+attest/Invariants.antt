use Rattle.std.proofs.Common.{◌≡◌, length, take}
use Rattle.bson_model.specs.Tree.{pairs_of}
use Rattle.bson_model.proofs.WellFormed.{AreWellFormed, ArePairsWellFormed}
use Rattle.bson_model.proofs.laws.+attest.Given as goal

abbrev pub invariant-attest_document-loop-index : goal.invariant-attest_document-loop-index
invariant-attest_document-loop-index l = (l.index-end ≡ length (pairs_of l.document)) × ArePairsWellFormed (take l.index (pairs_of l.document))

abbrev pub invariant-attest_list-loop-member : goal.invariant-attest_list-loop-member
invariant-attest_list-loop-member l = AreWellFormed (take l.member-index l.values)
