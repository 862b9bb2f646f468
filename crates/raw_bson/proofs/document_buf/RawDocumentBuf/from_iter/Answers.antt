use Rattle.std.proofs.Common.{refl, subst, sym, List}
use Rattle.std.proofs.lemmas.Result.{err_from_is_err_and}
use Rattle.raw_view.specs.Frame.{Frame}
use Rattle.raw_bson.specs.Append.{HoldsFrames}
use Rattle.raw_bson.specs.Fills.{TakesPair, empty_document, frames_of_pairs}
use Rattle.raw_bson.specs.Owned.{owned_value}
use Rattle.raw_bson.proofs.Filling.{takes_more, filled, drained, refused}
use Rattle.raw_bson.proofs.HeldFrames.{HoldsFrames-empty, HoldsFrames-value, frames_of_pairs-more}
use Rattle.raw_bson.proofs.document_buf.RawDocumentBuf.from_iter.Goals as goal

pub loop-key-init : goal.loop-key-init
loop-key-init g c = (c.in_ok-document.ensures.empty, HoldsFrames-empty c.in_ok-document.document c.in_ok-document.ensures.empty)

pub loop-key-preserved : goal.loop-key-preserved
loop-key-preserved g c =
    let more = frames_of_pairs-more c.loop-key.yielded (c.in-Some.key, c.in-Some.value) in
    let held = HoldsFrames-value c.loop-key.document (frames_of_pairs c.loop-key.yielded) c.in-Some.key.now
    (owned_value c.in-Some.value) c.append.new.self c.loop-key.invariant.1 c.in_ok-append.ensures.walk in (
      takes_more TakesPair _ c.loop-key.yielded c.loop-key.document (c.in-Some.key, c.in-Some.value) c.append.new.self c.loop-key.invariant.0 c.in_ok-append.ensures.appends,
      subst (λ (fs : List Frame). HoldsFrames c.append.new.self fs) (sym more) held,
    )

pub returns-in_err-append-clause-fills : goal.returns-in_err-append-clause-fills
returns-in_err-append-clause-fills g c =
    let e = err_from_is_err_and c.from_residual-in_err-append.result c.from_residual-in_err-append.ensures.1 in
    let h = c.in_err-append.ensures.appends in
    rw e.1 (refused TakesPair empty_document g.I.Iterator.next_gives c.args.pairs c.into_iter-key-iterator.result
    c.loop-key.yielded (c.in-Some.key, c.in-Some.value) c.into_iter-key-iterator.ensures.into_iter_gives c.loop-key.yielded_by
    c.in-Some.ensures.steps c.loop-key.invariant.0 (rw e.2 h.0, rw e.2 h.1, refl))

pub returns-clause-fills : goal.returns-clause-fills
returns-clause-fills g c = filled TakesPair empty_document c.loop-key.document g.I.Iterator.next_gives c.args.pairs c.into_iter-key-iterator.result
    c.loop-key.yielded c.into_iter-key-iterator.ensures.into_iter_gives c.loop-key.yielded_by c.in-None.ensures.steps c.loop-key.invariant.0

pub returns-clause-walk : goal.returns-clause-walk
returns-clause-walk g c = (
  c.loop-key.yielded,
  drained g.I.Iterator.next_gives c.args.pairs c.into_iter-key-iterator.result c.loop-key.key-iterator
      c.next.new.self c.loop-key.yielded c.into_iter-key-iterator.ensures.into_iter_gives c.loop-key.yielded_by c.in-None.ensures.steps,
  c.loop-key.invariant.0,
  c.loop-key.invariant.1,
)
