-- Forms of documents that are read again.
use Rattle.std.proofs.Common.{◌≡◌, ◌≢◌, ◌⊎◌, ◌≤◌, ◌<◌, ℕ, List, Option, None, Some, [], ◌∙◌, true, false, bytes_eq, inl, inr, IfOk, Result, Ok, Err, Vec, ap, option_map, subst, sym, arith}
use Rattle.std.proofs.lemmas.Slice.Eq.{bytes_eq-Decides}
use Rattle.std.specs.declared.alloc.AllocError.{AllocError}
use Rattle.std.specs.declared.alloc.Global.{Global}
use Rattle.bson_model.specs.Tree.{Tree}
use Rattle.raw_form.specs.FormsWithin.{IsFormWithin, RefusesFormWithin}
use Rattle.raw_tree.specs.CanonicalForm.{TellsTooLong}
use Rattle.raw_tree.specs.WithinLimits.{AllAreAnsweredOneWay, ReadsWithin}
use Rattle.raw_tree.specs.writer.Encoding.{encoded_len}
use Rattle.raw_tree.specs.declared.reader.limits.Limits.{Limits}
use Rattle.raw_view.specs.Errors.{IsMalformed}
use Rattle.raw_view.specs.Frame.Envelope.{IsEnvelope, Refuses}
use Rattle.raw_view.specs.declared.error.Error.{Error}
use Rattle.raw_view.specs.declared.error.ErrorKind.{ErrorKind}
use Rattle.raw_view.specs.declared.error.ErrorKind.TheVariants as kind
use Rattle.raw_view.specs.declared.error.Reason.{Reason}
use Rattle.raw_view.specs.declared.error.Reason.TheVariants as reason
use Rattle.dump_io.specs.input.Again.{IsReadAgain}
use Rattle.dump_commands.specs.diff.Again.{IsFormAgain}
use Rattle.dump_commands.specs.diff.Sides.{Side}
use Rattle.dump_commands.specs.state.Forms.{digest_of}

value : List ℕ → Option (List ℕ) → List ℕ
value d None = d
value d (Some x) = x

no_refusal : (b : List ℕ) (why : Reason) → IsEnvelope b → Refuses b why → ⊥
no_refusal b reason.TooShort e short = omega (arith, e.enough, short)
no_refusal b reason.LengthIncorrect e wrong = wrong.1 e.header
no_refusal b reason.NotTerminated e wrong = wrong.2 e.ended
no_refusal b _ e none = none

malformed : (k : ErrorKind) (b : List ℕ) → IsMalformed k (Refuses b) → IsEnvelope b → ⊥
malformed (kind.MalformedValue why) b refuses e = no_refusal b why e refuses
malformed (kind.Utf8EncodingError x) b none e = none
malformed kind.OutOfMemory b none e = none

module _ {limits : Limits} {b : List ℕ} where
  -- a document that has a form within limits has it, unless memory runs out
  pub no_form : (e : Error) → AllAreAnsweredOneWay limits → RefusesFormWithin limits b e → e.kind ≢ kind.OutOfMemory → (form : List ℕ) → IsFormWithin limits b form → ⊥
  no_form e one (inl refusal) not form is = malformed e.kind b refusal.reason is.form.envelope
  no_form e one (inr (envelope, inl (inl (few, memory)))) not form is = not memory.kind_is
  no_form e one (inr (envelope, inl (inr (x, first, says)))) not form is = (one b envelope).not_both is.within.0 x is.within.1 first
  no_form e one (inr (envelope, inr (t, reads, long))) not form is =
      let is_tree : ReadsWithin limits b is.form.tree = record { few_bytes = reads.few_bytes; read = is.form.read; shallow = reads.shallow } in
      let same : is.form.tree ≡ t = (one b envelope).one_tree t is.form.tree reads is_tree in
      let short = subst (λ (u : Tree). encoded_len u ≤ _) same is.form.spelled.0 in
      omega (arith, short, long.0)

-- these bytes were read again
pub read_bytes : (input : Option (List ℕ)) (offset size : ℕ) (o : Option (Vec ℕ Global)) (v : Vec ℕ Global) (b : List ℕ) → o ≡ Some v → b ≡ v.items
    → IsReadAgain input offset size (option_map (λ (x : Vec ℕ Global). x.items) o) → IsReadAgain input offset size (Some b)
read_bytes input offset size o v b is same read =
    subst (λ (x : List ℕ). IsReadAgain input offset size (Some x)) (sym same)
    (subst (λ (p : Option (Vec ℕ Global)). IsReadAgain input offset size (option_map (λ (x : Vec ℕ Global). x.items) p)) is read)

module _ (limits : Limits) (s : Side) (b : List ℕ) where
  -- the bytes have the form that was gathered
  pub form_found : (input : Option (List ℕ)) (form : List ℕ) → IsReadAgain input s.place.offset s.size (Some b) → IsFormWithin limits b form → digest_of form ≡ s.form
      → IsFormAgain limits input s (Some form)
  unfolding value
  form_found None form there is same = (b, (is, same), tt)
  form_found (Some bytes) form there is same = (b, (is, same), ap (value []) there)

  -- or they have no such form
  pub form_missing : (input : Option (List ℕ)) → IsReadAgain input s.place.offset s.size (Some b) → ((form : List ℕ) → IsFormWithin limits b form → digest_of form ≡ s.form → ⊥)
      → IsFormAgain limits input s None
  unfolding value
  form_missing None there none = tt
  form_missing (Some bytes) there none = λ form still. none form (subst (λ (x : List ℕ). IsFormWithin limits x form) (sym (ap (value []) there)) still.0) still.1

  -- or there is none for that reason, or memory runs out
  pub none_again : (input : Option (List ℕ)) (r : Result (Option (Vec ℕ Global)) AllocError) (k : ErrorKind) → IsReadAgain input s.place.offset s.size (Some b)
      → (k ≢ kind.OutOfMemory → (form : List ℕ) → IsFormWithin limits b form → ⊥) → IfOk r (λ (form : Option (Vec ℕ Global)). (form ≡ None) × (k ≢ kind.OutOfMemory))
      → IfOk r (λ (form : Option (Vec ℕ Global)). IsFormAgain limits input s (option_map (λ (x : Vec ℕ Global). x.items) form))
  none_again input (Ok form) k there lacks (none, not) =
      subst (λ (o : Option (Vec ℕ Global)). IsFormAgain limits input s (option_map (λ (x : Vec ℕ Global). x.items) o)) (sym none) (form_missing input there (λ form is same. lacks not form is))
  none_again input (Err e) k there lacks h = tt

-- digests that are the same are told to be
pub told_same : (x y : List ℕ) → x ≡ y → false ≡ bytes_eq x y → ⊥
told_same x y same other = let clash : false ≡ true = other ∙ (bytes_eq-Decides x y).1 same in cc
