-- What is known of values that were written, and why bytes have no canonical form.
use Rattle.std.proofs.Common.{◌≡◌, ◌≢◌, inl, inr, ◌≤◌, ◌+◌, ◌-◌, ◌*◌, ◌/◌, ◌∷◌, [], ℕ, List, length, arith, ap, refl, sym, subst, ◌∙◌}
use Rattle.bson_model.specs.Proper.{IsProper, IsNulFree}
use Rattle.bson_model.specs.Leaf.{Leaf}
use Rattle.bson_model.specs.Tree.{Tree, leaf, array, trees, items_in}
use Rattle.raw_view.specs.Frame.Envelope.{IsEnvelope}
use Rattle.raw_view.specs.Meaning.{RawValue}
use Rattle.raw_view.specs.Meaning as raw
use Rattle.raw_view.specs.declared.error.Error.{Error}
use Rattle.raw_view.specs.declared.error.ErrorKind.{ErrorKind}
use Rattle.raw_view.specs.declared.error.ErrorKind.TheVariants as kind
use Rattle.raw_view.specs.declared.error.Reason.TheVariants as reason
use Rattle.raw_tree.specs.Payload.{IsRawInRange}
use Rattle.raw_tree.specs.Encoding.{IsEncoded, IsRefused, RefusesTree, items_len}
use Rattle.raw_tree.specs.Reading.{Holds, Reads, TellsFirstFault, TellsFirstFaultOfValue}
use Rattle.raw_tree.proofs.Face.{length-tree_payload, enveloped_one_way}
use Rattle.raw_bson.specs.Conversion.{BecomesOneTree, RefusesForm}

-- each member of a list takes at least two bytes
items_long : (n : ℕ) (us : List Tree) → 2 * length us ≤ items_len n (trees us)
items_long n [] = omega arith
items_long n (u ∷ us) = omega (arith, items_long (n + 1) us)

-- the length of a list is small enough for the count of an array of its bytes
pub count_fits : (us : List Tree) (b : List ℕ) → IsEncoded (array (trees us)) b → length us ≤ (length b - 4) / 2 + 1
count_fits us b e = omega (arith, ap length e.2, length-tree_payload (array (trees us)), items_long 0 us)

-- the members of a list of trees
pub items_in-trees : (us : List Tree) → items_in (trees us) ≡ us
items_in-trees [] = refl
items_in-trees (u ∷ us) = ap (λ ts. u ∷ ts) (items_in-trees us)

-- a value that holds no others becomes its leaf only
single_one_tree : (l : Leaf) → BecomesOneTree (raw.single l)
single_one_tree l = record {
  either = inl (leaf l, refl);
  not_both = λ t fault t_is first. first.1;
  one_tree = λ t other t_is other_is. other_is ∙ sym t_is;
  one_fault = λ fault other first first_other. absurd first.1;
}

-- every value in range becomes exactly one tree, or has one first fault
pub in_range_one_tree : (v : RawValue) → IsRawInRange v → BecomesOneTree v
in_range_one_tree (raw.single l) h = single_one_tree l
in_range_one_tree (raw.document d) h = enveloped_one_way (raw.document d) (λ e same. rw same h)
in_range_one_tree (raw.array d) h = enveloped_one_way (raw.array d) (λ e same. rw same h)
in_range_one_tree (raw.scoped code d) h = enveloped_one_way (raw.scoped code d) (λ e same. rw same h.1)

-- a fault of the bytes in a value is the value's
pub told_of_value : (v : RawValue) (d : List ℕ) (e : Error) → Holds v d → TellsFirstFault d e → TellsFirstFaultOfValue v e
told_of_value v d e h told =
    elim told [
      | inl memory ↦ inl memory
      | inr bad ↦ inr (bad.0, (d, h, bad.1), bad.2)
    ]

-- a tree without a 0 in its C strings isn't refused for one
pub refused_no_nul : (t : Tree) (e : Error) → IsNulFree t → IsRefused t e → e.kind ≢ kind.MalformedValue reason.InteriorNul
refused_no_nul t e free r = λ same. subst (RefusesTree t) same r.0 free

-- an error to write a tree that was read
refused_kind : (b : List ℕ) (t : Tree) (e : Error) (k : ErrorKind) → e.kind ≡ k → IsEnvelope b → Reads b t → IsProper t → IsRefused t e → RefusesTree t k → RefusesForm b e
refused_kind b t e (kind.MalformedValue reason.InteriorNul) same env read proper r refusal = absurd (refusal proper.nul_free)
refused_kind b t e (kind.MalformedValue reason.TooLong) same env read proper r refusal = inr (env, inr (t, read, (refusal.1, same, r.1)))
refused_kind b t e kind.OutOfMemory same env read proper r refusal = inr (env, inl (inl (record { kind_is = same; no_key = r.1 })))
refused_kind b t e _ same env read proper r refusal = absurd refusal

pub refused_form : (b : List ℕ) (t : Tree) (e : Error) → IsEnvelope b → Reads b t → IsProper t → IsRefused t e → RefusesForm b e
refused_form b t e env read proper r = refused_kind b t e e.kind refl env read proper r r.0
