-- The byte of the subtype of a byte.
use Rattle.std.proofs.Common.{◌≡◌, ℕ, true, false, cond, refl, ap, sym, ◌∙◌}
use Rattle.std.proofs.Math.Dec.{eqb, ltb}
use Rattle.std.proofs.lemmas.Bool.{eqb-true}
use Rattle.bson_model.specs.Subtype.{subtype_of, subtype_byte, IsProperSubtype}
use Rattle.bson_model.specs.declared.binaries.BinarySubtype.{BinarySubtype}
use Rattle.bson_model.specs.declared.binaries.BinarySubtype.TheVariants.{Reserved, UserDefined}

named_or : (byte n : ℕ) (named rest : BinarySubtype) → subtype_byte named ≡ n → subtype_byte rest ≡ byte → subtype_byte (cond (eqb byte n) named rest) ≡ byte
named_or byte n named rest is others =
    elim (eqb byte n) as (λ b. eqb byte n ≡ b → subtype_byte (cond b named rest) ≡ byte) [
      | true ↦ λ e. is ∙ sym (eqb-true byte n e)
      | false ↦ λ e. others
    ] refl

unnamed : (byte : ℕ) → subtype_byte (cond (ltb byte 128) (Reserved byte) (UserDefined byte)) ≡ byte
unnamed byte = elim (ltb byte 128) as (λ b. subtype_byte (cond b (Reserved byte) (UserDefined byte)) ≡ byte) [ true ↦ refl | false ↦ refl ]

-- each byte comes back
pub subtype_byte-subtype_of : (byte : ℕ) → subtype_byte (subtype_of byte) ≡ byte
subtype_byte-subtype_of byte =
    named_or byte 0 _ _ refl (named_or byte 1 _ _ refl (named_or byte 2 _ _ refl (named_or byte 3 _ _ refl (named_or byte 4 _ _ refl (
    named_or byte 5 _ _ refl (named_or byte 6 _ _ refl (named_or byte 7 _ _ refl (named_or byte 8 _ _ refl (named_or byte 9 _ _ refl (
    unnamed byte))))))))))

-- so the subtype of a byte is proper
pub IsProperSubtype-subtype_of : (byte : ℕ) → IsProperSubtype (subtype_of byte)
IsProperSubtype-subtype_of byte = ap subtype_of (subtype_byte-subtype_of byte)
