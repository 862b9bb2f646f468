-- `==` of two subtypes is equality.
use Rattle.std.proofs.Common.{◌≡◌, ℕ, Bool, true, refl, ap, sym, ◌∙◌, nat_eq, Decides}
use Rattle.std.proofs.lemmas.Bool.Decides.{Decides-eqb}
use denote.Enum.Compared.{Each}
use Rattle.bson_model.specs.declared.binaries.BinarySubtype.{BinarySubtype}
use Rattle.bson_model.specs.declared.binaries.BinarySubtype.TheVariants.{Generic, Function, BinaryOld, UuidOld, Uuid, Md5, Encrypted, Column, Sensitive, Vector, Reserved, UserDefined}
use Rattle.bson_model.specs.contracts.binaries.BinarySubtype as subtype
use Rattle.bson_model.specs.contracts.binaries.BinarySubtypePartialEq.TheImpl as subtype_eqs
use Rattle.bson_model.proofs.Variants.{Kinds, AllDecide, decided, along}

-- a number for each variant of a subtype
abbrev subtype_place : BinarySubtype → ℕ
subtype_place Generic = 0
subtype_place Function = 1
subtype_place BinaryOld = 2
subtype_place UuidOld = 3
subtype_place Uuid = 4
subtype_place Md5 = 5
subtype_place Encrypted = 6
subtype_place Column = 7
subtype_place Sensitive = 8
subtype_place Vector = 9
subtype_place (Reserved byte) = 10
subtype_place (UserDefined byte) = 11

abbrev subtype_each : Each Bool subtype.enum.parts
subtype_each = (
  λ a b. true,
  (
    λ a b. true,
    (
      λ a b. true,
      (
        λ a b. true,
        (
          λ a b. true,
          (
            λ a b. true,
            (
              λ a b. true,
              (λ a b. true, (λ a b. true, (λ a b. true, (λ a b. nat_eq a.0 b.0, (λ a b. nat_eq a.0 b.0, tt))))),
            ),
          ),
        ),
      ),
    ),
  ),
)

subtype_kinds : Kinds subtype_place subtype.enum.parts 0 subtype.the_make
subtype_kinds = (λ u. refl, (λ u. refl, (λ u. refl, (λ u. refl, (λ u. refl, (λ u. refl, (λ u. refl, (λ u. refl, (λ u. refl, (λ u. refl, (λ u. refl, (λ u. refl, tt))))))))))))

-- a fact that holds, decided
pub alike : {P : Type 0} → P → Decides true P
alike p = (λ q. p, λ q. refl)

subtype_all : AllDecide subtype_place subtype.enum.parts subtype_each subtype.the_make (λ c. Unit {0})
subtype_all = (
  λ u v s. alike refl,
  (
    λ u v s. alike refl,
    (
      λ u v s. alike refl,
      (
        λ u v s. alike refl,
        (
          λ u v s. alike refl,
          (
            λ u v s. alike refl,
            (
              λ u v s. alike refl,
              (
                λ u v s. alike refl,
                (
                  λ u v s. alike refl,
                  (
                    λ u v s. alike refl,
                    (
                      λ u v s. along _ _ refl (Decides-eqb u.0 v.0) (λ p. ap Reserved p) (λ q. cc),
                      (λ u v s. along _ _ refl (Decides-eqb u.0 v.0) (λ p. ap UserDefined p) (λ q. cc), tt),
                    ),
                  ),
                ),
              ),
            ),
          ),
        ),
      ),
    ),
  ),
)

-- `==` of two subtypes is equality
pub same_subtype : (s t : BinarySubtype) → Decides (subtype_eqs.ghosts.eq s t) (s ≡ t)
same_subtype s t =
    let c = subtype.as_values s in let d = subtype.as_values t in
    let made = decided subtype_place subtype.enum.parts 0 subtype_each subtype.the_make (λ c. Unit {0}) subtype_kinds subtype_all c d tt in
    (λ p. sym (subtype.the_eta s) ∙ made.0 p ∙ subtype.the_eta t, λ q. made.1 (subtype.the_eta s ∙ q ∙ sym (subtype.the_eta t)))
