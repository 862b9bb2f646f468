use Rattle.std.proofs.Common.{ℕ, sym, subst, inl, inr, refl}
use Rattle.bsonraw_c.specs.Build.{Appends}
use Rattle.bsonraw_c.specs.declared.codes.Status.TheVariants as status
use Rattle.bsonraw_c.proofs.build.Builder.append.Goals as goal

pub returns-in_default : goal.returns-in_default
returns-in_default c =
    inr (inl (
      (c.requires, c.is_begun.ensures.0 c.if-not-is_begun.false),
      (status.OtherKind, inl (c.in_default.ensures.none, refl), (refl, c.refuse-in_default.ensures)),
    ))

pub returns-in-Fixed : goal.returns-in-Fixed
returns-in-Fixed c =
    subst (λ (t : ℕ). Appends t c.args.key.now c.args.one.now c.args.two.now c.args.self.now c.append_fixed.new.self c.args.room.now c.append_fixed.new.room)
    (sym c.in-Some.ensures.kind) (c.append_fixed.ensures c.args.two.now)

pub returns-in-Text : goal.returns-in-Text
returns-in-Text c =
    subst (λ (t : ℕ). Appends t c.args.key.now c.args.one.now c.args.two.now c.args.self.now c.append_text.new.self c.args.room.now c.append_text.new.room)
    (sym c.in-Some.ensures.kind) (c.append_text.ensures c.args.two.now)

pub returns-in_default-of : goal.returns-in_default-of
returns-in_default-of c =
    subst (λ (t : ℕ). Appends t c.args.key.now c.args.one.now c.args.two.now c.args.self.now c.append_parts.new.self c.args.room.now c.append_parts.new.room)
    (sym c.in-Some.ensures.kind) c.append_parts.ensures
