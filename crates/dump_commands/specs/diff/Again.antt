-- A document that is read again, and what is shown of it.
use Rattle.std.specs.Prelude.{◌≡◌, ◌≢◌, ◌<◌, ℕ, List, [], ◌++◌, Option, IfSome, None, Some, chars, codes, cond, drop, encode_utf8, flat_map, take, ◌∷◌, ◌/◌, ◌%◌}
use Rattle.std.specs.Char.{digit_char, is_control}
use Rattle.raw_form.specs.FormsWithin.{IsFormWithin}
use Rattle.raw_tree.specs.declared.reader.limits.Limits.{Limits}
use Rattle.bson_to_json.specs.Json.{IsJson}
use Rattle.bson_to_json.specs.declared.style.Format.TheVariants.{Canonical}
use Rattle.bson_to_json.specs.declared.style.Layout.TheVariants.{OneLine}
use Rattle.dump_commands.specs.diff.Sides.{Side}
use Rattle.dump_commands.specs.elements.Changes.{ListsChanges, Listing}
use Rattle.dump_commands.specs.elements.Pick.{IsPicked}
use Rattle.dump_commands.specs.state.Forms.{digest_of}

-- the bytes of a document, in an input with these bytes
abbrev pub bytes_there : Side → (input : List ℕ) → List ℕ
bytes_there s input = take s.size (drop s.place.offset input)

-- the bytes b have this form, whose digest is that which was gathered of the document
abbrev pub IsStill : Limits → Side → (b form : List ℕ) → Type 0
IsStill limits s b form = IsFormWithin limits b form × (digest_of form ≡ s.form)

-- The form of a document that is read again. It has the digest. It is that of the bytes at the place of the document, where the bytes of the input are
-- known. There is none only if these have no form with the digest, or the bytes of the input aren't known.
abbrev pub IsFormAgain : Limits → (input : Option (List ℕ)) → Side → Option (List ℕ) → Type 0
IsFormAgain limits input s (Some form) = (b : List ℕ) × IsStill limits s b form × IfSome input (λ bytes. b ≡ bytes_there s bytes)
IsFormAgain limits input s None = IfSome input (λ bytes. (form : List ℕ) → IsStill limits s (bytes_there s bytes) form → ⊥)

-- A character of a text of JSON. One that a terminal obeys is in a string: its escape stands for it there.
abbrev pub safe_char : ℕ → List ℕ
safe_char c = cond (is_control c) (codes "\\u00" ++ digit_char (c / 16) ∷ digit_char (c % 16) ∷ []) (encode_utf8 c)

abbrev pub safe_text : List ℕ → List ℕ
safe_text text = flat_map safe_char (chars text)

-- the elements of a form to which these paths lead, as canonical Extended JSON, which tells kinds; nothing where the form isn't known
abbrev pub ShowsKey : (paths : List ℕ) → Option (List ℕ) → Option (List ℕ) → Type 0
ShowsKey paths (Some form) (Some json) = (picked : List ℕ) × IsPicked form paths picked × IsJson (record { format = Canonical; layout = OneLine }) picked json
ShowsKey paths None None = Unit {0}
ShowsKey paths _ _ = ⊥

-- the paths at which two forms differ; nothing where one of them isn't known
abbrev pub ShowsPaths : (old new : Option (List ℕ)) → Option Listing → Type 0
ShowsPaths (Some old) (Some new) (Some paths) = ListsChanges old new paths
ShowsPaths (Some old) (Some new) None = ⊥
ShowsPaths _ _ None = Unit {0}
ShowsPaths _ _ (Some paths) = ⊥
