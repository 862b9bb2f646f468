-- Doubles in Extended JSON.
use Rattle.std.specs.Prelude.{◌≡◌, ℕ, List, ◌++◌, Some, codes}
use Rattle.std.specs.Float.{binary64}
use Rattle.std.specs.Float.Ieee.{Float, nan, inf, fin}
use Rattle.std.specs.Fmt.{sign_text}
use Rattle.ryu.specs.Parse.{parse_float}
use Rattle.ryu.specs.Plain.{IsPlainNumber}
use Rattle.bson_to_json.specs.declared.style.Format.{Format}
use Rattle.bson_to_json.specs.declared.style.Format.TheVariants.{Relaxed, Canonical}

-- The text of a double. It is a name if the double is no number. Otherwise it is a JSON number with a point or an exponent that is read as
-- this double, sign included.
abbrev pub IsDoubleText : Float → List ℕ → Type 0
IsDoubleText nan text = text ≡ codes "NaN"
IsDoubleText (inf negative) text = text ≡ sign_text negative ++ codes "Infinity"
IsDoubleText (fin negative m e) text = IsPlainNumber text × (parse_float binary64 text ≡ Some (fin negative m e))

-- a text in an object that gives the kind
abbrev pub wrapped_double : List ℕ → List ℕ
wrapped_double text = codes "{\"$numberDouble\":\"" ++ (text ++ codes "\"}")

-- a double in an object that gives its kind
abbrev pub IsWrappedDouble : Float → List ℕ → Type 0
IsWrappedDouble x text = (number : List ℕ) × IsDoubleText x number × (text ≡ wrapped_double number)

-- a double: in the relaxed format a finite one is its text; every other is wrapped
abbrev pub IsDoubleJson : Format → Float → List ℕ → Type 0
IsDoubleJson Relaxed (fin negative m e) text = IsDoubleText (fin negative m e) text
IsDoubleJson Relaxed nan text = IsWrappedDouble nan text
IsDoubleJson Relaxed (inf negative) text = IsWrappedDouble (inf negative) text
IsDoubleJson Canonical x text = IsWrappedDouble x text
