-- Where the lengths of open levels are among the bytes. No public contract cites this file.
use Rattle.std.specs.Prelude.{◌≤◌, ℕ, ◌+◌, All, List}
use Rattle.bson_from_json.specs.declared.levels.Holder.{Holder}
use Rattle.bson_from_json.specs.declared.levels.Holder.TheVariants as holder
use Rattle.bson_from_json.specs.declared.levels.Level.{Level}

-- where the payload of the code starts whose scope is held; 0 for the other holders
abbrev pub code_start : Holder → ℕ
code_start (holder.Scope start) = start
code_start (holder.ScopeBeforeCode start) = start
code_start _ = 0

-- the lengths of the level, and of the code whose scope it is, are among the first n bytes
abbrev pub IsPlaced : ℕ → Level → Type 0
IsPlaced n l = (l.start + 4 ≤ n) × (code_start l.holder + 4 ≤ n)

-- this holds of all these levels
abbrev pub ArePlaced : ℕ → List Level → Type 0
ArePlaced n ls = All (IsPlaced n) ls
