-- The members of trees, and those that a call has not passed yet. Helpers of the writer; no public contract cites this
-- file.
use Rattle.std.specs.Prelude.{◌≡◌, ℕ, ◌+◌, ◌-◌, List, [], ◌++◌, Option, None, Some, take, drop, length, decimal, pos, map}
use Rattle.std.specs.String.{string_bytes}
use denote.Ref.{Bor}
use Rattle.bson_model.specs.Tree.{Tree, Trees, Entries, leaf, array, document, code_with_scope, no_tree, tree_then, no_entry, entry_then, entries, trees, tree_of, tree_of_document, tree_of_list, pairs_of, with_trees}
use Rattle.bson_model.specs.declared.bson.Bson.{Bson}
use Rattle.bson_model.specs.declared.bson.Document.{Document}
use Rattle.raw_view.specs.Frame.Format.{string_payload}
use Rattle.raw_view.specs.Meaning.{RawValue, single}
use Rattle.raw_view.specs.Frame.Number.{le32}
use Rattle.raw_view.specs.Meaning.Value.{value_of}
use Rattle.raw_tree.specs.put.Payload.{unset}
use Rattle.raw_tree.specs.declared.writer.members.Container.{Container}
use Rattle.raw_tree.specs.declared.writer.members.Container.TheVariants as container
use Rattle.raw_tree.specs.declared.writer.members.Key.{Key}
use Rattle.raw_tree.specs.declared.writer.members.Key.TheVariants as key
use Rattle.raw_tree.specs.declared.writer.members.Members.{Members}
use Rattle.raw_tree.specs.declared.writer.members.Shown.{Shown}
use Rattle.raw_tree.specs.declared.writer.members.Shown.TheVariants as shown
use Rattle.raw_tree.specs.declared.writer.Payload.{Payload}

-- the key of a member: a text, or the decimal of its number in a list
abbrev pub key_bytes : Key → List ℕ
key_bytes (key.Text k) = k.now
key_bytes (key.Number n) = decimal n

-- the trees of a list, with the decimals from this number on as keys
abbrev pub numbered : ℕ → Trees → Entries
numbered n no_tree = no_entry
numbered n (tree_then t ts) = entry_then (decimal n) t (numbered (n + 1) ts)

-- the members of a tree in order
abbrev pub members : Tree → Entries
members (leaf l) = no_entry
members (array ts) = numbered 0 ts
members (document es) = es
members (code_with_scope code es) = es

-- the tree of a container
abbrev pub tree_of_container : Container → Tree
tree_of_container (container.Document d) = tree_of_document d.now
tree_of_container (container.Array vs) = tree_of_list vs.now
tree_of_container (container.Code c) = code_with_scope (string_bytes c.now.code) (entries (with_trees (pairs_of c.now.scope)))

-- the pairs of a document, without the first n
abbrev pub pairs_from : Document → ℕ → Entries
pairs_from d n = entries (with_trees (drop n (pairs_of d)))

-- the values of a list, without the first n
abbrev pub values_from : List Bson → ℕ → Entries
values_from vs n = numbered n (trees (map tree_of (drop n vs)))

-- the members of a container, without the first n
abbrev pub members_from : Container → ℕ → Entries
members_from (container.Document d) n = pairs_from d.now n
members_from (container.Array vs) n = values_from vs.now n
members_from (container.Code c) n = pairs_from c.now.scope n

-- the members that are left
abbrev pub members_left : Members → Entries
members_left m = members_from m.container m.passed

-- this is the first member, and these others are left
abbrev pub IsStep : Entries → Option (Key × Bor Bson) → Entries → Type 0
IsStep old None new = old ≡ no_entry
IsStep old (Some m) new = old ≡ entry_then (key_bytes m.0) (tree_of m.1.now) new

-- the view is of a value that holds no others, and the tree is its leaf
abbrev pub IsLeafOf : Tree → RawValue → Type 0
IsLeafOf t (single l) = t ≡ leaf l
IsLeafOf t _ = ⊥

-- the tree is that of the value, or of the container
abbrev pub IsTreeOf : Tree → Shown → Type 0
IsTreeOf t (shown.Leaf v) = IsLeafOf t (value_of v)
IsTreeOf t (shown.Container c) = t ≡ tree_of_container c

-- the bytes with which a payload begins, with its lengths not set; for a code these are its own length, its text and
-- the length of its scope
abbrev pub opening : Tree → List ℕ
opening (leaf l) = []
opening (array ts) = unset
opening (document es) = unset
opening (code_with_scope code es) = unset ++ string_payload code ++ unset

-- the number of these bytes
abbrev pub opening_len : Tree → ℕ
opening_len (leaf l) = 0
opening_len (array ts) = 4
opening_len (document es) = 4
opening_len (code_with_scope code es) = 13 + length code

-- the bytes, where the four bytes at `start` are set to the number of bytes from there on
abbrev pub with_len : ℕ → List ℕ → List ℕ
with_len start b = take start b ++ (le32 (pos (length b - start)) ++ drop (start + 4) b)

-- the bytes that end with the payload that starts at `start`, with its lengths set
abbrev pub ended : Tree → ℕ → List ℕ → List ℕ
ended (leaf l) start b = b
ended (array ts) start b = with_len start b
ended (document es) start b = with_len start b
ended (code_with_scope code es) start b = with_len start (with_len (start + 9 + length code) b)

-- a tree that is being written: where its payload starts, and its remaining members
pub record Begun : Type 0 where
  pub tree : Tree
  pub start : ℕ
  pub left : Entries

-- where its first member starts
abbrev pub members_start : Begun → ℕ
members_start x = x.start + opening_len x.tree

-- a tree whose payload begins here
abbrev pub begun_at : Tree → ℕ → Begun
begun_at t start = record { tree = t; start = start; left = members t }

-- the tree of a level that is being written
abbrev pub begun_of : Payload → Begun
begun_of level = record { tree = tree_of_container level.members.container; start = level.start; left = members_left level.members }

-- the tree holds others
abbrev pub HoldsTrees : Tree → Type 0
HoldsTrees (leaf l) = ⊥
HoldsTrees (array ts) = Unit {0}
HoldsTrees (document es) = Unit {0}
HoldsTrees (code_with_scope code es) = Unit {0}
