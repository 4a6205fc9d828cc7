-- What a reader finds in the text of a value.
--
-- The kit's `json` says which value a text is by the grammar of RFC 8259 (`document`): members as they are written,
-- and numbers as their digits. Its `serde_json` says the same with numbers as numbers, and with each object's
-- members by their keys (`read`); of a key that comes twice the last member stays.
-- To try it on: `{"b":1,"a":2}` is read as the object with 2 at `a` and then 1 at `b`.
use Rattle.std.specs.Prelude.{◌≡◌, ℕ, ◌<◌, ◌≤◌, ◌^◌, List, Some, ⊤}
use Rattle.std.specs.List.{All}
use Rattle.std.specs.Str.{IsUtf8}
use Rattle.json.specs.Json.{document}
use Rattle.serde_json.specs.Data.{unsigned, negative, float, Data, null, boolean, number, string, array, object, Items, no_items, item, Members, no_members, member, put}
use Rattle.serde_json.specs.Read.{read}
use Rattle.serde_json.specs.Written.{outline}

-- a value as it is once it was read: each object's members by their keys
abbrev mutual
  pub settled : Data → Data
  settled null = null
  settled (boolean b) = boolean b
  settled (number n) = number n
  settled (string s) = string s
  settled (array ds) = array (settled_items ds)
  settled (object ms) = object (put_all ms no_members)

  pub settled_items : Items → Items
  settled_items no_items = no_items
  settled_items (item d ds) = item (settled d) (settled_items ds)

  -- members, put into others
  pub put_all : Members → Members → Members
  put_all no_members found = found
  put_all (member k d ms) found = put_all ms (put k (settled d) found)

-- no control character is in the text, so no line feed
abbrev pub IsOneLine : List ℕ → Type 0
IsOneLine text = All (λ (byte : ℕ). 32 ≤ byte) text

-- the text is JSON in one line, and is read back as exactly this value
pub record IsTextOf (value : Data) (text : List ℕ) : Type 0 where
  pub utf8 : IsUtf8 text
  pub one_line : IsOneLine text
  pub holds : document text ≡ Some (outline value)
  pub reads : read text ≡ Some (settled value)

-- each number of the value is whole, and has at most 64 bits
abbrev mutual
  pub IsWhole : Data → Type 0
  IsWhole null = ⊤
  IsWhole (boolean b) = ⊤
  IsWhole (number (unsigned n)) = n < 2 ^ 64
  IsWhole (number (negative z)) = ⊥
  IsWhole (number (float x)) = ⊥
  IsWhole (string s) = ⊤
  IsWhole (array ds) = ItemsAreWhole ds
  IsWhole (object ms) = MembersAreWhole ms

  pub ItemsAreWhole : Items → Type 0
  ItemsAreWhole no_items = ⊤
  ItemsAreWhole (item d ds) = IsWhole d × ItemsAreWhole ds

  pub MembersAreWhole : Members → Type 0
  MembersAreWhole no_members = ⊤
  MembersAreWhole (member k d ms) = IsWhole d × MembersAreWhole ms
