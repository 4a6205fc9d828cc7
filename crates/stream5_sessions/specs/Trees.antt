-- How the code finds the number of a key's flow: in a tree, whose keys are in an order of their own.
--
-- The ports come first in it, then the addresses: most flows differ in a port, and a comparison ends at what
-- differs. The tree's key has all that the key has, so two keys are one in the tree only where they are one.
use Rattle.std.specs.Prelude.{◌≡◌, ℕ, Option, None, if◌then◌else◌}
use Rattle.std.specs.BTreeMap.{get}
use Rattle.std.specs.declared.cmp.Ordering.{Ordering}
use Rattle.stream5_sessions.specs.contracts.flow_numbers.TreeKeyOrd.TheImpl as ord
use Rattle.stream5_sessions.specs.declared.flow_numbers.FlowNumbers.{FlowNumbers}
use Rattle.stream5_sessions.specs.declared.flow_numbers.TreeKey.{TreeKey}
use Rattle.stream5_sessions.specs.declared.key.Key.{Key}
use Rattle.stream5_sessions.specs.Keys.{same_key}

-- the key as the tree has it
abbrev pub tree_key_of : Key → TreeKey
tree_key_of key = record {
  low_port = key.low.port;
  high_port = key.high.port;
  low_addr = key.low.addr;
  high_addr = key.high.addr;
  tcp = key.tcp;
}

-- how two keys of the tree compare, by the order that is derived
abbrev pub tree_cmp : TreeKey → TreeKey → Ordering
tree_cmp = (ord.ghosts).cmp

-- the number of the key's flow, if it has one
unfoldable pub number_in : FlowNumbers → Key → Option ℕ
number_in numbers key = get tree_cmp numbers.tree (tree_key_of key)

-- no key has a number
abbrev pub HasNone : FlowNumbers → Type 0
HasNone numbers = (q : Key) → number_in numbers q ≡ None

-- the key has this number after a step, or none, and each other key what it had before
abbrev pub Puts : FlowNumbers → Key → Option ℕ → FlowNumbers → Type 0
Puts old key number new = (q : Key) → number_in new q ≡ (if same_key key q then number else number_in old q)

-- each key has what it had
abbrev pub KeepsNumbers : FlowNumbers → FlowNumbers → Type 0
KeepsNumbers old new = (q : Key) → number_in new q ≡ number_in old q
