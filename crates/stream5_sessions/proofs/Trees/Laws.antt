-- Keys are one in the tree exactly where they are one, and what a step of the tree does to each key.
use Rattle.std.proofs.Common.{◌≡◌, ℕ, Bool, true, false, cond, ◌&&◌, eqb, List, Option, refl, sym, ap, ◌∙◌}
use Rattle.std.specs.BTreeMap.{BTreeMap, get, is_at}
use Rattle.std.specs.Map.{lookup}
use mathlib.Core.Bool.{beq}
use Rattle.edge_io.specs.declared.address.Addr.{Addr}
use Rattle.edge_io.specs.declared.address.Addr.TheVariants.{V4, V6}
use Rattle.edge_io.specs.Addresses.{same_addr}
use Rattle.stream5_sessions.specs.contracts.flow_numbers.TreeKeyOrd.TheImpl.Laws.{matches_eq-law}
use Rattle.stream5_sessions.specs.contracts.flow_numbers.TreeKeyPartialEq.TheImpl.{eq-value}
use Rattle.stream5_sessions.specs.declared.flow_numbers.FlowNumbers.{FlowNumbers}
use Rattle.stream5_sessions.specs.declared.flow_numbers.TreeKey.{TreeKey}
use Rattle.stream5_sessions.specs.declared.key.Key.{Key}
use Rattle.stream5_sessions.specs.Keys.{is_of, same_key}
use Rattle.stream5_sessions.specs.Trees.{tree_key_of, tree_cmp, number_in, KeepsNumbers, Puts}
use Rattle.stream5_sessions.proofs.KeyLaws.{bools}

abbrev tree_at : ℕ → ℕ → Bool → Addr → Addr → TreeKey
tree_at p q t x y = record { low_port = p; high_port = q; low_addr = x; high_addr = y; tcp = t }

-- the derived test, by its parts
parts : (p r q s : ℕ) (t u : Bool) (x v y w : Addr)
    → eq-value.it (tree_at p q t x y) (tree_at r s u v w) ≡ (eqb p r && (eqb q s && (same_addr x v && (same_addr y w && beq t u))))
parts p r q s t u (V4 x) (V6 v) y w = refl
parts p r q s t u (V6 x) (V4 v) y w = refl
parts p r q s t u (V4 x) (V4 v) (V4 y) (V4 w) = refl
parts p r q s t u (V4 x) (V4 v) (V4 y) (V6 w) = refl
parts p r q s t u (V4 x) (V4 v) (V6 y) (V4 w) = refl
parts p r q s t u (V4 x) (V4 v) (V6 y) (V6 w) = refl
parts p r q s t u (V6 x) (V6 v) (V4 y) (V4 w) = refl
parts p r q s t u (V6 x) (V6 v) (V4 y) (V6 w) = refl
parts p r q s t u (V6 x) (V6 v) (V6 y) (V4 w) = refl
parts p r q s t u (V6 x) (V6 v) (V6 y) (V6 w) = refl

-- the tests of the parts, in the order of a key's
reordered : (p t l h q : Bool) → (p && (q && (l && (h && t)))) ≡ ((t && (l && p)) && (h && q))
reordered false false l h q = refl
reordered false true true h q = refl
reordered false true false h q = refl
reordered true false l h false = refl
reordered true false false h true = refl
reordered true false true false true = refl
reordered true false true true true = refl
reordered true true false h false = refl
reordered true true false h true = refl
reordered true true true false false = refl
reordered true true true false true = refl
reordered true true true true false = refl
reordered true true true true true = refl

tree_eq : (a b : Key) → eq-value.it (tree_key_of a) (tree_key_of b) ≡ same_key a b
unfolding same_key
tree_eq a b =
    let low : Bool = eqb a.low.port b.low.port in
    let high : Bool = eqb a.high.port b.high.port in
    parts a.low.port b.low.port a.high.port b.high.port a.tcp b.tcp a.low.addr b.low.addr a.high.addr b.high.addr
    ∙ ap (λ (x : Bool). low && (high && (same_addr a.low.addr b.low.addr && (same_addr a.high.addr b.high.addr && x)))) (bools a.tcp b.tcp)
    ∙ reordered low (is_of a.tcp b) (same_addr a.low.addr b.low.addr) (same_addr a.high.addr b.high.addr) high

pub tree_test : (a b : Key) → is_at (tree_cmp (tree_key_of a)) (tree_key_of b) ≡ same_key a b
tree_test a b = sym (matches_eq-law (tree_key_of a) (tree_key_of b)) ∙ tree_eq a b

-- a tree that has this at the key's place, and at each other place what it had
pub tree_puts : (old new : BTreeMap TreeKey ℕ) (key : Key) (place : TreeKey) (number : Option ℕ) → place ≡ tree_key_of key
    → ((k : TreeKey) → get tree_cmp new k ≡ cond (is_at (tree_cmp place) k) number (get tree_cmp old k))
    → (q : Key) → get tree_cmp new (tree_key_of q) ≡ cond (same_key key q) number (get tree_cmp old (tree_key_of q))
tree_puts old new key place number is updates q =
    updates (tree_key_of q)
    ∙ ap (λ (k : TreeKey). cond (is_at (tree_cmp k) (tree_key_of q)) number (get tree_cmp old (tree_key_of q))) is
    ∙ ap (λ (b : Bool). cond b number (get tree_cmp old (tree_key_of q))) (tree_test key q)

-- the same, of the keys' numbers
pub numbers-put : (old : FlowNumbers) (put : BTreeMap TreeKey ℕ) (key : Key) (place : TreeKey) (number : Option ℕ) → place ≡ tree_key_of key
    → ((k : TreeKey) → get tree_cmp put k ≡ cond (is_at (tree_cmp place) k) number (get tree_cmp old.tree k)) → Puts old key number (record { tree = put })
unfolding number_in
numbers-put old put key place number is updates = tree_puts old.tree put key place number is updates

-- a tree with the same entries gives each key the same number
pub numbers-kept : (old : FlowNumbers) (tree : BTreeMap TreeKey ℕ) → tree.entries ≡ old.tree.entries → KeepsNumbers old (record { tree = tree })
unfolding number_in
numbers-kept old tree same = λ q. ap (λ (l : List (TreeKey × ℕ)). lookup (is_at (tree_cmp (tree_key_of q))) l) same
