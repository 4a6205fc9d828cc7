-- The map of the code, seen as the variables.
use Rattle.std.proofs.Common.{◌≡◌, ℕ, Bool, true, false, cond, List, [], ◌∷◌, Option, Some, None, Vec, map, refl, sym, ap, ◌∙◌}
use Rattle.std.specs.declared.alloc.Global.{Global}
use Rattle.std.specs.declared.cmp.Ordering.{Ordering}
use Rattle.std.specs.declared.cmp.Ordering.TheVariants.{Less, Equal, Greater}
use Rattle.std.specs.Ordering.{nat_cmp, is_eq, match_ordering, eq_by_cmp}
use Rattle.std.specs.Option.{option_map}
use Rattle.std.specs.Cmp.Lexicographic.{slice_cmp, nat_list_cmp_total}
use Rattle.std.specs.BTreeMap.{insert_entry}
use Rattle.std.specs.Map.{lookup}
use Rattle.std.specs.FinMap as fin
use Rattle.std.specs.FinMap.Entries.{find, put, find-put}
use Rattle.net_lists.specs.declared.vars.Entry.{Entry}
use Rattle.net_lists.specs.Variables.{Variable, is_fixed, value_of}
use Rattle.net_lists.specs.Stored.{stored}

-- what an entry of the code holds
abbrev variable_in : Entry → Variable
variable_in entry = record { value = entry.value.items; fixed = entry.fixed }

-- the code's look-up of a name
abbrev pub looked_up : List (Vec ℕ Global × Entry) → List ℕ → Option Entry
looked_up es name = lookup (λ k. is_eq (slice_cmp nat_cmp name k.items)) es

find-stored : (es : List (Vec ℕ Global × Entry)) (name : List ℕ) → find (slice_cmp nat_cmp) name (map stored es) ≡ option_map variable_in (looked_up es name)
find-stored [] name = refl
find-stored (e ∷ es) name = go (is_eq (slice_cmp nat_cmp name e.0.items)) (find-stored es name)
  where
    go : (b : Bool)
        → find (slice_cmp nat_cmp) name (map stored es) ≡ option_map variable_in (looked_up es name)
        → cond b (Some (variable_in e.1)) (find (slice_cmp nat_cmp) name (map stored es)) ≡
        option_map variable_in (cond b (Some e.1) (looked_up es name))
    go true h = refl
    go false h = h

-- what a name stands for is what the code finds
pub get-stored : (es : List (Vec ℕ Global × Entry)) (name : List ℕ) → fin.get (fin.from_entries {R = slice_cmp nat_cmp} (map stored es)) name ≡ option_map variable_in (looked_up es name)
get-stored es name = fin.get-from_entries nat_list_cmp_total (map stored es) name ∙ find-stored es name

-- a name that the code finds
pub is_fixed-found : (es : List (Vec ℕ Global × Entry)) (name : List ℕ) (entry : Entry)
    → Some entry ≡ looked_up es name
    → entry.fixed ≡ is_fixed (fin.get (fin.from_entries {R = slice_cmp nat_cmp} (map stored es)) name)
is_fixed-found es name entry e = ap (λ o. is_fixed (option_map variable_in o)) e ∙ ap is_fixed (sym (get-stored es name))

-- a name that it doesn't find
pub is_fixed-lacking : (es : List (Vec ℕ Global × Entry)) (name : List ℕ) → None ≡ looked_up es name → false ≡ is_fixed (fin.get (fin.from_entries {R = slice_cmp nat_cmp} (map stored es)) name)
is_fixed-lacking es name e = ap (λ o. is_fixed (option_map variable_in o)) e ∙ ap is_fixed (sym (get-stored es name))

pub value_of-found : (es : List (Vec ℕ Global × Entry)) (name : List ℕ) (entry : Entry)
    → Some entry ≡ looked_up es name
    → Some entry.value.items ≡ value_of (fin.get (fin.from_entries {R = slice_cmp nat_cmp} (map stored es)) name)
value_of-found es name entry e = ap (λ o. value_of (option_map variable_in o)) e ∙ ap value_of (sym (get-stored es name))

pub value_of-lacking : (es : List (Vec ℕ Global × Entry)) (name : List ℕ) → None ≡ looked_up es name → None ≡ value_of (fin.get (fin.from_entries {R = slice_cmp nat_cmp} (map stored es)) name)
value_of-lacking es name e = ap (λ o. value_of (option_map variable_in o)) e ∙ ap value_of (sym (get-stored es name))

-- the code's insertion, by its entries
stored-insert_entry : (es : List (Vec ℕ Global × Entry)) (name : Vec ℕ Global) (entry : Entry)
    → map stored (insert_entry (λ x y. slice_cmp nat_cmp x.items y.items) es name entry) ≡
    put (slice_cmp nat_cmp) name.items (variable_in entry) (map stored es)
stored-insert_entry [] name entry = refl
stored-insert_entry (e ∷ es) name entry = go (slice_cmp nat_cmp name.items e.0.items) (stored-insert_entry es name entry)
  where
    go : (o : Ordering)
        → map stored (insert_entry (λ x y. slice_cmp nat_cmp x.items y.items) es name entry) ≡
        put (slice_cmp nat_cmp) name.items (variable_in entry) (map stored es)
        → map stored
        (match_ordering o ((name, entry) ∷ e ∷ es) ((e.0, entry) ∷ es)
        (e ∷ insert_entry (λ x y. slice_cmp nat_cmp x.items y.items) es name entry)) ≡
        match_ordering o ((name.items, variable_in entry) ∷ map stored (e ∷ es))
        ((e.0.items, variable_in entry) ∷ map stored es)
        (stored e ∷ put (slice_cmp nat_cmp) name.items (variable_in entry) (map stored es))
    go Less h = refl
    go Equal h = refl
    go Greater h = ap (λ rest. stored e ∷ rest) h

from_entries-put : (es : List (List ℕ × Variable)) (name : List ℕ) (variable : Variable)
    → fin.from_entries {R = slice_cmp nat_cmp} (put (slice_cmp nat_cmp) name variable es) ≡
    fin.insert (fin.from_entries es) name variable
from_entries-put es name variable =
    fin.same_map nat_list_cmp_total (fin.slice_cmp-IsAntisymmetric fin.nat_cmp-IsAntisymmetric) _ _ (λ q.
    fin.get-from_entries nat_list_cmp_total (put (slice_cmp nat_cmp) name variable es) q
    ∙ find-put (slice_cmp nat_cmp) nat_list_cmp_total q name variable es
    ∙ ap (cond (eq_by_cmp (slice_cmp nat_cmp) q name) (Some variable)) (sym (fin.get-from_entries nat_list_cmp_total es q))
    ∙ sym (fin.get-insert nat_list_cmp_total (fin.from_entries es) name variable q))

-- the variables after the code's insertion
pub from_entries-insert : (es now : List (Vec ℕ Global × Entry)) (name : Vec ℕ Global) (entry : Entry)
    → now ≡ insert_entry (λ x y. slice_cmp nat_cmp x.items y.items) es name entry
    → fin.from_entries {R = slice_cmp nat_cmp} (map stored now) ≡
    fin.insert (fin.from_entries (map stored es)) name.items (variable_in entry)
from_entries-insert es now name entry e =
    ap (λ xs. fin.from_entries (map stored xs)) e
    ∙ ap (λ xs. fin.from_entries {R = slice_cmp nat_cmp} xs) (stored-insert_entry es name entry)
    ∙ from_entries-put (map stored es) name.items (variable_in entry)
