-- The map of the code, seen as files.
use Rattle.std.proofs.Common.{◌≡◌, ℕ, Bool, true, false, cond, List, [], ◌∷◌, ◌++◌, Option, Some, None, String, Vec, map, refl, sym, subst, ap, ◌∙◌}
use Rattle.std.specs.declared.alloc.Global.{Global}
use Rattle.std.specs.declared.cmp.Ordering.{Ordering}
use Rattle.std.specs.declared.cmp.Ordering.TheVariants.{Less, Equal, Greater}
use Rattle.std.specs.Ordering.{nat_cmp, is_eq, ordering_reverse}
use Rattle.std.specs.Option.{option_map, unwrap_or}
use Rattle.std.specs.Cmp.{eq_by_cmp_equiv}
use Rattle.std.specs.Cmp.Lexicographic.{slice_cmp, nat_list_cmp_total}
use Rattle.std.specs.List.{AllByRecursion}
use Rattle.std.specs.List.Sorted.{IsStrictlySortedBy}
use Rattle.std.specs.Map.{lookup, keys_of}
use Rattle.std.specs.String.{string_bytes, string_cmp, string_cmp_total}
use Rattle.std.specs.BTreeMap.{BTreeMap, UpdatesBy, get_by_text}
use Rattle.std.specs.FinMap as fin
use Rattle.std.specs.FinMap.Entries.{find}
use Rattle.std.proofs.lemmas.List.{map-append}
use Rattle.std.proofs.lemmas.Map.Text.{btree_map_updates_text, is_eq-slice_cmp}
use Rattle.edge_io.specs.Files.{Files}
use Rattle.edge_io.specs.HeldFiles.{HeldFiles, no_files}
use Rattle.row_files.specs.Appending.{bytes_of, files_with}
use Rattle.row_files.specs.Stored.{stored}

-- an entry of the code's map
abbrev Entry : Type 0
Entry = String Global × Vec ℕ Global

-- the files that the entries are
abbrev pub files_in : List Entry → Files
files_in es = fin.from_entries (map stored es)

-- what is kept under a name, as bytes
abbrev bytes_in : Option (Vec ℕ Global) → Option (List ℕ)
bytes_in = option_map (λ (bytes : Vec ℕ Global). bytes.items)

find-stored : (es : List Entry) (name : List ℕ) → find (slice_cmp nat_cmp) name (map stored es) ≡ bytes_in (lookup (λ k. is_eq (slice_cmp nat_cmp name (string_bytes k))) es)
find-stored [] name = refl
find-stored (e ∷ es) name = go (is_eq (slice_cmp nat_cmp name (string_bytes e.0))) (find-stored es name)
  where
    go : (b : Bool)
        → find (slice_cmp nat_cmp) name (map stored es) ≡
        bytes_in (lookup (λ k. is_eq (slice_cmp nat_cmp name (string_bytes k))) es)
        → cond b (Some e.1.items) (find (slice_cmp nat_cmp) name (map stored es)) ≡
        bytes_in (cond b (Some e.1) (lookup (λ k. is_eq (slice_cmp nat_cmp name (string_bytes k))) es))
    go true h = refl
    go false h = h

-- what is at a name is what the code finds there
pub get-stored : (m : BTreeMap (String Global) (Vec ℕ Global)) (name : List ℕ) → fin.get (files_in m.entries) name ≡ bytes_in (get_by_text m name)
get-stored m name = fin.get-from_entries nat_list_cmp_total (map stored m.entries) name ∙ find-stored m.entries name

-- the bytes of a name that the code finds, and of one that it doesn't
pub bytes-found : (m : BTreeMap (String Global) (Vec ℕ Global)) (name : List ℕ) (bytes : Vec ℕ Global) → Some bytes ≡ get_by_text m name → bytes.items ≡ bytes_of (files_in m.entries) name
bytes-found m name bytes e = ap (λ o. unwrap_or (bytes_in o) []) e ∙ ap (λ o. unwrap_or o []) (sym (get-stored m name))

pub bytes-lacking : (m : BTreeMap (String Global) (Vec ℕ Global)) (name : List ℕ) → None ≡ get_by_text m name → [] ≡ bytes_of (files_in m.entries) name
bytes-lacking m name e = ap (λ o. unwrap_or (bytes_in o) []) e ∙ ap (λ o. unwrap_or o []) (sym (get-stored m name))

-- an answer by cases, seen as bytes
bytes_by : (b : Bool) (bytes : Vec ℕ Global) (other : Option (Vec ℕ Global)) → bytes_in (cond b (Some bytes) other) ≡ cond b (Some bytes.items) (bytes_in other)
bytes_by true bytes other = refl
bytes_by false bytes other = refl

-- the test of one name, either way round
same_name : (a b : List ℕ) → is_eq (slice_cmp nat_cmp b a) ≡ is_eq (slice_cmp nat_cmp a b)
same_name a b = (eq_by_cmp_equiv nat_list_cmp_total).symm b a

-- the files after the code's map was changed at one name
pub files-updated : (m n : BTreeMap (String Global) (Vec ℕ Global)) (name : List ℕ) (bytes : Vec ℕ Global)
    → UpdatesBy string_cmp (λ k. slice_cmp nat_cmp name (string_bytes k)) m n (Some bytes)
    → files_in n.entries ≡ fin.insert (files_in m.entries) name bytes.items
files-updated m n name bytes after =
    fin.same_map nat_list_cmp_total (fin.slice_cmp-IsAntisymmetric fin.nat_cmp-IsAntisymmetric) _ _ (λ q.
    get-stored n q
    ∙ ap bytes_in (btree_map_updates_text name m n (Some bytes) after q)
    ∙ ap (λ b. bytes_in (cond b (Some bytes) (get_by_text m q))) (sym (is_eq-slice_cmp name q) ∙ same_name q name)
    ∙ bytes_by (is_eq (slice_cmp nat_cmp q name)) bytes (get_by_text m q)
    ∙ ap (cond (is_eq (slice_cmp nat_cmp q name)) (Some bytes.items)) (sym (get-stored m q))
    ∙ sym (fin.get-insert nat_list_cmp_total (files_in m.entries) name bytes.items q))

-- what is there already, put once more, changes nothing
same_again : (files : Files) (name bytes : List ℕ) (q : List ℕ)
    → fin.get files name ≡ Some bytes
    → (o : Ordering)
    → slice_cmp nat_cmp q name ≡ o
    → cond (is_eq o) (Some bytes) (fin.get files q) ≡ fin.get files q
same_again files name bytes q held Less tie = refl
same_again files name bytes q held Equal tie = sym held ∙ fin.get_tied nat_list_cmp_total files q name tie
same_again files name bytes q held Greater tie = refl

put_again : (files : Files) (name bytes : List ℕ) → fin.get files name ≡ Some bytes → fin.insert files name bytes ≡ files
put_again files name bytes held =
    fin.same_map nat_list_cmp_total (fin.slice_cmp-IsAntisymmetric fin.nat_cmp-IsAntisymmetric) _ _ (λ q.
    fin.get-insert nat_list_cmp_total files name bytes q ∙ same_again files name bytes q held (slice_cmp nat_cmp q name) refl)

-- the files after a name that the code found got more bytes
pub files-grown : (m n : BTreeMap (String Global) (Vec ℕ Global)) (name : List ℕ) (old new : Vec ℕ Global) (more : List ℕ)
    → UpdatesBy string_cmp (λ k. slice_cmp nat_cmp name (string_bytes k)) m n (Some new)
    → Some old ≡ get_by_text m name
    → new.items ≡ old.items ++ more
    → files_in n.entries ≡ files_with (files_in m.entries) name more
files-grown m n name old new more after found grown =
    files-updated m n name new after ∙ ap (fin.insert (files_in m.entries) name) (grown ∙ ap (λ bytes. bytes ++ more) (bytes-found m name old found))

-- the files after a name that the code found kept its bytes
pub files-kept : (m n : BTreeMap (String Global) (Vec ℕ Global)) (name : List ℕ) (old new : Vec ℕ Global)
    → UpdatesBy string_cmp (λ k. slice_cmp nat_cmp name (string_bytes k)) m n (Some new)
    → Some old ≡ get_by_text m name
    → new.items ≡ old.items
    → files_in n.entries ≡ files_in m.entries
files-kept m n name old new after found same =
    files-updated m n name new after
    ∙ ap (fin.insert (files_in m.entries) name) same
    ∙ put_again (files_in m.entries) name old.items (get-stored m name ∙ ap bytes_in (sym found))

-- the files after a name was put that the code did not find
pub files-made : (m n : BTreeMap (String Global) (Vec ℕ Global)) (name : List ℕ) (new : Vec ℕ Global)
    → UpdatesBy string_cmp (λ k. slice_cmp nat_cmp name (string_bytes k)) m n (Some new)
    → None ≡ get_by_text m name
    → files_in n.entries ≡ files_with (files_in m.entries) name new.items
files-made m n name new after lacking =
    files-updated m n name new after ∙ ap (λ bytes. fin.insert (files_in m.entries) name (bytes ++ new.items)) (bytes-lacking m name lacking)

-- what holds of all keys after a front holds of the first of them
at_seam : (P : String Global → Type 0) (front : List Entry) (e : Entry) (rest : List Entry) → AllByRecursion P (keys_of (front ++ e ∷ rest)) → P e.0
at_seam P [] e rest all = all.0
at_seam P (f ∷ front) e rest all = at_seam P front e rest all.1

-- a key that is above another isn't equal to it
not_equal : (x y : String Global) → string_cmp x y ≡ Less → is_eq (slice_cmp nat_cmp (string_bytes y) (string_bytes x)) ≡ false
not_equal x y less = ap is_eq (string_cmp_total.antisymm y x ∙ ap ordering_reverse less)

-- among entries that ascend the next one's name is new
find-next : (front : List Entry) (e : Entry) (rest : List Entry) → IsStrictlySortedBy string_cmp (keys_of (front ++ e ∷ rest)) → find (slice_cmp nat_cmp) (string_bytes e.0) (map stored front) ≡ None
unfolding IsStrictlySortedBy
find-next [] e rest ascend = refl
find-next (f ∷ front) e rest ascend =
    ap (λ b. cond b (Some f.1.items) (find (slice_cmp nat_cmp) (string_bytes e.0) (map stored front))) (not_equal f.0 e.0 (at_seam (λ k. string_cmp f.0 k ≡ Less) front e rest ascend.0))
    ∙ find-next front e rest ascend.1

-- the files of entries that ascend, put one after another
pub files-next : (front : List Entry) (e : Entry) (rest : List Entry)
    → IsStrictlySortedBy string_cmp (keys_of (front ++ e ∷ rest))
    → files_in (front ++ e ∷ []) ≡ fin.insert (files_in front) (string_bytes e.0) e.1.items
files-next front e rest ascend =
    ap (fin.from_entries {R = slice_cmp nat_cmp}) (map-append stored front (e ∷ []))
    ∙ fin.from_entries_push nat_list_cmp_total (fin.slice_cmp-IsAntisymmetric fin.nat_cmp-IsAntisymmetric) (map stored front) (string_bytes e.0) e.1.items (find-next front e rest ascend)

-- a host that has the files so far, after one more was put
pub host-next : (front : List Entry) (e : Entry) (rest all : List Entry) (old new : HeldFiles)
    → IsStrictlySortedBy string_cmp (keys_of all)
    → all ≡ front ++ e ∷ rest
    → old ≡ record no_files { files = files_in front }
    → new ≡ record old { files = fin.insert old.files (string_bytes e.0) e.1.items }
    → new ≡ record no_files { files = files_in (front ++ e ∷ []) }
host-next front e rest all old new ascend whole is put =
    put
    ∙ ap (λ (host : HeldFiles). record host { files = fin.insert host.files (string_bytes e.0) e.1.items }) is
    ∙ ap (λ files. record no_files { files = files }) (sym (files-next front e rest (subst (λ es. IsStrictlySortedBy string_cmp (keys_of es)) whole ascend)))
