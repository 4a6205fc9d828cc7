-- The map's entries come in ascending order of their names, so that each `put` adds a file that the host didn't have: it has
-- the files of the entries so far (`host-next`).
use Rattle.std.proofs.Common.{◌≡◌, ◌∙◌, Bor, List, [], ◌∷◌, ◌++◌, String, Vec, ℕ, map, string_bytes, sym, ap, rules}
use Rattle.std.specs.declared.alloc.Global.{Global}
use Rattle.std.specs.FinMap as fin
use Rattle.std.specs.Map.Iter.{deref_pair}
use Rattle.std.proofs.lemmas.List.{map-append}
use Rattle.std.proofs.lemmas.Map.Iter.{rest_more, rest_so_far}
use Rattle.edge_io.specs.HeldFiles.{no_files}
use Rattle.row_files.proofs.Kept.{files_in, host-next}
use Rattle.row_files.proofs.files.Files.host.Goals as goal

pub loop-name-preserved : goal.loop-name-preserved
loop-name-preserved c =
    let item : Bor (String Global) × Bor (Vec ℕ Global) = (c.in-Some.name, c.in-Some.bytes) in
    let front = map deref_pair c.loop-name.yielded in
    let rest = c.next.new.self in
    let all = c.self.inside.entries.entries in
    let start : c.into_iter-name-iterator.result ≡ all = search rules in
    let so_far =
    rest_so_far deref_pair c.loop-name.yielded c.into_iter-name-iterator.result c.loop-name.name-iterator
    c.loop-name.yielded_by in
    let next = rest_more deref_pair c.loop-name.name-iterator rest c.next.result item c.in-Some.is c.next.ensures.steps in
    let whole : all ≡ front ++ deref_pair item ∷ rest =
    sym start ∙ so_far ∙ ap (λ (es : List (String Global × Vec ℕ Global)). front ++ es) next in
    let put : c.put.new.self
    ≡ record c.loop-name.host
    { files = fin.insert c.loop-name.host.files (string_bytes c.in-Some.name.now) c.in-Some.bytes.now.items } =
    rw (← c.deref.ensures, ← c.deref-in-loop-name.ensures.value) c.in_ok-put.ensures.put in
    host-next front (deref_pair item) rest all c.loop-name.host c.put.new.self c.iter-name-items.ensures.ordered whole
    c.loop-name.invariant put
    ∙ ap (λ es. record no_files { files = files_in es }) (sym (map-append deref_pair c.loop-name.yielded (item ∷ [])))
