-- The map changes at this name alone, where the bytes grow, stay, or are put in: `files-grown`, `files-kept` and
-- `files-made` say so of the files that contracts see.
use Rattle.std.proofs.Common.{◌≡◌, Option, None, Vec, Result, Ok, Err, OnErr, ℕ, string_bytes, rules}
use Rattle.std.specs.BTreeMap.{get_by_text}
use Rattle.std.specs.declared.alloc.Global.{Global}
use Rattle.row_files.proofs.Kept.{files-grown, files-kept, files-made}
use Rattle.row_files.proofs.files.Files.append.Goals as goal

on_err : {A E : Type 0} {P : Type 0} (r : Result A E) → P → OnErr r P
on_err (Ok x) p = tt
on_err (Err e) p = p

pub returns-in_err-extend_from_slice-clause-unchanged :
    goal.returns-in_err-extend_from_slice-clause-unchanged
returns-in_err-extend_from_slice-clause-unchanged c =
    let new = c.extend_from_slice.new.self in
    let updates = (c.get_mut.follows.holds new).3 (search rules) in
    on_err c.from_residual.result
    (rw (← c.self.view_is)
    (files-kept c.self.inside.entries (c.get_mut.follows.lender new) c.args.name.now c.in-Some.held.now new updates
    c.in-Some.ensures.value c.in_err-extend_from_slice.ensures.items))

pub returns-in-Some-clause-appended : goal.returns-in-Some-clause-appended
returns-in-Some-clause-appended c =
    let new = c.extend_from_slice.new.self in
    let updates = (c.get_mut.follows.holds new).3 (search rules) in
    rw (← c.self.view_is)
    (files-grown c.self.inside.entries (c.get_mut.follows.lender new) c.args.name.now c.in-Some.held.now new c.args.bytes.now
    updates c.in-Some.ensures.value c.in_ok-extend_from_slice.ensures.items)

pub returns-clause-appended : goal.returns-clause-appended
returns-clause-appended c =
    let name = string_bytes c.in_ok-name.name in
    let same : name ≡ c.args.name.now = c.in_ok-name.ensures.ok in
    let lacking : ◌≡◌ {A = Option (Vec ℕ Global)} None (get_by_text c.self.inside.entries name) = rw same c.in_default.ensures.value in
    let updates = rw c.get_mut.follows.holds-at-none at c.in_ok-insert.ensures.updates in
    rw (← c.self.view_is, ← same, ← c.in_ok-bytes.ensures.items) (files-made c.self.inside.entries c.insert.new.self name c.in_ok-bytes.bytes updates lacking)
