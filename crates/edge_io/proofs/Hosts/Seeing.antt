-- What the calls of a host say of the files that may be seen of it.
use Rattle.std.proofs.Common.{◌≡◌, ℕ, List, Option, Some, None, refl, sym, subst, ◌∙◌}
use Rattle.std.specs.FinMap.{get}
use Rattle.edge_io.specs.Files.{Files, Holds, Lacks, IsLonger, IsOpened, IsUnopened, AsTold, MaySee, left_by}
use Rattle.edge_io.specs.Told.{before, NothingLeft}
use Rattle.edge_io.specs.declared.host.Host.{Ghosts as HostOf}

-- what a read took
pub seen_taken : (contents : Option Files) (agrees : Files → Type 0) (old new : Files → Option (List ℕ)) (bytes : List ℕ) (seen : Option Files) → MaySee contents agrees seen
    → ((files : Files) → agrees files → old files ≡ before bytes (new files)) → left_by old seen ≡ before bytes (left_by new seen)
unfolding before
seen_taken contents agrees old new bytes None may took = refl
seen_taken contents agrees old new bytes (Some files) may took = took files may

-- that a read found the end
pub seen_ended : (contents : Option Files) (agrees : Files → Type 0) (left : Files → Option (List ℕ)) (seen : Option Files) → MaySee contents agrees seen
    → ((files : Files) → agrees files → NothingLeft (left files)) → NothingLeft (left_by left seen)
seen_ended contents agrees left None may ended = tt
seen_ended contents agrees left (Some files) may ended = ended files may

-- what an opening left
pub seen_opened : (contents : Option Files) (agrees : Files → Type 0) (name : List ℕ) (left : Files → Option (List ℕ)) (seen : Option Files) → MaySee contents agrees seen
    → ((files : Files) → agrees files → IsOpened (Some files) name (left files)) → IsOpened seen name (left_by left seen)
seen_opened contents agrees name left None may opened = tt
seen_opened contents agrees name left (Some files) may opened = opened files may

-- what was seen before a call that left the host's contents, and after which no more files agree
pub seen_earlier : (old new : Option Files) (agrees_old agrees_new : Files → Type 0) (seen : Option Files) → new ≡ old → ((files : Files) → agrees_new files → agrees_old files)
    → MaySee new agrees_new seen → MaySee old agrees_old seen
seen_earlier old new agrees_old agrees_new None same earlier may = sym same ∙ may
seen_earlier old new agrees_old agrees_new (Some files) same earlier may = earlier files may

-- what a read gave where nothing is open
pub seen_unopened : (contents : Option Files) (agrees : Files → Type 0) (left : Files → Option (List ℕ)) (count : ℕ) (seen : Option Files) → MaySee contents agrees seen
    → ((files : Files) → agrees files → left files ≡ None → count ≡ 0) → IsUnopened seen (left_by left seen) → count ≡ 0
seen_unopened contents agrees left count None may rule unopened = absurd unopened
seen_unopened contents agrees left count (Some files) may rule unopened = rule files may unopened

-- what a host tells may be seen of it
pub told_seen : (contents : Option Files) (left : Option (List ℕ)) (agrees : Files → Type 0) (left_of : Files → Option (List ℕ)) → AsTold contents left agrees left_of
    → MaySee contents agrees contents
told_seen None left agrees left_of law = refl
told_seen (Some files) left agrees left_of law = law.agree

-- a name that a host tells to lack, what may be seen of it lacks
pub seen_lacks : (contents : Option Files) (left : Option (List ℕ)) (agrees : Files → Type 0) (left_of : Files → Option (List ℕ)) (name : List ℕ) (seen : Option Files)
    → AsTold contents left agrees left_of → MaySee contents agrees seen → Lacks contents name → Lacks seen name
seen_lacks None left agrees left_of name seen law may lacks = absurd lacks
seen_lacks (Some told) left agrees left_of name None law may lacks = absurd (none may)
  where
    none : Some told ≡ None → ⊥
    none e = cc
seen_lacks (Some told) left agrees left_of name (Some files) law may lacks = subst (λ (f : Files). Lacks (Some f) name) (sym (law.alone files may)) lacks

-- what a load gave
pub seen_holds : (contents : Option Files) (agrees : Files → Type 0) (name bytes : List ℕ) (seen : Option Files) → MaySee contents agrees seen
    → ((files : Files) → agrees files → get files name ≡ Some bytes) → Holds seen name bytes
seen_holds contents agrees name bytes None may gave = tt
seen_holds contents agrees name bytes (Some files) may gave = gave files may

-- that a load found more than its limit
pub seen_longer : (contents : Option Files) (agrees : Files → Type 0) (name : List ℕ) (limit : ℕ) (seen : Option Files) → MaySee contents agrees seen
    → ((files : Files) → agrees files → IsLonger (Some files) name limit) → IsLonger seen name limit
seen_longer contents agrees name limit None may longer = tt
seen_longer contents agrees name limit (Some files) may longer = longer files may

-- what a call left of the capture that is open
pub seen_left : (old new : Files → Option (List ℕ)) (seen : Option Files) → ((files : Files) → new files ≡ old files) → left_by new seen ≡ left_by old seen
seen_left old new None same = refl
seen_left old new (Some files) same = same files

-- the files that may be seen leave as much as is told
told_left : (contents : Option Files) (left : Option (List ℕ)) (agrees : Files → Type 0) (left_of : Files → Option (List ℕ)) → AsTold contents left agrees left_of → left_by left_of contents ≡ left
told_left None left agrees left_of law = sym law
told_left (Some files) left agrees left_of law = law.left_is

-- what holds after a call by whatever may be seen of the host holds by what it tells
pub told : {H : Type 0} (g : HostOf H) → ((host : H) → AsTold (g.contents host) (g.left host) (g.agrees host) (g.left_of host)) → (old new : H)
    (P : Option Files → Option (List ℕ) → Option (List ℕ) → Type 0) → g.contents new ≡ g.contents old
    → ((seen : Option Files) → MaySee (g.contents new) (g.agrees new) seen → P seen (left_by (g.left_of old) seen) (left_by (g.left_of new) seen))
    → P (g.contents old) (g.left old) (g.left new)
told g law old new P same holds =
    let by_new = holds (g.contents new) (told_seen (g.contents new) (g.left new) (g.agrees new) (g.left_of new) (law new)) in
    let with_new : P (g.contents new) (left_by (g.left_of old) (g.contents new)) (g.left new) =
    subst (P (g.contents new) (left_by (g.left_of old) (g.contents new))) (told_left (g.contents new) (g.left new) (g.agrees new) (g.left_of new) (law new)) by_new in
    let by_old : P (g.contents old) (left_by (g.left_of old) (g.contents old)) (g.left new) =
    subst (λ (contents : Option Files). P contents (left_by (g.left_of old) contents) (g.left new)) same with_new in
    subst (λ (left : Option (List ℕ)). P (g.contents old) left (g.left new)) (told_left (g.contents old) (g.left old) (g.agrees old) (g.left_of old) (law old)) by_old
