-- What a step shows of a stage: by a piece that was cut short, a refusal, or a whole block, and after
-- bytes that were taken before.
use Rattle.std.proofs.Common.{◌≡◌, ℕ, ◌<◌, List, [], ◌++◌, Option, Result, Ok, Err, length, sym, ap, subst, append_assoc, ◌∙◌}
use Rattle.std.proofs.lemmas.List.{append-nil}
use Rattle.edge_io.specs.Told.{before}
use Rattle.pcapng_input.specs.declared.capture.NgRecord.{NgRecord}
use Rattle.pcapng_input.specs.declared.capture.NgFault.{NgFault}
use Rattle.pcapng_input.specs.declared.capture.NgFault.TheVariants as fault
use Rattle.pcapng_input.specs.declared.walk.Walk.{Walk}
use Rattle.pcapng_input.specs.declared.step.BlockRead.{BlockRead}
use Rattle.pcapng_input.specs.declared.step.BlockRead.TheVariants as read
use Rattle.pcapng_input.specs.Blocks.{Step, Skips, Gives, refused}
use Rattle.pcapng_input.specs.Steps.{TakesLess, HoldsNone, EndsBy, ShowsBy, Shows}
use Rattle.pcapng_input.proofs.Blocks.Taking.{took_after, nothing_rest}

-- one stage after bytes is another
abbrev pub IsAfter : (List ℕ → Step) → List ℕ → (List ℕ → Step) → Type 0
IsAfter stage front next = (more : List ℕ) → stage (front ++ more) ≡ next more

ends_after : (stage next : List ℕ → Step) (step : Step) (front taken : List ℕ) (new : Option (List ℕ))
    → IsAfter stage front next → EndsBy next step taken new → EndsBy stage step (front ++ taken) new
ends_after stage next step front taken new is ends = record {
  shown = is taken ∙ ends.shown;
  told = λ rest still. ap stage (append_assoc front taken rest) ∙ is (taken ++ rest) ∙ ends.told rest still;
}

none_after : (stage next : List ℕ → Step) (front taken : List ℕ) → IsAfter stage front next → HoldsNone (next taken) → HoldsNone (stage (front ++ taken))
none_after stage next front taken is none = subst HoldsNone (sym (is taken)) none

by_after : (stage next : List ℕ → Step) (walk : Walk) (answer : Result BlockRead NgFault) (front taken : List ℕ) (new : Option (List ℕ))
    → IsAfter stage front next → ShowsBy next walk answer taken new → ShowsBy stage walk answer (front ++ taken) new
by_after stage next walk (Ok read.End) front taken new is shows =
    (ends_after stage next _ front taken new is shows.0, λ more. ap stage (append_assoc front taken more) ∙ is (taken ++ more) ∙ shows.1 more)
by_after stage next walk (Ok read.Skipped) front taken new is shows = λ more. ap stage (append_assoc front taken more) ∙ is (taken ++ more) ∙ shows more
by_after stage next walk (Ok (read.Record given)) front taken new is shows = λ more. ap stage (append_assoc front taken more) ∙ is (taken ++ more) ∙ shows more
by_after stage next walk (Err fault.Failed) front taken new is shows = none_after stage next front taken is shows
by_after stage next walk (Err fault.NoMemory) front taken new is shows = none_after stage next front taken is shows
by_after stage next walk (Err fault.NotPcapng) front taken new is shows = ends_after stage next _ front taken new is shows
by_after stage next walk (Err (fault.Truncated at)) front taken new is shows = ends_after stage next _ front taken new is shows
by_after stage next walk (Err (fault.BadBlock at)) front taken new is shows = ends_after stage next _ front taken new is shows
by_after stage next walk (Err (fault.LinkType at link)) front taken new is shows = ends_after stage next _ front taken new is shows
by_after stage next walk (Err (fault.TooLong at len)) front taken new is shows = ends_after stage next _ front taken new is shows
by_after stage next walk (Err fault.TooMany) front taken new is shows = ends_after stage next _ front taken new is shows

-- what a step shows of the stage after bytes that were taken before it
pub shows_after : (stage next : List ℕ → Step) (walk : Walk) (answer : Result BlockRead NgFault) (front : List ℕ) (old mid new : Option (List ℕ))
    → IsAfter stage front next → old ≡ before front mid → Shows next walk answer mid new → Shows stage walk answer old new
shows_after stage next walk answer front old mid new is took shown = record {
  taken = front ++ shown.taken;
  took = took_after front shown.taken old mid new took shown.took;
  shows = by_after stage next walk answer front shown.taken new is shown.shows;
}

-- the stage is cut off where fewer bytes than a piece are left
abbrev pub CutsBelow : (List ℕ → Step) → ℕ → ℕ → Type 0
CutsBelow stage place len = (bytes : List ℕ) → length bytes < len → stage bytes ≡ refused (fault.Truncated place)

cut_by : (stage : List ℕ → Step) (walk : Walk) (place len : ℕ) (why : NgFault) (old new : Option (List ℕ))
    → CutsBelow stage place len → (less : TakesLess place len why old new) → ShowsBy stage walk (Err why) less.taken new
cut_by stage walk place len fault.NotPcapng old new cuts less = absurd less.cut
cut_by stage walk place len (fault.Truncated at) old new cuts less =
    let shown : stage less.taken ≡ refused (fault.Truncated at) = cuts less.taken less.less ∙ ap (λ (n : ℕ). refused (fault.Truncated n)) (sym less.cut.0) in
    record {
      shown = shown;
      told = λ rest still.
          ap (λ (xs : List ℕ). stage (less.taken ++ xs)) (nothing_rest new rest less.cut.1 still) ∙ ap stage (append-nil less.taken) ∙ shown;
    }
cut_by stage walk place len (fault.BadBlock at) old new cuts less = absurd less.cut
cut_by stage walk place len (fault.LinkType at link) old new cuts less = absurd less.cut
cut_by stage walk place len (fault.TooLong at more) old new cuts less = absurd less.cut
cut_by stage walk place len fault.TooMany old new cuts less = absurd less.cut
cut_by stage walk place len fault.Failed old new cuts less = subst HoldsNone (sym (cuts less.taken less.less)) tt
cut_by stage walk place len fault.NoMemory old new cuts less = subst HoldsNone (sym (cuts less.taken less.less)) tt

-- a piece was cut short
pub shows_cut : (stage : List ℕ → Step) (walk : Walk) (place len : ℕ) (why : NgFault) (old new : Option (List ℕ))
    → CutsBelow stage place len → TakesLess place len why old new → Shows stage walk (Err why) old new
shows_cut stage walk place len why old new cuts less =
    record { taken = less.taken; took = less.took; shows = cut_by stage walk place len why old new cuts less }

-- after these bytes the stage is refused, whatever follows
abbrev pub IsRefused : (List ℕ → Step) → NgFault → List ℕ → Type 0
IsRefused stage why front = (more : List ℕ) → stage (front ++ more) ≡ refused why

refused_ends : (stage : List ℕ → Step) (why : NgFault) (front : List ℕ) (new : Option (List ℕ)) → IsRefused stage why front → EndsBy stage (refused why) front new
refused_ends stage why front new is =
    record { shown = ap stage (sym (append-nil front)) ∙ is []; told = λ rest still. is rest }

refused_none : (stage : List ℕ → Step) (why : NgFault) (front : List ℕ) → IsRefused stage why front → HoldsNone (stage front)
refused_none stage why front is = subst HoldsNone (sym (ap stage (sym (append-nil front)) ∙ is [])) tt

refused_by : (stage : List ℕ → Step) (walk : Walk) (why : NgFault) (front : List ℕ) (new : Option (List ℕ)) → IsRefused stage why front → ShowsBy stage walk (Err why) front new
refused_by stage walk fault.NotPcapng front new is = refused_ends stage _ front new is
refused_by stage walk (fault.Truncated at) front new is = refused_ends stage _ front new is
refused_by stage walk (fault.BadBlock at) front new is = refused_ends stage _ front new is
refused_by stage walk (fault.LinkType at link) front new is = refused_ends stage _ front new is
refused_by stage walk (fault.TooLong at len) front new is = refused_ends stage _ front new is
refused_by stage walk fault.TooMany front new is = refused_ends stage _ front new is
refused_by stage walk fault.Failed front new is = refused_none stage fault.Failed front is
refused_by stage walk fault.NoMemory front new is = refused_none stage fault.NoMemory front is

pub shows_refused : (stage : List ℕ → Step) (walk : Walk) (why : NgFault) (front : List ℕ) (old new : Option (List ℕ))
    → old ≡ before front new → IsRefused stage why front → Shows stage walk (Err why) old new
shows_refused stage walk why front old new took is = record { taken = front; took = took; shows = refused_by stage walk why front new is }

-- a block was skipped, or was a record
pub shows_skipped : (stage : List ℕ → Step) (walk : Walk) (front : List ℕ) (old new : Option (List ℕ))
    → old ≡ before front new → ((more : List ℕ) → stage (front ++ more) ≡ Skips walk more) → Shows stage walk (Ok read.Skipped) old new
shows_skipped stage walk front old new took is = record { taken = front; took = took; shows = is }

pub shows_given : (stage : List ℕ → Step) (walk : Walk) (given : NgRecord) (front : List ℕ) (old new : Option (List ℕ))
    → old ≡ before front new → ((more : List ℕ) → stage (front ++ more) ≡ Gives given walk more) → Shows stage walk (Ok (read.Record given)) old new
shows_given stage walk given front old new took is = record { taken = front; took = took; shows = is }

-- memory lacked after bytes that hold no record
pub shows_lacking : (stage : List ℕ → Step) (walk : Walk) (front : List ℕ) (old new : Option (List ℕ))
    → old ≡ before front new → HoldsNone (stage front) → Shows stage walk (Err fault.NoMemory) old new
shows_lacking stage walk front old new took none = record { taken = front; took = took; shows = none }
