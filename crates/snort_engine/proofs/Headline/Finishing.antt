-- The ways in which a run of a course ends, each from what is known there.
use Rattle.std.proofs.Common.{◌≡◌, ℕ, ◌≤◌, List, [], ◌++◌, Option, refl, sym, subst, inl, inr, ◌⊎◌, ⊎_elim}
use Rattle.std.specs.Prelude.{⊤}
use Rattle.std.specs.FinMap.{get}
use Rattle.std.specs.List.{concat}
use Rattle.std.proofs.lemmas.List.{append-nil}
use mathlib.Core.List.{IsPrefix}
use Rattle.edge_io.specs.Told.{grown, Rose}
use Rattle.edge_io.specs.Files.{Files}
use Rattle.alert_lines.specs.Written.{WritesPart}
use Rattle.alert_lines.proofs.Prefixes.{IsPrefix-same}
use Rattle.snort_engine.specs.declared.status.Status.{Status}
use Rattle.snort_engine.specs.declared.status.Status.TheVariants as status
use Rattle.snort_engine.specs.Course.{Plan, Way, Stops, Goes, Makes, Lists, Course}
use Rattle.snort_engine.specs.Answer.{answer_of}
use Rattle.snort_engine.specs.Messages.{cannot_write_text, no_memory_text}
use Rattle.snort_engine.specs.Outside.{Work}
use Rattle.snort_engine.specs.ReadAhead.{IsUntouched, IsShut, IsReadInBatches, IsReadAhead, IsApart, IsCutStatus, ReadsAhead, ReadsAheadOn}
use Rattle.snort_engine.specs.Ending.{IsStated, IsAnswered, IsCutShort, IsNoMemoryMessage, Ends}
use Rattle.snort_engine.proofs.Prefixes.{rose_since}

-- the statuses of a run that nothing cut short
abbrev pub IsPlain : Status → Type 0
IsPlain status.Done = ⊤
IsPlain status.Refused = ⊤
IsPlain status.BadCapture = ⊤
IsPlain status.HostFault = ⊥
IsPlain status.WriteFault = ⊥
IsPlain status.NoMemory = ⊥

-- a run ended as its answer says
pub ends_met : (files : Files) (course : Course) (before after : Work) (ended : Status) (alerts message : List ℕ) → IsPlain ended
    → after.alerts ≡ grown before.alerts alerts → IsAnswered (answer_of files course) ended alerts message → ReadsAhead files course before after ended
    → Ends files course before after ended message
ends_met files course before after ended alerts message plain wrote answered ahead = record {
  alerts = alerts;
  wrote = wrote;
  leaves_a_prefix = subst (λ (x : List ℕ). IsPrefix alerts x) answered.alerts_are (IsPrefix-same alerts);
  ended_as_stated = λ stated. answered;
  read_fault = λ is. absurd (subst IsPlain is plain);
  write_fault = λ is. absurd (subst IsPlain is plain);
  no_memory = λ is. absurd (subst IsPlain is plain);
  read_ahead = ahead;
}

-- a run ended at a fault of the host, or at a file that is lacking
pub ends_unread : (files : Files) (course : Course) (before after : Work) (alerts message : List ℕ)
    → after.alerts ≡ grown before.alerts alerts → IsPrefix alerts (answer_of files course).alerts
    → ((¬ Rose before.host_faults after.host_faults) → IsAnswered (answer_of files course) status.HostFault alerts message)
    → IsAnswered (answer_of files course) status.HostFault alerts message ⊎ IsCutShort files course before after message
    → ReadsAhead files course before after status.HostFault
    → Ends files course before after status.HostFault message
ends_unread files course before after alerts message wrote prefix stated how ahead = record {
  alerts = alerts;
  wrote = wrote;
  leaves_a_prefix = prefix;
  ended_as_stated = stated;
  read_fault = λ is. how;
  write_fault = λ is. absurd cc;
  no_memory = λ is. absurd cc;
  read_ahead = ahead;
}

-- a run ended at a file that is lacking
pub ends_answered : (files : Files) (course : Course) (before after : Work) (alerts message : List ℕ)
    → after.alerts ≡ grown before.alerts alerts → IsAnswered (answer_of files course) status.HostFault alerts message
    → ReadsAhead files course before after status.HostFault
    → Ends files course before after status.HostFault message
ends_answered files course before after alerts message wrote answered ahead =
    ends_unread files course before after alerts message wrote (subst (λ (x : List ℕ). IsPrefix alerts x) answered.alerts_are (IsPrefix-same alerts)) (λ still. answered) (inl answered) ahead

-- a run ended where writing failed
pub ends_unwritten : (files : Files) (course : Course) (before after : Work) → WritesPart before.alerts (answer_of files course).alerts after.alerts
    → ReadsAhead files course before after status.WriteFault → Ends files course before after status.WriteFault (concat course.warnings ++ cannot_write_text)
unfolding WritesPart
ends_unwritten files course before after (part, prefix, wrote) ahead = record {
  alerts = part;
  wrote = wrote;
  leaves_a_prefix = prefix;
  ended_as_stated = λ stated. absurd stated;
  read_fault = λ is. absurd cc;
  write_fault = λ is. refl;
  no_memory = λ is. absurd cc;
  read_ahead = ahead;
}

-- all of a list is a beginning of it
all_of : (xs : List (List ℕ)) → IsPrefix xs xs
all_of xs = ([], append-nil xs)

-- the message of want of memory, after all warnings or after none
memory_message : (course : Course) → IsNoMemoryMessage course (concat course.warnings ++ no_memory_text)
memory_message course = (course.warnings, all_of course.warnings, refl)

lone_memory_message : (course : Course) → IsNoMemoryMessage course no_memory_text
lone_memory_message course = ([], (course.warnings, refl), refl)

-- memory was lacking, with this message
ends_lacking_so : (files : Files) (course : Course) (before after : Work) (message : List ℕ) → IsNoMemoryMessage course message → WritesPart before.alerts (answer_of files course).alerts after.alerts
    → ReadsAhead files course before after status.NoMemory → Ends files course before after status.NoMemory message
unfolding WritesPart
ends_lacking_so files course before after message says (part, prefix, wrote) ahead = record {
  alerts = part;
  wrote = wrote;
  leaves_a_prefix = prefix;
  ended_as_stated = λ stated. absurd stated;
  read_fault = λ is. absurd cc;
  write_fault = λ is. absurd cc;
  no_memory = λ is. says;
  read_ahead = ahead;
}

-- memory was lacking, after all warnings
pub ends_lacking : (files : Files) (course : Course) (before after : Work) → WritesPart before.alerts (answer_of files course).alerts after.alerts
    → ReadsAhead files course before after status.NoMemory → Ends files course before after status.NoMemory (concat course.warnings ++ no_memory_text)
ends_lacking files course before after part ahead = ends_lacking_so files course before after (concat course.warnings ++ no_memory_text) (memory_message course) part ahead

-- ---- reading ahead

-- a course that stops has opened nothing
pub ahead_stops : (files : Files) (course : Course) (message : List ℕ) (status_then : Status) (before after : Work)
    (ended : Status)
    → course.way ≡ Stops message status_then
    → ended ≡ status_then
    → IsUntouched before after
    → ReadsAhead files course before after ended
unfolding ReadsAhead
ahead_stops files course message status_then before after ended stops is unopened =
    subst (λ (way : Way). ReadsAheadOn files way before after ended) (sym stops) (unopened, inl is)

-- a course that goes on has read its capture
pub ahead_goes : (files : Files) (course : Course) (plan : Plan) (before after : Work) (ended : Status)
    → course.way ≡ Goes plan
    → IsReadAhead plan (get files plan.source) before after ended
    → ReadsAhead files course before after ended
unfolding ReadsAhead
ahead_goes files course plan before after ended goes read =
    subst (λ (way : Way). ReadsAheadOn files way before after ended) (sym goes) (inl read)

-- a run whose course goes on was cut off before its capture was read
pub ahead_cut : (files : Files) (course : Course) (plan : Plan) (before after : Work) (ended : Status)
    → course.way ≡ Goes plan
    → IsCutStatus ended
    → IsUntouched before after ⊎ IsShut before after
    → ReadsAhead files course before after ended
unfolding ReadsAhead
ahead_cut files course plan before after ended goes cut how =
    subst (λ (way : Way). ReadsAheadOn files way before after ended) (sym goes) (inr (cut, how))

-- a course whose capture is made has left the host alone
pub ahead_made : (files : Files) (course : Course) (plan : Plan) (seed count : ℕ) (before after : Work) (ended : Status)
    → course.way ≡ Makes plan seed count
    → IsApart before after ended
    → ReadsAhead files course before after ended
unfolding ReadsAhead
ahead_made files course plan seed count before after ended makes apart =
    subst (λ (way : Way). ReadsAheadOn files way before after ended) (sym makes) apart

-- however far was read ahead, want of memory allows it
pub ahead_lacking : (files : Files) (course : Course) (before after : Work) (ended : Status) → ReadsAhead files course before after ended → ReadsAhead files course before after status.NoMemory
unfolding ReadsAhead
ahead_lacking files course before after ended read = by_way course.way read
  where
    by_way : (way : Way) → ReadsAheadOn files way before after ended → ReadsAheadOn files way before after status.NoMemory
    by_way (Stops message status_then) (unopened, how) = (unopened, inr (inr refl))
    by_way (Goes plan) (inl r) = inl (record { taken = r.taken; rest = r.rest; of = r.of; still = r.still; more = r.more; wrote = r.wrote; within = r.within; in_batches = λ is. absurd cc })
    by_way (Goes plan) (inr cut) = inr (inr refl, cut.1)
    by_way (Makes plan seed count) apart = record { left = apart.left; opens = apart.opens; no_host_fault = λ is. cc }
    by_way (Lists lines) apart = record { left = apart.left; opens = apart.opens; no_host_fault = λ is. cc }

-- ---- the whole run

-- memory was lacking for the message
pub ends_untold : (files : Files) (course : Course) (before after : Work) (ended : Status) (message : List ℕ) → Ends files course before after ended message
    → Ends files course before after status.NoMemory (concat course.warnings ++ no_memory_text)
unfolding WritesPart
ends_untold files course before after ended message ends =
    ends_lacking files course before after (ends.alerts, ends.leaves_a_prefix, ends.wrote) (ahead_lacking files course before after ended ends.read_ahead)

-- what was seen before is as it was seen earlier, but for the count of faults
pub record IsLater (earlier before : Work) : Type 0 where
  pub left : before.left ≡ earlier.left
  pub opens : before.opens ≡ earlier.opens
  pub alerts : before.alerts ≡ earlier.alerts
  pub later : earlier.host_faults ≤ before.host_faults

-- what was seen before, at an earlier count of faults
abbrev counted : Work → ℕ → Work
counted before faults = record { left = before.left; opens = before.opens; host_faults = faults; alerts = before.alerts }

-- a count that didn't rise from earlier on didn't rise from later on
stated_since : (earlier later after : ℕ) (ended : Status) → earlier ≤ later → IsStated ended (Rose earlier after) → IsStated ended (Rose later after)
stated_since earlier later after status.Done since stated = stated
stated_since earlier later after status.Refused since stated = stated
stated_since earlier later after status.BadCapture since stated = stated
stated_since earlier later after status.HostFault since stated = λ rose. stated (rose_since earlier later after since rose)
stated_since earlier later after status.WriteFault since stated = stated
stated_since earlier later after status.NoMemory since stated = stated

-- a run of a course, told from an earlier count of faults on
ends_counted : (files : Files) (course : Course) (before after : Work) (faults : ℕ) (ended : Status) (message : List ℕ) → faults ≤ before.host_faults
    → Ends files course before after ended message → Ends files course (counted before faults) after ended message
unfolding ReadsAhead
ends_counted files course before after faults ended message since ends = record {
  alerts = ends.alerts;
  wrote = ends.wrote;
  leaves_a_prefix = ends.leaves_a_prefix;
  ended_as_stated = λ stated. ends.ended_as_stated (stated_since faults before.host_faults after.host_faults ended since stated);
  read_fault = λ is. ⊎_elim (λ answered. inl answered) (λ cut. inr (cut_on cut)) (ends.read_fault is);
  write_fault = ends.write_fault;
  no_memory = ends.no_memory;
  read_ahead = by_way course.way ends.read_ahead;
}
  where
    unopened_on : IsUntouched before after → IsUntouched (counted before faults) after
    unopened_on u = record { left = u.left; opens = u.opens; alerts = u.alerts }

    cut_on : IsCutShort files course before after message → IsCutShort files course (counted before faults) after message
    cut_on c = record { plan = c.plan; goes = c.goes; taken = c.taken; of = c.of; wrote = c.wrote; says = c.says }

    batches_on : (plan : Plan) (taken rest : List ℕ) → IsReadInBatches plan taken rest (Rose before.host_faults after.host_faults) → IsReadInBatches plan taken rest (Rose faults after.host_faults)
    batches_on plan taken rest (inl whole) = inl whole
    batches_on plan taken rest (inr (inl out)) = inr (inl out)
    batches_on plan taken rest (inr (inr rose)) = inr (inr (rose_since faults before.host_faults after.host_faults since rose))

    by_way : (way : Way) → ReadsAheadOn files way before after ended → ReadsAheadOn files way (counted before faults) after ended
    by_way (Stops text status_then) (u, how) = (unopened_on u, how)
    by_way (Goes plan) (inl r) =
        inl (record {
          taken = r.taken;
          rest = r.rest;
          of = r.of;
          still = r.still;
          more = r.more;
          wrote = r.wrote;
          within = r.within;
          in_batches = λ is. batches_on plan r.taken r.rest (r.in_batches is);
        })
    by_way (Goes plan) (inr (cut, inl u)) = inr (cut, inl (unopened_on u))
    by_way (Goes plan) (inr (cut, inr s)) = inr (cut, inr (record { left = s.left; alerts = s.alerts }))
    by_way (Makes plan seed count) apart = record { left = apart.left; opens = apart.opens; no_host_fault = apart.no_host_fault }
    by_way (Lists lines) apart = record { left = apart.left; opens = apart.opens; no_host_fault = apart.no_host_fault }

-- a run of a course, told from earlier on
pub ends_since : (files : Files) (course : Course) (earlier before after : Work) (ended : Status) (message : List ℕ) → IsLater earlier before
    → Ends files course before after ended message → Ends files course earlier after ended message
ends_since files course earlier before after ended message since ends =
    let same : counted before earlier.host_faults ≡ earlier =
    same_work before.left earlier.left before.opens earlier.opens before.alerts earlier.alerts earlier.host_faults since.left
    since.opens since.alerts in
    subst (λ (w : Work). Ends files course w after ended message) same
    (ends_counted files course before after earlier.host_faults ended message since.later ends)
  where
    same_work : (l l' : Option (List ℕ)) (o o' : ℕ) (a a' : Option (List ℕ)) (f : ℕ) → l ≡ l' → o ≡ o' → a ≡ a'
        → ◌≡◌ {A = Work} (record { left = l; opens = o; host_faults = f; alerts = a }) (record { left = l'; opens = o'; host_faults = f; alerts = a' })
    same_work l l' o o' a a' f left opens alerts = cc
