-- What is told of a host is among what may be seen of it, and a cause by what is seen.
use Rattle.std.proofs.Common.{◌≡◌, ℕ, ◌≤◌, List, Option, Some, sym, subst, inl, inr}
use Rattle.std.specs.Prelude.{◌⊎◌}
use Rattle.edge_io.specs.Files.{Files, Lacks, AsTold, MaySee}
use Rattle.edge_io.specs.Frames.{OnlyLoaded}
use Rattle.edge_io.specs.declared.host.Host.{Ghosts as HostOf}
use Rattle.edge_io.specs.declared.pattern.Refusal.{Refusal}
use Rattle.edge_io.specs.declared.sink.Sink.{Ghosts as SinkOf}
use Rattle.edge_io.proofs.Hosts.Seeing.{seen_earlier, seen_lacks, told, told_seen}
use Rattle.option_eval.specs.Places.{Means}
use Rattle.snort_engine.specs.declared.status.Status.{Status}
use Rattle.snort_engine.specs.declared.stop.RunStop.{RunStop}
use Rattle.snort_engine.specs.declared.stop.RunStop.TheVariants as stop
use Rattle.snort_engine.specs.declared.plan.CaptureSource.{CaptureSource}
use Rattle.snort_engine.specs.declared.plan.CaptureSource.TheVariants.{File, Made}
use Rattle.snort_engine.specs.Course.{Course, Plan}
use Rattle.snort_engine.specs.Outside.{by, outside, work}
use Rattle.snort_engine.specs.Ending.{Ends}
use Rattle.snort_engine.specs.Steps.Preparing.{HasCause}
use Rattle.snort_engine.specs.Steps.Sources.{LacksCapture, LacksSource, source_name, way_from}
use Rattle.snort_engine.specs.Headline.{Headline}

-- what a host tells may be seen of it
pub told_may : {H : Type 0} (h : HostOf H) (host : H) → AsTold (h.contents host) (h.left host) (h.agrees host) (h.left_of host) → MaySee (h.contents host) (h.agrees host) (h.contents host)
told_may h host law = told_seen (h.contents host) (h.left host) (h.agrees host) (h.left_of host) law

-- files that are seen agree
pub seen_agree : {H : Type 0} (h : HostOf H) (host : H) (seen : Option Files) (files : Files) → MaySee (h.contents host) (h.agrees host) seen → seen ≡ Some files → h.agrees host files
seen_agree h host seen files may is = subst (MaySee (h.contents host) (h.agrees host)) is may

-- ---- causes

-- a name that a host told before to lack, what is seen lacks
lacks_by : {H : Type 0} (h : HostOf H) (old new : H) (name : List ℕ) (seen : Option Files) → AsTold (h.contents new) (h.left new) (h.agrees new) (h.left_of new) → h.contents new ≡ h.contents old
    → MaySee (h.contents new) (h.agrees new) seen → Lacks (h.contents old) name → Lacks seen name
lacks_by h old new name seen law same may lacks =
    seen_lacks (h.contents new) (h.left new) (h.agrees new) (h.left_of new) name seen law may (subst (λ (contents : Option Files). Lacks contents name) (sym same) lacks)

-- a failure has its cause by what is seen
pub cause_by : {H : Type 0} (h : HostOf H) (old new : H) (name : List ℕ) (rose : Type 0) (seen : Option Files)
    → AsTold (h.contents new) (h.left new) (h.agrees new) (h.left_of new)
    → h.contents new ≡ h.contents old
    → MaySee (h.contents new) (h.agrees new) seen
    → rose ⊎ Lacks (h.contents old) name
    → rose ⊎ Lacks seen name
cause_by h old new name rose seen law same may (inl counted) = inl counted
cause_by h old new name rose seen law same may (inr lacks) = inr (lacks_by h old new name seen law same may lacks)

-- a stop before the capture has its cause by what is seen
pub stop_cause_by : {H : Type 0} (h : HostOf H) (old new : H) (rose : Type 0) (why : RunStop) (seen : Option Files)
    → AsTold (h.contents new) (h.left new) (h.agrees new) (h.left_of new)
    → h.contents new ≡ h.contents old
    → MaySee (h.contents new) (h.agrees new) seen
    → HasCause rose (h.contents old) why
    → HasCause rose seen why
stop_cause_by h old new rose (stop.CannotReadFile name) seen law same may cause = cause_by h old new name rose seen law same may cause
stop_cause_by h old new rose why seen law same may cause = cause

-- a capture that a host told before to lack, what is seen lacks
pub capture_cause_by : {H : Type 0} (h : HostOf H) (old new : H) (source : CaptureSource) (plan : Plan) (rose : Type 0)
    (seen : Option Files)
    → AsTold (h.contents new) (h.left new) (h.agrees new) (h.left_of new)
    → h.contents new ≡ h.contents old
    → MaySee (h.contents new) (h.agrees new) seen
    → plan.source ≡ source_name source
    → rose ⊎ LacksSource (h.contents old) source
    → rose ⊎
    LacksCapture seen (way_from source plan)
capture_cause_by h old new source plan rose seen law same may named (inl counted) = inl counted
capture_cause_by h old new (Made seed count) plan rose seen law same may named (inr lacks) = absurd lacks
capture_cause_by h old new (File name) plan rose seen law same may named (inr lacks) =
    inr (lacks_by h old new plan.source seen law same may (subst (λ (source : List ℕ). Lacks (h.contents old) source) (sym named) lacks))

-- ---- a host whose files were loaded

pub loaded_only : {H : Type 0} (h : HostOf H) (old new : H) → h.contents new ≡ h.contents old → ((files : Files) → h.agrees new files → h.agrees old files) → h.left new ≡ h.left old
    → ((files : Files) → h.left_of new files ≡ h.left_of old files) → h.opens new ≡ h.opens old → h.faults old ≤ h.faults new → OnlyLoaded h old new
loaded_only h old new same earlier left left_of opens later = record {
  files = same;
  earlier = λ seen may. seen_earlier (h.contents old) (h.contents new) (h.agrees old) (h.agrees new) seen same earlier may;
  left = left;
  left_of = left_of;
  opens = opens;
  later = later;
}

-- ---- a run

-- the end of a course, by what is seen
pub seen_ends : {H A : Type 0} (h : HostOf H) (a : SinkOf A) (old new : H) (alerts_old alerts_new : A) (files : Files)
    (course : Course) (ended : Status) (message : List ℕ) (seen : Option Files)
    → seen ≡ Some files
    → Ends files course (work (by (Some files) h) a old alerts_old) (work (by (Some files) h) a new alerts_new) ended message
    → Ends files course (work (by seen h) a old alerts_old) (work (by seen h) a new alerts_new) ended message
seen_ends h a old new alerts_old alerts_new files course ended message seen is ends =
    subst (λ (s : Option Files). Ends files course (work (by s h) a old alerts_old) (work (by s h) a new alerts_new) ended message) (sym is) ends

-- the theorem by what a host tells
pub told_headline : {H A E : Type 0} (h : HostOf H) (a : SinkOf A) (e : SinkOf E) (words : List (List ℕ)) (means : Means) (old new : H) (alerts_old alerts_new : A) (errors_old errors_new : E)
    (refused_old refused_new : List Refusal) (ended : Status) → ((host : H) → AsTold (h.contents host) (h.left host) (h.agrees host) (h.left_of host)) → h.contents new ≡ h.contents old
    → ((seen : Option Files) → MaySee (h.contents new) (h.agrees new) seen
    → Headline words means (outside (by seen h) a e old alerts_old errors_old refused_old) (outside (by seen h) a e new alerts_new errors_new refused_new) ended)
    → Headline words means (outside h a e old alerts_old errors_old refused_old) (outside h a e new alerts_new errors_new refused_new) ended
told_headline {H} h a e words means old new alerts_old alerts_new errors_old errors_new refused_old refused_new ended law same holds =
    let told_of : Option Files → Option (List ℕ) → HostOf H = λ contents left. record h { contents = λ _. contents; left = λ _. left } in
    let Between : Option Files → Option Files → Option (List ℕ) → Option (List ℕ) → Type 0 = λ before after left_old left_new.
    Headline words means (outside (told_of before left_old) a e old alerts_old errors_old refused_old) (outside (told_of after left_new) a e new alerts_new errors_new refused_new) ended in
    let stayed : Between (h.contents old) (h.contents old) (h.left old) (h.left new) =
    told h law old new (λ (contents : Option Files) (left_old left_new : Option (List ℕ)). Between contents contents left_old left_new) same holds in
    subst (λ (contents : Option Files). Between (h.contents old) contents (h.left old) (h.left new)) (sym same) stayed
