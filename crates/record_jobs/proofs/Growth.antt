-- What one record more does to the lists that the definitions speak of.
use Rattle.std.proofs.Common.{◌≡◌, ℕ, ◌+◌, List, [], ◌∷◌, ◌++◌, length, Option, Some, None, refl, suc, ap, ◌∙◌, length-append, arith, unwrap_or}
use Rattle.std.specs.Prelude.{reverse}
use Rattle.std.specs.List.{filter_map, fold}
use Rattle.std.specs.Option.{option_map, option_map_or, option_to_list}
use Rattle.std.proofs.lemmas.List.{append-nil, reverse-append}
use Rattle.std.proofs.lemmas.List.Elements.{filter_map-append}
use Rattle.std.proofs.lemmas.List.Sums.{fold_push}
use Rattle.edge_io.specs.Along.{trail}
use Rattle.edge_io.proofs.Along.{trail-append}
use Rattle.edge_io.specs.declared.moment.Moment.{Moment}
use Rattle.packet_decode.specs.Decoding.{Fields}
use Rattle.conf_types.specs.declared.config.FragConfig.{FragConfig}
use Rattle.frag3_core.specs.Trackers.{Frag3State, Fragment, after, state_after}
use Rattle.frag3_core.proofs.Laws.{state_after-push}
use Rattle.flow_lanes.specs.declared.job.Job.{Job}
use Rattle.flow_lanes.specs.declared.job.Work.{Work}
use Rattle.record_jobs.specs.Jobs.{begin_of, end_of, job_count, numbered, works}
use Rattle.record_jobs.specs.Packets.{fragment_in, fragment_of, fragments, frag3_after, fragment_fields, said_by}
use Rattle.record_jobs.specs.Steps.{waiting_after, waiting_after_fragment}
use Rattle.record_jobs.specs.Touches.{keys_in, key_in, touches}
use Rattle.record_jobs.specs.Way.{LinkedRecord, Way}

-- ---- lists of answers

pub trail-push : {X A : Type 0} (f : List X → X → List A) (before : List X) (x : X) → trail f (before ++ x ∷ []) ≡ trail f before ++ f before x
trail-push f before x = trail-append f before (x ∷ []) ∙ ap (λ rest. trail f before ++ rest) (append-nil (f before x))

reverse-option : {X : Type 0} (o : Option X) → reverse (option_to_list o) ≡ option_to_list o
reverse-option None = refl
reverse-option (Some x) = refl

-- ---- touches

pub touches-push : (way : Way) (before : List LinkedRecord) (r : LinkedRecord) → touches way (before ++ r ∷ []) ≡ option_to_list (key_in way before r) ++ touches way before
unfolding touches
touches-push way before r =
    ap reverse (trail-push (keys_in way) before r)
    ∙ reverse-append (trail (keys_in way) before) (keys_in way before r)
    ∙ ap (λ front. front ++ reverse (trail (keys_in way) before)) (reverse-option (key_in way before r))

-- ---- moments

pub begin_of-push : (before : List LinkedRecord) (r : LinkedRecord) → begin_of (before ++ r ∷ []) ≡ Some (unwrap_or (begin_of before) r.captured.moment)
begin_of-push [] r = refl
begin_of-push (first ∷ later) r = refl

pub end_of-push : (before : List LinkedRecord) (r : LinkedRecord) → end_of (before ++ r ∷ []) ≡ r.captured.moment
end_of-push before r = let start : Moment = record { nanos = 0 } in fold_push (λ _ (r : LinkedRecord). r.captured.moment) start before r

-- ---- fragments

-- what waits after one fragment more, if there is one
state_after-option : (most : ℕ) (fragments : List Fragment) (o : Option Fragment)
    → state_after most (fragments ++ option_to_list o) ≡
    option_map_or (after (state_after most fragments)) o (state_after most fragments)
state_after-option most fragments None = ap (state_after most) (append-nil fragments)
state_after-option most fragments (Some f) = state_after-push most fragments f

cons_option-list : {X : Type 0} (h : LinkedRecord → Option X) (r : LinkedRecord) → filter_map h (r ∷ []) ≡ option_to_list (h r)
cons_option-list h r = elim (h r) as (λ o. Rattle.std.specs.List.cons_option o [] ≡ option_to_list o) [ None ↦ refl | Some x ↦ refl ]

fragments-push : (way : Way) (config : FragConfig) (before : List LinkedRecord) (r : LinkedRecord)
    → fragments way config (before ++ r ∷ []) ≡ fragments way config before ++ option_to_list (fragment_in way config r)
fragments-push way config before r =
    filter_map-append (fragment_in way config) before (r ∷ [])
    ∙ ap (λ rest. fragments way config before ++ rest) (cons_option-list (fragment_in way config) r)

-- what waits after one record more, for what it says
state_after-said : (way : Way) (config : FragConfig) (state : Frag3State) (moment : Moment) (said : Option Fields)
    → option_map_or (after state) (option_map (fragment_of way config moment) said) state ≡
    option_map_or (λ fields. after state (fragment_of way config moment fields)) said state
state_after-said way config state moment None = refl
state_after-said way config state moment (Some fields) = refl

frag3_step : (way : Way) (before : List LinkedRecord) (r : LinkedRecord) (frag : Option FragConfig) (said : Option Fields) → fragment_fields (said_by way r) ≡ said
    → option_map (λ (config : FragConfig). state_after config.max_frags (fragments way config (before ++ r ∷ []))) frag
    ≡ option_map_or (λ fields. option_map (λ (frag3 : Frag3State). option_map_or (λ (config : FragConfig). after frag3 (fragment_of way config r.captured.moment fields)) frag frag3)
    (option_map (λ (config : FragConfig). state_after config.max_frags (fragments way config before)) frag)) said
    (option_map (λ (config : FragConfig). state_after config.max_frags (fragments way config before)) frag)
frag3_step way before r None None e = refl
frag3_step way before r None (Some fields) e = refl
frag3_step way before r (Some config) None e =
    ap Some (ap (state_after config.max_frags) (fragments-push way config before r)
    ∙ state_after-option config.max_frags (fragments way config before) (fragment_in way config r)
    ∙ ap (λ (o : Option Fields). option_map_or (after (state_after config.max_frags (fragments way config before)))
    (option_map (fragment_of way config r.captured.moment) o)
    (state_after config.max_frags (fragments way config before))) e)
frag3_step way before r (Some config) (Some fields) e =
    ap Some (ap (state_after config.max_frags) (fragments-push way config before r)
    ∙ state_after-option config.max_frags (fragments way config before) (fragment_in way config r)
    ∙ ap (λ (o : Option Fields). option_map_or (after (state_after config.max_frags (fragments way config before)))
    (option_map (fragment_of way config r.captured.moment) o)
    (state_after config.max_frags (fragments way config before))) e)

-- the fragments that wait after one record more
pub frag3_after-push : (way : Way) (before : List LinkedRecord) (r : LinkedRecord) → frag3_after way (before ++ r ∷ []) ≡ waiting_after way (frag3_after way before) r
unfolding frag3_after waiting_after waiting_after_fragment
frag3_after-push way before r = frag3_step way before r way.frag (fragment_fields (said_by way r)) refl

-- ---- jobs

pub job_count-push : (way : Way) (before : List LinkedRecord) (r : LinkedRecord) → job_count way (before ++ r ∷ []) ≡ job_count way before + length (works way before r)
unfolding job_count
job_count-push way before r = ap length (trail-push (works way) before r) ∙ length-append (trail (works way) before) (works way before r)

-- jobs numbered one list after another
pub numbered-append : (number : ℕ) (moment : Moment) (xs ys : List Work) → numbered number moment (xs ++ ys) ≡ numbered number moment xs ++ numbered (number + length xs) moment ys
numbered-append number moment [] ys = ap (λ n. numbered n moment ys) (omega arith)
numbered-append number moment (x ∷ xs) ys =
    let first : Job = record { number = number; moment = moment; work = x } in
    ap (λ rest. first ∷ rest)
    (numbered-append (number + 1) moment xs ys ∙
    ap (λ n. numbered (number + 1) moment xs ++ numbered n moment ys)
    (let e : (number + 1) + length xs ≡ number + suc (length xs) = omega arith in e))

pub length-numbered : (number : ℕ) (moment : Moment) (xs : List Work) → length (numbered number moment xs) ≡ length xs
length-numbered number moment [] = refl
length-numbered number moment (x ∷ xs) = ap suc (length-numbered (number + 1) moment xs)
