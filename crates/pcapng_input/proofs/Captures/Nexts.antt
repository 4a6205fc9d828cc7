-- What comes next after blocks that are skipped.
use Rattle.std.proofs.Common.{◌≡◌, ℕ, zero, suc, ◌+◌, ◌<◌, List, [], length, refl, sym, ap, ◌∙◌, arith}
use Rattle.pcapng_input.specs.declared.capture.NgRecord.{NgRecord}
use Rattle.pcapng_input.specs.declared.walk.Walk.{Walk}
use Rattle.pcapng_input.specs.declared.capture.NgFault.{NgFault}
use Rattle.pcap_input.specs.Cut.{Ending, Clean}
use Rattle.pcapng_input.specs.Blocks.{Step, Stops, Skips, Gives, step_of, Next, Ends, Follows, next_along, next_of}
use Rattle.pcapng_input.specs.Steps.{HoldsNone}
use Rattle.pcapng_input.proofs.Blocks.Begins.{step_nothing}
use Rattle.pcapng_input.proofs.Captures.Moving.{skips_on}

-- what comes next after one more block
next_on : ℕ → Step → Next
next_on most (Stops ending) = Ends ending
next_on most (Skips after more) = next_along most after more
next_on most (Gives given after more) = Follows given after more

next_along-suc : (most : ℕ) (walk : Walk) (rest : List ℕ) (step : Step) → step_of walk rest ≡ step → next_along (suc most) walk rest ≡ next_on most step
unfolding next_along next_on
next_along-suc most walk rest (Stops ending) is = rw (is, next_along) refl
next_along-suc most walk rest (Skips after more) is = rw (is, next_along) refl
next_along-suc most walk rest (Gives given after more) is = rw (is, next_along) refl

-- any number of blocks above the number of bytes gives the same
enough_by : (some others : ℕ) (walk : Walk) (rest : List ℕ)
    → ((w : Walk) (more : List ℕ) → length more < some → length more < others → next_along some w more ≡ next_along others w more)
    → length rest < suc some → length rest < suc others
    → (step : Step) → step_of walk rest ≡ step → next_on some step ≡ next_on others step
unfolding next_on
enough_by some others walk rest same fits fits_others (Stops ending) is = refl
enough_by some others walk rest same fits fits_others (Gives given after more) is = refl
enough_by some others walk rest same fits fits_others (Skips after more) is =
    let on = skips_on walk rest after more is in
    same after more (omega arith) (omega arith)

enough : (some others : ℕ) (walk : Walk) (rest : List ℕ) → length rest < some → length rest < others → next_along some walk rest ≡ next_along others walk rest
enough zero others walk rest fits fits_others = absurd (omega arith)
enough (suc some) zero walk rest fits fits_others = absurd (omega arith)
enough (suc some) (suc others) walk rest fits fits_others =
    next_along-suc some walk rest _ refl
    ∙ enough_by some others walk rest (λ w more f o. enough some others w more f o) fits fits_others (step_of walk rest) refl
    ∙ sym (next_along-suc others walk rest _ refl)

next_of-on : (walk : Walk) (rest : List ℕ) (step : Step) → step_of walk rest ≡ step → next_of walk rest ≡ next_on (length rest) step
unfolding next_of
next_of-on walk rest step is =
    let one : length rest + 1 ≡ suc (length rest) = omega arith in
    ap (λ (n : ℕ). next_along n walk rest) one ∙ next_along-suc (length rest) walk rest step is

-- the ending, a block that is skipped, and a record
pub next_of-stops : (walk : Walk) (rest : List ℕ) (ending : Ending NgFault) → step_of walk rest ≡ Stops ending → next_of walk rest ≡ Ends ending
unfolding next_on
next_of-stops walk rest ending is = next_of-on walk rest (Stops ending) is

pub next_of-gives : (walk : Walk) (rest : List ℕ) (given : NgRecord) (after : Walk) (more : List ℕ) → step_of walk rest ≡ Gives given after more → next_of walk rest ≡ Follows given after more
unfolding next_on
next_of-gives walk rest given after more is = next_of-on walk rest (Gives given after more) is

pub next_of-skips : (walk : Walk) (rest : List ℕ) (after : Walk) (more : List ℕ) → step_of walk rest ≡ Skips after more → next_of walk rest ≡ next_of after more
unfolding next_on next_of
next_of-skips walk rest after more is =
    let on = skips_on walk rest after more is in
    next_of-on walk rest (Skips after more) is ∙ enough (length rest) (length more + 1) after more (omega arith) (omega arith)

-- where the next block gives the same, the same comes next
same_by : (one other : Walk) (xs ys : List ℕ) (step : Step) → step_of one xs ≡ step → step_of other ys ≡ step → next_of one xs ≡ next_of other ys
same_by one other xs ys (Stops ending) first second = next_of-stops one xs ending first ∙ sym (next_of-stops other ys ending second)
same_by one other xs ys (Skips after more) first second = next_of-skips one xs after more first ∙ sym (next_of-skips other ys after more second)
same_by one other xs ys (Gives given after more) first second = next_of-gives one xs given after more first ∙ sym (next_of-gives other ys given after more second)

pub next_of-same : (one other : Walk) (xs ys : List ℕ) → step_of one xs ≡ step_of other ys → next_of one xs ≡ next_of other ys
next_of-same one other xs ys is = same_by one other xs ys (step_of other ys) is refl

-- bytes that hold no record have an ending
none_by : (walk : Walk) (bytes : List ℕ) (step : Step) → step_of walk bytes ≡ step → HoldsNone step → (ending : Ending NgFault) × (next_of walk bytes ≡ Ends ending)
none_by walk bytes (Stops ending) is none = (ending, next_of-stops walk bytes ending is)
none_by walk bytes (Gives given after more) is none = absurd none
none_by walk bytes (Skips after more) is none =
    (Clean, next_of-skips walk bytes after more is ∙ ap (next_of after) none ∙ next_of-stops after [] Clean (step_nothing after))

pub none_ends : (walk : Walk) (bytes : List ℕ) → HoldsNone (step_of walk bytes) → (ending : Ending NgFault) × (next_of walk bytes ≡ Ends ending)
none_ends walk bytes none = none_by walk bytes (step_of walk bytes) refl none
