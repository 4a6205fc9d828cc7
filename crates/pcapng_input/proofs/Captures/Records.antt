-- The laws of a capture's records that callers use: how what is left goes on with what comes next.
use Rattle.std.proofs.Common.{◌≡◌, ℕ, zero, suc, ◌+◌, ◌<◌, List, length, refl, sym, ap, ◌∙◌, arith}
use Rattle.pcapng_input.specs.declared.capture.NgRecord.{NgRecord}
use Rattle.pcapng_input.specs.declared.walk.Walk.{Walk}
use Rattle.pcapng_input.specs.declared.capture.NgFault.{NgFault}
use Rattle.pcap_input.specs.Cut.{Ending, Cut, no_more, with_first}
use Rattle.pcapng_input.specs.Blocks.{Step, Stops, Skips, Gives, step_of, Next, Ends, Follows, next_along, next_of, cut_up, records_left}
use Rattle.pcapng_input.proofs.Captures.Moving.{skips_on, gives_on}

-- a record leaves fewer bytes
shrinks_by : (most : ℕ) (walk : Walk) (rest : List ℕ) (given : NgRecord) (after : Walk) (more : List ℕ) (step : Step) → step_of walk rest ≡ step
    → ((w : Walk) (xs : List ℕ) → next_along most w xs ≡ Follows given after more → length more < length xs)
    → next_along (suc most) walk rest ≡ Follows given after more → length more < length rest
unfolding next_along
shrinks_by most walk rest given after more (Stops ending) is on holds =
    let ends : Ends ending ≡ Follows given after more = rw (next_along, is) at holds in
    cc
shrinks_by most walk rest given after more (Skips w xs) is on holds =
    let next : next_along most w xs ≡ Follows given after more = rw (next_along, is) at holds in
    omega (arith, skips_on walk rest w xs is, on w xs next)
shrinks_by most walk rest given after more (Gives first w xs) is on holds =
    let same : Follows first w xs ≡ Follows given after more = rw (next_along, is) at holds in
    let left : xs ≡ more = cc in
    omega (arith, gives_on walk rest first w xs is, ap length left)

shrinks : (most : ℕ) (walk : Walk) (rest : List ℕ) (given : NgRecord) (after : Walk) (more : List ℕ) → next_along most walk rest ≡ Follows given after more → length more < length rest
unfolding next_along
shrinks zero walk rest given after more is = cc
shrinks (suc most) walk rest given after more is =
    shrinks_by most walk rest given after more (step_of walk rest) refl (λ w xs next. shrinks most w xs given after more next) is

pub next_of-shrinks : (walk : Walk) (rest : List ℕ) (given : NgRecord) (after : Walk) (more : List ℕ) → next_of walk rest ≡ Follows given after more → length more < length rest
unfolding next_of
next_of-shrinks walk rest given after more is = shrinks (length rest + 1) walk rest given after more is

-- a cut after one more step
cut_on : ℕ → Next → Cut NgRecord NgFault
cut_on most (Ends ending) = no_more ending
cut_on most (Follows first after more) = with_first first (cut_up most after more)

cut_up-suc : (most : ℕ) (walk : Walk) (rest : List ℕ) (next : Next) → next_of walk rest ≡ next → cut_up (suc most) walk rest ≡ cut_on most next
unfolding cut_up cut_on
cut_up-suc most walk rest (Ends ending) is = rw (is, cut_up) refl
cut_up-suc most walk rest (Follows first after more) is = rw (is, cut_up) refl

-- any number of records above the number of bytes gives the same
enough_by : (some others : ℕ) (walk : Walk) (rest : List ℕ)
    → ((w : Walk) (more : List ℕ) → length more < some → length more < others → cut_up some w more ≡ cut_up others w more)
    → length rest < suc some → length rest < suc others
    → (next : Next) → next_of walk rest ≡ next → cut_on some next ≡ cut_on others next
unfolding cut_on
enough_by some others walk rest same fits fits_others (Ends ending) is = refl
enough_by some others walk rest same fits fits_others (Follows first after more) is =
    let less = next_of-shrinks walk rest first after more is in
    ap (with_first first) (same after more (omega arith) (omega arith))

enough : (some others : ℕ) (walk : Walk) (rest : List ℕ) → length rest < some → length rest < others → cut_up some walk rest ≡ cut_up others walk rest
enough zero others walk rest fits fits_others = absurd (omega arith)
enough (suc some) zero walk rest fits fits_others = absurd (omega arith)
enough (suc some) (suc others) walk rest fits fits_others =
    cut_up-suc some walk rest (next_of walk rest) refl
    ∙ enough_by some others walk rest (λ w more f o. enough some others w more f o) fits fits_others (next_of walk rest) refl
    ∙ sym (cut_up-suc others walk rest (next_of walk rest) refl)

-- what is left is the ending where that comes next
pub records_left-ends : (walk : Walk) (rest : List ℕ) (ending : Ending NgFault) → next_of walk rest ≡ Ends ending → records_left walk rest ≡ no_more ending
unfolding records_left cut_on
records_left-ends walk rest ending is =
    let step : length rest + 1 ≡ suc (length rest) = omega arith in
    ap (λ (n : ℕ). cut_up n walk rest) step ∙ cut_up-suc (length rest) walk rest (Ends ending) is

-- what is left is the record that comes next, and then what is left after it
pub records_left-follows : (walk : Walk) (rest : List ℕ) (first : NgRecord) (after : Walk) (more : List ℕ) → next_of walk rest ≡ Follows first after more
    → records_left walk rest ≡ with_first first (records_left after more)
unfolding records_left cut_on
records_left-follows walk rest first after more is =
    let step : length rest + 1 ≡ suc (length rest) = omega arith in
    let less = next_of-shrinks walk rest first after more is in
    ap (λ (n : ℕ). cut_up n walk rest) step ∙ cut_up-suc (length rest) walk rest (Follows first after more) is
    ∙ ap (with_first first) (enough (length rest) (length more + 1) after more (omega arith) (omega arith))

-- where the same comes next, the same is left
same_by : (one other : Walk) (xs ys : List ℕ) (next : Next) → next_of one xs ≡ next → next_of other ys ≡ next → records_left one xs ≡ records_left other ys
same_by one other xs ys (Ends ending) first second = records_left-ends one xs ending first ∙ sym (records_left-ends other ys ending second)
same_by one other xs ys (Follows given after more) first second = records_left-follows one xs given after more first ∙ sym (records_left-follows other ys given after more second)

pub records_left-same : (one other : Walk) (xs ys : List ℕ) → next_of one xs ≡ next_of other ys → records_left one xs ≡ records_left other ys
records_left-same one other xs ys is = same_by one other xs ys (next_of other ys) is refl
