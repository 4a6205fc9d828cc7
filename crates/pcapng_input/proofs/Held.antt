-- What is returned is what the law of the calls says.
use Rattle.std.proofs.Common.{◌≡◌, ℕ, ◌+◌, ◌<◌, ◌≤◌, ◌⊎◌, List, [], ◌∷◌, ◌++◌, Option, Some, None, Ok, Err, length, sym, ap, subst, inl, inr, ◌∙◌}
use Rattle.std.proofs.lemmas.List.{length-append}
use Rattle.std.proofs.lemmas.Option.{none-some}
use Rattle.edge_io.specs.Files.{Files}
use Rattle.edge_io.specs.Told.{Rose}
use Rattle.edge_io.proofs.Told.{rose-since}
use Rattle.pcapng_input.specs.declared.capture.NgRecord.{NgRecord}
use Rattle.pcapng_input.specs.declared.capture.NgFault.{NgFault}
use Rattle.pcapng_input.specs.declared.capture.NgFault.TheVariants as fault
use Rattle.pcap_input.specs.Reader.{Tells}
use Rattle.pcapng_input.specs.Reader.{Reading}
use Rattle.pcapng_input.specs.Calls.{IsOpenCall, IsNextCall, HasRead}
use Rattle.pcapng_input.proofs.Calls.{reads_all, read-none, read-more}
use Rattle.pcapng_input.specs.Whole.{IsHeld}

-- ---- reading

-- the capture was opened
pub held-begun : (contents : Option Files) (name : List ℕ) (records : List NgRecord) (reader : Reading) (left : Option (List ℕ))
    → records ≡ []
    → IsOpenCall contents name (Ok reader) left → HasRead contents name records reader left
held-begun contents name records reader left is call =
    subst (λ (xs : List NgRecord). HasRead contents name xs reader left) (sym is) (read-none contents name reader left call)

-- a record was given, and added to the others
pub held-more : (contents : Option Files) (name : List ℕ) (given records : List NgRecord) (old new : Reading) (last : NgRecord) (left_old left_new : Option (List ℕ))
    → records ≡ given ++ last ∷ [] → HasRead contents name given old left_old
    → IsNextCall old new (Ok (Some last)) left_old left_new
    → HasRead contents name records new left_new
held-more contents name given records old new last left_old left_new is read call =
    subst (λ (xs : List NgRecord). HasRead contents name xs new left_new) (sym is) (read-more contents name given old new last left_old left_new read call)

pub one-longer : (given records : List NgRecord) (last : NgRecord) → records ≡ given ++ last ∷ []
    → length records ≡ length given + 1
one-longer given records last is = ap length is ∙ length-append given (last ∷ [])

-- ---- what is returned

-- the capture wasn't opened
pub held-unopened : (contents : Option Files) (name : List ℕ) (limit : ℕ) (why : NgFault) (left : Option (List ℕ))
    → IsOpenCall contents name (Err why) left
    → (bytes : List ℕ) → Tells contents name bytes → IsHeld (Err why) limit bytes
held-unopened contents name limit why left call bytes tells shown = reads_all contents name bytes (Some limit) (Err why) tells (left, call, shown)

-- as many records were given as the limit says
pub held-reached : (contents : Option Files) (name : List ℕ) (limit : ℕ) (records : List NgRecord) (reader : Reading) (left : Option (List ℕ))
    → HasRead contents name records reader left → length records ≡ limit
    → (bytes : List ℕ) → Tells contents name bytes → IsHeld (Ok (record { records = records; refused = None })) limit bytes
held-reached contents name limit records reader left read reached bytes tells ending is =
    reads_all contents name bytes (Some limit) (Ok (record { records = records; ending = ending })) tells
    (record { reader = reader; left = left; read = read; ended = inl (ap Some (sym reached), is) })

-- no record was left
pub held-ended : (contents : Option Files) (name : List ℕ) (limit : ℕ) (records : List NgRecord) (reader new : Reading) (left left_new : Option (List ℕ))
    → HasRead contents name records reader left → length records < limit → IsNextCall reader new (Ok None) left left_new
    → (bytes : List ℕ) → Tells contents name bytes → IsHeld (Ok (record { records = records; refused = None })) limit bytes
held-ended contents name limit records reader new left left_new read below call bytes tells ending is =
    reads_all contents name bytes (Some limit) (Ok (record { records = records; ending = ending })) tells
    (record {
      reader = reader;
      left = left;
      read = read;
      ended = inr (below, record { new = new; left_new = left_new; answer = Ok None; call = call; ends = is });
    })

-- a refusal came
pub held-refused : (contents : Option Files) (name : List ℕ) (limit : ℕ) (records : List NgRecord) (reader new : Reading) (why : NgFault) (left left_new : Option (List ℕ))
    → HasRead contents name records reader left → length records < limit → IsNextCall reader new (Err why) left left_new
    → (bytes : List ℕ) → Tells contents name bytes → IsHeld (Ok (record { records = records; refused = Some why })) limit bytes
held-refused contents name limit records reader new why left left_new read below call bytes tells ending is =
    reads_all contents name bytes (Some limit) (Ok (record { records = records; ending = ending })) tells
    (record {
      reader = reader;
      left = left;
      read = read;
      ended = inr (below, record { new = new; left_new = left_new; answer = Err why; call = call; ends = is });
    })

-- ---- why the host failed

-- the host failed at the last call, and not before
pub failed-last : (old middle new : ℕ) (refused : Option NgFault) (lacks : Type 0) → old ≤ middle → refused ≡ None
    → Rose middle new ⊎ (refused ≡ Some fault.Failed) → Rose old new ⊎ lacks
failed-last old middle new refused lacks later fresh (inl rose) = inl (rose-since old middle new later rose)
failed-last old middle new refused lacks later fresh (inr was) = absurd (none-some fault.Failed (sym fresh ∙ was))
