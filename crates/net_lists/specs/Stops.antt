-- What a reader of texts answers: a value, or a fault of its kind; and, apart from both, want of memory.
--
-- What a text means is a value or a kind, a `Result X K`. A reader that takes memory gives that meaning, or
-- stops for want of memory, which no meaning explains.
-- To try it on: `Err NoMemory` is given for any meaning, and `Err (Wrong kind)` for `Err kind` alone.
use Rattle.std.specs.Prelude.{◌≡◌, ⊤, Option, Some, None, Result, Ok, Err}
use Rattle.net_lists.specs.declared.stop.Stop.{Stop}
use Rattle.net_lists.specs.declared.stop.Stop.TheVariants.{NoMemory, Wrong}

-- an answer that gives what is meant, or want of memory
abbrev pub Gives : {X K : Type 0} → Result X (Stop K) → Result X K → Type 0
Gives (Ok x) meant = meant ≡ Ok x
Gives (Err NoMemory) meant = ⊤
Gives (Err (Wrong kind)) meant = meant ≡ Err kind

-- a value, or a fault of this kind where there is none
abbrev pub or_kind : {X K : Type 0} → K → Option X → Result X K
or_kind kind None = Err kind
or_kind kind (Some x) = Ok x
