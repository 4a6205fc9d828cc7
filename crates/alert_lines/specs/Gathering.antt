-- Texts on their way to the sink, by a block in which they wait.
--
-- What a step says of its text and of the sink is one relation: the text came whole, or the step was stopped and
-- a part of what was to be written was. To try it on: where 65530 bytes wait and a line of 90 comes, the block is
-- written, and the line with it; where the sink fails after 100 of these bytes, they were written, its count of
-- faults rose, and the step ends with `Unwritten`.
use Rattle.std.specs.Prelude.{◌≡◌, ℕ, ◌≤◌, List, [], ◌++◌, Option, Result, ⊤, OnOk, OnErr, IsErrOf}
use Rattle.edge_io.specs.Told.{grown, Rose}
use Rattle.edge_io.specs.declared.sink.Sink.{Ghosts as SinkOf}
use Rattle.alert_lines.specs.declared.fault.WriteFault.{WriteFault}
use Rattle.alert_lines.specs.declared.fault.WriteFault.TheVariants as write
use Rattle.alert_lines.specs.Written.{WritesPart}

-- what was written, where it is told, the block in which texts wait, and how often the sink failed
pub record Sending : Type 0 where
  pub written : Option (List ℕ)
  pub block : List ℕ
  pub faults : ℕ

-- what is seen of a block and a sink
abbrev pub sending : {A : Type 0} → SinkOf A → List ℕ → A → Sending
sending a block alerts = record { written = a.written alerts; block = block; faults = a.faults alerts }

-- a text came after the block: a front of both was written, and the rest waits
pub record Gathers (text : List ℕ) (old new : Sending) : Type 0 where
  pub part : List ℕ
  pub joined : old.block ++ text ≡ part ++ new.block
  pub wrote : new.written ≡ grown old.written part

-- a text is on its way; or the step was stopped, and a part of what waited and of the text was written. What stopped it
-- is a fault of the sink, which was counted, or want of memory. The text may go by what is known of earlier steps
pub record EmitsBy {Known A : Type 0} (text : Known → List ℕ) (old new : Sending) (outcome : Result A WriteFault) : Type 0 where
  pub whole : OnOk outcome ((known : Known) → Gathers (text known) old new)
  pub part : OnErr outcome ((known : Known) → WritesPart old.written (old.block ++ text known) new.written)
  pub fault : IsErrOf outcome write.Unwritten → Rose old.faults new.faults
  pub quiet : OnOk outcome (new.faults ≡ old.faults)
  pub later : old.faults ≤ new.faults

-- a text is on its way, or the step was stopped, and the text goes by nothing else
abbrev pub Emits : {A : Type 0} → List ℕ → Sending → Sending → Result A WriteFault → Type 0
Emits text = EmitsBy {Known = ⊤} (λ known. text)

-- a text that nobody knows is on its way, or the step was stopped: what is left is how the step ended
abbrev pub EmitsAny : {A : Type 0} → Sending → Sending → Result A WriteFault → Type 0
EmitsAny = EmitsBy {Known = ⊥} (λ none. [])
