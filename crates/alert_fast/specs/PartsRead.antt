-- The parts that were read, wherever they lie.
use Rattle.alert_fast.specs.declared.reader.LineParts.{LineParts}
use Rattle.alert_fast.specs.Parts.{PartFacts}
use Rattle.alert_fast.specs.Told.{lent}

abbrev pub part_facts : LineParts → PartFacts
part_facts parts = record {
  time = parts.time;
  numbers = parts.numbers;
  msg = parts.msg.now;
  class = lent parts.class;
  ranked = parts.ranked;
  from = parts.from.now;
  to = parts.to.now;
}
