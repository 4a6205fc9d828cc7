-- What a read line tells, wherever its texts lie.
use Rattle.alert_fast.specs.declared.told.AlertLine.{AlertLine}
use Rattle.alert_fast.specs.Told.{LineFacts, lent}

abbrev pub line_facts : AlertLine → LineFacts
line_facts alert = record {
  time = alert.time;
  mark = alert.mark;
  msg = alert.msg.now;
  class = lent alert.class;
  priority = alert.priority;
  protocol = alert.protocol;
  ends = alert.ends;
}
