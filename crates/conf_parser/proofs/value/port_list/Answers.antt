-- The reader of ports answers as the grammar does: with its list, with
-- `BadPort` where there is none, and with `Limit` where it is too long.
use Rattle.std.proofs.Common.{refl}
use Rattle.net_lists.specs.Parts.{port_bounds}
use Rattle.net_lists.proofs.Lists.Starts.{port_parts}
use Rattle.conf_parser.specs.Values.{port_list}
use Rattle.conf_parser.specs.declared.line.ConfKind.TheVariants.{BadPort}
use Rattle.conf_parser.proofs.ListKinds.{list_or-ok, list_or-bad, list_or-long}
use Rattle.conf_parser.proofs.value.port_list.Goals as goal

pub returns-in-Ok : goal.returns-in-Ok
unfolding port_list
returns-in-Ok c =
    let is = c.in-Ok.ensures.spelled in
    list_or-ok port_bounds port_parts BadPort c.args.text.now c.in-Ok.list is (c.in-Ok.ensures.answer c.in-Ok.list is).1

pub returns-in-Err-BadPort : goal.returns-in-Err-BadPort
unfolding port_list
returns-in-Err-BadPort c = list_or-bad port_bounds port_parts BadPort c.args.text.now (rw c.in-Err-BadPort.field-0-is at c.in-Err-BadPort.ensures.answer)

pub returns-in-Err-ListTooLong : goal.returns-in-Err-ListTooLong
unfolding port_list
returns-in-Err-ListTooLong c =
    list_or-long port_bounds port_parts BadPort c.args.text.now ((rw c.in-Err-ListTooLong.field-0-is at c.in-Err-ListTooLong.ensures.too_long) refl)
