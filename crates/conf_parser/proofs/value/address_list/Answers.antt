-- The list that was read is the one that the text spells; `BadAddress` means
-- that it spells none, and `Limit` that the one it spells is too long.
use Rattle.std.proofs.Common.{refl}
use Rattle.net_lists.specs.Addresses.{address_bounds}
use Rattle.net_lists.proofs.Lists.Starts.{address_parts}
use Rattle.conf_parser.specs.Values.{address_list}
use Rattle.conf_parser.specs.declared.line.ConfKind.TheVariants.{BadAddress}
use Rattle.conf_parser.proofs.ListKinds.{list_or-ok, list_or-bad, list_or-long}
use Rattle.conf_parser.proofs.value.address_list.Goals as goal

pub returns-in-Ok : goal.returns-in-Ok
unfolding address_list
returns-in-Ok c =
    let is = c.in-Ok.ensures.spelled in
    list_or-ok address_bounds address_parts BadAddress c.args.text.now c.in-Ok.list is (c.in-Ok.ensures.answer c.in-Ok.list is).1

pub returns-in-Err-BadAddress : goal.returns-in-Err-BadAddress
unfolding address_list
returns-in-Err-BadAddress c = list_or-bad address_bounds address_parts BadAddress c.args.text.now (rw c.in-Err-BadAddress.field-0-is at c.in-Err-BadAddress.ensures.answer)

pub returns-in-Err-ListTooLong : goal.returns-in-Err-ListTooLong
unfolding address_list
returns-in-Err-ListTooLong c =
    list_or-long address_bounds address_parts BadAddress c.args.text.now ((rw c.in-Err-ListTooLong.field-0-is at c.in-Err-ListTooLong.ensures.too_long) refl)
