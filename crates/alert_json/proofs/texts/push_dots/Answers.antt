-- The bytes of an address, from the highest down, are the four numbers of its text, with a dot between each two:
-- `dots-appended`.
use Rattle.std.proofs.Common.{◌<◌, ◌^◌, arith}
use Rattle.alert_fast.proofs.LineTexts.{dotted_text-pieces}
use Rattle.alert_json.proofs.Times.{dots-appended}
use Rattle.alert_json.proofs.texts.push_dots.Goals as goal

pub returns : goal.returns
returns c =
    let small : c.args.address < 2 ^ 32 = omega arith in
    dots-appended _ _ _ _ _ _ _ _ c.to_be_bytes.result c.args.address (dotted_text-pieces c.to_be_bytes.result c.args.address small c.to_be_bytes.ensures)
    c.in_ok-push_octet.ensures c.in_ok-extend_from_slice.ensures.items c.in_ok-push_octet-2.ensures c.in_ok-extend_from_slice-2.ensures.items
    c.in_ok-push_octet-3.ensures c.in_ok-extend_from_slice-3.ensures.items c.in_ok-push_octet-4.ensures
