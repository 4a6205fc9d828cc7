-- The three numbers, each with the byte that ends it, are a front and a pair of fronts after it: where one of them can't be
-- read, none of the triples fits.
use Rattle.std.specs.Prelude.{decimal, codes}
use Rattle.alert_fast.specs.Fronts.{ended, followed, BothFit, both}
use Rattle.alert_fast.specs.Pieces.{digits}
use Rattle.alert_fast.specs.Words.{IsNumber, IsTwo, IsMicros}
use Rattle.alert_fast.proofs.ReadBack.Fronts.{both_front, both_none, both_no}
use Rattle.alert_fast.proofs.head.numbers.Goals as goal

pub returns-in_err-gid : goal.returns-in_err-gid
returns-in_err-gid c = rw c.from_residual.ensures (both_none IsNumber (ended decimal 58) (BothFit IsNumber IsNumber) (both (ended decimal 58) (ended decimal 93)) c.args.text.now c.in_err-gid.ensures)

pub returns-in_err-sid : goal.returns-in_err-sid
returns-in_err-sid c =
    rw c.from_residual-in_err-sid.ensures
    (both_no IsNumber (ended decimal 58) (BothFit IsNumber IsNumber) (both (ended decimal 58) (ended decimal 93))
    c.args.text.now c.in_ok-gid.following.now c.in_ok-gid.gid c.in_ok-gid.ensures
    (both_none IsNumber (ended decimal 58) IsNumber (ended decimal 93) c.in_ok-gid.following.now c.in_err-sid.ensures))

pub returns-in_err-rev : goal.returns-in_err-rev
returns-in_err-rev c =
    rw c.from_residual-in_err-rev.ensures
    (both_no IsNumber (ended decimal 58) (BothFit IsNumber IsNumber) (both (ended decimal 58) (ended decimal 93))
    c.args.text.now c.in_ok-gid.following.now c.in_ok-gid.gid c.in_ok-gid.ensures
    (both_no IsNumber (ended decimal 58) IsNumber (ended decimal 93) c.in_ok-gid.following.now c.in_ok-sid.later.now
    c.in_ok-sid.sid c.in_ok-sid.ensures c.in_err-rev.ensures))

pub returns : goal.returns
returns c =
    both_front IsNumber (ended decimal 58) (BothFit IsNumber IsNumber) (both (ended decimal 58) (ended decimal 93))
    c.args.text.now c.in_ok-gid.following.now c.in_ok-rev.rest.now c.in_ok-gid.gid (c.in_ok-sid.sid, c.in_ok-rev.rev)
    c.in_ok-gid.ensures
    (both_front IsNumber (ended decimal 58) IsNumber (ended decimal 93) c.in_ok-gid.following.now c.in_ok-sid.later.now
    c.in_ok-rev.rest.now c.in_ok-sid.sid c.in_ok-rev.rev c.in_ok-sid.ensures c.in_ok-rev.ensures)
