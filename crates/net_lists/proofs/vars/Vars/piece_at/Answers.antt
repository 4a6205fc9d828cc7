-- A `$` with a form gives its variable's value, or what the form has
-- for one that is undefined; any other byte is a piece of its own.
use Rattle.std.proofs.Common.{arith, ap}
use Rattle.net_lists.specs.Found.{form_of, otherwise_of_kept}
use Rattle.net_lists.proofs.Variables.Pieces.{pieces-value, pieces-otherwise, pieces-plain, pieces-lone}
use Rattle.net_lists.proofs.vars.Vars.piece_at.Goals as goal
use Rattle.net_lists.proofs.vars.Vars.piece_at.Goals.{then-text-place-eq36+in_default, else-text-place-eq36}

pub returns-in-Some-default : goal.returns-in-Some-default
returns-in-Some-default c = record {
  piece = (
    omega (arith, c.in-Some.ensures.after),
    c.in-Some.ensures.within,
    pieces-value c.args.self.now c.args.text.now c.args.place (form_of c.in-Some.form) c.requires c.if-text-place-eq36.true
        c.in-Some.ensures.form c.in-Some.ensures.after c.in-Some-default.value.now c.in-Some-default.ensures,
  );
}

pub returns-in-None-Default : goal.returns-in-None-Default
returns-in-None-Default c = record {
  piece = (
    omega (arith, c.in-Some.ensures.after),
    c.in-Some.ensures.within,
    pieces-otherwise c.args.self.now c.args.text.now c.args.place (form_of c.in-Some.form) c.requires c.if-text-place-eq36.true
        c.in-Some.ensures.form c.in-Some.ensures.after c.in-None-Default.ensures _ (ap otherwise_of_kept c.in-None-Default.is-1),
  );
}

pub returns-in-None-Refused : goal.returns-in-None-Refused
returns-in-None-Refused c = record {
  piece = (
    _,
    pieces-otherwise c.args.self.now c.args.text.now c.args.place (form_of c.in-Some.form) c.requires c.if-text-place-eq36.true
        c.in-Some.ensures.form c.in-Some.ensures.after c.in-None-Refused.ensures _ (ap otherwise_of_kept c.in-None-Refused.is-1),
  );
}

pub returns : goal.returns
returns c = record {
  piece = (
    omega arith,
    omega (arith, c.requires),
    elim c.if-text-place-eq36.branch [
      | then-text-place-eq36+in_default w ↦ pieces-lone c.args.self.now c.args.text.now c.args.place c.requires w.if-text-place-eq36.true w.in_default.ensures.form
      | else-text-place-eq36 w ↦ pieces-plain c.args.self.now c.args.text.now c.args.place c.requires w.if-text-place-eq36.false
    ],
  );
}
