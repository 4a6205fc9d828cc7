-- The count of one row is the ledger that its blank is made for.
use Rattle.layer_rows.proofs.payloads.show_set.Given as goal

abbrev pub ghosts-show_match : goal.ghosts-show_match
ghosts-show_match g a = record { name = a.blank.name; parts = a.blank.parts }
