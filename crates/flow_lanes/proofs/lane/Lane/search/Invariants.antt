-- The count of one job is the ledger that its blank is made for.
use Rattle.flow_lanes.proofs.lane.Lane.search.Given as goal

abbrev pub ghosts-search_anew : goal.ghosts-search_anew
ghosts-search_anew g a = record { name = a.blank.name; parts = a.blank.parts }
