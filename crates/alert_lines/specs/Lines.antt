-- The text of an alert, in the form that is wanted, and those of alerts one after another.
--
-- An alert is a line, or two Unified2 records. A line goes by its item, its rule and the classes alone; the
-- records of an alert also by how many alerts come before it in the run, and by its packet.
-- To try it on: two alerts after three others are, as Unified2, the events 4 and 5, each before its packet.
use Rattle.std.specs.Prelude.{ℕ, ◌+◌, List, [], ◌∷◌, ◌++◌}
use Rattle.conf_types.specs.declared.classes.Class.{Class}
use Rattle.alert_fast.specs.Line.{line_text}
use Rattle.command_words.specs.declared.asked.AlertForm.{AlertForm}
use Rattle.command_words.specs.declared.asked.AlertForm.TheVariants as form
use Rattle.alert_lines.specs.Events.{Alert}
use Rattle.alert_lines.specs.Unified2.{records_text}

-- the text of an alert after this many others, where these are the classes
abbrev pub text_of : AlertForm → List Class → ℕ → Alert → List ℕ
text_of form.Lines classes before alert = line_text alert.what.head alert.what.rule classes
text_of form.Unified2 classes before alert = records_text before alert

-- the texts of alerts after this many others, one after another
abbrev pub texts_from : {A : Type 0} → (ℕ → A → List ℕ) → ℕ → List A → List ℕ
texts_from text before [] = []
texts_from text before (alert ∷ later) = text before alert ++ texts_from text (before + 1) later
