-- How the code keeps a form that it found: the same places, with an enum of its own for what stands for an
-- undefined variable.
--
-- To try it on: the form kept of `$N` at place 1 is that of specs/Forms, which refuses and shows `N`.
use Rattle.edge_io.specs.declared.pattern.Span.{Span}
use Rattle.net_lists.specs.declared.form.Form.{Form as KeptForm}
use Rattle.net_lists.specs.declared.form.Otherwise.{Otherwise as KeptOtherwise}
use Rattle.net_lists.specs.declared.form.Otherwise.TheVariants as kept
use Rattle.net_lists.specs.Forms.{Form, Otherwise, Default, Refused}

-- what stands for an undefined variable
abbrev pub otherwise_of_kept : KeptOtherwise → Otherwise
otherwise_of_kept (kept.Default span) = Default span
otherwise_of_kept (kept.Refused span) = Refused span

-- the form that is kept
abbrev pub form_of : KeptForm → Form
form_of form = record { name = form.name; end = form.end; otherwise = otherwise_of_kept form.otherwise }

-- the places that an undefined variable shows, or copies
abbrev pub otherwise_span : KeptOtherwise → Span
otherwise_span (kept.Default span) = span
otherwise_span (kept.Refused span) = span
