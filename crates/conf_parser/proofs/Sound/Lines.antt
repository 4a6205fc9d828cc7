-- A line keeps a sound draft, and a reading gives a sound configuration.
use Rattle.std.proofs.Common.{ℕ, List, Option, Some, None, Result, arith}
use Rattle.std.proofs.lemmas.List.Elements.{All-nil}
use Rattle.net_lists.specs.Cutting.{first_word, after_word}
use Rattle.net_lists.specs.Variables.{Variables}
use Rattle.net_lists.proofs.Steps.{Holds, given, refused, after_any}
use Rattle.conf_parser.specs.declared.draft.Draft.{Draft}
use Rattle.conf_parser.specs.declared.draft.FragDraft.{FragDraft}
use Rattle.conf_parser.specs.declared.draft.StreamDraft.{StreamDraft}
use Rattle.conf_parser.specs.declared.draft.Settings.{Settings}
use Rattle.conf_parser.specs.declared.given.Onward.{Onward}
use Rattle.conf_parser.specs.declared.given.LineResult.TheVariants.{Rule}
use Rattle.conf_parser.specs.declared.line.ConfKind.{ConfKind}
use Rattle.conf_parser.specs.declared.line.ConfKind.TheVariants.{UnknownDirective, BadValue}
use Rattle.conf_parser.specs.declared.name.Directive.{Directive}
use Rattle.conf_parser.specs.declared.name.Directive.TheVariants as directive
use Rattle.conf_parser.specs.declared.name.ConfigName.{ConfigName}
use Rattle.conf_parser.specs.declared.name.ConfigName.TheVariants as config
use Rattle.conf_parser.specs.declared.name.PreprocessorName.{PreprocessorName}
use Rattle.conf_parser.specs.declared.name.PreprocessorName.TheVariants as preprocessor
use Rattle.conf_parser.specs.declared.variables.ValueForm.{ValueForm}
use Rattle.conf_parser.specs.declared.variables.ValueForm.TheVariants as form
use Rattle.conf_parser.specs.ConfLine.{definition_line, include_line, config_draft, config_value}
use Rattle.conf_parser.specs.ConfLine.{after_draft, named_or_skipped, config_line, preprocessor_draft, preprocessor_line}
use Rattle.conf_parser.specs.ConfLine.{filter_line, suppress_line, directive_line, conf_line}
use Rattle.conf_parser.specs.Config.{checksum_mode}
use Rattle.conf_parser.specs.Events.{suppress}
use Rattle.conf_parser.specs.Names.{config_name, preprocessor_name, directive_named}
use Rattle.conf_parser.specs.Settings.{first_draft, config_of}
use Rattle.conf_types.specs.Sound.{IsClass, IsFilter, AreQueueLimits, IsSound}
use Rattle.conf_parser.specs.Spots.{Spot}
use Rattle.conf_parser.specs.Values.{mapped, name_of, after_name, or_kind, after_colon}
use Rattle.conf_parser.specs.Variables.{definition, include}
use Rattle.conf_parser.proofs.Sound.Steps.{changed, free}
use Rattle.conf_parser.proofs.Sound.Config.{Few, AreClasses, classification-sound, suppress-few, event_queue-sound, AreFilters, event_filter-sound}
use Rattle.conf_parser.proofs.Sound.Frag3.{IsFragDraft, frag3_global-sound, frag3_engine-sound, first_frag-sound, frag_of-sound}
use Rattle.conf_parser.proofs.Sound.Stream5.{IsStreamDraft, stream5_global-sound, stream5_udp-sound, stream5_tcp-sound, first_stream-sound, stream_of-sound}

-- what the lines read so far say is sound
pub record IsSoundDraft (draft : Draft) : Type 0 where
  pub classes : AreClasses draft.classes
  pub queue : AreQueueLimits draft.queue
  pub frag : IsFragDraft draft.frag
  pub stream : IsStreamDraft draft.stream
  pub filters : AreFilters draft.filters
  pub suppress : Few draft.suppress

-- before the first line
pub first_draft-sound : IsSoundDraft first_draft
unfolding first_draft
first_draft-sound = record {
  classes = record { count = omega arith; each = All-nil IsClass };
  queue = record { max_queue = (omega arith, omega arith); log = (omega arith, omega arith) };
  frag = first_frag-sound;
  stream = first_stream-sound;
  filters = record { count = omega arith; filters = All-nil IsFilter };
  suppress = omega arith;
}

-- after the last line
pub config_of-sound : (draft : Draft) → IsSoundDraft draft → IsSound (config_of draft)
unfolding config_of
config_of-sound draft sound = record {
  class_count = sound.classes.count;
  classes = sound.classes.each;
  queue = sound.queue;
  frag = frag_of-sound draft.frag sound.frag;
  stream = stream_of-sound draft.stream sound.stream;
  filter_count = sound.filters.count;
  filters = sound.filters.filters;
  suppress_count = sound.suppress;
}

-- ---- one line

module _ (draft : Draft) (sound : IsSoundDraft draft) where
  config_draft-sound : (name : ConfigName) (value : List ℕ) → Holds IsSoundDraft (config_draft draft name value)
  unfolding config_draft
  config_draft-sound config.Classification value = changed _ (classification-sound draft.classes value sound.classes) (λ classes known. search (known, sound))
  config_draft-sound config.ChecksumMode value = free _ (checksum_mode draft.checks value) (λ checks. search sound)
  config_draft-sound config.EventQueue value = changed _ (event_queue-sound draft.queue value sound.queue) (λ queue limits. search (limits, sound))
  config_draft-sound config.Detection value = given (search sound)
  config_draft-sound config.Unread value = given sound

  config_value-sound : (name : ConfigName) (rest : List ℕ) → Holds IsSoundDraft (config_value draft name rest)
  unfolding config_value
  config_value-sound config.Unread rest = given sound
  config_value-sound config.Classification rest = after_any (or_kind BadValue (after_colon rest)) (config_draft-sound config.Classification)
  config_value-sound config.ChecksumMode rest = after_any (or_kind BadValue (after_colon rest)) (config_draft-sound config.ChecksumMode)
  config_value-sound config.EventQueue rest = after_any (or_kind BadValue (after_colon rest)) (config_draft-sound config.EventQueue)
  config_value-sound config.Detection rest = after_any (or_kind BadValue (after_colon rest)) (config_draft-sound config.Detection)

  frag-sound : {read : Result FragDraft ConfKind} → Holds IsFragDraft read → Holds IsSoundDraft (mapped (λ frag. record draft { frag = frag }) read)
  frag-sound p = changed _ p (λ frag one. search (one, sound))

  stream-sound : {read : Result StreamDraft ConfKind} → Holds IsStreamDraft read → Holds IsSoundDraft (mapped (λ stream. record draft { stream = stream }) read)
  stream-sound p = changed _ p (λ stream one. search (one, sound))

  preprocessor_draft-sound : (variables : Variables) (name : PreprocessorName) (rest : List ℕ) → Holds IsSoundDraft (preprocessor_draft variables draft name rest)
  unfolding preprocessor_draft
  preprocessor_draft-sound variables preprocessor.FragGlobal rest = frag-sound (frag3_global-sound draft.frag rest sound.frag)
  preprocessor_draft-sound variables preprocessor.FragEngine rest = frag-sound (frag3_engine-sound variables draft.frag rest sound.frag)
  preprocessor_draft-sound variables preprocessor.StreamGlobal rest = stream-sound (stream5_global-sound draft.stream rest sound.stream)
  preprocessor_draft-sound variables preprocessor.StreamTcp rest = stream-sound (stream5_tcp-sound variables draft.stream rest sound.stream)
  preprocessor_draft-sound variables preprocessor.StreamUdp rest = stream-sound (stream5_udp-sound draft.stream rest sound.stream)
  preprocessor_draft-sound variables preprocessor.Outside rest = refused

-- settings with a sound draft
abbrev pub Kept : Onward → Type 0
Kept after = IsSoundDraft after.settings.draft

module _ (settings : Settings) (sound : IsSoundDraft settings.draft) where
  after_draft-sound : {read : Result Draft ConfKind} → Holds IsSoundDraft read → Holds Kept (after_draft settings read)
  after_draft-sound p = changed _ p (λ draft one. one)

  named-sound : {N : Type 0} (word name : List ℕ) (known : Option N) {read : N → Result Draft ConfKind}
      → ((n : N) → Holds IsSoundDraft (read n))
      → Holds Kept (named_or_skipped settings word name known read)
  named-sound word name None p = given sound
  named-sound word name (Some n) p = after_draft-sound (p n)

  definition_line-sound : (form : ValueForm) (rest : List ℕ) → Holds Kept (definition_line settings form rest)
  unfolding definition_line
  definition_line-sound form rest = free _ (definition settings.vars form rest) (λ variables. sound)

  directive_line-sound : (spot : Spot) (known : Directive) (word rest : List ℕ) → Holds Kept (directive_line spot settings known word rest)
  unfolding directive_line include_line config_line preprocessor_line filter_line suppress_line
  directive_line-sound spot directive.Rule word rest = given sound
  directive_line-sound spot directive.Var word rest = definition_line-sound form.Any rest
  directive_line-sound spot directive.IpVar word rest = definition_line-sound form.Addresses rest
  directive_line-sound spot directive.PortVar word rest = definition_line-sound form.Ports rest
  directive_line-sound spot directive.Include word rest = free _ (include settings.vars spot rest) (λ name. sound)
  directive_line-sound spot directive.Config word rest =
      named-sound word (name_of rest) (config_name (name_of rest)) (λ name. config_value-sound settings.draft sound name (after_name rest))
  directive_line-sound spot directive.Preprocessor word rest =
      named-sound word (name_of rest) (preprocessor_name (name_of rest))
      (λ name. preprocessor_draft-sound settings.draft sound settings.vars name (after_name rest))
  directive_line-sound spot directive.EventFilter word rest =
      after_draft-sound (changed _ (event_filter-sound settings.draft.filters rest sound.filters) (λ filters few. search (few, sound)))
  directive_line-sound spot directive.Suppress word rest =
      after_draft-sound (changed _ (suppress-few settings.vars settings.draft.suppress rest) (λ lines few. search (few, sound)))
  directive_line-sound spot directive.Skipped word rest = given sound
  directive_line-sound spot directive.Outside word rest = refused

  pub conf_line-sound : (spot : Spot) (line : List ℕ) → Holds Kept (conf_line spot settings line)
  unfolding conf_line
  conf_line-sound spot line = after_any (or_kind UnknownDirective (directive_named (first_word line))) (λ known. directive_line-sound spot known (first_word line) (after_word line))
