-- The option that an extraction is: byte_extract.
use Rattle.rule_types.specs.declared.option.Opt.{Opt}
use Rattle.rule_types.specs.declared.option.Opt.TheVariants as opt
use Rattle.option_eval.specs.declared.extract.Extraction.{Extraction}

abbrev pub extract_option : Extraction → Opt
extract_option extraction = opt.ByteExtract extraction.fetch extraction.name extraction.times extraction.align
