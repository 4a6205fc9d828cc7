-- Laws of the definitions of rule_parser, and lemmas that its proofs share.
pub mod Quoting
pub mod Settling
pub mod Lettering
pub mod Flagging
pub mod Naming
pub mod ByteReading
pub mod Sound
pub mod Lines
pub mod Classing
