-- Rule lines: how they are cut, what is read of them, and that each has one meaning.
pub mod Cutting
pub mod Heading
pub mod Parting
pub mod Meaning
pub mod Reading
pub mod CuttingLaws
pub mod SomeMeaning
