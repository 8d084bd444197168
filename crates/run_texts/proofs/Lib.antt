pub mod EntryLemmas
pub mod FieldLemmas
pub mod FirstSectionLemmas
pub mod PlainLines
pub mod RowLemmas
pub mod ScriptLemmas
pub mod SectionLemmas
pub mod SetupLemmas
