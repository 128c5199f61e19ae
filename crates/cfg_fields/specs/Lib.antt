pub mod Fields
pub mod Cursor
pub mod FieldGrammar
pub mod FieldLaws
