pub mod Wide
pub mod FieldLaws
