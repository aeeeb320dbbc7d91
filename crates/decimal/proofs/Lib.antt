pub mod Examples
pub mod DigitLaws
pub mod CountLaws
pub mod PutLaws
pub mod FieldLaws
pub mod FieldMeaning
