pub mod PassingLaws
