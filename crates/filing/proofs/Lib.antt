-- Every average and every minmax plan that is given can be written, and reads back.
pub mod MarkLaws
pub mod KeptLaws
pub mod CanBeWritten
