pub mod FloorLaws
