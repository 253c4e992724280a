pub mod HalvingLaws
pub mod SlopeLaws
