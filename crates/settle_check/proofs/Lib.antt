pub mod AlikeLaws
pub mod FaultLaws
pub mod FewLaws
pub mod FirstLaws
pub mod SpareLaws
pub mod WeightLaws
