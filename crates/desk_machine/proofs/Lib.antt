pub mod ApartLaws
pub mod FrontLaws
pub mod JobLists
pub mod RecordLaws
pub mod RuleLaws
pub mod RunLaws
pub mod SnapshotLaws
pub mod TakenLaws
