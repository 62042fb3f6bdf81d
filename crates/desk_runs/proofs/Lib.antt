pub mod DoorLemmas
pub mod JudgeLemmas
pub mod KeeperLemmas
pub mod RequestLemmas
pub mod RowLemmas
