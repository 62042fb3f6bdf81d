pub mod ReportLemmas
pub mod NameLemmas
pub mod FolderLemmas
pub mod StopLemmas
pub mod StableLemmas
pub mod RunLemmas
