pub mod Fields
pub mod Tables
pub mod Document
pub mod Places
