pub mod GrammarLemmas
pub mod MapLemmas
pub mod NameLemmas
pub mod NumberLemmas
pub mod RefusalLemmas
pub mod WordLemmas
