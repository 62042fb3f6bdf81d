pub mod ServeLemmas
pub mod OneLemmas
pub mod RuledLemmas
