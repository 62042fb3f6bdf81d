pub mod TurnLemmas
pub mod CalmLemmas
pub mod SoundLemmas
pub mod RepeatLemmas
