-- A step that asks nothing of the shelf.
use Rattle.std.proofs.Common.{ℕ, ◌≡◌, Result, Ok, Err}
use Rattle.commands.specs.declared.stop.Stop.{Stop}
use Rattle.commands.specs.declared.stop.Stop.TheVariants.{Refused, ReadFault, NoMemory}
use Rattle.commands.specs.Stops.{HasCause, IsCalm}

pub cause-calm : {A : Type 0} (before now : ℕ) (result : Result A Stop) → IsCalm result → now ≡ before → HasCause before now result
cause-calm before now (Ok found) calm still = still
cause-calm before now (Err (Refused refusal)) calm still = still
cause-calm before now (Err ReadFault) calm still = absurd calm
cause-calm before now (Err NoMemory) calm still = still
