-- What a start leads to in some steps: what is in every set that has the start and is closed. The project's own.
use Rattle.std.specs.Prelude.{ℕ, ◌≡◌, ◌<◌, Bool, true}

-- the set has the start, and all that its members lead to
pub record IsClosed (leads : ℕ → ℕ → Bool) (start : ℕ) (set : ℕ → Bool) : Type 0 where
  pub begins : set start ≡ true
  pub goes_on : (u v : ℕ) → set u ≡ true → leads u v ≡ true → set v ≡ true

-- u is in every closed set: the start leads to it in some steps
abbrev pub IsMember : (ℕ → ℕ → Bool) → ℕ → ℕ → Type 0
IsMember leads start u = (set : ℕ → Bool) → IsClosed leads start set → set u ≡ true

-- u has the property, and no smaller number has it
pub record IsLeast (property : ℕ → Type 0) (u : ℕ) : Type 0 where
  pub has_it : property u
  pub none_below : (v : ℕ) → v < u → property v → ⊥
