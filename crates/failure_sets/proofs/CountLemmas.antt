-- Binomial coefficients: they grow, and what they are for two and three numbers.
use Rattle.std.proofs.Common.{ℕ, zero, suc, ◌≡◌, ◌≤◌, ◌+◌, ◌-◌, ◌*◌, arith, refl}
use Rattle.failure_sets.specs.Places.{choose, how_many}

pub choose-step : (many size : ℕ) → choose many size ≤ choose (suc many) size
unfolding choose
choose-step many zero = omega arith
choose-step zero (suc size) = omega arith
choose-step (suc many) (suc size) = omega arith

grown : (few more size : ℕ) → choose few size ≤ choose (more + few) size
grown few zero size = let e : 0 + few ≡ few = omega arith in rw e (omega arith)
grown few (suc more) size =
    let h = grown few more size in
    let s = choose-step (more + few) size in
    let e : suc more + few ≡ suc (more + few) = omega arith in
    rw e (omega arith)

pub choose-mono : (few many size : ℕ) → few ≤ many → choose few size ≤ choose many size
choose-mono few many size le =
    let e : (many - few) + few ≡ many = omega arith in
    let g = grown few (many - few) size in
    rw e at g

pub choose-pascal : (many more size : ℕ) → more ≡ suc many → choose more (suc size) ≡ choose many size + choose many (suc size)
unfolding choose
choose-pascal many more size e = rw e refl

pub choose-none : (many : ℕ) → choose many 0 ≡ 1
unfolding choose
choose-none many = refl

pub choose-one : (many : ℕ) → choose many 1 ≡ many
unfolding choose
choose-one zero = refl
choose-one (suc many) = let h = choose-one many in omega arith

pub choose-two : (many : ℕ) → 2 * choose many 2 + many ≡ many * many
unfolding choose
choose-two zero = refl
choose-two (suc many) =
    let h = choose-two many in
    let o = choose-one many in
    let p : choose (suc many) 2 ≡ choose many 1 + choose many 2 = refl in
    let e : suc many ≡ many + 1 = omega arith in
    omega arith

pub choose-three : (many : ℕ) → 6 * choose many 3 + 3 * (many * many) ≡ many * many * many + 2 * many
unfolding choose
choose-three zero = refl
choose-three (suc many) =
    let h = choose-three many in
    let o = choose-two many in
    let p : choose (suc many) 3 ≡ choose many 2 + choose many 3 = refl in
    let e : suc many ≡ many + 1 = omega arith in
    omega arith

pub how_many-step : (links most : ℕ) → how_many links most ≤ how_many links (suc most)
unfolding how_many
how_many-step links most = omega arith

pub how_many-mono : (links few most : ℕ) → few ≤ most → how_many links few ≤ how_many links most
how_many-mono links few most le = (let e : (most - few) + few ≡ most = omega arith in let g = go (most - few) in rw e at g) where
  go : (more : ℕ) → how_many links few ≤ how_many links (more + few)
  go zero = let e : 0 + few ≡ few = omega arith in rw e (omega arith)
  go (suc more) =
      let h = go more in
      let s = how_many-step links (more + few) in
      let e : suc more + few ≡ suc (more + few) = omega arith in
      rw e (omega arith)

pub how_many-next : (links most : ℕ) → how_many links (suc most) ≡ how_many links most + choose links (suc most)
unfolding how_many
how_many-next links most = refl

pub how_many-none : (links : ℕ) → how_many links 0 ≡ 1
unfolding how_many
how_many-none links = refl
