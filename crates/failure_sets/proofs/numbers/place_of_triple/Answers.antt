use Rattle.std.proofs.Common.{ℕ, ◌≡◌, [], ◌∷◌, suc, ◌+◌, ◌-◌, arith, ap}
use Rattle.failure_sets.specs.Places.{place_among}
use Rattle.failure_sets.proofs.CountLemmas.{choose-mono}
use Rattle.failure_sets.proofs.StepLemmas.{place_three, choose_same}
use Rattle.failure_sets.proofs.numbers.place_of_triple.Goals as goal

pub overflow_sub-result : goal.overflow_sub-result
overflow_sub-result c =
    let m = choose-mono (c.args.many - c.args.a) c.args.many 3 (omega arith) in
    omega arith

pub returns-clause-place : goal.returns-clause-place
returns-clause-place c =
    let p = place_three c.args.many 0 c.args.a c.args.b c.args.c in
    let s = choose_same (c.args.many - 0) c.args.many 3 (omega arith) in
    let q : place_among c.args.many (suc c.args.a) (c.args.b ∷ c.args.c ∷ []) ≡ place_among c.args.many (c.args.a + 1) (c.args.b ∷ c.args.c ∷ []) =
    ap (λ (n : ℕ). place_among c.args.many n (c.args.b ∷ c.args.c ∷ [])) (let e : suc c.args.a ≡ c.args.a + 1 = omega arith in e) in
    omega arith
