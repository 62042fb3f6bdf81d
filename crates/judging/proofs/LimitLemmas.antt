-- Where neither side is refused for its cases, each has few.
use Rattle.std.proofs.Common.{ℕ, ◌≡◌, ◌≤◌, ◌<◌, Bool, true, false, cond, Option, Some, None, nat_lt, arith, sym, ◌∙◌, refl}
use Rattle.std.proofs.lemmas.Bool.Decides.{nat_tests}
use Rattle.net_types.specs.declared.refusals.BundleSide.TheVariants.{Base, New}
use Rattle.certify.specs.Counts.{total_of}
use Rattle.judging.specs.declared.inputs.Inputs.{Inputs}
use Rattle.judging.specs.declared.refusals.JudgeRefusal.{JudgeRefusal}
use Rattle.judging.specs.declared.refusals.JudgeRefusal.TheVariants.{CasesLimit}
use Rattle.judging.specs.Inputs.{limit_of, or_else, too_many}

few : (n : ℕ) (refusal : JudgeRefusal) → cond (nat_lt 50000 n) (Some refusal) None ≡ None → n ≤ 50000
few n refusal none = go (nat_lt 50000 n) refl none where
  go : (b : Bool) → nat_lt 50000 n ≡ b → cond b (Some refusal) None ≡ None → n ≤ 50000
  go true e f = absurd (let g : Some refusal ≡ None = f in cc)
  go false e f = grind (arith, nat_tests)

first_none : (first later : Option JudgeRefusal) → or_else first later ≡ None → first ≡ None
first_none (Some refusal) later e = absurd (let g : Some refusal ≡ None = e in cc)
first_none None later e = refl

later_none : (first later : Option JudgeRefusal) → or_else first later ≡ None → later ≡ None
later_none (Some refusal) later e = absurd (let g : Some refusal ≡ None = e in cc)
later_none None later e = e

pub few_before : (inputs : Inputs) → limit_of inputs ≡ None → total_of inputs.base inputs.book ≤ 50000
unfolding limit_of
few_before inputs none =
    few (total_of inputs.base inputs.book) (CasesLimit Base (total_of inputs.base inputs.book))
    (first_none (too_many Base inputs.base inputs.book) (too_many New inputs.new inputs.book) none)

pub few_after : (inputs : Inputs) → limit_of inputs ≡ None → total_of inputs.new inputs.book ≤ 50000
unfolding limit_of
few_after inputs none =
    few (total_of inputs.new inputs.book) (CasesLimit New (total_of inputs.new inputs.book))
    (later_none (too_many Base inputs.base inputs.book) (too_many New inputs.new inputs.book) none)
