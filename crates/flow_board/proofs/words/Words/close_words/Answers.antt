use Rattle.std.proofs.Common.{◌≡◌, length, arith, ◌∙◌, subst, rules}
use Rattle.std.specs.Slots.{slots_items}
use Rattle.flow_board.specs.Rule.{Closes}
use Rattle.flow_board.proofs.RuleLemmas.{closes, same_words}
use Rattle.flow_board.proofs.words.Words.close_words.Goals as goal

pub free-requires : goal.free-requires
free-requires c = λ k h. let e = c.close_with-closed.ensures.counts.1 in let z = c.args.self.no_slots in absurd (omega arith)

pub free-requires-2 : goal.free-requires-2
free-requires-2 c = λ k h. let e = c.close_with-closed.ensures.counts.1 in let z = c.args.self.no_slots in absurd (omega arith)

pub returns-clause-closed : goal.returns-clause-closed
returns-clause-closed c =
    let last = c.close_with-closed.ensures.values.2 in
    let kept = closes last.0.words last.0.views last.0.homes _ c.args.seat.me.0 last.1.0 last.1.1 in
    let long : length (slots_items c.close_with-closed.result.words) ≡ length c.loop-i.words.items = search rules in
    let same = same_words (slots_items c.close_with-closed.result.words) c.loop-i.words.items long (λ j h. c.loop-i.invariant.1 j (search rules)) in
    subst (Closes c.args.seat.me.0) (last.2 ∙ same) kept
