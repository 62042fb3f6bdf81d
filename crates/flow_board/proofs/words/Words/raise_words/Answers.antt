use Rattle.std.proofs.Common.{rules, refl, ◌∙◌, ◌+◌, length-set}
use Rattle.flow_board.proofs.WordStepLemmas.{fits_more, told_more}
use Rattle.flow_board.proofs.words.Words.raise_words.Goals as goal

pub raise_word-requires-clause-fits : goal.raise_word-requires-clause-fits
raise_word-requires-clause-fits c =
    fits_more c.args.base c.args.row.now c.loop-j.old c.loop-j.j (c.args.base + c.loop-j.j) c.args.seat.now.me.0 c.loop-j.seat.me.0 refl (search rules) c.requires.fits c.loop-j.invariant.2

pub loop-j-preserved : goal.loop-j-preserved
loop-j-preserved c = (
  c.raise_word.ensures.mine ∙ c.loop-j.invariant.0,
  c.raise_word.ensures.held ∙ c.loop-j.invariant.1,
  told_more c.args.base c.loop-j.j c.args.row.now c.loop-j.old c.raise_word.result c.args.seat.now.me.0 c.loop-j.seat.me.0 c.raise_word.new.seat.me.0 (search rules) (search rules) c.loop-j.invariant.2 c.raise_word.ensures.told,
  length-set c.loop-j.old c.loop-j.j c.raise_word.result ∙ c.loop-j.invariant.3,
)
