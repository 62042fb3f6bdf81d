use Rattle.std.proofs.Common.{rules, ◌∙◌, length-set}
use Rattle.flow_board.proofs.WordStepLemmas.{looks_more, looked_more}
use Rattle.flow_board.proofs.words.Words.read_words.Goals as goal

pub word-requires-clause-live : goal.word-requires-clause-live
word-requires-clause-live c =
    looks_more c.args.base 14 c.loop-j.j c.loop-j.found c.args.seat.now.me.0 c.loop-j.seat.me.0 (search rules) c.requires.live c.loop-j.invariant.2

pub loop-j-preserved : goal.loop-j-preserved
loop-j-preserved c = (
  c.word.ensures.mine ∙ c.loop-j.invariant.0,
  c.word.ensures.held ∙ c.loop-j.invariant.1,
  looked_more c.args.base c.loop-j.j c.loop-j.found c.word.result c.args.seat.now.me.0 c.loop-j.seat.me.0 c.word.new.seat.me.0 (search rules) c.loop-j.invariant.2 c.word.ensures.told,
  length-set c.loop-j.found c.loop-j.j c.word.result ∙ c.loop-j.invariant.3,
)
