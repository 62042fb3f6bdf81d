use Rattle.std.proofs.Common.{rules}
use Rattle.flow_board.specs.RowWords.{words_of}
use Rattle.flow_board.proofs.RuleLemmas.{settles_view, settled_is}
use Rattle.flow_board.proofs.words.Words.settle.Goals as goal

pub load-requires : goal.load-requires
load-requires g c = (c.requires.mine, c.requires.some, settles_view _ _ c.args.seat.now.me.0 c.args.start.now.items (words_of g.K.Roof.rows) c.args.seat.now.me.1 c.requires.alone (search rules) c.requires.under (λ i h. search (rules, c.type_inv.start)))

pub returns : goal.returns
returns g c = record {
  mine = c.load.ensures.0;
  held = c.load.ensures.2.1;
  view = settled_is c.args.seat.now.me.0 c.load.new.seat.me.0 c.args.start.now.items (words_of g.K.Roof.rows) c.requires.alone c.load.ensures.2.0;
}
