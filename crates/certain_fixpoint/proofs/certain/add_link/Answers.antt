use Rattle.certain_fixpoint.specs.Certain.{round_read}
use Rattle.certain_fixpoint.proofs.PassLemmas.{linked}
use Rattle.certain_fixpoint.proofs.certain.add_link.Goals as goal

pub returns : goal.returns
returns c =
    linked (round_read c.args.reading.now) c.args.link c.args.set c.add-more.result c.add.result c.valid.ensures
    (rw c.both.ensures.up at c.add-more.ensures) (rw c.both.ensures.down at c.add.ensures)
