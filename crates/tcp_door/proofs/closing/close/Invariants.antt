use Rattle.tcp_door.proofs.closing.close.Given as goal

abbrev pub decreases-loop-left : goal.decreases-loop-left
decreases-loop-left g l = l.left
