use Rattle.writer_nodes.proofs.+nested.Given as goal

abbrev pub decreases-nested : goal.decreases-nested
decreases-nested l = l.h
