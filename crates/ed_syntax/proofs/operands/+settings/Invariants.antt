use Rattle.ed_syntax.proofs.operands.+settings.Given as goal

abbrev pub decreases-settings : goal.decreases-settings
decreases-settings l = l.most
