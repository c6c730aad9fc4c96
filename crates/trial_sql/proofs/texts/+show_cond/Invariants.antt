use Rattle.trial_sql.proofs.texts.+show_cond.Given as goal

abbrev pub decreases-show_cond : goal.decreases-show_cond
decreases-show_cond l = l.depth
