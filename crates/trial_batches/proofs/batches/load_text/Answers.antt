use Rattle.trial_batches.proofs.batches.load_text.Goals as goal

pub returns : goal.returns
returns g c = (_, c.in-Ok.ensures.loaded)
