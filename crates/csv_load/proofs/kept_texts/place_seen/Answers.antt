use Rattle.csv_load.proofs.Sounds.{lookup-sound}
use Rattle.csv_load.proofs.kept_texts.place_seen.Goals as goal

pub returns-in-Some : goal.returns-in-Some
returns-in-Some c texts sound = rw (← c.in-Some.ensures.value) at (lookup-sound texts c.args.field.now c.args.seen.now.entries sound)
