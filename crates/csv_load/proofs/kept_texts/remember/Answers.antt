use Rattle.std.proofs.Common.{◌∙◌, sym}
use Rattle.csv_load.proofs.Sounds.{put-sound}
use Rattle.csv_load.proofs.kept_texts.remember.Goals as goal

pub returns-in-Ok : goal.returns-in-Ok
returns-in-Ok c texts sound inside is =
    put-sound texts c.in_ok-key.key c.args.place c.in-Ok.field-0 c.args.seen.now.entries c.insert.new.self.entries c.in-Ok.ensures.entries sound inside (is ∙ sym c.in_ok-key.ensures.items)
