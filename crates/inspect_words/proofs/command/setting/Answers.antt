use Rattle.std.proofs.Common.{codes, refl, true}
use Rattle.std.proofs.lemmas.Result.{IfOk-weaker}
use Rattle.clap.specs.Simple.{Shape, new_app, on_top}
use Rattle.inspect_words.specs.Command.{IsCommand}
use Rattle.inspect_words.proofs.Growing.{about, version}
use Rattle.inspect_words.proofs.command.setting.Goals as goal

pub returns : goal.returns
returns c =
    let begun : IsCommand (on_top (λ (s : Shape). record s { has_version = true }) (new_app (codes "setting"))) c.about-start.result =
    about _ _ _ _ c.about-start.ensures (version _ _ _ _ c.version.ensures (record { app = c.new.ensures.app; local = c.new.ensures.local })) in
    let cut = c.in_ok-cut.ensures _ (c.in_ok-work.ensures _ begun) in
    IfOk-weaker c.with_table.result _ _ (λ _ is. (_, is, refl)) (c.with_table.ensures _ (c.in_ok-side.ensures _ cut))
