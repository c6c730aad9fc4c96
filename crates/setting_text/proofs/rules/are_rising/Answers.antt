use Rattle.std.proofs.Common.{◌≡◌, ◌↔◌, ℕ, List, sym, subst}
use Rattle.scan_story.specs.Setting.{IsRising}
use Rattle.setting_text.proofs.Keeping.{RisesFrom, rising_whole}
use Rattle.setting_text.proofs.rules.are_rising.Goals as goal

pub loop-n-init : goal.loop-n-init
loop-n-init c =
    let a = c.into_iter-n-iterator.ensures.into_iter_gives in
    let b = c.iter-n-items.ensures.rest in
    let same : c.into_iter-n-iterator.result ≡ c.args.numbers.now = cc in
    subst (λ (xs : List ℕ). RisesFrom 0 xs ↔ IsRising c.args.numbers.now) (sym same) (rising_whole c.args.numbers.now)
