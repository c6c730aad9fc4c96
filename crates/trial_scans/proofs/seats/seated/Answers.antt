use Rattle.std.proofs.Common.{◌≡◌, ◌∙◌, ◌*◌, [], ℕ, vec_len, sym, ap, subst}
use Rattle.frame_pool.specs.Berths.{BerthView, IsBlank, IsOf}
use Rattle.baton.specs.Passes.{PassView, new_pass, new_passes}
use Rattle.scan_story.specs.Makers.{entries_by}
use Rattle.cscan.specs.Stations.{Waits}
use Rattle.trial_scans.proofs.Fresh.{all_popped, pop_new}
use Rattle.trial_scans.proofs.seats.seated.Goals as goal
use Rattle.trial_scans.proofs.seats.seated.Goals.{In-Some}

-- the pass is the last of the new ones
popped : (g : _) (c : In-Some g) → (c.pop.new.self.items ≡ new_passes c.args.baton.now g.S.Origin.origin [] (vec_len c.pop.new.self)) × (c.in-Some.pass ≡ new_pass c.args.baton.now (vec_len c.pop.new.self) g.S.Origin.origin [])
popped g c =
    pop_new c.args.baton.now g.S.Origin.origin c.args.passes.now.items c.pop.new.self.items c.in-Some.pass (vec_len c.args.passes.now) (vec_len c.pop.new.self) c.requires.passes c.in-Some.ensures.items (sym c.in-Some.ensures.cases)

pub returns-in-Ok-clause-seated : goal.returns-in-Ok-clause-seated
returns-in-Ok-clause-seated g c =
    let ok = c.in-Ok.ensures in
    let n : ℕ = c.in-Ok.station.number in
    let pass = ok.parts.1 ∙ (popped g (goal.at.returns-in-Ok-clause-seated g c).In-Some).1 in
    let number = ok.number ∙ c.len.ensures in
    let seen = ap (λ (p : PassView). p.seen) pass in
    let berth = (all_popped (λ (b : BerthView). IsOf c.args.pool.now b × IsBlank b) c.args.berths.now.items c.pop-2.new.self.items c.in-Some-pop.berth c.in-Some-pop.ensures.items c.requires.berths).1 in
    let waits : Waits c.args.baton.now g.S.Origin.origin n c.in-Ok.station.pass = (
      ap (λ (p : PassView). p.baton) pass,
      ap (λ (p : PassView). p.number) pass ∙ sym number,
      ap (λ (p : PassView). p.origin) pass,
      ap (λ (p : PassView). p.holding) pass,
      ap (entries_by n) seen ∙ sym (ap (λ (p : PassView). p.mine) pass),
    ) in
    let blank = subst (λ (b : BerthView). IsOf c.args.pool.now b × IsBlank b) (sym ok.parts.0) berth in
    ((waits, (blank.0, blank.1.0, blank.1.1), ok.buf ∙ ap (λ (w : ℕ). 8 * w) c.requires.words.0), number, seen)

pub returns-in-Ok-clause-passes : goal.returns-in-Ok-clause-passes
returns-in-Ok-clause-passes g c = (popped g (goal.at.returns-in-Ok-clause-passes g c).In-Some).0

pub returns-in-Ok-clause-berths : goal.returns-in-Ok-clause-berths
returns-in-Ok-clause-berths g c = (all_popped (λ (b : BerthView). IsOf c.args.pool.now b × IsBlank b) c.args.berths.now.items c.pop-2.new.self.items c.in-Some-pop.berth c.in-Some-pop.ensures.items c.requires.berths).0

pub returns-in-Err-clause-passes : goal.returns-in-Err-clause-passes
returns-in-Err-clause-passes g c = (popped g (goal.at.returns-in-Err-clause-passes g c).In-Some).0
