use Rattle.std.proofs.Common.{◌≡◌, List, rules, sym, subst}
use Rattle.piece_format.specs.Shape.{TableShape}
use Rattle.scan_story.specs.declared.entry.Entry.{Entry}
use Rattle.scan_story.specs.declared.setting.Setting.{Setting}
use Rattle.inspect_referee.specs.Terms.{setting_of}
use Rattle.run_ends.specs.Running.{shape_in}
use Rattle.inspect_verdict.specs.Judged.{IsJudged, judged_by}
use Rattle.inspect_verdict.specs.Told.{run_setting}
use Rattle.inspect_verdict.specs.declared.judging.Judged.{Judged}
use Rattle.inspect_verdict.specs.Words.{IsFitting}
use Rattle.inspect_verdict.proofs.Sentence.{front_stands, judged_is}
use Rattle.inspect_verdict.proofs.judging.judge_run.Goals as goal

pub legal_front-requires : goal.legal_front-requires
legal_front-requires c = front_stands (setting_of c.in_ok-terms.terms) c.args.story.now c.in_ok-ruling.ruling c.in_ok-ruling.ensures.first

pub returns : goal.returns
returns c =
    let i = c.args.inputs.now in
    let terms = c.in_ok-terms.terms in
    let made = c.in_ok-terms.ensures in
    let same : setting_of terms ≡ run_setting i c.args.policy = search rules in
    let shape = c.in_ok-shape.shape in
    let shaped : shape ≡ shape_in i = search rules in
    let ruled = c.in_ok-ruling.ensures in
    let apart = c.reads_apart.result in
    let fits = c.in_ok-fits.fits in
    let ruling = c.in_ok-ruling.ruling in
    let Fit = λ (es : List Entry). IsFitting (setting_of terms) shape c.args.scratch es fits in
    let fit = subst Fit c.legal_front.ensures c.in_ok-fits.ensures in
    let Is = λ (s : Setting). IsJudged s shape c.args.scratch c.args.story.now (judged_by ruling fits apart) in
    let is = subst Is same (judged_is (setting_of terms) shape c.args.scratch c.args.story.now ruling ruled.ruling ruled.first ruled.calm made.may made.room fits fit apart c.reads_apart.ensures) in
    let Of = λ (z : TableShape). IsJudged (run_setting i c.args.policy) z c.args.scratch c.args.story.now (judged_by ruling fits apart) in
    let By = λ (j : Judged). IsJudged (run_setting i c.args.policy) (shape_in i) c.args.scratch c.args.story.now j in
    subst By (sym c.judged_by.ensures) (subst Of shaped is)
