use Rattle.std.proofs.Common.{List, refl, sym, ap, subst}
use Rattle.std.specs.Prelude.{map}
use Rattle.chunk_interest.specs.Fresh.{as_need}
use Rattle.scan_story.specs.Views.{past}
use Rattle.scan_story.specs.declared.entry.Entry.{Entry}
use Rattle.inspect_referee.specs.Terms.{setting_of}
use Rattle.inspect_verdict.specs.Words.{FaultsFit, IsFaultAt, IsFitting}
use Rattle.inspect_verdict.specs.declared.wording.Fitting.{Fitting}
use Rattle.inspect_verdict.proofs.Ordering.{inside}
use Rattle.inspect_verdict.proofs.Straying.{fault_first, no_fault}
use Rattle.inspect_verdict.proofs.wording.fits_of.Goals as goal

pub in_order-requires : goal.in_order-requires
in_order-requires c = let s = setting_of c.args.terms.now in inside s c.args.story.now s.workers c.in_ok-turns.turns (c.in_ok-turns.ensures.order s (ap (map as_need) (sym c.deref.ensures.value)) refl)

pub returns-in-Some : goal.returns-in-Some
returns-in-Some c =
    let s = setting_of c.args.terms.now in
    let At = λ (es : List Entry). IsFaultAt c.args.shape.now c.args.scratch es c.in-Some.place c.in-Some.why in
    fault_first s c.args.shape.now c.args.scratch c.args.story.now c.in_ok-turns.turns c.in-Some.place c.in-Some.why (c.in_ok-turns.ensures.order s (ap (map as_need) (sym c.deref.ensures.value)) refl) (subst At c.in_order.ensures c.in-Some.ensures.some)

pub returns : goal.returns
returns c =
    let s = setting_of c.args.terms.now in
    let Faults = λ (es : List Entry). FaultsFit c.args.shape.now c.args.scratch (past es) in
    let Is = λ (f : Fitting). IsFitting s c.args.shape.now c.args.scratch c.args.story.now f in
    subst Is (sym c.fitting_by.ensures) (no_fault s c.args.shape.now c.args.scratch c.args.story.now c.in_ok-turns.turns (c.in_ok-turns.ensures.order s (ap (map as_need) (sym c.deref.ensures.value)) refl) (subst Faults c.in_order.ensures c.in_default.ensures.none))
