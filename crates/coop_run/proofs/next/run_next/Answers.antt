use Rattle.std.proofs.Common.{◌≡◌, ◌∙◌, ◌++◌, ◌∷◌, [], refl, ap, inl, inr, arith}
use Rattle.run_stops.specs.declared.stop.Stop.TheVariants as stop
use Rattle.scan_story.specs.Views.{past}
use Rattle.run_ends.specs.Lines.{counted, line_of}
use Rattle.run_ends.proofs.Small.{stopped_small}
use Rattle.coop_run.proofs.next.run_next.Goals as goal

pub returns-in-Err-clause-ends : goal.returns-in-Err-clause-ends
returns-in-Err-clause-ends g c = rw (c.stopped.ensures.ending, c.stopped.ensures.runs, c.stopped.ensures.depot)
    (inl (stop.Memory, refl, c.reserve.ensures.items, inl (refl, record { story = refl; taken = refl; gets = refl; later = omega arith })))

pub write_line-written-requires : goal.write_line-written-requires
write_line-written-requires g c =
    let made = rw c.in-Made.is at c.run_single-ending.ensures.comes in
    let worked = made.is_run.are.worked in
    record { small = rw c.deref.ensures.value (stopped_small c.args.inputs c.requires.can _ _ (past c.in-Made.run'.story.items) worked.story.whole.legal) }

pub returns-in-Ok-written-clause-next : goal.returns-in-Ok-written-clause-next
returns-in-Ok-written-clause-next g c =
    let run = c.in-Made.run' in
    let made = rw c.in-Made.is at c.run_single-ending.ensures.comes in
    let line : c.write_line-written.new.out ≡ c.args.made.text ++ line_of run = c.in-Ok-written.ensures.line ∙ ap (λ story. c.args.made.text ++ counted run.name (past story)) c.deref.ensures.value in
    record {
      run = run;
      status = c.in-Made.ended;
      made = made;
      runs_are = c.push_reserved.ensures.items ∙ ap (λ runs. runs ++ run ∷ []) c.reserve.ensures.items;
      output_is = rw (c.max.ensures, line) refl;
    }

pub returns-in-Err-written-clause-ends : goal.returns-in-Err-written-clause-ends
returns-in-Err-written-clause-ends g c =
    let run = c.in-Made.run' in
    let made = rw c.in-Made.is at c.run_single-ending.ensures.comes in
    rw (c.stopped-in-Err-written.ensures.ending, c.stopped-in-Err-written.ensures.runs, c.stopped-in-Err-written.ensures.depot)
    (inr (run, refl, c.push_reserved.ensures.items ∙ ap (λ runs. runs ++ run ∷ []) c.reserve.ensures.items, record { name = made.name; worked = made.is_run.are.worked }))
