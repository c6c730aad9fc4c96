use Rattle.std.proofs.Common.{◌≡◌, ◌∙◌, ◌++◌, ℕ, List, refl, sym, ap}
use Rattle.std.proofs.lemmas.Result.{on_err_weaker, on_ok_weaker}
use Rattle.run_output.specs.Counts.{policy_line}
use Rattle.scan_story.specs.Views.{past}
use Rattle.table_core.specs.Writing.{GrewByPrefix}
use Rattle.run_ends.specs.Lines.{counted}
use Rattle.run_ends.proofs.Counting.{stops_counted}
use Rattle.run_ends.proofs.lines.write_line.Goals as goal

-- a prefix of a text is one of an equal text
of_same : {old new text other : List ℕ} → text ≡ other → GrewByPrefix old new text → GrewByPrefix old new other
of_same same was = record {
  part = was.part;
  rest = was.rest;
  grew = was.grew;
  begins = sym same ∙ was.begins;
}

pub returns : goal.returns
returns c =
    let counts = c.of-counts.result in
    let told = c.of-counts.ensures.counts in
    let stops = c.from.ensures ∙ c.len.ensures.len ∙ stops_counted (past c.args.story.now) counts.stopped c.requires.small c.len.ensures.members told.stopped in
    let line : policy_line c.name_text.result.now counts.reads counts.evictions counts.deliveries c.from.result ≡ counted c.args.name (past c.args.story.now) =
    rw (c.name_text.ensures, told.reads, told.evictions, told.deliveries, stops) refl in
    record {
      line = on_ok_weaker c.write_policy_line.result (λ is. is ∙ ap (λ text. c.args.out.now ++ text) line) c.write_policy_line.ensures.line;
      memory = on_err_weaker c.write_policy_line.result (of_same line) c.write_policy_line.ensures.memory;
    }
