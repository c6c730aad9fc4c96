use Rattle.std.proofs.Common.{◌∙◌, ◌++◌, ap, append_assoc, refl}
use Rattle.std.specs.Prelude.{option_map}
use Rattle.std.specs.List.{flat_map}
use Rattle.std.proofs.lemmas.Slice.Zip.{AllZip-long}
use Rattle.query_gather.specs.Answer.{CanBeWritten}
use Rattle.run_output.specs.Answers.{printed}
use Rattle.run_stops.specs.Outcomes.{plans_of}
use Rattle.run_output.specs.Printed.{summary_of, text_in, trace_of}
use Rattle.run_output.proofs.Prints.{print_each}
use Rattle.run_output.proofs.output.output_text.Goals as goal

pub write_totals-requires-clause-answers : goal.write_totals-requires-clause-answers
write_totals-requires-clause-answers c = AllZip-long (CanBeWritten c.args.dicts.now) (plans_of c.args.outcomes.now) c.args.answers.now c.requires.answers

pub returns-clause-output : goal.returns-clause-output
returns-clause-output c = λ texts table come are fits.
    let columns = c.args.schema.now in
    let dicts = c.args.dicts.now in
    let all = printed columns dicts 1 c.args.outcomes.now c.args.answers.now in
    record {
      printed = all;
      each = print_each columns dicts table fits 1 texts c.args.outcomes.now c.args.answers.now come are;
      bytes =
          let text = flat_map text_in all in
          let summary = summary_of all c.args.summary in
          let trace = trace_of (option_map (λ s. s.now) c.args.trace) in
          c.in_ok-write_trace.ensures ∙ ap (λ out. out ++ trace) (c.in_ok-write_totals.ensures columns dicts ∙ ap (λ out. out ++ summary) c.in_ok-out.ensures) ∙ append_assoc text summary trace;
      status = refl;
    }
