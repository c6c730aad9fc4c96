use Rattle.std.proofs.Common.{Err, ap, refl}
use Rattle.run_inputs.specs.Asked.{asked_of}
use Rattle.command_words.specs.declared.call.Call.TheVariants.{Run}
use Rattle.run_ends.specs.Answering.{story_in, taken_in}
use Rattle.run_ends.proofs.Words.{refused-words}
use Rattle.coop_run.proofs.settle.settle_words.Goals as goal

pub returns-in-Err : goal.returns-in-Err
returns-in-Err g c = record {
  decides = (
    Err c.in-Err.stop,
    refused-words (asked_of Run c.args.words.now) _ _ c.in-Err.stop c.in-Err.ensures.errors (λ usage. c.in-Err.ensures.usage (cc usage))
        (record { depot = rw c.refuse.ensures.depot refl; story = ap story_in c.refuse.ensures.idle; taken = ap taken_in c.refuse.ensures.idle }),
    c.refuse.ensures.prints,
  );
}
