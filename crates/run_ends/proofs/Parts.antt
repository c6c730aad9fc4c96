-- Where no query is lost, the answers are those of any number of parts.
use Rattle.std.proofs.Common.{◌≡◌, ◌∙◌, ◌<◌, ◌≤◌, ◌+◌, ◌++◌, ℕ, List, [], ◌∷◌, length, Option, Some, None, refl, sym, ap, subst, arith, inl, inr, ◌⊎◌, replicate}
use Rattle.std.specs.Prelude.{IsPermutation}
use Rattle.std.specs.List.{AllByRecursion, flat_map}
use Rattle.std.proofs.lemmas.Bool.{cases_eq}
use Rattle.std.proofs.lemmas.List.{append-nil}
use Rattle.std.proofs.lemmas.List.Elements.{All-from_recursion, recursion_from_All}
use Rattle.command_words.specs.Options.{Request}
use Rattle.filter_zones.specs.Possible.{needed}
use Rattle.filter_zones.specs.declared.zone.ChunkZones.{ChunkZones}
use Rattle.scan_story.specs.declared.cause.Cause.{Cause}
use Rattle.scan_story.specs.declared.entry.Entry.{Entry}
use Rattle.scan_story.specs.Views.{History, past}
use Rattle.table_core.specs.Value.{Value}
use Rattle.table_core.specs.declared.schema.Column.{Column}
use Rattle.run_inputs.specs.Statements.{statements_in}
use Rattle.batch_plan.specs.declared.task.Task.{Task}
use Rattle.batch_ends.specs.Lost.{cause_of_query}
use Rattle.run_output.specs.Output.{PrintEach}
use Rattle.run_stops.specs.declared.outcome.Outcome.{Outcome}
use Rattle.run_stops.specs.declared.outcome.Outcome.TheVariants as outcome
use Rattle.run_output.specs.Printed.{Printed, summary_of, text_in, trace_of}
use Rattle.run_ends.specs.Losses.{AreLostBy, IsLossOf, OnlyForMemory, SomeForMemory}
use Rattle.run_ends.specs.Running.{TookEachOnce, delivered_to, queries_in, zones_in}
use Rattle.run_ends.specs.Tasks as tasks
use Rattle.run_ends.specs.Work.{Work}
use Rattle.run_ends.proofs.Losing.{tasks_within}
use Rattle.run_ends.specs.Ending.{Headline, IsForAnyParts, values_of}

-- for some query memory ran out, or none is lost
some-or-none : (losses : List (Option Cause)) → AllByRecursion OnlyForMemory losses → SomeForMemory losses ⊎ (losses ≡ replicate (length losses) None)
some-or-none [] only = inr refl
some-or-none (None ∷ losses) only = elim (some-or-none losses only.1) [
  | inl some ↦ inl (inr some)
  | inr none ↦ inr (ap (λ (ls : List (Option Cause)). None ∷ ls) none)
]
some-or-none (Some why ∷ losses) only = inl (inl (only.0 (λ e. cc e)))

-- there is a loss for each statement
print-long : (columns : List Column) (table : List (List Value)) (n : ℕ) (texts : List (List ℕ)) (losses : List (Option Cause)) (printed : List Printed) → PrintEach columns table n texts losses printed → length losses ≡ length texts
print-long columns table n [] [] [] h = refl
print-long columns table n [] [] (p ∷ printed) h = absurd h
print-long columns table n [] (l ∷ losses) printed h = absurd h
print-long columns table n (text ∷ texts) [] printed h = absurd h
print-long columns table n (text ∷ texts) (l ∷ losses) [] h = absurd h
print-long columns table n (text ∷ texts) (l ∷ losses) (p ∷ printed) h = let e = print-long columns table (n + 1) texts losses printed h.1 in omega (arith, e)

-- a statement that isn't lost has no cause
no-cause : (h : History) (parts n : ℕ) (o : Outcome) (lost : Option Cause) → lost ≡ None → IsLossOf h parts n o lost → cause_of_query h parts n ≡ None
no-cause h parts n (outcome.Planned p) lost none (inl same) = sym same ∙ none
no-cause h parts n (outcome.Planned p) lost none (inr (other, memory)) = cc (none, memory)
no-cause h parts n (outcome.Refused why) lost none (kept, other) = other

no-causes : (h : History) (parts m : ℕ) (os : List Outcome) (losses : List (Option Cause)) → losses ≡ replicate (length losses) None → AreLostBy h parts m os losses → (q : ℕ) → m ≤ q → q < m + length os
    → cause_of_query h parts q ≡ None
no-causes h parts m [] losses none lost q low high = absurd (omega (arith, low, high))
no-causes h parts m (o ∷ os) [] none lost q low high = absurd lost
no-causes h parts m (o ∷ os) (l ∷ losses) none lost q low high = elim (cases_eq m q) [
  | inl here ↦ subst (λ n. cause_of_query h parts n ≡ None) here (no-cause h parts m o l (cc none) lost.0)
  | inr other ↦ no-causes h parts (m + 1) os losses (cc none) lost.1 q (omega (arith, low, other)) (omega (arith, high))
]

each-once : (zones : List ChunkZones) (parts : ℕ) (story : List Entry) (ts : List Task) → AllByRecursion (TookEachOnce zones parts story) ts → AllByRecursion (λ (t : Task). cause_of_query (past story) parts t.query ≡ None) ts
    → AllByRecursion (λ (t : Task). IsPermutation (needed t.plan.cond zones) (delivered_to story parts t.query parts)) ts
each-once zones parts story [] once none = tt
each-once zones parts story (t ∷ ts) once none = (once.0 none.0, each-once zones parts story ts once.1 none.1)

within-none : (h : History) (parts count : ℕ) → ((q : ℕ) → 1 ≤ q → q < 1 + count → cause_of_query h parts q ≡ None) → (ts : List Task) → AllByRecursion (λ (t : Task). (1 ≤ t.query) × (t.query < 1 + count)) ts
    → AllByRecursion (λ (t : Task). cause_of_query h parts t.query ≡ None) ts
within-none h parts count none [] within = tt
within-none h parts count none (t ∷ ts) within = (none t.query within.0.0 within.0.1, within-none h parts count none ts within.1)

module _ (r : Request) (files : List ℕ → Option (List ℕ)) (w : Work) (ends : ℕ) (text : List ℕ) (h : Headline r files w ends text) where
  abbrev statements : List (List ℕ)
  statements = statements_in h.batch

  module _ (none : h.losses ≡ replicate (length h.losses) None) where
    long : length h.losses ≡ length statements
    long = print-long (values_of h.table).columns (values_of h.table).rows 1 statements h.losses h.output.printed h.output.each

    for-any : IsForAnyParts h.table h.batch h.given w ends text
    for-any =
        let printed = h.output.printed in
        let alone = flat_map text_in printed in
        let totals = tasks.totals_of r.summary w.story (length (values_of h.table).rows) in
        let trace = tasks.trace_of r.trace w.story in
        let zones = zones_in h.given in
        let queries = queries_in h.given in
        let causes : (q : ℕ) → 1 ≤ q → q < 1 + length h.given.outcomes.items → cause_of_query (past w.story) h.given.options.parts q ≡ None = λ q low high.
        rw h.is_given.parts (no-causes (past w.story) r.parts 1 h.given.outcomes.items h.losses none h.lost q low high) in
        record {
          alone = alone;
          rest = summary_of printed totals ++ trace_of trace;
          begins = h.output.bytes;
          answers = record {
            printed = printed;
            each = subst (λ (ls : List (Option Cause)). PrintEach (values_of h.table).columns (values_of h.table).rows 1 statements ls printed) (none ∙ ap (λ n. replicate n None) long) h.output.each;
            bytes = sym (append-nil alone);
            status = h.output.status;
          };
          once = All-from_recursion (λ (t : Task). IsPermutation (needed t.plan.cond zones) (delivered_to w.story h.given.options.parts t.query h.given.options.parts)) queries
              (each-once zones h.given.options.parts w.story queries (recursion_from_All (TookEachOnce zones h.given.options.parts w.story) queries h.worked.once)
              (within-none (past w.story) h.given.options.parts (length h.given.outcomes.items) causes queries (tasks_within 1 h.given.outcomes.items)));
        }

  pub for-any-parts : AllByRecursion OnlyForMemory h.losses → SomeForMemory h.losses ⊎ IsForAnyParts h.table h.batch h.given w ends text
  for-any-parts only = elim (some-or-none h.losses only) [
    | inl some ↦ inl some
    | inr none ↦ inr (for-any none)
  ]
