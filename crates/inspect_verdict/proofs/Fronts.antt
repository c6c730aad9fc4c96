-- What is said of the front of a text, said of the whole.
use Rattle.std.proofs.Common.{◌≡◌, ◌∙◌, ◌∷◌, [], ◌++◌, ℕ, Bool, List, append_assoc, sym, ap, subst, drop}
use Rattle.scan_story.specs.declared.setting.PolicyName.{PolicyName}
use Rattle.story_text.specs.Text.{story_text}
use Rattle.run_inputs.specs.declared.inputs.Inputs.{Inputs}
use Rattle.inspect_referee.specs.declared.ruling.Reason.{Reason}
use Rattle.inspect_verdict.specs.Ends.{BeginsAtLine}
use Rattle.inspect_verdict.specs.Parts.{StandsBehind}
use Rattle.inspect_verdict.specs.Reading.{IsTrace}
use Rattle.inspect_verdict.specs.StatementParts.{parts_in}
use Rattle.inspect_verdict.specs.Verdict.{IsVerdict, RefusesEntry, RefusesUnfit, TellsNoRun, earlier_of}
use Rattle.inspect_verdict.specs.declared.part.Part.{Part}
use Rattle.inspect_verdict.specs.declared.unfit.Unfit.{Unfit}
use Rattle.inspect_verdict.specs.declared.verdict.Verdict.{Verdict}
use Rattle.inspect_verdict.specs.declared.verdict.Verdict.TheVariants as verdict

stands_front : (parts : List Part) (text rest more : List ℕ) → StandsBehind parts text rest → StandsBehind parts (text ++ more) (rest ++ more)
stands_front [] text rest more is = ap (λ (l : List ℕ). l ++ more) is
stands_front (p ∷ parts) text rest more is = (is.0, is.1 ++ more, is.2, ap (λ (l : List ℕ). l ++ more) is.3 ∙ append_assoc is.0 is.1 more, stands_front parts is.1 rest more is.4)

trace_front : (i : Inputs) (front trace more : List ℕ) → IsTrace i front trace → IsTrace i (front ++ more) (trace ++ more)
trace_front i front trace more is =
    let parts = parts_in i.loaded.table.columns i.loaded.dicts.items 1 i.outcomes.items is.answers in
    let Stands = λ (l : List ℕ). StandsBehind parts (front ++ more) l in
    record { answers = is.answers; plain = is.plain; line = is.line; summary = is.summary; behind = subst Stands (append_assoc is.line trace more) (stands_front parts front (is.line ++ trace) more is.behind) }

begins_front : (front end more : List ℕ) (line : ℕ) → BeginsAtLine front end line → BeginsAtLine (front ++ more) (end ++ more) line
begins_front front end more line is = record { before = is.before; joined = ap (λ (l : List ℕ). l ++ more) is.joined ∙ append_assoc is.before end more; counted = is.counted }

pub entry_front : (i : Inputs) (name : PolicyName) (scratch : Bool) (front more out : List ℕ) (line place : ℕ) (reason : Reason) → out ≡ front ++ more → TellsNoRun i name scratch out → RefusesEntry i name scratch front line place reason
    → RefusesEntry i name scratch out line place reason
entry_front i name scratch front more out line place reason same none is =
    let Trace = λ (o t : List ℕ). IsTrace i o t in
    let text = story_text is.story in
    let last = story_text (drop place is.story) in
    record {
      none = none;
      story = is.story;
      rest = is.rest ++ more;
      trace = subst (λ (o : List ℕ). IsTrace i o (text ++ (is.rest ++ more))) (sym same) (subst (IsTrace i (front ++ more)) (append_assoc text is.rest more) (trace_front i front (text ++ is.rest) more is.trace));
      refused = is.refused;
      at_line = subst (λ (o : List ℕ). BeginsAtLine o (last ++ (is.rest ++ more)) line) (sym same) (subst (λ (e : List ℕ). BeginsAtLine (front ++ more) e line) (append_assoc last is.rest more) (begins_front front (last ++ is.rest) more line is.at_line));
    }

pub unfit_front : (i : Inputs) (name : PolicyName) (scratch : Bool) (front more out : List ℕ) (line place : ℕ) (why : Unfit) → out ≡ front ++ more → TellsNoRun i name scratch out → RefusesUnfit i name scratch front line place why
    → RefusesUnfit i name scratch out line place why
unfit_front i name scratch front more out line place why same none is =
    let text = story_text is.story in
    let last = story_text (drop place is.story) in
    record {
      none = none;
      story = is.story;
      rest = is.rest ++ more;
      trace = subst (λ (o : List ℕ). IsTrace i o (text ++ (is.rest ++ more))) (sym same) (subst (IsTrace i (front ++ more)) (append_assoc text is.rest more) (trace_front i front (text ++ is.rest) more is.trace));
      stray = is.stray;
      at_line = subst (λ (o : List ℕ). BeginsAtLine o (last ++ (is.rest ++ more)) line) (sym same) (subst (λ (e : List ℕ). BeginsAtLine (front ++ more) e line) (append_assoc last is.rest more) (begins_front front (last ++ is.rest) more line is.at_line));
    }

-- so is the earlier of the verdicts on both
pub earlier_is : (i : Inputs) (name : PolicyName) (scratch : Bool) (front more out : List ℕ) (v f : Verdict) → out ≡ front ++ more → IsVerdict i name scratch out v → TellsNoRun i name scratch out → IsVerdict i name scratch front f
    → IsVerdict i name scratch out (earlier_of v f)
earlier_is i name scratch front more out v (verdict.Illegal line place reason) same is none first = entry_front i name scratch front more out line place reason same none first
earlier_is i name scratch front more out v (verdict.Unfit line place why) same is none first = unfit_front i name scratch front more out line place why same none first
earlier_is i name scratch front more out v (verdict.Legal entries reads apart counts) same is none first = is
earlier_is i name scratch front more out v (verdict.NotAnswered query line) same is none first = is
earlier_is i name scratch front more out v (verdict.NoSummary line) same is none first = is
earlier_is i name scratch front more out v (verdict.NoTrace line) same is none first = is
earlier_is i name scratch front more out v (verdict.NotStory line) same is none first = is
earlier_is i name scratch front more out v (verdict.NotWhole line) same is none first = is
earlier_is i name scratch front more out v (verdict.Differs line) same is none first = is
