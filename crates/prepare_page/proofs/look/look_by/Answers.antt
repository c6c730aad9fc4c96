use Rattle.std.proofs.Common.{◌∙◌, ap, drop, refl, subst}
use Rattle.prepare_look.specs.Rows.{rows_of}
use Rattle.prepare_look.specs.Surveys.{IsSurvey}
use Rattle.prepare_page.specs.Delimiters.{marked}
use Rattle.prepare_page.specs.Looks.{looked_at}
use Rattle.prepare_page.proofs.look.look_by.Goals as goal

pub returns : goal.returns
returns c =
    record {
      lines = c.lines_of.ensures;
      unclosed = rw c.without_mark.ensures at c.open_quote.ensures;
      quote = refl;
      guess = c.in_ok-guess.ensures;
      titles = c.in_ok-titles.ensures.above;
      first = c.in_ok-first.ensures;
      names = (c.in_ok-told.told, c.in_ok-told.ensures, c.are_named-has_names.ensures);
      below = c.below-below.ensures;
      survey = subst (λ k. IsSurvey k (drop c.below-below.result (rows_of (marked c.in_ok-guess.guess.delimiter c.args.hint.quote) c.args.text.now)) c.in_ok-survey.survey)
          (c.looked_at.ensures ∙ ap looked_at c.len.ensures) c.in_ok-survey.ensures;
    }
