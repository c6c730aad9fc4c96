-- What came of a text.
use Rattle.std.proofs.Common.{◌≡◌, ◌∙◌, ℕ, Bool, true, false, List, Option, refl, subst, sym}
use Rattle.prepare_page.specs.Looks.{IsLookBy}
use Rattle.prepare_page.specs.declared.hint.Hint.{Hint}
use Rattle.prepare_page.specs.declared.look.Look.{Look}
use Rattle.prepare_rules.specs.declared.report.Report.{Report}
use Rattle.prepare_rules.specs.declared.rules.Rules.{Rules}
use Rattle.prepare_auto.specs.Advised.{Came, IsDone, IsWritten, ending_of, has_titles, hint_of, only_titles}
use Rattle.prepare_auto.specs.declared.ending.Ending.{Ending}
use Rattle.prepare_auto.specs.declared.given.Given.{Given}

module _ (asked : Rules) (given : Given) (text : List ℕ) (look : Look) (hint : Hint) (titled : Bool) where
  pub only-titles : (old : Option (List ℕ)) → hint ≡ hint_of given asked → IsLookBy hint text look → titled ≡ has_titles given look → titled ≡ true
      → IsWritten asked given text look (only_titles look) old old
  only-titles old known seen is titles = record {
    seen = subst (λ h. IsLookBy h text look) known seen;
    came = subst (λ b. Came b asked look text (only_titles look) old old) (sym (sym is ∙ titles)) (refl, refl);
  }

  pub a-table : (report : Report) (ending : Ending) (old new : Option (List ℕ)) → hint ≡ hint_of given asked → IsLookBy hint text look
      → titled ≡ has_titles given look → titled ≡ false → ending ≡ ending_of report → IsDone asked look text report old new → IsWritten asked given text look ending old new
  a-table report ending old new known seen is table ends done = record {
    seen = subst (λ h. IsLookBy h text look) known seen;
    came = subst (λ b. Came b asked look text ending old new) (sym (sym is ∙ table)) (report, ends, done);
  }
