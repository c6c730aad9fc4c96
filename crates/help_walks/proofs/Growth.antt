-- A legal story with one entry more.
use Rattle.std.proofs.Common.{◌∷◌, [], ◌++◌, List, sym, subst}
use Rattle.scan_story.specs.declared.entry.Entry.{Entry}
use Rattle.scan_story.specs.declared.setting.Setting.{Setting}
use Rattle.scan_story.specs.Views.{past}
use Rattle.scan_story.specs.MayFollow.{Allowed}
use Rattle.scan_story.specs.Legal.{Chosen, Legal}
use Rattle.scan_story.proofs.Prefixes.{past_next}

pub legal_next : (s : Setting) (es : List Entry) (e : Entry) → Legal s (past es) → Allowed s (past es) e × Chosen s (past es) e → Legal s (past (es ++ e ∷ []))
legal_next s es e legal may = subst (Legal s) (sym (past_next es e)) (may.0, may.1, legal)
