-- The printed stories are legal, and broken copies aren't.
use Rattle.std.proofs.Common.{◌≡◌, List, [], ◌∷◌, ◌++◌, true, false, refl, sym, ◌∙◌}
use Rattle.scan_story.specs.declared.setting.PolicyName.TheVariants.{Relevance, Elevator}
use Rattle.scan_story.specs.declared.entry.Entry.{Entry}
use Rattle.scan_story.specs.declared.setting.Setting.{Setting}
use Rattle.scan_story.specs.declared.entry.Entry.TheVariants.{Plan, Fill, Filled, Deliver}
use Rattle.scan_story.specs.Views.{past}
use Rattle.scan_story.specs.Legal.{Legal}
use Rattle.help_judge.proofs.Stories.{one_count, one_count_story, two_counts, fault_story, six_chunks, six_story, shorter, both, columns}
use Rattle.help_judge.specs.Tests.{is_legal}
use Rattle.help_judge.proofs.Legality.{legal_is, legal_true}

legal_by : (s : Setting) (es : List Entry) → is_legal s (past es) ≡ true → Legal s (past es)
legal_by s es e = legal_is s (past es) e

illegal_by : (s : Setting) (es : List Entry) → is_legal s (past es) ≡ false → Legal s (past es) → ⊥
illegal_by s es e k = let clash : true ≡ false = sym (legal_true s (past es) k) ∙ e in absurd cc

one_count_legal : Legal one_count (past one_count_story)
one_count_legal = legal_by one_count one_count_story refl

fault_legal : Legal two_counts (past fault_story)
fault_legal = legal_by two_counts fault_story refl

six_legal : Legal (six_chunks Relevance) (past six_story)
six_legal = legal_by (six_chunks Relevance) six_story refl

-- the longest waiter in place of the shorter query
longest_waiter : Legal (shorter Relevance) (past (both ++ (Plan 0 1 0 ∷ []))) → ⊥
longest_waiter = illegal_by (shorter Relevance) (both ++ (Plan 0 1 0 ∷ [])) refl

-- the third chunk in place of the first, under elevator
elevator_legal : Legal (shorter Elevator) (past (both ++ (Plan 0 1 0 ∷ [])))
elevator_legal = legal_by (shorter Elevator) (both ++ (Plan 0 1 0 ∷ [])) refl

elevator_illegal : Legal (shorter Elevator) (past (both ++ (Plan 0 2 2 ∷ []))) → ⊥
elevator_illegal = illegal_by (shorter Elevator) (both ++ (Plan 0 2 2 ∷ [])) refl

-- a column that is read by both before one that is read by one
columns_illegal : Legal columns (past (both ++ (Plan 0 1 0 ∷ []))) → ⊥
columns_illegal = illegal_by columns (both ++ (Plan 0 1 0 ∷ [])) refl

columns_legal : Legal columns (past (both ++ (Plan 0 1 1 ∷ Fill 0 0 2 ∷ Filled 0 0 2 ∷ Deliver 0 1 1 ∷ Plan 1 2 1 ∷ Fill 1 1 3 ∷ Filled 1 1 3 ∷ [])))
columns_legal = legal_by columns (both ++ (Plan 0 1 1 ∷ Fill 0 0 2 ∷ Filled 0 0 2 ∷ Deliver 0 1 1 ∷ Plan 1 2 1 ∷ Fill 1 1 3 ∷ Filled 1 1 3 ∷ [])) refl
