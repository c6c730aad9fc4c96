-- What is left of a run.
use Rattle.std.proofs.Common.{◌≡◌, ◌∙◌, ◌++◌, ℕ, List, [], ◌∷◌, Err, refl, sym, ap, arith, inl, inr}
use Rattle.std.proofs.lemmas.List.{append-nil}
use Rattle.std.proofs.lemmas.List.Elements.{All-from_recursion}
use Rattle.run_stops.specs.declared.stop.Stop.{Stop}
use Rattle.run_ends.specs.Deciding.{IsUntouched}
use Rattle.run_ends.specs.Devices.{DepotAt, OverSink}
use Rattle.run_ends.specs.Ending.{Prints}
use Rattle.run_ends.specs.Joined.{joined_story}
use Rattle.run_ends.specs.Policies.{PolicyAt}
use Rattle.run_ends.specs.declared.policy_run.PolicyRun.{PolicyRun}
use Rattle.run_ends.specs.Runs.{AreOfOne, joined_taken, work_under}
use Rattle.run_ends.proofs.Endings.{stops-late}

-- no run, where the work stops before
pub none-of-one : (p : PolicyAt) (s : Stop) (status : ℕ) (sink : OverSink) (runs : List PolicyRun) → Prints (Err s) status sink → runs ≡ [] → AreOfOne p status runs
none-of-one p s status sink runs (is, some) none =
    let (late, other) = stops-late s in
    rw none (record {
      few = omega arith;
      named = All-from_recursion _ [] tt;
      ran = λ worked. elim worked [
        | inl low ↦ absurd (omega (arith, low, is, late))
        | inr six ↦ absurd (other (sym is ∙ six))
      ];
      idle = λ _ _ _. refl;
    })

-- a list of one run, where the list was empty
pub story-of-one : (runs : List PolicyRun) (run : PolicyRun) → runs ≡ [] → joined_story (runs ++ run ∷ []) ≡ run.story.items
story-of-one runs run none = rw none (append-nil run.story.items)

pub taken-of-one : (runs : List PolicyRun) (run : PolicyRun) → runs ≡ [] → joined_taken (runs ++ run ∷ []) ≡ run.taken.items
taken-of-one runs run none = rw none (append-nil run.taken.items)

pub untouched-under : (p : PolicyAt) (old new : DepotAt) (runs : List PolicyRun) → new ≡ old → runs ≡ [] → IsUntouched (work_under p old new runs)
untouched-under p old new runs same none = record { depot = same; story = ap joined_story none; taken = ap joined_taken none }
