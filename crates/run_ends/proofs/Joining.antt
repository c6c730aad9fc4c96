-- The stories of runs, joined.
use Rattle.std.proofs.Common.{◌≡◌, ◌∙◌, ◌≤◌, ◌+◌, ◌++◌, ◌∷◌, [], ℕ, Bool, List, Option, None, Some, Result, Ok, Err, arith, refl, sym, ap, subst, inl, inr}
use Rattle.std.specs.Prelude.{is_some, max}
use Rattle.std.proofs.lemmas.List.{append-nil, reverse-append}
use Rattle.command_words.specs.Options.{Request}
use Rattle.run_stops.specs.declared.stop.Stop.{Stop}
use Rattle.coop_outside.specs.Pieces.{Stored}
use Rattle.piece_format.specs.Shape.{TableShape}
use Rattle.table_core.specs.declared.cell.Cell.{Cell}
use Rattle.table_pieces.specs.Putting.{ArePut}
use Rattle.scan_story.specs.declared.entry.Entry.{Entry}
use Rattle.scan_story.specs.declared.entry.Entry.TheVariants as entry
use Rattle.scan_story.specs.declared.entry.Why.TheVariants.{Damage, Fault}
use Rattle.scan_story.specs.Causes.{Licensed}
use Rattle.scan_story.specs.Spent.{reads}
use Rattle.scan_story.specs.Views.{History, past}
use Rattle.run_ends.specs.Devices.{DepotAt}
use Rattle.run_ends.specs.Running.{IsIdle, IsWorked, Text}
use Rattle.run_inputs.specs.declared.inputs.Inputs.{Inputs}
use Rattle.run_ends.specs.Work.{Work}
use Rattle.run_ends.specs.Compared.{AreRuns}
use Rattle.run_ends.specs.Joined.{joined_story}
use Rattle.run_ends.specs.Lines.{line_of, lines_of}
use Rattle.run_ends.specs.Policies.{PolicyAt}
use Rattle.run_ends.specs.PolicyRuns.{IsHindered, no_work, work_in}
use Rattle.run_ends.specs.declared.policy_run.PolicyRun.{PolicyRun}

-- ---- one history behind another

reads_joined : (h g : History) → reads (h ++ g) ≡ reads h + reads g
reads_joined [] g = omega arith
reads_joined (entry.Filled w f p ∷ h) g = omega (arith, reads_joined h g)
reads_joined (entry.Failed w q p why ∷ h) g = omega (arith, reads_joined h g)
reads_joined (entry.Register w q ∷ h) g = reads_joined h g
reads_joined (entry.Plan w q c ∷ h) g = reads_joined h g
reads_joined (entry.Evict w c ∷ h) g = reads_joined h g
reads_joined (entry.Fill w f p ∷ h) g = reads_joined h g
reads_joined (entry.Deliver w q c ∷ h) g = reads_joined h g
reads_joined (entry.Release w q c ∷ h) g = reads_joined h g
reads_joined (entry.Stop w q ∷ h) g = reads_joined h g
reads_joined (entry.End w q ∷ h) g = reads_joined h g

-- a later last count
licensed_on : (told : Bool) (from to end : ℕ) (h : History) → to ≤ end → Licensed told from to h → Licensed told from end h
licensed_on told from to end [] on l = omega (arith, on, l)
licensed_on told from to end (entry.Failed w q p (Fault before after) ∷ h) on l = (omega (arith, on, l.0), l.1, l.2)
licensed_on told from to end (entry.Failed w q p (Damage word) ∷ h) on l = (l.0, licensed_on told from to end h on l.1)
licensed_on told from to end (entry.Filled w f p ∷ h) on l = licensed_on told from to end h on l
licensed_on told from to end (entry.Register w q ∷ h) on l = licensed_on told from to end h on l
licensed_on told from to end (entry.Plan w q c ∷ h) on l = licensed_on told from to end h on l
licensed_on told from to end (entry.Evict w c ∷ h) on l = licensed_on told from to end h on l
licensed_on told from to end (entry.Fill w f p ∷ h) on l = licensed_on told from to end h on l
licensed_on told from to end (entry.Deliver w q c ∷ h) on l = licensed_on told from to end h on l
licensed_on told from to end (entry.Release w q c ∷ h) on l = licensed_on told from to end h on l
licensed_on told from to end (entry.Stop w q ∷ h) on l = licensed_on told from to end h on l
licensed_on told from to end (entry.End w q ∷ h) on l = licensed_on told from to end h on l

licensed_joined : (told : Bool) (from between to : ℕ) (h g : History) → Licensed told from between g → Licensed told between to h → Licensed told from to (h ++ g)
licensed_joined told from between to [] g first then_ = licensed_on told from between to g then_ first
licensed_joined told from between to (entry.Failed w q p (Fault before after) ∷ h) g first then_ = (then_.0, then_.1, licensed_joined told from between before h g first then_.2)
licensed_joined told from between to (entry.Failed w q p (Damage word) ∷ h) g first then_ = (then_.0, licensed_joined told from between to h g first then_.1)
licensed_joined told from between to (entry.Filled w f p ∷ h) g first then_ = licensed_joined told from between to h g first then_
licensed_joined told from between to (entry.Register w q ∷ h) g first then_ = licensed_joined told from between to h g first then_
licensed_joined told from between to (entry.Plan w q c ∷ h) g first then_ = licensed_joined told from between to h g first then_
licensed_joined told from between to (entry.Evict w c ∷ h) g first then_ = licensed_joined told from between to h g first then_
licensed_joined told from between to (entry.Fill w f p ∷ h) g first then_ = licensed_joined told from between to h g first then_
licensed_joined told from between to (entry.Deliver w q c ∷ h) g first then_ = licensed_joined told from between to h g first then_
licensed_joined told from between to (entry.Release w q c ∷ h) g first then_ = licensed_joined told from between to h g first then_
licensed_joined told from between to (entry.Stop w q ∷ h) g first then_ = licensed_joined told from between to h g first then_
licensed_joined told from between to (entry.End w q ∷ h) g first then_ = licensed_joined told from between to h g first then_

-- ---- from one depot to another

-- a history has a rise of the depot's count for each fault, and the gets rose by its reads
pub record Tells (old new : DepotAt) (h : History) : Type 0 where
  pub licensed : Licensed (is_some old.held) old.faults new.faults h
  pub gets : new.gets ≡ old.gets + reads h

-- a depot tells after the pieces are put exactly where it told before
still_told : (s : TableShape) (rows : List (List Cell)) (below from : ℕ) (old new : Stored) → ArePut s rows below from old new → is_some new ≡ is_some old
still_told s rows below from None None put = refl
still_told s rows below from None (Some new) put = absurd put
still_told s rows below from (Some old) None put = absurd put
still_told s rows below from (Some old) (Some new) put = refl

of_work : (i : Inputs) (w : Work) → IsWorked i w → Tells w.old w.new (past w.story)
of_work i w worked = record { licensed = worked.story.licensed; gets = worked.story.gets }

of_none : (w : Work) → IsIdle w → Tells w.old w.new []
of_none w idle = record { licensed = idle.later; gets = omega (arith, idle.gets) }

-- a run, and those behind it
of_both : (i : Inputs) (w : Work) (new : DepotAt) (rest : List Entry) → IsWorked i w → Tells w.new new (past rest) → Tells w.old new (past (w.story ++ rest))
of_both i w new rest worked later =
    let Told = λ (t : Bool). Licensed t w.new.faults new.faults (past rest) in
    let told = still_told _ _ _ _ w.old.held w.new.held worked.stored in
    subst (Tells w.old new) (sym (reverse-append w.story rest)) (record {
      licensed = licensed_joined (is_some w.old.held) w.old.faults w.new.faults new.faults (past rest) (past w.story) worked.story.licensed (subst Told told later.licensed);
      gets = omega (arith, worked.story.gets, later.gets, reads_joined (past rest) (past w.story));
    })

-- ---- the runs

module _ (r : Request) (table batch : Option (List ℕ)) where
  hindered_tells : (p : PolicyAt) (old new : DepotAt) (s : Stop) (i : Inputs) → IsHindered i p old new s → Tells old new []
  hindered_tells p old new s i (inl memory) = of_none (no_work p old new) memory.1
  hindered_tells p old new s i (inr not) = of_none (no_work p old new) not.idle

  -- each fault of the runs' stories, joined in order, has its own rise of the depot's count, and the gets rose by all their reads
  pub runs_tell : (ps : List PolicyAt) (old new : DepotAt) (runs : List PolicyRun) (d : Result Text Stop) → AreRuns r table batch ps old new runs d → Tells old new (past (joined_story runs))
  runs_tell [] old new [] (Ok o) h = subst (λ (at : DepotAt). Tells old at []) (sym h.0) (record { licensed = omega arith; gets = omega arith })
  runs_tell [] old new [] (Err s) h = absurd h
  runs_tell [] old new (run ∷ runs) d h = absurd h
  runs_tell (p ∷ ps) old new [] (Ok o) h = absurd h
  runs_tell (p ∷ ps) old new [] (Err s) h = hindered_tells p old new s h.given h.comes
  runs_tell (p ∷ ps) old new (run ∷ runs) d (inl (between, status, rest, over, later, is)) =
      of_both over.given (work_in p old between run) new (joined_story runs) over.comes.is_run.are.worked (runs_tell ps between new runs rest later)
  runs_tell (p ∷ ps) old new (run ∷ runs) d (inr (none, is, over)) =
      let alone : run.story.items ++ joined_story runs ≡ run.story.items = ap (λ rs. run.story.items ++ joined_story rs) none ∙ append-nil run.story.items in
      subst (λ (story : List Entry). Tells old new (past story)) (sym alone) (of_work over.given (work_in p old new run) over.comes.worked)

  -- what is written is the lines of the runs
  pub runs_write : (ps : List PolicyAt) (old new : DepotAt) (runs : List PolicyRun) (o : Text) → AreRuns r table batch ps old new runs (Ok o) → o.1 ≡ lines_of runs
  runs_write [] old new [] o h = ap (λ (t : Text). t.1) h.1
  runs_write [] old new (run ∷ runs) o h = absurd h
  runs_write (p ∷ ps) old new [] o h = absurd h
  runs_write (p ∷ ps) old new (run ∷ runs) o (inl (between, status, Ok rest, over, later, is)) =
      let same : o ≡ (max status rest.0, line_of run ++ rest.1) = cc is in
      ap (λ (t : Text). t.1) same ∙ ap (λ text. line_of run ++ text) (runs_write ps between new runs rest later)
  runs_write (p ∷ ps) old new (run ∷ runs) o (inl (between, status, Err s, over, later, is)) = absurd (cc is)
  runs_write (p ∷ ps) old new (run ∷ runs) o (inr (none, is, over)) = absurd (cc is)
