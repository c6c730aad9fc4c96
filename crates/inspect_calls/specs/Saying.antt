-- What is written of a reply.
use Rattle.std.specs.Prelude.{◌≡◌, ◌<◌, ◌⊎◌, ℕ, Bool, true, false, List, length, take, Option}
use Rattle.coop_outside.specs.Causes.{Rose}
use Rattle.coop_outside.specs.Taken.{grown}
use Rattle.inspect_calls.specs.declared.reply.Reply.{Reply}

-- what a sink took, and how many faults it counted, before and after
pub record Over : Type 0 where
  pub old : Option (List ℕ)
  pub new : Option (List ℕ)
  pub before : ℕ
  pub now : ℕ

abbrev pub over : Option (List ℕ) → Option (List ℕ) → ℕ → ℕ → Over
over old new before now = record { old = old; new = new; before = before; now = now }

-- the whole text was written, or, where the sink failed, a prefix of it
abbrev pub Takes : Over → List ℕ → Type 0
Takes o text = o.new ≡ grown o.old text

pub record TakesPrefix (o : Over) (text : List ℕ) : Type 0 where
  pub gone : ℕ
  pub part : gone < length text
  pub taken : o.new ≡ grown o.old (take gone text)
  pub failed : Rose o.before o.now

abbrev pub TakesNothing : Over → Type 0
TakesNothing o = o.new ≡ o.old

-- a text that tells of a fault went to standard error, any other to standard output, whose failing is status 6
abbrev pub IsSaidAs : Bool → List ℕ → ℕ → Over → Over → ℕ → Type 0
IsSaidAs true text wanted out err status = TakesNothing out × (Takes err text ⊎ TakesPrefix err text)
    × (status ≡ wanted)
IsSaidAs false text wanted out err status = TakesNothing err
    × ((Takes out text × (status ≡ wanted)) ⊎ (TakesPrefix out text × (status ≡ 6)))

-- WHAT IS WRITTEN of a reply to the two outputs, and the status
abbrev pub IsSaid : Reply → Over → Over → ℕ → Type 0
IsSaid reply out err status = IsSaidAs reply.is_fault reply.text.items reply.status out err status
