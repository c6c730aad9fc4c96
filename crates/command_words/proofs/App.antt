-- The command as the code makes it, at the options that a call knows.
use Rattle.std.proofs.Common.{◌≡◌, true, refl, List, [], Option, Some, None, is_some}
use Rattle.std.specs.List.{fold}
use Rattle.clap.specs.Walk.{settled, with_default, walk, walk_from, nothing_held}
use Rattle.clap.specs.Simple.{built, entered, matches_of}
use Rattle.clap.specs.Faults.{level_fault, entered_fault, fault_of}
use Rattle.command_words.specs.Pairs.{Known, Text}
use Rattle.command_words.specs.Command.{app}
use Rattle.command_words.proofs.Rules.{rules, shape}
use Rattle.command_words.proofs.Whole.{end_of, faults}

module _ (name : Text) (known : List Known) (is_built : built (app name known) ≡ record { top = shape name known; subs = [] })
    (bare : (app name known).top.no_binary_name ≡ true) where
  pub fault_is : (words : List Text) → fault_of (app name known) words ≡ faults name known (walk_from nothing_held) words
  fault_is words = rw (is_built, bare) (go (walk (rules known) [] nothing_held words).stopped)
    where
      go : (stop : Option (Text × List Text)) → level_fault (shape name known) [] nothing_held words
          (is_some (entered (record { top = shape name known; subs = [] }) stop)) (entered_fault (record { top = shape name known; subs = [] }) stop)
          ≡ faults name known (walk_from nothing_held) words
      go None = refl
      go (Some x) = refl

  pub rows_are : (words : List Text) → matches_of (app name known) words ≡ fold with_default (settled (rules known) (end_of known (walk_from nothing_held) words)).rows (rules known)
  rows_are words = rw (is_built, bare) refl
