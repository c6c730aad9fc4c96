use Rattle.std.proofs.Common.{◌≡◌, ◌<◌, ℕ, length, get_or}
use Rattle.table_core.specs.Fitting.{dict_at}
use Rattle.inspect_notes.specs.declared.profile.ColumnProfile.{ColumnProfile}
use Rattle.inspect_notes.specs.Profiles.{IsProfileAt}
use Rattle.inspect_notes.specs.Written.{IsReadable}
use Rattle.inspect_notes.proofs.profiling.profile_of.Given as goal

abbrev pub invariant-loop-column : goal.invariant-loop-column
invariant-loop-column l = record {
  count : length l.profiles.items ≡ l.column;
  each : (x : ℕ) (d : ColumnProfile) → x < l.column → IsProfileAt l.loaded x (get_or l.profiles.items x d);
  readable : (x : ℕ) (d : ColumnProfile) → x < l.column → IsReadable (dict_at l.loaded.dicts.items x) (get_or l.profiles.items x d);
}
