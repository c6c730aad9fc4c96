-- A bit for each of 64 chunks: in which of them each truth is possible.
use Rattle.std.specs.Prelude.{◌≡◌, ◌<◌, ◌==◌, ℕ, Bool, false, List, length}
use Rattle.std.specs.Int.{bit_at}
use Rattle.filter_zones.specs.declared.masks.Masks.{Masks}
use Rattle.filter_zones.specs.declared.truth_set.TruthSet.{TruthSet}
use Rattle.filter_zones.specs.declared.zone.ChunkZones.{ChunkZones}
use Rattle.filter_zones.specs.Possible.{chunk_at}

-- the bit of chunk k is set
abbrev pub is_set : ℕ → ℕ → Bool
is_set word k = bit_at word k == 1

-- the truths that are possible in chunk k
abbrev pub truths_at : Masks → ℕ → TruthSet
truths_at m k = record {
  can_false = is_set m.can_false k;
  can_unknown = is_set m.can_unknown k;
  can_true = is_set m.can_true k;
}

abbrev pub no_truths : TruthSet
no_truths = record { can_false = false; can_unknown = false; can_true = false }

-- the truths of each of these chunks
abbrev pub AreTruths : (ChunkZones → TruthSet) → List ChunkZones → Masks → Type 0
AreTruths truths chunks m = (k : ℕ) → k < length chunks → truths_at m k ≡ truths (chunk_at chunks k)
